-- What a search tree means, and that no key stands in it twice. Assumes nothing.
use Rattle.std.specs.Prelude.{◌≡◌, ℕ, suc, List, length, Some}
use Rattle.std.specs.declared.cmp.Ordering.{Ordering}
use Rattle.std.proofs.Common.{sym, ◌∙◌, arith}
use Rattle.std.specs.List.{slice_get}
use Rattle.dictionary.specs.Meaning.{Meaning, meaning, most}
use Rattle.search_tree.specs.Tree.{keys, InOrder}
use Rattle.search_tree.specs.declared.row.TreeRow.{TreeRow}
use Rattle.search_tree.specs.declared.tree.SearchTree.{SearchTree}

-- a tree's type names what its keys' bound says of them
abbrev pub meaning_of : {K : Type 0} {key : _} → SearchTree K key → Meaning K
meaning_of t = meaning (keys t.rows.now t.used) (most (length t.rows.now)) t.asks

-- a walk ends at one row, so no key stands at two places
pub one_place : {K : Type 0} (order : K → K → Ordering) (rows : List (TreeRow K)) (n : ℕ) → InOrder order n rows → (i j : ℕ) (k : K) → slice_get (keys rows n) i ≡ Some k → slice_get (keys rows n) j ≡ Some k → i ≡ j
one_place order rows n ordered i j k e e' = let same : suc i ≡ suc j = sym (ordered i k e) ∙ ordered j k e' in omega arith
