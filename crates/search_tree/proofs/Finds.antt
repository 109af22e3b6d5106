-- What the walk through a search tree says of a key's number. Assumes nothing.
use Rattle.std.proofs.Common.{◌≡◌, ℕ, suc, ◌+◌, List, length, get_or, Some, None, Ok, Err, Result, Ordering, Equal, sym, ap, ◌∙◌, subst, add-one, arith}
use Rattle.std.specs.List.{slice_get}
use Rattle.std.specs.Option.{option_map}
use Rattle.std.specs.Result.{result_ok}
use Rattle.std.proofs.lemmas.List.{get_or-map}
use Rattle.std.proofs.lemmas.Option.{slice_get-get_or}
use Rattle.dictionary.specs.Meaning.{number_of}
use Rattle.search_tree.specs.Tree.{Links, root, found, turns, sought, Reached, lefts, rights, ends}
use Rattle.search_tree.specs.TreeMeaning.{meaning_of}
use Rattle.search_tree.specs.declared.tree.SearchTree.{SearchTree}
use Rattle.dictionary.specs.declared.rows.Slot.{Slot}
use Rattle.dictionary.specs.declared.rows.Slot.TheVariants.{Root}
use Rattle.search_tree.proofs.Grows.{found_right}
use Rattle.dictionary.specs.Facts.{held_long, within_rows}
use Rattle.dictionary.proofs.Numbers.{number_none, number_some}

module _ {K : Type 0} (order : K → K → Ordering) (same : (x y : K) → order x y ≡ Equal → x ≡ y) (ks : List K) (left right : ℕ → ℕ) (reached : Reached order ks left right) where
  -- a place with the sought key is the one that the walk finds
  only : (k : K) (i : ℕ) (y : K) → slice_get ks i ≡ Some y → order k y ≡ Equal → found (sought order ks left right k) ≡ suc i
  only k i y is e = ap (λ q. found (sought order ks left right q)) (same k y e) ∙ reached i y is

  pub walk_none : (k : K) → found (sought order ks left right k) ≡ 0 → number_of order ks k ≡ None
  walk_none k e = number_none order k ks (found (sought order ks left right k)) (only k) e

  pub walk_some : Links (length ks) left right → (k : K) (i : ℕ) → found (sought order ks left right k) ≡ suc i → number_of order ks k ≡ Some (suc i)
  walk_some links k i e =
      let r = found_right (turns order ks k) left right (length ks) links (length ks) Root (root (length ks)) i (omega arith) e in
      number_some order k ks (found (sought order ks left right k)) (only k) i (get_or ks i k) (slice_get-get_or ks i k r.1) (sym (get_or-map (order k) ks i k Equal r.1) ∙ r.0)

-- the same of a tree: the answer r of the walk
module _ {K : Type 0} {key : _} (t : SearchTree K key) (same : (x y : K) → key.order x y ≡ Equal → x ≡ y) (k : K) where
  linked : Links (length (meaning_of t).keys) (lefts t.rows.now) (rights t.rows.now)
  linked = subst (λ m. Links m (lefts t.rows.now) (rights t.rows.now)) (sym (held_long (λ w. w.key) t.rows.now t.used (within_rows t.long))) t.links

  pub tree_number : (r : Result ℕ Slot) → r ≡ ends key.order t.used t.rows.now k → number_of key.order (meaning_of t).keys k ≡ option_map (λ i. i + 1) (result_ok r)
  tree_number (Ok i) e = walk_some key.order same (meaning_of t).keys (lefts t.rows.now) (rights t.rows.now) t.ordered linked k i (sym (ap found e)) ∙ ap Some (sym (add-one i))
  tree_number (Err _) e = walk_none key.order same (meaning_of t).keys (lefts t.rows.now) (rights t.rows.now) t.ordered k (sym (ap found e))
