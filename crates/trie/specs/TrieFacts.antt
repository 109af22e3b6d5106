-- No key stands at two places of a trie: here, since a ghost member cites it; and what its lemmas take, of a trie. Assumes nothing.
use Rattle.std.specs.Prelude.{◌≡◌, ℕ, zero, suc, ◌-◌, ◌<◌, ◌≤◌, Bool, true, false, List, [], ◌∷◌, map, length, Some, slice_index_or}
use Rattle.std.proofs.Common.{sym, ap, subst, ◌∙◌, arith}
use Rattle.std.proofs.Math.Logic.{∥∥₁_elim}
use Rattle.std.proofs.Math.Nat.{ℕ_set}
use Rattle.std.specs.List.{slice_get}
use Rattle.trie.specs.Bits.{bit}
use Rattle.dictionary.specs.Facts.{held_long, nth_below, within_rows}
use Rattle.trie.specs.Trie.{Under, at, go, Good, Goods, Node, bits_of, keys, child, crits, Linked, Rooted, Sound}
use Rattle.trie.specs.declared.patricia.Trie.{Trie}
use Rattle.trie.specs.declared.row.TrieRow.{TrieRow}

-- no two leaves under one link have the same bits
module _ (crit : ℕ → ℕ) (child : Bool → ℕ → ℕ) (bits : ℕ → ℕ → Bool) (n : ℕ) (goods : (b : Bool) → Goods crit n (child b)) (nodes : (m : ℕ) → (0 < m) × (m < n) → Node child crit bits m) where
  pub one_leaf : (i l : ℕ) → Under child i l → (j : ℕ) → Under child j l → (low : ℕ) → Good crit n low l → ((t : ℕ) → bits i t ≡ bits j t) → i ≡ j
  one_leaf i l (at l₁ h e) j (at l₂ h' e') low good same = sym e ∙ e'
  one_leaf i l (at l₁ h e) j (go b l₂ h' u) low good same = absurd (omega arith)
  one_leaf i l (go b l₁ h u) j (at l₂ h' e') low good same = absurd (omega arith)
  one_leaf i l (go b l₁ h u) j (go c l₂ h' v) low good same =
      let m = l - 4294967296 in
      let node = nodes m (good.1 h, good.2 h) in
      let e : c ≡ b = sym (node.on c j v) ∙ sym (same (crit m)) ∙ node.on b i u in
      one_leaf i _ u j (subst (λ q. Under child j (child q m)) e v) _ (goods b m (good.1 h, good.2 h)) same

-- the bits of the key at a place
pub bits_at : {K : Type 0} (spelling : K → List ℕ) (ks : List K) (i : ℕ) (k : K) → slice_get ks i ≡ Some k → slice_index_or (map spelling ks) i [] ≡ spelling k
bits_at spelling [] i k e = let z : ◌≡◌ {A = ℕ} 0 1 = cc in absurd (omega arith)
bits_at spelling (y ∷ ys) zero k e = let same : y ≡ k = cc in ap spelling same
bits_at spelling (y ∷ ys) (suc i) k e = bits_at spelling ys i k e

-- a key that is held stands below the count
pub held_below : {K : Type 0} (rows : List (TrieRow K)) (n : ℕ) → n ≤ length rows → (i : ℕ) (k : K) → slice_get (keys rows n) i ≡ Some k → i < n
held_below rows n long i k e = omega (arith, nth_below (keys rows n) i k e, held_long (λ w. w.key) rows n long)

pub goods : {K : Type 0} (rows : List (TrieRow K)) (n : ℕ) → Linked rows n → (b : Bool) → Goods (crits rows) n (child rows b)
goods rows n links false = links.0
goods rows n links true = links.1

module _ {K : Type 0} (spelling : K → List ℕ) (rows : List (TrieRow K)) (n root : ℕ) (long : n ≤ length rows) (links : Linked rows n) (rooted : Rooted rows n root) (sound : Sound rows spelling n root) where
  pub one_place : (i j : ℕ) (k : K) → slice_get (keys rows n) i ≡ Some k → slice_get (keys rows n) j ≡ Some k → i ≡ j
  one_place i j k e e' =
      let below = held_below rows n long i k e in
      ∥∥₁_elim sound (ℕ_set i j) (λ s. one_leaf (crits rows) (child rows) (bits_of spelling (keys rows n)) n (goods rows n links) s.nodes i root (s.under i below) j (s.under j (held_below rows n long j k e')) 0 (rooted (omega arith))
      (λ t. ap (λ s. bit s t) (bits_at spelling (keys rows n) i k e ∙ sym (bits_at spelling (keys rows n) j k e'))))

-- the same of a trie, by its ghost fields
module _ {K : Type 0} {key : _} (t : Trie K key) where
  pub goods_in : (b : Bool) → Goods (crits t.rows.now) t.used (child t.rows.now b)
  goods_in b = goods t.rows.now t.used t.linked b

  pub held_in : (i : ℕ) (k : K) → slice_get (keys t.rows.now t.used) i ≡ Some k → i < t.used
  held_in i k e = held_below t.rows.now t.used (within_rows t.long) i k e
