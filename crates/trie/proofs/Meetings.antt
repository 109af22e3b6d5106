-- What the walk through a trie says of a key's number. Assumes nothing.
use Rattle.std.proofs.Common.{◌≡◌, ℕ, suc, ◌+◌, ◌-◌, ◌<◌, ◌≤◌, Bool, List, [], map, get_or, Some, None, Ok, Err, Option, Result, Ordering, Equal, sym, refl, ap, ◌∙◌, subst, add-one, arith}
use Rattle.std.proofs.Math.Logic.{∥∥₁_elim}
use Rattle.std.proofs.Math.Nat.{ℕ_set}
use Rattle.std.specs.List.{slice_get}
use Rattle.std.specs.Option.{option_map}
use Rattle.std.specs.Result.{result_ok}
use Rattle.trie.specs.Bits.{bit}
use Rattle.dictionary.specs.Meaning.{number_of}
use Rattle.dictionary.specs.Facts.{within_rows}
use Rattle.trie.specs.Trie.{link_number, Under, at, go, Ends, ends_at, ends_on, Good, Goods, Node, PartsFrom, Meets, bits_of, keys, child, crits}
use Rattle.trie.specs.TrieFacts.{goods_in, held_in, bits_at, one_place}
use Rattle.dictionary.specs.declared.key.Key.{Ghosts}
use Rattle.trie.specs.declared.patricia.Trie.{Trie}
use Rattle.trie.specs.declared.place.Place.{Place}
use Rattle.trie.specs.declared.row.TrieRow.{TrieRow}
use Rattle.trie.proofs.Grafted.{ends_under}
use Rattle.dictionary.proofs.Numbers.{number_none, number_some}

module _ (child : Bool → ℕ → ℕ) (crit : ℕ → ℕ) (bits : ℕ → ℕ → Bool) (n : ℕ) (goods : (b : Bool) → Goods crit n (child b)) (nodes : (m : ℕ) → (0 < m) × (m < n) → Node child crit bits m) (x : ℕ → Bool) where
  -- one step of the walk, from an inner node to the side b
  on : (j l : ℕ) (b : Bool) → Ends child crit x j l → 4294967296 ≤ l → x (crit (l - 4294967296)) ≡ b → Ends child crit x j (child b (l - 4294967296))
  on j l b (ends_at l₁ h e) inner is = absurd (omega arith)
  on j l b (ends_on l₁ h r) inner is = subst (λ c. Ends child crit x j (child c (l - 4294967296))) is r

  at_leaf : (j l : ℕ) → Ends child crit x j l → l < 4294967296 → l ≡ j
  at_leaf j l (ends_at l₁ h e) q = e
  at_leaf j l (ends_on l₁ h r) q = absurd (omega arith)

  -- the walk for the bits of a leaf under the link ends at that leaf
  pub ends_there : (i l : ℕ) → Under child i l → (j low : ℕ) → Good crit n low l → ((t : ℕ) → bits i t ≡ x t) → Ends child crit x j l → i ≡ j
  ends_there i l (at l₁ h e) j low good same ends = sym e ∙ at_leaf j l ends h
  ends_there i l (go b l₁ h u) j low good same ends =
      let m = l - 4294967296 in
      let node = nodes m (good.1 h, good.2 h) in
      ends_there i _ u j _ (goods b m (good.1 h, good.2 h)) same (on j l b ends h (sym (same (crit m)) ∙ node.on b i u))

  -- a walk that passes an inner node ends at a leaf that has the tested bit as x has it
  pub same_bit : (j l low : ℕ) → Good crit n low l → 4294967296 ≤ l → Ends child crit x j l → bits j (crit (l - 4294967296)) ≡ x (crit (l - 4294967296))
  same_bit j l low good inner ends =
      let m = l - 4294967296 in
      (nodes m (good.1 inner, good.2 inner)).on (x (crit m)) j (ends_under child crit x j _ (on j l (x (crit m)) ends inner refl))

module _ {K : Type 0} {key : Ghosts K} (same : (x y : K) → key.order x y ≡ Equal → x ≡ y) (t : Trie K key) (k : K) where
  abbrev order : K → K → Ordering
  order = key.order

  abbrev spelling : K → List ℕ
  spelling = key.spelling

  abbrev rows : List (TrieRow K)
  rows = t.rows.now

  abbrev ks : List K
  ks = keys rows t.used

  old_goods : (b : Bool) → Goods (crits rows) t.used (child rows b)
  old_goods = goods_in t

  -- the key stands at the place
  pub met_here : order k k ≡ Equal → (i : ℕ) → slice_get ks i ≡ Some k → number_of order ks k ≡ Some (i + 1)
  met_here itself i is =
      number_some order k ks (suc i) (λ j y at e. ap suc (one_place spelling t.rows.now t.used (link_number t.root) (within_rows t.long) t.linked t.rooted t.sound i j k is (at ∙ ap Some (sym (same k y e))))) i k is itself
      ∙ ap Some (sym (add-one i))

  not_there : (d : ℕ) → PartsFrom rows spelling t.used (link_number t.root) k d → (i : ℕ) (y : K) → slice_get ks i ≡ Some y → order k y ≡ Equal → ⊥
  not_there d p i y is e =
      let own : get_or (map spelling ks) i [] ≡ spelling k = bits_at spelling ks i y is ∙ ap spelling (sym (same k y e)) in
      let ij : i ≡ p.0 =
      ∥∥₁_elim t.sound (ℕ_set i p.0) (λ s. ends_there (child rows) (crits rows) (bits_of spelling ks) t.used old_goods s.nodes (bit (spelling k)) i (link_number t.root) (s.under i (held_in t i y is)) p.0 0 (t.rooted (omega (arith, p.1))) (λ q. ap (λ s. bit s q) own) p.2)
      in
      p.3.0 (sym (ap (λ s. bit s d) own) ∙ ap (λ q. bits_of spelling ks q d) ij)

  -- another key was met, or none
  pub met_apart : (d : ℕ) → PartsFrom rows spelling t.used (link_number t.root) k d → number_of order ks k ≡ None
  met_apart d p = number_none order k ks 0 (λ i y is e. absurd (not_there d p i y is e)) refl

  pub met_nothing : t.used ≡ 0 → number_of order ks k ≡ None
  met_nothing none = number_none order k ks 0 (λ i y is e. absurd (omega (arith, held_in t i y is))) refl

  pub met_err : (m : Option Place) → Meets rows spelling t.used (link_number t.root) k (Err m) → number_of order ks k ≡ None
  met_err (Some p) m = met_apart _ m
  met_err None m = met_nothing m

  pub met : order k k ≡ Equal → (r : Result ℕ (Option Place)) → Meets rows spelling t.used (link_number t.root) k r → number_of order ks k ≡ option_map (λ i. i + 1) (result_ok r)
  met itself (Ok i) m = met_here itself i m.1
  met itself (Err p) m = met_err p m
