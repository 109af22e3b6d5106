-- The walk through a trie, step by step. Assumes nothing.
use Rattle.std.proofs.Common.{◌≡◌, ℕ, ◌+◌, ◌-◌, ◌^◌, ◌<◌, ◌≤◌, Bool, cond, ltb, List, length, get_or, sym, refl, ap, ◌∙◌, subst, arith}
use Rattle.std.proofs.lemmas.Bool.Decides.{nat_tests}
use Rattle.trie.specs.Bits.{number}
use Rattle.trie.specs.Trie.{Ends, ends_at, ends_on, link_number, Good, side, child, crits}
use Rattle.trie.specs.TrieFacts.{goods_in}
use Rattle.trie.specs.declared.patricia.Trie.{Trie}
use Rattle.trie.specs.declared.row.Link.{Link}
use Rattle.trie.specs.declared.row.Link.TheVariants.{Leaf}
use Rattle.trie.specs.declared.row.TrieRow.{TrieRow}
use Rattle.dictionary.proofs.Held.{column_at}

module _ {K : Type 0} {key : _} (t : Trie K key) (x : ℕ → Bool) where
  abbrev rows : List (TrieRow K)
  rows = t.rows.now

  abbrev EndsAt : ℕ → ℕ → Type 0
  EndsAt = Ends (child rows) (crits rows) x

  -- the walk has come to a good link, and ends where the walk from there ends
  pub record Going (here : ℕ) : Type 0 where
    pub good : Good (crits rows) t.used 0 here
    pub back : (j : ℕ) → EndsAt j here → EndsAt j (link_number t.root)

  -- what falls with each step
  abbrev pub to_go : ℕ → ℕ
  to_go here = cond (ltb here 4294967296) 0 (2 ^ 67 - crits rows (here - 4294967296))

  -- the row w was read at a good link to an inner node
  module _ (here i : ℕ) (w : TrieRow K) (e : here ≡ i + 4294967296) (is : w ≡ get_or rows i w) (good : Good (crits rows) t.used 0 here) where
    abbrev m : ℕ
    m = here - 4294967296

    pub inner : 4294967296 ≤ here
    inner = omega arith

    pub m_is : m ≡ i
    m_is = omega arith

    pub node : (0 < m) × (m < t.used)
    node = (good.1 inner, good.2 inner)

    inside : m < length rows
    inside = omega (arith, good.2 inner, t.long)

    read : w ≡ get_or rows m w
    read = subst (λ q. w ≡ get_or rows q w) (sym m_is) is

    pub crit_is : crits rows m ≡ number w.place
    crit_is = column_at (λ v. number v.place) rows m w inside read

    pub side_is : (b : Bool) → child rows b m ≡ side b w
    side_is b = column_at (side b) rows m w inside read

    side_good : (b : Bool) → Good (crits rows) t.used (crits rows m + 1) (side b w)
    side_good b = subst (Good (crits rows) t.used (crits rows m + 1)) (side_is b) (goods_in t b m node)

    pub good_on : (b : Bool) → Good (crits rows) t.used 0 (side b w)
    good_on b = let s = side_good b in (s.0, s.1, s.2, λ h. omega arith)

    pub falls : (b : Bool) (l : ℕ) → l ≡ side b w → to_go l < to_go here
    falls b l to =
        let c = crit_is in
        let p : w.place.bit < 8 = w.place.small in
        let q : w.place.byte < 2 ^ 64 = w.place.within in
        let s = side_good b in
        let later : 4294967296 ≤ side b w → crits rows m + 1 ≤ crits rows (side b w - 4294967296) = s.3 in
        let small : crits rows m < 2 ^ 67 = omega arith in
        subst (λ q. to_go q < to_go here) (sym to) (grind (arith, nat_tests))

    -- the walk for x goes to the side of its bit
    module _ (b : Bool) (tested : x (number w.place) ≡ b) where
      taken : child rows (x (crits rows m)) m ≡ side b w
      taken = ap (λ c. child rows c m) (ap x crit_is ∙ tested) ∙ side_is b

      pub step_back : (j : ℕ) → EndsAt j (side b w) → EndsAt j here
      step_back j r = ends_on here inner (subst (EndsAt j) (sym taken) r)

      step_from : (j l : ℕ) → l ≡ here → EndsAt j l → EndsAt j (side b w)
      step_from j l q (ends_at l₁ h e₁) = absurd (omega arith)
      step_from j l q (ends_on l₁ h r) = subst (EndsAt j) ((λ i. child rows (x (crits rows (q i - 4294967296))) (q i - 4294967296)) ∙ taken) r

      pub step_on : (j : ℕ) → EndsAt j here → EndsAt j (side b w)
      step_on j r = step_from j here refl r

      pub go_on : ((j : ℕ) → EndsAt j here → EndsAt j (link_number t.root)) → (l : ℕ) → l ≡ side b w → Going l
      go_on back l to = subst Going (sym to) (record { good = good_on b; back = λ j r. back j (step_back j r) })

  pub go_end : (l : Link) (i : ℕ) → l ≡ Leaf i → i < 4294967296 → Going (link_number l) → EndsAt i (link_number t.root)
  go_end l i e small g = g.back i (ends_at (link_number l) (let is = ap link_number e in omega arith) (ap link_number e))
