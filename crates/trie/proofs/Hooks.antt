-- The way to where a new inner node belongs, step by step. Assumes nothing.
use Rattle.std.proofs.Common.{◌≡◌, ℕ, ◌+◌, ◌-◌, ◌<◌, ◌≤◌, Bool, true, false, List, get_or, sym, ap, ◌∙◌, subst, arith}
use Rattle.std.proofs.Math.Logic.{∥∥₁_elim}
use mathlib.Core.HLevel.{⊥_prop}
use Rattle.dictionary.specs.declared.key.Key.{Ghosts}
use Rattle.trie.specs.Bits.{bit, number}
use Rattle.trie.specs.Trie.{Under, go, Good, SideAt, SlotAt, SideTurned, Turned, Way, Passes, Hooked, PartsFrom, bits_of, link_number, side, child, crits, keys}
use Rattle.trie.specs.declared.patricia.Trie.{Trie}
use Rattle.trie.specs.declared.row.Hook.{Hook}
use Rattle.trie.specs.declared.row.Link.{Link}
use Rattle.trie.specs.declared.row.Link.TheVariants.{Leaf, Inner}
use Rattle.trie.specs.declared.row.TrieRow.{TrieRow}
use Rattle.dictionary.specs.declared.rows.Slot.{Slot}
use Rattle.dictionary.specs.declared.rows.Slot.TheVariants.{Root, Left, Right}
use Rattle.trie.specs.TrieFacts.{goods_in}
use Rattle.trie.proofs.Meetings.{same_bit}
use Rattle.trie.proofs.Steps.{inner, m_is, node, crit_is, side_is, good_on, step_on}

module _ (child : Bool → ℕ → ℕ) (crit : ℕ → ℕ) (n root : ℕ) (x : ℕ → Bool) (d : ℕ) where
  -- the link that the way has come to
  pub record Hooking (slot : Slot) (here : ℕ) : Type 0 where
    pub good : Good crit n 0 here
    pub at : SlotAt child crit n root x d slot here
    pub way : Way child crit n root slot
    pub passes : Passes child crit n root x here

  module _ (goods : (b : Bool) (p : ℕ) → (0 < p) × (p < n) → Good crit n (crit p + 1) (child b p)) where
    side_later : (p : ℕ) (b : Bool) (l : ℕ) → SideAt child crit n root x d b p l → 4294967296 ≤ l → crit p < crit (l - 4294967296)
    side_later p b l s h = let g = subst (Good crit n (crit p + 1)) s.2 (goods b p (s.0, s.1)) in omega (arith, g.3 h)

    -- one slot on, to a side of the inner node m at the link
    module _ (here : ℕ) (inner : 4294967296 ≤ here) where
      abbrev m : ℕ
      m = here - 4294967296

      module _ (child' : Bool → ℕ → ℕ) (root' new : ℕ) (b : Bool) (turned : SideTurned child crit n root child' root' new b m) where
        turned_side : (c : Bool) (p : ℕ) → SideAt child crit n root x d c p here → SideTurned child crit n root child' root' here c p
        turned_side c p s =
            let early = side_later p c here s inner in
            (turned.0, turned.2 c p s.1 early ∙ s.2, λ e q h low. turned.2 e q h (omega arith))

        turned_slot : (slot : Slot) → SlotAt child crit n root x d slot here → Turned child crit n root child' root' here slot
        turned_slot Root s = turned.0 ∙ s
        turned_slot (Left p) s = turned_side false p s
        turned_slot (Right p) s = turned_side true p s

        on_way : (slot : Slot) → SlotAt child crit n root x d slot here → Way child crit n root slot → (i : ℕ) → Under child' i new → Under child' i root'
        on_way slot s way i u = way child' root' here i (turned_slot slot s) (go b here inner (subst (Under child' i) (sym turned.1) u))

      pub way_left : (slot : Slot) → SlotAt child crit n root x d slot here → Way child crit n root slot → Way child crit n root (Left m)
      way_left slot s way child' root' new i turned u = on_way child' root' new false turned slot s way i u

      pub way_right : (slot : Slot) → SlotAt child crit n root x d slot here → Way child crit n root slot → Way child crit n root (Right m)
      way_right slot s way child' root' new i turned u = on_way child' root' new true turned slot s way i u

module _ {K : Type 0} {key : _} (t : Trie K key) (x : ℕ → Bool) (d : ℕ) where
  abbrev pub Hooks : Slot → ℕ → Type 0
  Hooks = Hooking (child t.rows.now) (crits t.rows.now) t.used (link_number t.root) x d

-- the same at a trie, on the way of a key that first differs at the bit d from the one that it meets
module _ {K : Type 0} {key : Ghosts K} (t : Trie K key) (k : K) (d : ℕ) (parts : PartsFrom t.rows.now key.spelling t.used (link_number t.root) k d) where
  abbrev rows : List (TrieRow K)
  rows = t.rows.now

  abbrev x : ℕ → Bool
  x = bit (key.spelling k)

  abbrev Here : Slot → ℕ → Type 0
  Here = Hooks t x d

  abbrev Found : Hook → Type 0
  Found = Hooked (child rows) (crits rows) t.used (link_number t.root) x d

  pub hook_leaf : (slot : Slot) (l : Link) (i : ℕ) → l ≡ Leaf i → i < 4294967296 → Here slot (link_number l) → Found (record { slot = slot; link = Leaf i })
  hook_leaf slot l i e leaf h = let is = ap link_number e in subst (λ q. Found (record { slot = slot; link = q })) e ((h.good.0, h.good.1, h.good.2, λ q. absurd (omega arith)), h.at, h.way, h.passes)

  -- the row w was read at an inner node
  module _ (slot : Slot) (l : Link) (i : ℕ) (w : TrieRow K) (e : l ≡ Inner i) (is : w ≡ get_or rows i w) (h : Here slot (link_number l)) where
    abbrev here : ℕ
    here = link_number l

    crit : crits rows (here - 4294967296) ≡ number w.place
    crit = crit_is t x here i w (ap link_number e) is h.good

    inside : 4294967296 ≤ here
    inside = inner t x here i w (ap link_number e) is h.good

    pub hook_there : d < number w.place → Found (record { slot = slot; link = Inner i })
    hook_there later = subst (λ q. Found (record { slot = slot; link = q })) e ((h.good.0, h.good.1, h.good.2, λ q. let c = crit in omega arith), h.at, h.way, h.passes)

    -- it does not test d itself: the key that is met agrees there with the walk
    apart : number w.place ≡ d → ⊥
    apart same =
        let tests : crits rows (here - 4294967296) ≡ d = crit ∙ same in
        let bits = bits_of key.spelling (keys rows t.used) in
        ∥∥₁_elim t.sound ⊥_prop (λ s.
        let met = same_bit (child rows) (crits rows) bits t.used (goods_in t) s.nodes x parts.0 here 0 h.good inside (h.passes parts.0 parts.2) in
        parts.3.0 (ap x (sym tests) ∙ sym met ∙ ap (bits parts.0) tests))

    side_at : (b : Bool) → number w.place ≤ d → x (number w.place) ≡ b → SideAt (child rows) (crits rows) t.used (link_number t.root) x d b (here - 4294967296) (side b w)
    side_at b early e₁ =
        let q = node t x here i w (ap link_number e) is h.good in
        let c = crit in
        (q.0, q.1, side_is t x here i w (ap link_number e) is h.good b, omega (arith, apart), ap x crit ∙ e₁)

    on : (b : Bool) (slot' : Slot) → x (number w.place) ≡ b → SlotAt (child rows) (crits rows) t.used (link_number t.root) x d slot' (side b w) → Way (child rows) (crits rows) t.used (link_number t.root) slot' → Here slot' (side b w)
    on b slot' e₁ at way = record {
      good = good_on t x here i w (ap link_number e) is h.good b;
      at = at;
      way = way;
      passes = λ j r. step_on t x here i w (ap link_number e) is h.good b e₁ j (h.passes j r);
    }

    pub hook_left : number w.place ≤ d → x (number w.place) ≡ false → (l : ℕ) → l ≡ side false w → Here (Left i) l
    hook_left early e₁ l to = subst (Here (Left i)) (sym to) (subst (λ q. Here (Left q) (side false w)) (m_is t x here i w (ap link_number e) is h.good) (on false _ e₁ (side_at false early e₁) (way_left (child rows) (crits rows) t.used (link_number t.root) x d (goods_in t) here inside slot h.at h.way)))

    pub hook_right : number w.place ≤ d → x (number w.place) ≡ true → (l : ℕ) → l ≡ side true w → Here (Right i) l
    hook_right early e₁ l to = subst (Here (Right i)) (sym to) (subst (λ q. Here (Right q) (side true w)) (m_is t x here i w (ap link_number e) is h.good) (on true _ e₁ (side_at true early e₁) (way_right (child rows) (crits rows) t.used (link_number t.root) x d (goods_in t) here inside slot h.at h.way)))
