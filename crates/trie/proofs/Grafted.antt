-- The trie in the rows with one key more, as the code has them. Assumes nothing.
use Rattle.std.proofs.Common.{◌≡◌, ℕ, suc, ◌+◌, ◌-◌, ◌<◌, ◌≤◌, Bool, true, false, not, ◌⊎◌, List, [], ◌∷◌, ◌++◌, length, get_or, drop, set, sym, refl, ap, ◌∙◌, subst, inl, inr, ⊎_elim, add-one, arith}
use Rattle.std.proofs.Math.Logic.{∥∥₁_map}
use Rattle.std.proofs.lemmas.List.{length-set, drop-set-lt}
use Rattle.std.proofs.lemmas.Bool.{cases_lt, cases_eq}
use Rattle.trie.specs.Bits.{bit, number}
use Rattle.dictionary.specs.Facts.{held_long}
use Rattle.dictionary.specs.Meaning.{most}
use Rattle.dictionary.specs.Rows.{column}
use Rattle.dictionary.specs.declared.rows.Slot.{Slot}
use Rattle.dictionary.specs.declared.rows.Slot.TheVariants.{Root, Left, Right}
use Rattle.trie.specs.Trie.{link_number, unpacked, Under, at, go, Ends, ends_at, ends_on, Good, Goods, Sorted, Hooked, InPlace, Linked, Rooted, Sound, PartsFrom, SideAt, SlotAt, Turned, bits_of, side, child, crits, keys}
use Rattle.trie.specs.TrieFacts.{goods}
use Rattle.trie.specs.TrieMeaning.{Forks}
use Rattle.trie.specs.declared.place.Place.{Place}
use Rattle.trie.specs.declared.row.Hook.{Hook}
use Rattle.trie.specs.declared.row.TrieRow.{TrieRow}
use Rattle.trie.proofs.Grafts.{Grown, sides, goods_grown, root_kept, root_new, into, new_under, still, nodes_grown}
use Rattle.dictionary.proofs.Held.{old_of, new_of, held_more, held_kept, column_same, column_other, column_kept}

-- a walk ends at a leaf under its link
pub ends_under : (child : Bool → ℕ → ℕ) (crit : ℕ → ℕ) (x : ℕ → Bool) (j l : ℕ) → Ends child crit x j l → Under child j l
ends_under child crit x j l (ends_at l₁ h e) = at l h e
ends_under child crit x j l (ends_on l₁ h r) = go (x (crit (l - 4294967296))) l h (ends_under child crit x j _ r)

-- what it is to hang a row for the key k
pub record Grafted {K : Type 0} (spelling : K → List ℕ) (rows : List (TrieRow K)) (n root : ℕ) (k : K) (rows' : List (TrieRow K)) (root' : ℕ) : Type 0 where
  pub linked : Linked rows' (n + 1)
  pub rooted : Rooted rows' (n + 1) root'
  pub held : keys rows' (n + 1) ≡ keys rows n ++ k ∷ []
  pub sound : Sound rows' spelling (n + 1) root'
  pub rest : drop (n + 1) rows' ≡ drop (n + 1) rows

module _ {K : Type 0} {spelling : K → List ℕ} (rows : List (TrieRow K)) (n root : ℕ) {k : K} {p : Place} {h : Hook} {w : TrieRow K} (f : Forks spelling n k p h w) where
  abbrev d : ℕ
  d = number p

  abbrev L : ℕ
  L = link_number h.link

  abbrev x : ℕ → Bool
  x = bit (spelling k)

  abbrev bits : ℕ → ℕ → Bool
  bits = bits_of spelling (keys rows n)

  abbrev bits' : ℕ → ℕ → Bool
  bits' = bits_of spelling (keys rows n ++ k ∷ [])

  module _ (room : n < most (length rows)) (linked : Linked rows n) (rooted : Rooted rows n root) (sound : Sound rows spelling n root) (parts : PartsFrom rows spelling n root k d) (hooked : Hooked (child rows) (crits rows) n root x d h) where
    inside : n < length rows
    inside = omega (arith, room)

    n_long : length (keys rows n) ≡ n
    n_long = held_long (λ v. v.key) rows n (omega (arith, inside))

    bits_old : (i t : ℕ) → i < n → bits' i t ≡ bits i t
    bits_old i t h = ap (λ s. bit s t) (old_of spelling [] (keys rows n) k i (omega (arith, n_long)))

    bits_new : (t : ℕ) → bits' n t ≡ x t
    bits_new t = ap (λ s. bit s t) (new_of spelling [] (keys rows n) k n n_long)

    some : 0 < n
    some = omega (arith, parts.1)

    -- from the columns of the new rows
    module _ (rows' : List (TrieRow K)) (root' : ℕ)
        (crit_kept : (m : ℕ) → m < n → crits rows' m ≡ crits rows m) (crit_new : crits rows' n ≡ d)
        (child_is : (b : Bool) (m : ℕ) → m < n → (child rows' b m ≡ child rows b m) ⊎ ((child rows b m ≡ L) × (child rows' b m ≡ 4294967296 + n) × (crits rows m < d) × (x (crits rows m) ≡ b)))
        (child_new : (b : Bool) → child rows' b n ≡ side b w)
        (root_is : (root' ≡ root) ⊎ ((root ≡ L) × (root' ≡ 4294967296 + n))) where
      abbrev Here : Type 0
      Here = Grown n d L parts.0 (crits rows) (crits rows') (child rows) (child rows') bits bits'

      grown : Here
      grown = record {
        room = omega (arith, room);
        crit_kept = crit_kept;
        crit_new = crit_new;
        child_is = λ b m h. ⊎_elim inl (λ p. inr (p.0, p.1, p.2, bits_new (crits rows m) ∙ p.3)) (child_is b m h);
        own = ap (λ c. child rows' c n) (bits_new d) ∙ child_new (x d) ∙ f.own;
        other = ap (λ c. child rows' (not c) n) (bits_new d) ∙ child_new (not (x d)) ∙ f.other;
        bits_kept = bits_old;
        good = hooked.0;
        there = parts.1;
        under = ends_under _ _ _ _ _ (hooked.3 parts.0 parts.2);
        agrees = λ t h. bits_new t ∙ parts.3.1 t h;
        differs = λ e. parts.3.0 (sym (bits_new d) ∙ e);
      }

      old_goods : (b : Bool) → Goods (crits rows) n (child rows b)
      old_goods = goods rows n linked

      all_goods : (b : Bool) → Goods (crits rows') (n + 1) (child rows' b)
      all_goods b = subst (λ q. Goods (crits rows') q (child rows' b)) (sym (add-one n)) (goods_grown grown old_goods b)

      new_root : Good (crits rows') (suc n) 0 root'
      new_root =
          ⊎_elim
          (λ e. subst (Good (crits rows') (suc n) 0) (sym e) (root_kept grown old_goods root (rooted some)))
          (λ p. subst (Good (crits rows') (suc n) 0) (sym p.1) (root_new grown old_goods))
          root_is

      old_under : (i : ℕ) → Under (child rows') i root → Under (child rows') i root'
      old_under i u =
          ⊎_elim
          (λ e. subst (Under (child rows') i) (sym e) u)
          (λ p. subst (Under (child rows') i) (sym p.1) (into grown old_goods i (subst (Under (child rows') i) p.0 u)))
          root_is

      module _ (turned : Turned (child rows) (crits rows) n root (child rows') root' (4294967296 + n) h.slot) (is_held : keys rows' (n + 1) ≡ keys rows n ++ k ∷ []) (rest : drop (n + 1) rows' ≡ drop (n + 1) rows) where
        new_sorted : Sorted (child rows) (crits rows) bits n root → Sorted (child rows') (crits rows') bits' (suc n) root'
        new_sorted s = record {
          nodes = nodes_grown grown old_goods s.nodes;
          under = λ i h. ⊎_elim
              (λ (old : i < n). old_under i (still grown old_goods i root (s.under i old) 0 (rooted some)))
              (λ (new : n ≤ i).
              let is : n ≡ i = omega arith in
              subst (λ q. Under (child rows') q root') is (hooked.2 (child rows') root' (4294967296 + n) n turned (new_under grown old_goods)))
              (cases_lt i n);
        }

        in_place : InPlace rows spelling n root → InPlace rows' spelling (n + 1) root'
        in_place s = subst (λ q. Sorted (child rows') (crits rows') (bits_of spelling (keys rows' (n + 1))) q root') (sym (add-one n)) (subst (λ ks. Sorted (child rows') (crits rows') (bits_of spelling ks) (suc n) root') (sym is_held) (new_sorted s))

        grafted : Grafted spelling rows n root k rows' root'
        grafted = record {
          linked = (all_goods false, all_goods true);
          rooted = λ _. subst (λ q. Good (crits rows') q 0 root') (sym (add-one n)) new_root;
          held = is_held;
          sound = ∥∥₁_map sound in_place;
          rest = rest;
        }

    -- the new row alone
    abbrev pub longer : List (TrieRow K)
    longer = set rows n w

    longer_held : keys longer (n + 1) ≡ keys rows n ++ k ∷ []
    longer_held = held_more (λ v. v.key) rows n w inside ∙ ap (λ q. keys rows n ++ q ∷ []) f.key

    longer_rest : drop (n + 1) longer ≡ drop (n + 1) rows
    longer_rest = drop-set-lt (n + 1) rows n w (omega arith)

    old : (of : TrieRow K → ℕ) (m : ℕ) → m < n → column of longer m ≡ column of rows m
    old of m h = column_other of rows n m w (λ e. absurd (omega arith))

    new : (of : TrieRow K → ℕ) → column of longer n ≡ of w
    new of = column_same of rows n w inside

    tests : crits longer n ≡ d
    tests = new (λ v. number v.place) ∙ ap number f.place

    pub at_root : h.slot ≡ Root → (root' : ℕ) → root' ≡ 4294967296 + n → Grafted spelling rows n root k longer root'
    at_root e root' is =
        grafted longer root' (old (λ v. number v.place)) tests (λ b m h. inl (old (side b) m h)) (λ b. new (side b))
        (inr (subst (λ s. SlotAt (child rows) (crits rows) n root x d s L) e hooked.1, is))
        (subst (Turned (child rows) (crits rows) n root (child longer) root' (4294967296 + n)) (sym e) is)
        longer_held longer_rest

    -- and then at q a row v that differs from what stands there in the link of the side b
    module _ (b : Bool) (q : ℕ) (s : SideAt (child rows) (crits rows) n root x d b q L) (d₀ v : TrieRow K) (same_key : v.key ≡ (get_or longer q d₀).key) (same_place : v.place ≡ (get_or longer q d₀).place) (same_side : side (not b) v ≡ side (not b) (get_or longer q d₀)) (link : side b v ≡ 4294967296 + n) where
      abbrev pub edited : List (TrieRow K)
      edited = set longer q v

      kept : (of : TrieRow K → ℕ) → of v ≡ of (get_or longer q d₀) → (m : ℕ) → column of edited m ≡ column of longer m
      kept of e m = column_kept of longer q d₀ v e m

      tested : (m : ℕ) → crits edited m ≡ crits longer m
      tested = kept (λ r. number r.place) (ap number same_place)

      hung : child edited b q ≡ 4294967296 + n
      hung = column_same (side b) longer q v (omega (arith, length-set rows n w, s.1, inside)) ∙ link

      apart : (m : ℕ) → (m ≡ q → ⊥) → child edited b m ≡ child longer b m
      apart m h = column_other (side b) longer q m v h

      -- a side is the one that was written, or the other one
      by_side : (P : Bool → Type 0) → P b → P (not b) → (c : Bool) → P c
      by_side P y z c = ⊎_elim (λ e. subst P (sym e) y) (λ e. subst P (sym e) z) (sides c b)

      elsewhere : (c : Bool) (m : ℕ) → (m ≡ q → ⊥) → child edited c m ≡ child longer c m
      elsewhere = by_side (λ c. (m : ℕ) → (m ≡ q → ⊥) → child edited c m ≡ child longer c m) apart (λ m h. kept (side (not b)) same_side m)

      is_turned : (root ≡ root) × (child edited b q ≡ 4294967296 + n) × ((c : Bool) (m : ℕ) → m < n → crits rows m < crits rows q → child edited c m ≡ child rows c m)
      is_turned = (refl, hung, λ c m h early. elsewhere c m (λ e. let r = ap (crits rows) e in omega arith) ∙ old (side c) m h)

      at_side : Turned (child rows) (crits rows) n root (child edited) root (4294967296 + n) h.slot → Grafted spelling rows n root k edited root
      at_side turned =
          grafted edited root
          (λ m h. tested m ∙ old (λ r. number r.place) m h) (tested n ∙ tests)
          (by_side (λ c. (m : ℕ) → m < n → (child edited c m ≡ child rows c m) ⊎ ((child rows c m ≡ L) × (child edited c m ≡ 4294967296 + n) × (crits rows m < d) × (x (crits rows m) ≡ c)))
          (λ m h. ⊎_elim
          (λ (e : m ≡ q). inr (ap (child rows b) e ∙ s.2, ap (child edited b) e ∙ hung, (let c = ap (crits rows) e in omega (arith, s.3)), ap (λ r. x (crits rows r)) e ∙ s.4))
          (λ (e : m ≡ q → ⊥). inl (apart m e ∙ old (side b) m h))
          (cases_eq m q))
          (λ m h. inl (kept (side (not b)) same_side m ∙ old (side (not b)) m h)))
          (λ c. elsewhere c n (λ e. absurd (omega (arith, s.1))) ∙ new (side c))
          (inl refl) turned
          (held_kept (λ r. r.key) longer (n + 1) q d₀ v same_key ∙ longer_held) (drop-set-lt (n + 1) longer q v (omega (arith, s.1)) ∙ longer_rest)

    slot_is : (s : Slot) → h.slot ≡ s → SlotAt (child rows) (crits rows) n root x d s L
    slot_is s e = subst (λ r. SlotAt (child rows) (crits rows) n root x d r L) e hooked.1

    pub left_at : (q : ℕ) → h.slot ≡ Left q → SideAt (child rows) (crits rows) n root x d false q L
    left_at q e = slot_is (Left q) e

    pub right_at : (q : ℕ) → h.slot ≡ Right q → SideAt (child rows) (crits rows) n root x d true q L
    right_at q e = slot_is (Right q) e

    pub at_left : (q : ℕ) → h.slot ≡ Left q → (d₀ v : TrieRow K) → v.key ≡ (get_or longer q d₀).key → v.place ≡ (get_or longer q d₀).place → v.right ≡ (get_or longer q d₀).right → unpacked v.left.0 ≡ 4294967296 + n → Grafted spelling rows n root k (set longer q v) root
    at_left q e d₀ v a b c l =
        let s = left_at q e in
        at_side false q s d₀ v a b (ap (λ q. unpacked q.0) c) l (subst (Turned (child rows) (crits rows) n root (child (set longer q v)) root (4294967296 + n)) (sym e) (is_turned false q s d₀ v a b (ap (λ q. unpacked q.0) c) l))

    pub at_right : (q : ℕ) → h.slot ≡ Right q → (d₀ v : TrieRow K) → v.key ≡ (get_or longer q d₀).key → v.place ≡ (get_or longer q d₀).place → v.left ≡ (get_or longer q d₀).left → unpacked v.right.0 ≡ 4294967296 + n → Grafted spelling rows n root k (set longer q v) root
    at_right q e d₀ v a b c l =
        let s = right_at q e in
        at_side true q s d₀ v a b (ap (λ q. unpacked q.0) c) l (subst (Turned (child rows) (crits rows) n root (child (set longer q v)) root (4294967296 + n)) (sym e) (is_turned true q s d₀ v a b (ap (λ q. unpacked q.0) c) l))
