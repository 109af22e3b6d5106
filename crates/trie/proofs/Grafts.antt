-- One key more in a crit-bit trie: leaf n, and inner node n, which tests the bit d and is hung where the link was L.
-- j is a leaf under L that agrees with the new key below d and differs from it at d. Assumes nothing.
use Rattle.std.proofs.Common.{◌≡◌, ℕ, suc, ◌+◌, ◌-◌, ◌<◌, ◌≤◌, Bool, true, false, not, ◌⊎◌, sym, refl, ap, ◌∙◌, subst, inl, inr, ⊎_elim, arith}
use Rattle.std.proofs.lemmas.Bool.{cases_lt}
use Rattle.trie.specs.Trie.{Under, at, go, Good, Goods, Node}

pub record Grown (n d L j : ℕ) (crit crit' : ℕ → ℕ) (child child' : Bool → ℕ → ℕ) (bits bits' : ℕ → ℕ → Bool) : Type 0 where
  pub room : n < 4294967296
  pub crit_kept : (m : ℕ) → m < n → crit' m ≡ crit m
  pub crit_new : crit' n ≡ d
  pub child_is : (b : Bool) (m : ℕ) → m < n → (child' b m ≡ child b m) ⊎ ((child b m ≡ L) × (child' b m ≡ 4294967296 + n) × (crit m < d) × (bits' n (crit m) ≡ b))
  pub own : child' (bits' n d) n ≡ n
  pub other : child' (not (bits' n d)) n ≡ L
  pub bits_kept : (i t : ℕ) → i < n → bits' i t ≡ bits i t
  pub good : Good crit n (d + 1) L
  pub there : j < n
  pub under : Under child j L
  pub agrees : (t : ℕ) → t < d → bits' n t ≡ bits j t
  pub differs : bits' n d ≡ bits j d → ⊥

pub sides : (b c : Bool) → (b ≡ c) ⊎ (b ≡ not c)
sides true true = inl refl
sides true false = inr refl
sides false true = inr refl
sides false false = inl refl

unlike : (a c : Bool) → (a ≡ c → ⊥) → c ≡ not a
unlike a c h = ⊎_elim (λ e. absurd (h (sym e))) (λ e. e) (sides c a)

module _ {n d L j : ℕ} {crit crit' : ℕ → ℕ} {child child' : Bool → ℕ → ℕ} {bits bits' : ℕ → ℕ → Bool}
    (g : Grown n d L j crit crit' child child' bits bits') (goods : (b : Bool) → Goods crit n (child b)) where
  -- the links stay good
  wider : (low l : ℕ) → Good crit n low l → Good crit' (suc n) low l
  wider low l good = (λ h. omega (arith, good.0 h), good.1, λ h. omega (arith, good.2 h), λ h. let e = g.crit_kept (l - 4294967296) (good.2 h) in omega (arith, good.3 h))

  new_good : (low : ℕ) → 0 < n → low ≤ d → Good crit' (suc n) low (4294967296 + n)
  new_good low some h =
      let self : 4294967296 + n - 4294967296 ≡ n = omega arith in
      let e = ap crit' self ∙ g.crit_new in
      (λ q. absurd (omega arith), λ q. omega arith, λ q. omega arith, λ q. omega arith)

  leaf_good : (low : ℕ) → Good crit' (suc n) low n
  leaf_good low = let r = g.room in (λ h. omega arith, λ h. absurd (omega arith), λ h. absurd (omega arith), λ h. absurd (omega arith))

  pub goods_grown : (b : Bool) → Goods crit' (suc n) (child' b)
  goods_grown b m h =
      ⊎_elim
      (λ (old : m < n).
      let kept = g.crit_kept m old in
      let low : crit' m + 1 ≡ crit m + 1 = omega arith in
      subst (λ q. Good crit' (suc n) q (child' b m)) (sym low)
      (⊎_elim
      (λ same. subst (Good crit' (suc n) (crit m + 1)) (sym same) (wider (crit m + 1) (child b m) (goods b m (h.0, old))))
      (λ p. subst (Good crit' (suc n) (crit m + 1)) (sym p.1) (new_good (crit m + 1) (omega (arith, h.0)) (omega (arith, p.2))))
      (g.child_is b m old)))
      (λ (new : n ≤ m).
      let is : n ≡ m = omega (arith, h.1) in
      subst (λ q. Good crit' (suc n) (crit' q + 1) (child' b q)) is
      (⊎_elim
      (λ own. subst (Good crit' (suc n) (crit' n + 1)) (sym (ap (λ c. child' c n) own ∙ g.own)) (leaf_good (crit' n + 1)))
      (λ other. subst (λ q. Good crit' (suc n) (q + 1) (child' b n)) (sym g.crit_new) (subst (Good crit' (suc n) (d + 1)) (sym (ap (λ c. child' c n) other ∙ g.other)) (wider (d + 1) L g.good)))
      (sides b (bits' n d))))
      (cases_lt m n)

  pub root_kept : (root : ℕ) → Good crit n 0 root → Good crit' (suc n) 0 root
  root_kept root good = wider 0 root good

  pub root_new : Good crit' (suc n) 0 (4294967296 + n)
  root_new = new_good 0 (omega (arith, g.there)) (omega arith)

  -- a leaf under a good link is one of the n
  known : (i l : ℕ) → Under child i l → (low : ℕ) → Good crit n low l → i < n
  known i l (at l₁ h e) low good = omega (arith, good.0 h)
  known i l (go b l₁ h u) low good = known i _ u _ (goods b (l - 4294967296) (good.1 h, good.2 h))

  late : (b : Bool) (m : ℕ) → m < n → d ≤ crit m → child' b m ≡ child b m
  late b m h q = ⊎_elim (λ e. e) (λ p. absurd (omega (arith, p.2))) (g.child_is b m h)

  -- what tests d or a later bit is as it was
  late_same : (i l' : ℕ) → Under child' i l' → (low l : ℕ) → l' ≡ l → d ≤ low → Good crit n low l → Under child i l
  late_same i l' (at l₁ h e) low l q later good = at l (omega arith) (sym q ∙ e)
  late_same i l' (go b l₁ h u) low l q later good =
      let m = l - 4294967296 in
      let h₂ : 4294967296 ≤ l = omega arith in
      let after = good.3 h₂ in
      go b l h₂ (late_same i _ u (crit m + 1) (child b m) (ap (λ k. child' b (k - 4294967296)) q ∙ late b m (good.2 h₂) (omega arith)) (omega arith) (goods b m (good.1 h₂, good.2 h₂)))

  -- under the new node lie the new leaf and what lay under L
  under_new_leaf : (i l : ℕ) → Under child' i l → l ≡ n → i ≡ n
  under_new_leaf i l (at l₁ h e) q = sym e ∙ q
  under_new_leaf i l (go b l₁ h u) q = absurd (omega (arith, g.room))

  under_l : (i l : ℕ) → Under child' i l → l ≡ L → Under child i L
  under_l i l u q = late_same i l u (d + 1) L q (omega arith) g.good

  at_new : (i l : ℕ) → Under child' i l → l ≡ 4294967296 + n → (i ≡ n) ⊎ Under child i L
  at_new i l (at l₁ h e) q = absurd (omega arith)
  at_new i l (go b l₁ h u) q =
      let w : l - 4294967296 ≡ n = omega arith in
      ⊎_elim
      (λ own. inl (under_new_leaf i _ u (ap (child' b) w ∙ ap (λ c. child' c n) own ∙ g.own)))
      (λ other. inr (under_l i _ u (ap (child' b) w ∙ ap (λ c. child' c n) other ∙ g.other)))
      (sides b (bits' n d))

  -- under an old link lies what lay there, and the new leaf only where j lay
  old_link : (i l' : ℕ) → Under child' i l' → (low l : ℕ) → l' ≡ l → Good crit n low l → (Under child i l) ⊎ ((i ≡ n) × Under child j l)
  old_link i l' (at l₁ h e) low l q good = inl (at l (omega arith) (sym q ∙ e))
  old_link i l' (go b l₁ h u) low l q good =
      let m = l - 4294967296 in
      let h₂ : 4294967296 ≤ l = omega arith in
      let e : child' b (l' - 4294967296) ≡ child' b m = ap (λ k. child' b (k - 4294967296)) q in
      ⊎_elim
      (λ same. ⊎_elim (λ v. inl (go b l h₂ v)) (λ p. inr (p.0, go b l h₂ p.1)) (old_link i _ u (crit m + 1) (child b m) (e ∙ same) (goods b m (good.1 h₂, good.2 h₂))))
      (λ p. ⊎_elim (λ is. inr (is, go b l h₂ (subst (Under child j) (sym p.0) g.under))) (λ v. inl (go b l h₂ (subst (Under child i) (sym p.0) v))) (at_new i _ u (e ∙ p.1)))
      (g.child_is b m (good.2 h₂))

  -- what lies under L lies under the new node
  self_new : 4294967296 + n - 4294967296 ≡ n
  self_new = omega arith

  pub into : (i : ℕ) → Under child' i L → Under child' i (4294967296 + n)
  into i v = go (not (bits' n d)) _ (omega arith) (subst (Under child' i) (sym (ap (child' (not (bits' n d))) self_new ∙ g.other)) v)

  pub new_under : Under child' n (4294967296 + n)
  new_under = go (bits' n d) _ (omega arith) (at _ (let e = ap (child' (bits' n d)) self_new ∙ g.own in let r = g.room in omega arith) (ap (child' (bits' n d)) self_new ∙ g.own))

  -- what lay under a link lies there still
  pub still : (i l : ℕ) → Under child i l → (low : ℕ) → Good crit n low l → Under child' i l
  still i l (at l₁ h e) low good = at l h e
  still i l (go b l₁ h u) low good =
      let m = l - 4294967296 in
      let v = still i _ u _ (goods b m (good.1 h, good.2 h)) in
      go b l h (⊎_elim (λ same. subst (Under child' i) (sym same) v) (λ p. subst (Under child' i) (sym p.1) (into i (subst (Under child' i) p.0 v))) (g.child_is b m (good.2 h)))

  under_leaf : (i l : ℕ) → Under child i l → l < 4294967296 → l ≡ i
  under_leaf i l (at l₁ h e) q = e
  under_leaf i l (go b l₁ h u) q = absurd (omega arith)

  -- the nodes say of the leaves what they said, and the new one says it too
  module _ (nodes : (m : ℕ) → (0 < m) × (m < n) → Node child crit bits m) where
    -- the leaves under L are alike up to d
    alike_l : (i : ℕ) → Under child i L → (t : ℕ) → t < d + 1 → bits i t ≡ bits j t
    alike_l i u t h =
        ⊎_elim
        (λ (q : L < 4294967296). ap (λ r. bits r t) (sym (under_leaf i L u q) ∙ under_leaf j L g.under q))
        (λ (q : 4294967296 ≤ L).
        let m = L - 4294967296 in
        let is : L ≡ 4294967296 + m = omega arith in
        (nodes m (g.good.1 q, g.good.2 q)).alike i j (subst (Under child i) is u) (subst (Under child j) is g.under) t (omega (arith, g.good.3 q)))
        (cases_lt L 4294967296)

    module _ (m : ℕ) (some : 0 < m) (old : m < n) where
      on_old : (b : Bool) (i : ℕ) → Under child i (child b m) → bits' i (crit m) ≡ b
      on_old b i v = g.bits_kept i (crit m) (known i _ v _ (goods b m (some, old))) ∙ (nodes m (some, old)).on b i v

      on' : (b : Bool) (i : ℕ) → Under child' i (child' b m) → bits' i (crit m) ≡ b
      on' b i u =
          ⊎_elim
          (λ same. ⊎_elim
          (λ (early : crit m < d). ⊎_elim (on_old b i) (λ p. ap (λ r. bits' r (crit m)) p.0 ∙ g.agrees (crit m) early ∙ (nodes m (some, old)).on b j p.1) (old_link i _ u _ (child b m) same (goods b m (some, old))))
          (λ (after : d ≤ crit m). on_old b i (late_same i _ u _ (child b m) same (omega arith) (goods b m (some, old))))
          (cases_lt (crit m) d))
          (λ p. ⊎_elim (λ is. ap (λ r. bits' r (crit m)) is ∙ p.3) (λ v. on_old b i (subst (Under child i) (sym p.0) v)) (at_new i _ u p.1))
          (g.child_is b m old)

      self : 4294967296 + m - 4294967296 ≡ m
      self = omega arith

      whole_good : Good crit n (crit m) (4294967296 + m)
      whole_good = (λ h. absurd (omega arith), λ _. omega arith, λ _. omega arith, λ _. let e = ap crit self in omega arith)

      -- an old leaf with the same early bits
      stand_in : (i : ℕ) → Under child' i (4294967296 + m) → (t : ℕ) → t < crit m → (r : ℕ) × Under child r (4294967296 + m) × (bits' i t ≡ bits r t)
      stand_in i u t h =
          ⊎_elim
          (λ (early : crit m < d). ⊎_elim
          (λ v. (i, v, g.bits_kept i t (known i _ v _ whole_good)))
          (λ p. (j, p.1, ap (λ r. bits' r t) p.0 ∙ g.agrees t (omega arith)))
          (old_link i _ u _ (4294967296 + m) refl whole_good))
          (λ (after : d ≤ crit m). let v = late_same i _ u _ (4294967296 + m) refl after whole_good in (i, v, g.bits_kept i t (known i _ v _ whole_good)))
          (cases_lt (crit m) d)

      pub old_node : Node child' crit' bits' m
      old_node = record {
        on = λ b i u. ap (bits' i) (g.crit_kept m old) ∙ on' b i u;
        alike = λ a b u v t h.
            let q : t < crit m = subst (λ c. t < c) (g.crit_kept m old) h in
            let x = stand_in a u t q in
            let y = stand_in b v t q in
            x.2 ∙ (nodes m (some, old)).alike x.0 y.0 x.1 y.1 t q ∙ sym y.2;
      }

    across : (i : ℕ) → Under child i L → bits' i d ≡ not (bits' n d)
    across i v = g.bits_kept i d (known i _ v _ g.good) ∙ alike_l i v d (omega arith) ∙ unlike (bits' n d) (bits j d) g.differs

    early_new : (i : ℕ) → Under child' i (4294967296 + n) → (t : ℕ) → t < d → bits' i t ≡ bits' n t
    early_new i u t h = ⊎_elim (λ is. ap (λ r. bits' r t) is) (λ v. g.bits_kept i t (known i _ v _ g.good) ∙ alike_l i v t (omega arith) ∙ sym (g.agrees t h)) (at_new i _ u refl)

    new_node : Node child' crit' bits' n
    new_node = record {
      on = λ b i u. ap (bits' i) g.crit_new ∙ ⊎_elim
          (λ own. ap (λ r. bits' r d) (under_new_leaf i _ u (ap (λ c. child' c n) own ∙ g.own)) ∙ sym own)
          (λ other. across i (under_l i _ u (ap (λ c. child' c n) other ∙ g.other)) ∙ sym other)
          (sides b (bits' n d));
      alike = λ a b u v t h. let q : t < d = subst (λ c. t < c) g.crit_new h in early_new a u t q ∙ sym (early_new b v t q);
    }

    pub nodes_grown : (m : ℕ) → (0 < m) × (m < suc n) → Node child' crit' bits' m
    nodes_grown m h =
        ⊎_elim
        (λ (old : m < n). old_node m h.0 old)
        (λ (new : n ≤ m). subst (Node child' crit' bits') (let e : n ≡ m = omega (arith, h.1) in e) new_node)
        (cases_lt m n)
