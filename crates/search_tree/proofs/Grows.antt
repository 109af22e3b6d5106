-- What a walk finds, and what it finds once a row is hung where it ended. Assumes nothing.
use Rattle.std.proofs.Common.{◌≡◌, ℕ, zero, suc, ◌+◌, ◌<◌, ◌≤◌, Ok, Err, Result, ◌⊎◌, List, [], ◌∷◌, ◌++◌, length, Some, Ordering, Less, Equal, Greater, sym, refl, ap, ◌∙◌, subst, ⊎_elim, add-one, arith}
use Rattle.std.specs.List.{slice_get}
use Rattle.std.proofs.lemmas.List.{length_push}
use Rattle.std.proofs.lemmas.Bool.{cases_lt}
use Rattle.search_tree.specs.Tree.{Links, root, pick, walk, found, turns, sought, Reached}
use Rattle.dictionary.specs.declared.rows.Slot.{Slot}
use Rattle.dictionary.specs.declared.rows.Slot.TheVariants.{Root, Left, Right}
use Rattle.dictionary.specs.Facts.{nth_below}
use Rattle.dictionary.proofs.Held.{nth_push, old_of, new_of}

pub by_pick : {X : Type 0} (P : X → Type 0) (o : Ordering) (a b c : X) → (o ≡ Less → P a) → (o ≡ Equal → P b) → (o ≡ Greater → P c) → P (pick o a b c)
by_pick P Less a b c less same more = less refl
by_pick P Equal a b c less same more = same refl
by_pick P Greater a b c less same more = more refl

module _ (turn : ℕ → Ordering) (left right : ℕ → ℕ) (n : ℕ) (links : Links n left right) where
  -- what is found is a row with the sought key
  pub found_right : (steps : ℕ) (slot : Slot) (l i : ℕ) → l ≤ n → found (walk turn left right steps slot l) ≡ suc i → (turn i ≡ Equal) × (i < n)
  found_right steps slot zero i h e = absurd (omega arith)
  found_right zero slot (suc j) i h e = absurd (omega arith)
  found_right (suc steps) slot (suc j) i h found-i =
      by_pick (λ s. found s ≡ suc i → (turn i ≡ Equal) × (i < n)) (turn j) _ _ _
      (λ _. found_right steps (Left j) (left j) i (links j h).0)
      (λ same e. let ji : j ≡ i = omega arith in (ap turn (sym ji) ∙ same, omega arith))
      (λ _. found_right steps (Right j) (right j) i (links j h).2)
      found-i

  -- a place to hang a row has no link yet
  abbrev pub Empty : Result ℕ Slot → Type 0
  Empty (Ok i) = Unit {0}
  Empty (Err Root) = ⊥
  Empty (Err (Left p)) = (p < n) × (left p ≡ 0)
  Empty (Err (Right p)) = (p < n) × (right p ≡ 0)

  pub ends_empty : (steps : ℕ) (slot : Slot) (i : ℕ) → suc i ≤ n → n + 1 ≤ steps + suc i → Empty (walk turn left right steps slot (suc i))
  ends_empty zero slot i h e = absurd (omega arith)
  ends_empty (suc steps) slot i h e =
      by_pick Empty (turn i) _ _ _
      (λ _. elim (left i) as (λ m. left i ≡ m → Empty (walk turn left right steps (Left i) m)) [ zero ↦ λ z. (h, z) | suc k ↦ λ z. ends_empty steps (Left i) k (omega (arith, links i h)) (omega (arith, (links i h).1 (omega arith))) ] refl)
      (λ _. tt)
      (λ _. elim (right i) as (λ m. right i ≡ m → Empty (walk turn left right steps (Right i) m)) [ zero ↦ λ z. (h, z) | suc k ↦ λ z. ends_empty steps (Right i) k (omega (arith, links i h)) (omega (arith, (links i h).3 (omega arith))) ] refl)

-- Rows with one more, hung at the slot t.
pub record Grown (n : ℕ) (left right left' right' : ℕ → ℕ) (t : Slot) : Type 0 where
  pub left_is : (i : ℕ) → i < n → (left' i ≡ left i) ⊎ ((left i ≡ 0) × (left' i ≡ suc n))
  pub right_is : (i : ℕ) → i < n → (right' i ≡ right i) ⊎ ((right i ≡ 0) × (right' i ≡ suc n))
  pub left_new : left' n ≡ 0
  pub right_new : right' n ≡ 0
  pub left_hung : (i : ℕ) → i < n → Left i ≡ t → left' i ≡ suc n
  pub right_hung : (i : ℕ) → i < n → Right i ≡ t → right' i ≡ suc n

module _ (n : ℕ) (left right left' right' : ℕ → ℕ) (t : Slot) (grown : Grown n left right left' right' t) (links : Links n left right) where
  left_kept : (i k : ℕ) → i < n → left i ≡ suc k → left' i ≡ suc k
  left_kept i k h e = ⊎_elim (λ s. s ∙ e) (λ p. absurd (omega arith)) (grown.left_is i h)

  right_kept : (i k : ℕ) → i < n → right i ≡ suc k → right' i ≡ suc k
  right_kept i k h e = ⊎_elim (λ s. s ∙ e) (λ p. absurd (omega arith)) (grown.right_is i h)

  one_link : (i m m' : ℕ) → i < n → m ≤ n → (0 < m → i + 1 < m) → (m' ≡ m) ⊎ ((m ≡ 0) × (m' ≡ suc n)) → (m' ≤ suc n) × (0 < m' → i + 1 < m')
  one_link i m m' h within later = ⊎_elim (λ e. (omega arith, λ q. omega (arith, later (omega arith)))) (λ p. (omega arith, λ q. omega arith))

  pub links_grown : Links (suc n) left' right'
  links_grown i h =
      ⊎_elim
      (λ (q : i < n). let o = links i q in let a = one_link i (left i) (left' i) q o.0 o.1 (grown.left_is i q) in let b = one_link i (right i) (right' i) q o.2 o.3 (grown.right_is i q) in (a.0, a.1, b.0, b.1))
      (λ (q : n ≤ i). let e : i ≡ n = omega arith in let a = ap left' e ∙ grown.left_new in let b = ap right' e ∙ grown.right_new in (omega arith, λ p. omega arith, omega arith, λ p. omega arith))
      (cases_lt i n)

  -- the sought key stands to the old rows as it did
  module _ (turn turn' : ℕ → Ordering) (same : (i : ℕ) → i < n → turn' i ≡ turn i) where
    -- the walk among the new rows, one step on from row i
    on : (steps i : ℕ) (slot : Slot) (o : Ordering) → i < n → turn i ≡ o → walk turn' left' right' (suc steps) slot (suc i) ≡ pick o (walk turn' left' right' steps (Left i) (left' i)) (Ok i) (walk turn' left' right' steps (Right i) (right' i))
    on steps i slot o h e = ap (λ q. pick q (walk turn' left' right' steps (Left i) (left' i)) (Ok i) (walk turn' left' right' steps (Right i) (right' i))) (same i h ∙ e)

    -- what was found is found
    pub kept : (steps : ℕ) (slot slot' : Slot) (l j : ℕ) → l ≤ n → found (walk turn left right steps slot l) ≡ suc j → found (walk turn' left' right' (suc steps) slot' l) ≡ suc j
    kept steps slot slot' zero j h e = absurd (omega arith)
    kept zero slot slot' (suc i) j h e = absurd (omega arith)
    kept (suc steps) slot slot' (suc i) j h found-j =
        by_pick (λ s. found s ≡ suc j → found (walk turn' left' right' (suc (suc steps)) slot' (suc i)) ≡ suc j) (turn i) _ _ _
        (λ less. elim (left i) as (λ m. left i ≡ m → found (walk turn left right steps (Left i) m) ≡ suc j → found (walk turn' left' right' (suc (suc steps)) slot' (suc i)) ≡ suc j) [
          | zero ↦ λ z e. absurd (omega arith)
          | suc k ↦ λ z e. ap found (on (suc steps) i slot' Less h less) ∙ ap (λ m. found (walk turn' left' right' (suc steps) (Left i) m)) (left_kept i k h z) ∙ kept steps (Left i) (Left i) (suc k) j (omega (arith, links i h)) e
        ] refl)
        (λ equal e. ap found (on (suc steps) i slot' Equal h equal) ∙ e)
        (λ more. elim (right i) as (λ m. right i ≡ m → found (walk turn left right steps (Right i) m) ≡ suc j → found (walk turn' left' right' (suc (suc steps)) slot' (suc i)) ≡ suc j) [
          | zero ↦ λ z e. absurd (omega arith)
          | suc k ↦ λ z e. ap found (on (suc steps) i slot' Greater h more) ∙ ap (λ m. found (walk turn' left' right' (suc steps) (Right i) m)) (right_kept i k h z) ∙ kept steps (Right i) (Right i) (suc k) j (omega (arith, links i h)) e
        ] refl)
        found-j

    module _ (new : turn' n ≡ Equal) where
      at_new : (steps : ℕ) (slot : Slot) (m : ℕ) → m ≡ suc n → found (walk turn' left' right' (suc steps) slot m) ≡ suc n
      at_new steps slot m e = ap (λ q. found (walk turn' left' right' (suc steps) slot q)) e ∙ ap (λ o. found (pick o (walk turn' left' right' steps (Left n) (left' n)) (Ok n) (walk turn' left' right' steps (Right n) (right' n)))) new

      -- the walk that ended at t finds the new row there
      pub hung : (steps : ℕ) (slot slot' : Slot) (i : ℕ) → suc i ≤ n → (t ≡ Root → ⊥) → walk turn left right steps slot (suc i) ≡ Err t → found (walk turn' left' right' (suc steps) slot' (suc i)) ≡ suc n
      hung zero slot slot' i h no-root e = absurd (no-root (let same : t ≡ Root = cc in same))
      hung (suc steps) slot slot' i h no-root ends =
          by_pick (λ s. s ≡ Err t → found (walk turn' left' right' (suc (suc steps)) slot' (suc i)) ≡ suc n) (turn i) _ _ _
          (λ less. elim (left i) as (λ m. left i ≡ m → walk turn left right steps (Left i) m ≡ Err t → found (walk turn' left' right' (suc (suc steps)) slot' (suc i)) ≡ suc n) [
            | zero ↦ λ z e. ap found (on (suc steps) i slot' Less h less) ∙ at_new steps (Left i) (left' i) (grown.left_hung i h (let same : Left i ≡ t = cc in same))
            | suc k ↦ λ z e. ap found (on (suc steps) i slot' Less h less) ∙ ap (λ m. found (walk turn' left' right' (suc steps) (Left i) m)) (left_kept i k h z) ∙ hung steps (Left i) (Left i) k (omega (arith, links i h)) no-root e
          ] refl)
          (λ equal e. absurd (omega (arith, ap found e)))
          (λ more. elim (right i) as (λ m. right i ≡ m → walk turn left right steps (Right i) m ≡ Err t → found (walk turn' left' right' (suc (suc steps)) slot' (suc i)) ≡ suc n) [
            | zero ↦ λ z e. ap found (on (suc steps) i slot' Greater h more) ∙ at_new steps (Right i) (right' i) (grown.right_hung i h (let same : Right i ≡ t = cc in same))
            | suc k ↦ λ z e. ap found (on (suc steps) i slot' Greater h more) ∙ ap (λ m. found (walk turn' left' right' (suc steps) (Right i) m)) (right_kept i k h z) ∙ hung steps (Right i) (Right i) k (omega (arith, links i h)) no-root e
          ] refl)
          ends

      -- the whole walk finds the new row
      pub found_new : walk turn left right n Root (root n) ≡ Err t → found (walk turn' left' right' (suc n) Root (root (suc n))) ≡ suc n
      found_new ends =
          let one : root (suc n) ≡ 1 = omega arith in
          ap (λ m. found (walk turn' left' right' (suc n) Root m)) one ∙ ⊎_elim
          (λ (q : 0 < n).
          let ends' : walk turn left right n Root 1 ≡ Err t = ap (λ m. walk turn left right n Root m) (let e : 1 ≡ root n = omega arith in e) ∙ ends in
          hung n Root Root 0 q (λ is. subst (Empty turn left right n links) (ends' ∙ ap Err is) (ends_empty turn left right n links n Root 0 q (omega arith))) ends')
          (λ (q : n ≤ 0). at_new n Root 1 (omega arith))
          (cases_lt 0 n)

-- one key more in the list
module _ {K : Type 0} (order : K → K → Ordering) (ks : List K) (k : K) (itself : order k k ≡ Equal) (left right left' right' : ℕ → ℕ) (t : Slot) (grown : Grown (length ks) left right left' right' t) (links : Links (length ks) left right) where
  old_turns : (y : K) (i : ℕ) → i < length ks → turns order (ks ++ k ∷ []) y i ≡ turns order ks y i
  old_turns y i h = old_of (order y) Equal ks k i h

  longer : (y : K) → found (sought order (ks ++ k ∷ []) left' right' y) ≡ found (walk (turns order (ks ++ k ∷ []) y) left' right' (suc (length ks)) Root (root (suc (length ks))))
  longer y = ap (λ m. found (walk (turns order (ks ++ k ∷ []) y) left' right' m Root (root m))) (length_push ks k ∙ add-one (length ks))

  pub reached_grown : sought order ks left right k ≡ Err t → Reached order ks left right → Reached order (ks ++ k ∷ []) left' right'
  reached_grown ends reached i y is =
      longer y ∙ ⊎_elim
      (λ (old : slice_get ks i ≡ Some y).
      let h = nth_below ks i y old in
      ap (λ m. found (walk (turns order (ks ++ k ∷ []) y) left' right' (suc (length ks)) Root m)) (let e : root (suc (length ks)) ≡ root (length ks) = omega arith in e)
      ∙ kept (length ks) left right left' right' t grown links (turns order ks y) (turns order (ks ++ k ∷ []) y) (old_turns y) (length ks) Root Root (root (length ks)) i (omega arith) (reached i y old))
      (λ p. ap (λ q. found (walk (turns order (ks ++ k ∷ []) q) left' right' (suc (length ks)) Root (root (suc (length ks))))) p.1
      ∙ found_new (length ks) left right left' right' t grown links (turns order ks k) (turns order (ks ++ k ∷ []) k) (old_turns k) (new_of (order k) Equal ks k (length ks) refl ∙ itself) ends
      ∙ ap suc (sym p.0))
      (nth_push ks k y i is)
