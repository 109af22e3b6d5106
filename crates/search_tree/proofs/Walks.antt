-- The walk through a search tree, step by step. Assumes nothing.
use Rattle.std.proofs.Common.{◌≡◌, ℕ, zero, suc, ◌+◌, ◌-◌, ◌<◌, ◌≤◌, Ok, Result, Some, None, Option, List, length, get_or, take, Ordering, Less, Equal, Greater, sym, ap, ◌∙◌, subst, arith}
use Rattle.std.proofs.lemmas.List.{get_or-take}
use Rattle.search_tree.specs.Tree.{link, root, pick, walk, turns, keys, lefts, rights, Linked, ends}
use Rattle.search_tree.specs.declared.row.TreeRow.{TreeRow}
use Rattle.dictionary.specs.declared.rows.Slot.{Slot}
use Rattle.dictionary.specs.declared.rows.Slot.TheVariants.{Root, Left, Right}
use Rattle.dictionary.specs.Facts.{held_long}
use Rattle.dictionary.proofs.Held.{held_of, column_at}

module _ (turn : ℕ → Ordering) (left right : ℕ → ℕ) (n : ℕ) where
  -- the walk that is left ends where the whole walk does, and so many steps are enough for it
  pub record Rest (slot : Slot) (at : ℕ) : Type 0 where
    pub steps : ℕ
    pub within : at ≤ n
    pub enough : 0 < at → n + 1 ≤ steps + at
    pub ends : walk turn left right steps slot at ≡ walk turn left right n Root (root n)

  abbrev after : ℕ → ℕ → Result ℕ Slot
  after steps i = pick (turn i) (walk turn left right steps (Left i) (left i)) (Ok i) (walk turn left right steps (Right i) (right i))

  -- one step from row i, to the link l
  pub rest_on : (slot : Slot) (i : ℕ) (slot' : Slot) (l : ℕ) → ((steps : ℕ) → after steps i ≡ walk turn left right steps slot' l) → l ≤ n → (0 < l → i + 1 < l) → Rest slot (suc i) → Rest slot' l
  rest_on slot i slot' l goes low later r =
      elim r.steps as (λ m. n + 1 ≤ m + suc i → walk turn left right m slot (suc i) ≡ walk turn left right n Root (root n) → Rest slot' l) [
        | zero ↦ λ p w. absurd (omega (arith, r.within))
        | suc m ↦ λ p w. record { steps = m; within = low; enough = λ q. omega (arith, later q); ends = sym (goes m) ∙ w }
      ] (r.enough (omega arith)) r.ends

  pub rest_here : (slot : Slot) (i : ℕ) → turn i ≡ Equal → Rest slot (suc i) → Ok i ≡ walk turn left right n Root (root n)
  rest_here slot i same r =
      elim r.steps as (λ m. n + 1 ≤ m + suc i → walk turn left right m slot (suc i) ≡ walk turn left right n Root (root n) → Ok i ≡ walk turn left right n Root (root n)) [
        | zero ↦ λ p w. absurd (omega (arith, r.within))
        | suc m ↦ λ p w. sym (ap (λ o. pick o (walk turn left right m (Left i) (left i)) (Ok i) (walk turn left right m (Right i) (right i))) same) ∙ w
      ] (r.enough (omega arith)) r.ends

-- what falls with each step, among n rows
abbrev pub to_go : ℕ → Option ℕ → ℕ
to_go n None = 0
to_go n (Some i) = n - i

-- the same at rows: w is row i, where the link leads, read among the rows that hold keys
module _ {K : Type 0} (order : K → K → Ordering) (rows : List (TreeRow K)) (n : ℕ) (k : K) (long : n ≤ length rows) (links : Linked n rows) where
  abbrev pub Resting : Slot → ℕ → Type 0
  Resting slot at = Rest (turns order (keys rows n) k) (lefts rows) (rights rows) n slot at

  abbrev going : ℕ → Slot → ℕ → Result ℕ Slot
  going = walk (turns order (keys rows n) k) (lefts rows) (rights rows)

  whole : going n Root (root n) ≡ ends order n rows k
  whole = ap (λ m. going m Root (root m)) (sym (held_long (λ w. w.key) rows n long))

  module _ (front : List (TreeRow K)) (held : front ≡ take n rows) (slot : Slot) (l : Option ℕ) (i : ℕ) (is_some : l ≡ Some i) (w : TreeRow K) (read : w ≡ get_or front i w) (rest : Resting slot (link l)) where
    r : Resting slot (suc i)
    r = subst (λ q. Resting slot (link q)) is_some rest

    below : i < n
    below = omega (arith, r.within)

    is : w ≡ get_or rows i w
    is = read ∙ ap (λ q. get_or q i w) held ∙ get_or-take n rows i w below

    turn_is : turns order (keys rows n) k i ≡ order k w.key
    turn_is = held_of (λ v. v.key) rows n i w long below is (order k) Equal

    left_is : lefts rows i ≡ w.left.0
    left_is = column_at (λ v. v.left.0) rows i w (omega (arith, below)) is

    right_is : rights rows i ≡ w.right.0
    right_is = column_at (λ v. v.right.0) rows i w (omega (arith, below)) is

    left_later : (w.left.0 ≤ n) × (0 < w.left.0 → i + 1 < w.left.0)
    left_later = subst (λ q. (q ≤ n) × (0 < q → i + 1 < q)) left_is (let o = links i below in (o.0, o.1))

    right_later : (w.right.0 ≤ n) × (0 < w.right.0 → i + 1 < w.right.0)
    right_later = subst (λ q. (q ≤ n) × (0 < q → i + 1 < q)) right_is (let o = links i below in (o.2, o.3))

    -- one step, as the order turns it
    step : (o : Ordering) → order k w.key ≡ o → (m : ℕ) → going (suc m) slot (suc i) ≡ pick o (going m (Left i) w.left.0) (Ok i) (going m (Right i) w.right.0)
    step o e m = λ j. pick ((turn_is ∙ e) j) (going m (Left i) (left_is j)) (Ok i) (going m (Right i) (right_is j))

    pub go_left : order k w.key ≡ Less → (next : Option ℕ) → link next ≡ w.left.0 → Resting (Left i) (link next)
    go_left less next e = subst (Resting (Left i)) (sym e) (rest_on _ _ _ n slot i (Left i) w.left.0 (step Less less) left_later.0 left_later.1 r)

    pub go_right : order k w.key ≡ Greater → (next : Option ℕ) → link next ≡ w.right.0 → Resting (Right i) (link next)
    go_right greater next e = subst (Resting (Right i)) (sym e) (rest_on _ _ _ n slot i (Right i) w.right.0 (step Greater greater) right_later.0 right_later.1 r)

    pub stop_here : order k w.key ≡ Equal → Ok i ≡ ends order n rows k
    stop_here same = rest_here _ _ _ n slot i (turn_is ∙ same) r ∙ whole
