-- What a naming answers and leaves, and what a later naming of the same key does. Assumes nothing.
use Rattle.std.proofs.Common.{◌≡◌, ℕ, suc, ◌+◌, ◌<◌, ◌≤◌, Bool, true, false, cond, ltb, List, [], ◌∷◌, ◌++◌, length, Some, None, Ok, Err, Option, Result, Ordering, Less, Equal, Greater, sym, refl, ap, ◌∙◌, subst, inl, inr, arith}
use Rattle.std.specs.List.{slice_get}
use Rattle.std.specs.Ordering.{is_eq}
use Rattle.std.proofs.lemmas.List.{append-nil, length_push}
use Rattle.std.proofs.lemmas.Bool.{cases_Bool, cond-true, cond-false, ltb-true, ltb-false}
use Rattle.dictionary.specs.Does.{Out, out}
use Rattle.dictionary.specs.Meaning.{Meaning, meaning, more, asked, full, key_of, number_from, number_of, name_at, naming}
use Rattle.dictionary.specs.declared.refusals.Full.{Full}
use Rattle.scheme.specs.Standing.{Longer}

is_equal : (o : Ordering) → is_eq o ≡ true → o ≡ Equal
is_equal Less e = let z : ◌≡◌ {A = ℕ} 0 1 = cc in absurd (omega arith)
is_equal Equal e = refl
is_equal Greater e = let z : ◌≡◌ {A = ℕ} 0 1 = cc in absurd (omega arith)

-- ---- numbers

module _ {K : Type 0} (order : K → K → Ordering) (k : K) where
  number_kept_from : (n : ℕ) (ks later : List K) (m : ℕ) → number_from order n ks k ≡ Some m → number_from order n (ks ++ later) k ≡ Some m
  number_kept_from n [] later m e = let z : ◌≡◌ {A = ℕ} 0 1 = cc in absurd (omega arith)
  number_kept_from n (y ∷ ys) later m e =
      elim (cases_Bool (is_eq (order k y))) [
        | inl t ↦ cond-true (is_eq (order k y)) (Some n) (number_from order (n + 1) (ys ++ later) k) t ∙ sym (cond-true (is_eq (order k y)) (Some n) (number_from order (n + 1) ys k) t) ∙ e
        | inr t ↦
            cond-false (is_eq (order k y)) (Some n) (number_from order (n + 1) (ys ++ later) k) t
            ∙ number_kept_from (n + 1) ys later m (sym (cond-false (is_eq (order k y)) (Some n) (number_from order (n + 1) ys k) t) ∙ e)
      ]

  -- a key that has a number keeps it
  pub number_kept : (ks ks' : List K) (m : ℕ) → Longer ks ks' → number_of order ks k ≡ Some m → number_of order ks' k ≡ Some m
  number_kept ks ks' m l e = ap (λ l. number_of order l k) l.1 ∙ number_kept_from 1 ks l.0 m e

  number_pushed_from : (n : ℕ) (ks : List K) → order k k ≡ Equal → number_from order n ks k ≡ None → number_from order n (ks ++ k ∷ []) k ≡ Some (n + length ks)
  number_pushed_from n [] self e = cond-true (is_eq (order k k)) (Some n) None (ap is_eq self) ∙ ap Some (omega arith)
  number_pushed_from n (y ∷ ys) self e =
      elim (cases_Bool (is_eq (order k y))) [
        | inl t ↦ let s = cond-true (is_eq (order k y)) (Some n) (number_from order (n + 1) ys k) t in let z : ◌≡◌ {A = ℕ} 0 1 = cc in absurd (omega arith)
        | inr t ↦
            cond-false (is_eq (order k y)) (Some n) (number_from order (n + 1) (ys ++ k ∷ []) k) t
            ∙ number_pushed_from (n + 1) ys self (sym (cond-false (is_eq (order k y)) (Some n) (number_from order (n + 1) ys k) t) ∙ e)
            ∙ ap Some (omega arith)
      ]

  -- a key just appended has the next number
  pub number_pushed : (ks : List K) → order k k ≡ Equal → number_of order ks k ≡ None → number_of order (ks ++ k ∷ []) k ≡ Some (length ks + 1)
  number_pushed ks self e = number_pushed_from 1 ks self e ∙ ap Some (omega arith)

  number_is_from : (n : ℕ) (ks : List K) (m : ℕ) → ((y : K) → order k y ≡ Equal → k ≡ y) → number_from order n ks k ≡ Some m → (i : ℕ) × (m ≡ n + i) × (slice_get ks i ≡ Some k)
  number_is_from n [] m same e = let z : ◌≡◌ {A = ℕ} 0 1 = cc in absurd (omega arith)
  number_is_from n (y ∷ ys) m same e =
      elim (cases_Bool (is_eq (order k y))) [
        | inl t ↦
            let s = cond-true (is_eq (order k y)) (Some n) (number_from order (n + 1) ys k) t in
            let here : n ≡ m = cc in
            (0, omega arith, ap Some (sym (same y (is_equal (order k y) t))))
        | inr t ↦
            let rest = number_is_from (n + 1) ys m same (sym (cond-false (is_eq (order k y)) (Some n) (number_from order (n + 1) ys k) t) ∙ e) in
            (suc rest.0, (let q = rest.1 in omega arith), rest.2)
      ]

  -- the number of a key is that of the same key
  pub number_is : (ks : List K) (m : ℕ) → ((y : K) → order k y ≡ Equal → k ≡ y) → number_of order ks k ≡ Some m → key_of ks m ≡ Some k
  number_is ks m same e =
      let found = number_is_from 1 ks m same e in
      let q = found.1 in
      let at : m ≡ suc found.0 = omega arith in
      ap (key_of ks) at ∙ found.2

-- ---- what a naming does

module _ {K : Type 0} (order : K → K → Ordering) (k : K) (m : Meaning K) where
  pub data Ways : Type 0 where
    old : (n : ℕ) → number_of order m.keys k ≡ Some n → naming order k m ≡ out (Ok n) (asked m) → Ways
    new : number_of order m.keys k ≡ None → length m.keys < m.capacity → naming order k m ≡ out (Ok (length m.keys + 1)) (meaning (m.keys ++ k ∷ []) m.capacity (more m.asks)) → Ways
    refused : number_of order m.keys k ≡ None → m.capacity ≤ length m.keys → naming order k m ≡ out (Err (full (length m.keys))) (asked m) → Ways

  pub ways : Ways
  ways = go (number_of order m.keys k) refl
    where
      go : (o : Option ℕ) → number_of order m.keys k ≡ o → Ways
      go (Some n) e = old n e (ap (λ o. name_at order o k (asked m)) e)
      go None e =
          elim (cases_Bool (ltb (length m.keys) m.capacity)) [
            | inl t ↦ new e (ltb-true _ _ t) (ap (λ o. name_at order o k (asked m)) e ∙ cond-true (ltb (length m.keys) m.capacity) _ _ t)
            | inr t ↦ refused e (ltb-false _ _ t) (ap (λ o. name_at order o k (asked m)) e ∙ cond-false (ltb (length m.keys) m.capacity) _ _ t)
          ]

  pub name_longer : Longer m.keys (naming order k m).after.keys
  name_longer =
      elim ways [
        | old n f e ↦ rw e ([], sym (append-nil m.keys))
        | new f l e ↦ rw e (k ∷ [], refl)
        | refused f l e ↦ rw e ([], sym (append-nil m.keys))
      ]

  pub name_room : (naming order k m).after.capacity ≡ m.capacity
  name_room = elim ways [ old n f e ↦ rw e | new f l e ↦ rw e | refused f l e ↦ rw e ]

  pub name_asks : (naming order k m).after.asks ≡ more m.asks
  name_asks = elim ways [ old n f e ↦ rw e | new f l e ↦ rw e | refused f l e ↦ rw e ]

  -- a key that was named is in the list
  pub name_found : order k k ≡ Equal → (n : ℕ) → (naming order k m).answer ≡ Ok n → number_of order (naming order k m).after.keys k ≡ Some n
  name_found self n a =
      elim ways [
        | old i f e ↦ let same : i ≡ n = cc in rw e (f ∙ ap Some same)
        | new f l e ↦ let same : length m.keys + 1 ≡ n = cc in rw e (number_pushed order k m.keys self f ∙ ap Some same)
        | refused f l e ↦ let z : ◌≡◌ {A = ℕ} 0 1 = cc in absurd (omega arith)
      ]

  -- and one that is in the list is named without a change
  pub name_known : (n : ℕ) → number_of order m.keys k ≡ Some n → naming order k m ≡ out (Ok n) (asked m)
  name_known n f = ap (λ o. name_at order o k (asked m)) f

  pub name_full : m.capacity ≤ length m.keys → (naming order k m).after ≡ asked m
  name_full h = elim ways [ old n f e ↦ rw e | new f l e ↦ absurd (omega arith) | refused f l e ↦ rw e ]

  -- no number passes a bound of the keys and the capacity
  pub name_within : (most : ℕ) → length m.keys ≤ most → m.capacity ≤ most → length (naming order k m).after.keys ≤ most
  name_within most h c =
      elim ways [
        | old n f e ↦ rw e h
        | new f l e ↦ rw e (omega (arith, length_push m.keys k))
        | refused f l e ↦ rw e h
      ]

-- the count of asks says nothing of the answer
pub record Alike {K : Type 0} (o o' : Out (Result ℕ Full) (Meaning K)) : Type 0 where
  pub answer : o.answer ≡ o'.answer
  pub keys : o'.after.keys ≡ o.after.keys
  pub room : o'.after.capacity ≡ o.after.capacity

module _ {K : Type 0} (order : K → K → Ordering) (k : K) where
  append_alike : (ks : List K) (cap a a' : ℕ) (t : Bool) → Alike (cond t (out (Ok (length ks + 1)) (meaning (ks ++ k ∷ []) cap a)) (out (Err (full (length ks))) (meaning ks cap a))) (cond t (out (Ok (length ks + 1)) (meaning (ks ++ k ∷ []) cap a')) (out (Err (full (length ks))) (meaning ks cap a')))
  append_alike ks cap a a' true = record { answer = refl; keys = refl; room = refl }
  append_alike ks cap a a' false = record { answer = refl; keys = refl; room = refl }

  at_alike : (ks : List K) (cap a a' : ℕ) (o : Option ℕ) → Alike (name_at order o k (meaning ks cap a)) (name_at order o k (meaning ks cap a'))
  at_alike ks cap a a' (Some n) = record { answer = refl; keys = refl; room = refl }
  at_alike ks cap a a' None = append_alike ks cap a a' (ltb (length ks) cap)

  pub name_alike : (m m' : Meaning K) → m'.keys ≡ m.keys → m'.capacity ≡ m.capacity → Alike (naming order k m) (naming order k m')
  name_alike m m' e c =
      subst (λ (w : Meaning K). Alike (naming order k m) (name_at order (number_of order w.keys k) k w)) same (at_alike m.keys m.capacity (more m.asks) (more m'.asks) (number_of order m.keys k))
    where
      same : meaning m.keys m.capacity (more m'.asks) ≡ asked m'
      same = λ i. meaning (sym e i) (sym c i) (more m'.asks)
