-- The number of a key in a list, and what `name` is to answer and leave. Assumes nothing.
use Rattle.std.proofs.Common.{◌≡◌, ℕ, zero, suc, ◌+◌, ◌-◌, ◌<◌, ◌≤◌, false, ltb, List, [], ◌∷◌, ◌++◌, length, Some, None, Ok, Err, Option, Result, Ordering, Less, Equal, Greater, sym, refl, ap, ◌∙◌, subst, arith}
use Rattle.std.specs.List.{slice_get}
use Rattle.std.specs.Ordering.{is_eq}
use Rattle.std.proofs.lemmas.Bool.{cond-true, cond-false, lt-ltb, le-ltb}
use Rattle.dictionary.specs.Does.{out, Did}
use Rattle.dictionary.specs.Meaning.{Meaning, meaning, more, full, or_absent, key_of, number_from, number_of, finding, append, name_at, naming}
use Rattle.dictionary.specs.declared.refusals.Full.{Full}

not_equal : (o : Ordering) → (o ≡ Equal → ⊥) → is_eq o ≡ false
not_equal Less h = refl
not_equal Equal h = absurd (h refl)
not_equal Greater h = refl

module _ {K : Type 0} (order : K → K → Ordering) (k : K) where
  none_from : (n : ℕ) (ks : List K) → ((i : ℕ) (y : K) → slice_get ks i ≡ Some y → order k y ≡ Equal → ⊥) → number_from order n ks k ≡ None
  none_from n [] no_one = refl
  none_from n (y ∷ ys) no_one =
      cond-false (is_eq (order k y)) (Some n) _ (not_equal (order k y) (no_one 0 y refl)) ∙ none_from (n + 1) ys (λ i z is. no_one (suc i) z is)

  some_from : (n : ℕ) (ks : List K) (j : ℕ) (x : K) → slice_get ks j ≡ Some x → order k x ≡ Equal → ((i : ℕ) (y : K) → slice_get ks i ≡ Some y → order k y ≡ Equal → i ≡ j) → number_from order n ks k ≡ Some (n + j)
  some_from n [] j x is same only = let z : ◌≡◌ {A = ℕ} 0 1 = cc in absurd (omega arith)
  some_from n (y ∷ ys) zero x is same only =
      let e : y ≡ x = cc in
      cond-true (is_eq (order k y)) (Some n) _ (ap (λ v. is_eq (order k v)) e ∙ ap is_eq same) ∙ ap Some (omega arith)
  some_from n (y ∷ ys) (suc j) x is same only =
      cond-false (is_eq (order k y)) (Some n) _ (not_equal (order k y) (λ e. let z = only 0 y refl e in absurd (omega arith)))
      ∙ some_from (n + 1) ys j x is same (λ i z at e. let q = only (suc i) z at e in omega arith)
      ∙ ap Some (omega arith)

  -- `met` is the number of the key that a make met on its way, or 0, and each place with the sought key has that number
  module _ (ks : List K) (met : ℕ) (only : (i : ℕ) (y : K) → slice_get ks i ≡ Some y → order k y ≡ Equal → met ≡ suc i) where
    pub number_none : met ≡ 0 → number_of order ks k ≡ None
    number_none e = none_from 1 ks (λ i y is same. let q = only i y is same in absurd (omega arith))

    pub number_some : (j : ℕ) (x : K) → slice_get ks j ≡ Some x → order k x ≡ Equal → number_of order ks k ≡ Some (suc j)
    number_some j x is same =
        let here = only j x is same in
        some_from 1 ks j x is same (λ i y at e. let q = only i y at e in omega arith) ∙ ap Some (omega arith)

  -- the calls on a dictionary with those keys, once the ask is counted
  module _ (ks : List K) (cap a a' : ℕ) (counted : a' ≡ more a) where
    pub did_find : (r : Option ℕ) → number_of order ks k ≡ r → Did (finding order k (meaning ks cap a)) r (meaning ks cap a')
    did_find r e = record { answer = sym e; after = ap (meaning ks cap) counted }

    pub did_old : (n : ℕ) → number_of order ks k ≡ Some n → Did (naming order k (meaning ks cap a)) (Ok n) (meaning ks cap a')
    did_old n e =
        let says : naming order k (meaning ks cap a) ≡ out (Ok n) (meaning ks cap (more a)) = ap (λ o. name_at order o k (meaning ks cap (more a))) e in
        record { answer = sym (ap (λ q. q.answer) says); after = ap (meaning ks cap) counted ∙ sym (ap (λ q. q.after) says) }

    pub did_append : number_of order ks k ≡ None → (r : Result ℕ Full) (m : Meaning K) → Did (append k (meaning ks cap a')) r m → Did (naming order k (meaning ks cap a)) r m
    did_append e r m done =
        subst (λ o. Did o r m) (ap (λ q. append k (meaning ks cap q)) counted ∙ sym (ap (λ o. name_at order o k (meaning ks cap (more a))) e)) done

-- a key that isn't in the list: there is room, or none
module _ {K : Type 0} (k : K) (ks : List K) (cap a n : ℕ) (long : length ks ≡ n) where
  pub appended : (ks' : List K) (cap' : ℕ) → n < cap → ks' ≡ ks ++ k ∷ [] → cap' ≡ cap → Did (append k (meaning ks cap a)) (Ok (n + 1)) (meaning ks' cap' a)
  appended ks' cap' h longer same =
      let says : append k (meaning ks cap a) ≡ out (Ok (n + 1)) (meaning (ks ++ k ∷ []) cap a) =
      cond-true (ltb (length ks) cap) _ _ (lt-ltb _ _ (omega arith)) ∙ ap (λ q. out (Ok (q + 1)) (meaning (ks ++ k ∷ []) cap a)) long
      in
      record { answer = sym (ap (λ q. q.answer) says); after = (λ i. meaning (longer i) (same i) a) ∙ sym (ap (λ q. q.after) says) }

  pub refused : cap ≤ n → Did (append k (meaning ks cap a)) (Err (full n)) (meaning ks cap a)
  refused h =
      let says : append k (meaning ks cap a) ≡ out (Err (full n)) (meaning ks cap a) =
      cond-false (ltb (length ks) cap) _ _ (le-ltb _ _ (omega arith)) ∙ ap (λ q. out (Err (full q)) (meaning ks cap a)) long
      in
      record { answer = sym (ap (λ q. q.answer) says); after = sym (ap (λ q. q.after) says) }

-- key n
pub key_there : {K : Type 0} (ks : List K) (n : ℕ) (k : K) → 0 < n → slice_get ks (n - 1) ≡ Some k → Ok k ≡ or_absent (key_of ks n)
key_there ks n k some e = sym (ap (λ m. or_absent (key_of ks m)) (let s : n ≡ suc (n - 1) = omega arith in s) ∙ ap or_absent e)
