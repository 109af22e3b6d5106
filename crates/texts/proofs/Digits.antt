-- The writing of a number.
use Rattle.std.proofs.Common.{◌≡◌, ℕ, ◌+◌, ◌/◌, ◌%◌, ◌^◌, ◌<◌, ◌≤◌, [], ◌∷◌, ◌++◌, decimal, sym, ap, ◌∙◌, inl, inr, arith}
use Rattle.std.proofs.lemmas.Fmt.{AppendsLastDigit, decimal_from_appends, decimal_digit, decimal_step, length-decimal-le}
use Rattle.std.proofs.lemmas.Bool.{eq-eqb, ne_eqb, cond-true, cond-false, cases_lt}
use Rattle.texts.specs.Numbers.{digits_in, digits, Written}

spells : AppendsLastDigit digits_in
spells = record {
  one = λ k n h. ap (λ l. l ++ ((48 + n % 10) ∷ [])) (cond-true _ _ _ (eq-eqb (n / 10) 0 (omega arith))) ∙ ap (λ d. d ∷ []) (omega arith);
  more = λ k n h. ap (λ l. l ++ ((48 + n % 10) ∷ [])) (cond-false _ _ _ (ne_eqb (n / 10) 0 (λ e. omega arith)));
}

-- the same as std writes
pub digits_is : (n : ℕ) → n < 2 ^ 64 → digits n ≡ decimal n
unfolding digits
digits_is n h = decimal_from_appends digits_in spells 20 n h (length-decimal-le 20 n (omega arith) (omega arith) h)

digits_one : (n : ℕ) → n < 10 → digits n ≡ (48 + n % 10) ∷ []
digits_one n h = digits_is n (omega arith) ∙ decimal_digit n h ∙ ap (λ d. d ∷ []) (omega arith)

digits_more : (n : ℕ) → n < 2 ^ 64 → 10 ≤ n → digits n ≡ digits (n / 10) ++ ((48 + n % 10) ∷ [])
digits_more n s h = digits_is n s ∙ decimal_step n h s ∙ ap (λ l. l ++ ((48 + n % 10) ∷ [])) (sym (digits_is (n / 10) (omega arith)))

pub written : Written
written n s =
    elim (cases_lt n 10) [
      | inl h ↦ digits_one n h ∙ sym (ap (λ l. l ++ ((48 + n % 10) ∷ [])) (cond-true _ _ _ (eq-eqb (n / 10) 0 (omega arith))))
      | inr h ↦ digits_more n s h ∙ sym (ap (λ l. l ++ ((48 + n % 10) ∷ [])) (cond-false _ _ _ (ne_eqb (n / 10) 0 (λ e. omega arith))))
    ]
