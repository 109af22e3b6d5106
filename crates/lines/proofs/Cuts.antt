-- Lists cut at a byte.
use Rattle.std.proofs.Common.{suc, ltb, inl, inr, true, false, cond, not, None, Some, ◌≡◌, ℕ, ◌+◌, ◌<◌, ◌≤◌, eqb, List, [], ◌∷◌, ◌++◌, length, take, drop, sym, refl, ap, ◌∙◌, arith, length-append}
use Rattle.std.proofs.lemmas.List.{take-append-drop, drop_more}
use Rattle.std.proofs.lemmas.List.Quantifiers.{position-Some}
use Rattle.std.proofs.lemmas.List.Splits.{length-slice_split}
use Rattle.std.proofs.lemmas.Option.{cond_some, none-some}
use Rattle.std.proofs.lemmas.Bool.{cases_lt, lt-ltb, eqb-true, cond-true}
use Rattle.std.specs.List.{onto_first, position, position_or_len}
use Rattle.lines.specs.Parts.{parts, CutAt}

-- there is a part, always
pub parts_some : (b : ℕ) (bs : List ℕ) → 0 < length (parts b bs)
parts_some b bs = omega (arith, length-slice_split (λ x. eqb x b) bs)

-- ---- cut where a byte first stands

module _ (b : ℕ) where
  abbrev first : List ℕ → ℕ
  first bs = position_or_len (λ x. eqb x b) bs

  cut_first : (bs : List ℕ) → first bs < length bs → parts b bs ≡ take (first bs) bs ∷ parts b (drop (first bs + 1) bs)
  cut_first [] h = absurd (omega arith)
  cut_first (x ∷ xs) h = by_byte (eqb x b) (cut_first xs) h
    where
      by_byte : (t : _) → (first xs < length xs → parts b xs ≡ take (first xs) xs ∷ parts b (drop (first xs + 1) xs)) → cond (not t) (1 + first xs) 0 < length (x ∷ xs)
          → cond t ([] ∷ parts b xs) (onto_first x (parts b xs)) ≡ take (cond (not t) (1 + first xs) 0) (x ∷ xs) ∷ parts b (drop (cond (not t) (1 + first xs) 0 + 1) (x ∷ xs))
      by_byte true more h = refl
      by_byte false more h =
          let one : suc (first xs) ≡ 1 + first xs = omega arith in
          let two : suc (first xs + 1) ≡ 1 + first xs + 1 = omega arith in
          ap (onto_first x) (more (omega (arith, h))) ∙ ap (λ k. take k (x ∷ xs) ∷ parts b (drop (first xs + 1) xs)) one ∙ ap (λ k. take (1 + first xs) (x ∷ xs) ∷ parts b (drop k (x ∷ xs))) two

  none_first : (bs : List ℕ) → length bs ≤ first bs → parts b bs ≡ bs ∷ []
  none_first [] h = refl
  none_first (x ∷ xs) h = by_byte (eqb x b) (none_first xs) h
    where
      by_byte : (t : _) → (length xs ≤ first xs → parts b xs ≡ xs ∷ []) → length (x ∷ xs) ≤ cond (not t) (1 + first xs) 0 → cond t ([] ∷ parts b xs) (onto_first x (parts b xs)) ≡ (x ∷ xs) ∷ []
      by_byte true more h = absurd (omega (arith, h))
      by_byte false more h = ap (onto_first x) (more (omega (arith, h)))

  pub cut_none : (bs : List ℕ) → None ≡ position (λ x. eqb x b) bs → parts b bs ≡ bs ∷ []
  cut_none bs e =
      elim (cases_lt (first bs) (length bs)) [
        | inl h ↦ absurd (none-some (first bs) (e ∙ cond-true _ _ _ (lt-ltb (first bs) (length bs) h)))
        | inr h ↦ none_first bs h
      ]

  pub cut_some : (bs : List ℕ) (n : ℕ) (front back : List ℕ) → Some n ≡ position (λ x. eqb x b) bs → front ≡ take n bs → back ≡ drop (n + 1) bs → CutAt b bs front back
  cut_some bs n front back e p q =
      let at = position-Some (λ x. eqb x b) bs n 0 (sym e) in
      let byte = at.1 in
      let same : first bs ≡ n = (cond_some (ltb (first bs) (length bs)) (first bs) n (sym e)).1 in
      let whole : bs ≡ front ++ (b ∷ back) =
      sym (take-append-drop n bs) ∙ ap (λ l. take n bs ++ l) (drop_more bs n 0 at.0 ∙ ap (λ x. x ∷ drop (n + 1) bs) (eqb-true _ _ byte)) ∙ sym (ap (λ l. l ++ (b ∷ back)) p ∙ ap (λ l. take n bs ++ (b ∷ l)) q) in
      record {
        cut = cut_first bs (omega (arith, same, at.0)) ∙ ap (λ k. take k bs ∷ parts b (drop (k + 1) bs)) same ∙ sym (ap (λ l. l ∷ parts b back) p ∙ ap (λ l. take n bs ∷ parts b l) q);
        whole = whole;
        long = omega (arith, simp length-append at (ap length whole));
      }

-- a byte b stands in bs: there are two parts and more
pub two_parts : (b : ℕ) (bs front back : List ℕ) → CutAt b bs front back → 2 ≤ length (parts b bs)
two_parts b bs front back c = omega (arith, ap length c.cut, parts_some b back)
