-- A row that keeps a front of one row and an end of another.
use Rattle.std.proofs.Common.{◌≡◌, ℕ, ◌+◌, ◌-◌, ◌<◌, ◌≤◌, min, true, ◌⊎◌, List, [], ◌∷◌, ◌++◌, length, take, drop, sym, refl, ap, ◌∙◌, ap₂, inl, inr, ⊎_elim, zero-add, arith, length-append, length-drop, length-take}
use Rattle.std.specs.List.{AllByRecursion}
use Rattle.std.proofs.lemmas.List.{append_assoc, append-nil, get_or_append_left, get_or-append-add, take-append-drop, take-append-le, take_at, drop_at, drop-drop, nil_from_length}
use Rattle.std.proofs.lemmas.Bool.{cases_lt}
use Rattle.cutting.specs.Rows.{at, cuts}
use Rattle.cutting.specs.Blocks.{parted, blocks, flat, Fit}
use Rattle.cutting.specs.Splice.{Kept, FarFromEnd, FarFromFront, SpliceKeeps, ReachFront, ReachEnd, SpliceFew, SpliceBounded}
use Rattle.cutting.proofs.Near.{local, local_front}
use Rattle.cutting.proofs.Parts.{parted_flat, parted-append, parted_same, begins_first, blocks_begin}
use Rattle.cutting.proofs.Six.{begins_near}
use Rattle.cutting.proofs.Fits.{blocks_fit, half_fit}

some_blocks : (bs : List (List ℕ)) → 0 < length (flat bs) → 0 < length bs
some_blocks [] h = absurd (omega arith)
some_blocks (b ∷ bs) h = omega arith

-- ---- a row F ++ R keeps what F ++ X' has in F

module _ (F R X' : List ℕ) where
  cut_front : (k : ℕ) → k + 4 < length F → cuts (F ++ R) k ≡ cuts (F ++ X') k
  cut_front k l =
      local_front (length (F ++ R)) (length (F ++ X')) (at (F ++ R)) (at (F ++ X')) k
      (omega (arith, length-append F R)) (omega (arith, length-append F X'))
      (λ z u. get_or_append_left F R 0 z (omega arith) ∙ sym (get_or_append_left F X' 0 z (omega arith)))

record FrontKept (F R : List ℕ) (before : List (List ℕ)) : Type 0 where
  within : length (flat before) ≤ length F
  names : take (length (flat before)) F ≡ flat before
  begins : cuts (F ++ R) (length (flat before)) ≡ true
  same : parted (cuts (F ++ R)) 0 (flat before) ≡ before

front_kept : (F R X' : List ℕ) (before lost : List (List ℕ)) → blocks (F ++ X') ≡ before ++ lost → FarFromEnd F before → FrontKept F R before
front_kept F R X' before lost e far =
    let b = blocks_begin (F ++ X') before lost e in
    let s : ℕ = length (flat before) in
    let none : before ≡ [] → s ≡ 0 = λ z. ap (λ bs. length (flat bs)) z in
    let within : s ≤ length F = ⊎_elim (λ z. omega (arith, none z)) (λ l. omega arith) far in
    let size : s + length (flat lost) ≡ length F + length X' = sym (length-append (flat before) (flat lost)) ∙ ap length b.names ∙ length-append F X' in
    record {
      within = within;
      names = sym (take-append-le s F X' within) ∙ ap (take s) (sym b.names) ∙ take_at (flat before) (flat lost) s refl;
      begins = ⊎_elim (λ z. ap (cuts (F ++ R)) (none z) ∙ begins_first (F ++ R)) (λ l. cut_front F R X' s l ∙ b.begins (some_blocks lost (omega arith))) far;
      same = parted_same (cuts (F ++ R)) (cuts (F ++ X')) 0 0 (flat before)
          (λ k p l. simp zero-add (cut_front F R X' k (⊎_elim (λ z. absurd (omega (arith, none z))) (λ z. omega arith) far))) ∙ sym b.front;
    }

-- ---- a row P ++ E keeps what Y' ++ E has in E

module _ (P E Y' : List ℕ) where
  -- at u in the one and at v in the other, which are as far from the end
  cut_end : (u v : ℕ) → u + length Y' ≡ v + length P → length Y' + 8 ≤ v → v < length (Y' ++ E) → cuts (P ++ E) u ≡ cuts (Y' ++ E) v
  cut_end u v e l m =
      let n = length (P ++ E) in
      let n' = length (Y' ++ E) in
      let hn : n ≡ length P + length E = length-append P E in
      let hn' : n' ≡ length Y' + length E = length-append Y' E in
      local n n' (at (P ++ E)) (at (Y' ++ E)) u v (omega arith) (record {
        before = omega arith;
        after = omega arith;
        names = λ x y d p q r.
            let z : ℕ = y - length Y' in
            let hx : x ≡ length P + z = omega arith in
            let hy : length Y' + z ≡ y = omega arith in
            ap (at (P ++ E)) hx ∙ get_or-append-add P E z 0 ∙ sym (get_or-append-add Y' E z 0) ∙ ap (at (Y' ++ E)) hy;
      })

record EndKept (P E : List ℕ) (after : List (List ℕ)) : Type 0 where
  within : length (flat after) ≤ length E
  names : drop (length E - length (flat after)) E ≡ flat after
  begins : (flat after ≡ []) ⊎ (cuts (P ++ E) (length P + (length E - length (flat after))) ≡ true)
  same : parted (cuts (P ++ E)) (length P + (length E - length (flat after))) (flat after) ≡ after

end_kept : (P E Y' : List ℕ) (gone after : List (List ℕ)) → blocks (Y' ++ E) ≡ gone ++ after → FarFromFront E after → EndKept P E after
end_kept P E Y' gone after e far =
    let b = blocks_begin (Y' ++ E) gone after e in
    let A = flat after in
    let g : ℕ = length (flat gone) in
    let t : ℕ = length E - length A in
    let none : after ≡ [] → length A ≡ 0 = λ z. ap (λ bs. length (flat bs)) z in
    let within : length A ≤ length E = ⊎_elim (λ z. omega (arith, none z)) (λ l. omega arith) far in
    let eight : 0 < length A → length A + 8 ≤ length E = λ p. ⊎_elim (λ z. absurd (omega (arith, none z))) (λ l. l) far in
    let hy : length (Y' ++ E) ≡ length Y' + length E = length-append Y' E in
    let size : g + length A ≡ length (Y' ++ E) = sym (length-append (flat gone) A) ∙ ap length b.names in
    let hg : length Y' + t ≡ g = omega arith in
    record {
      within = within;
      names = ap (drop t) (sym (drop_at Y' E (length Y') refl)) ∙ drop-drop t (length Y') (Y' ++ E) ∙ ap₂ drop hg (sym b.names) ∙ drop_at (flat gone) A g refl;
      begins = ⊎_elim (λ (p : 0 < length A). inr (cut_end P E Y' (length P + t) g (omega arith) (omega (arith, eight p)) (omega arith) ∙ b.begins (some_blocks after p)))
          (λ (p : length A ≤ 0). inl (nil_from_length A (omega arith))) (cases_lt 0 (length A));
      same = parted_same (cuts (P ++ E)) (cuts (Y' ++ E)) (length P + t) g A
          (λ k z l. (let p : 0 < length A = omega arith in cut_end P E Y' (length P + t + k) (g + k) (omega arith) (omega (arith, eight p)) (omega arith))) ∙ sym b.rest;
    }

-- ---- both

module _ (F M E : List ℕ) (before after : List (List ℕ)) (x : FrontKept F (M ++ E) before) (y : EndKept (F ++ M) E after) where
  middle : List ℕ
  middle = drop (length (flat before)) F ++ (M ++ take (length E - length (flat after)) E)

  parts : F ++ (M ++ E) ≡ flat before ++ (middle ++ flat after)
  unfolding middle
  parts =
      let f : F ≡ flat before ++ drop (length (flat before)) F = sym (take-append-drop _ F) ∙ ap (λ p. p ++ drop (length (flat before)) F) x.names in
      let e : E ≡ take (length E - length (flat after)) E ++ flat after =
      sym (take-append-drop _ E) ∙ ap (λ p. take (length E - length (flat after)) E ++ p) y.names in
      ap₂ (λ f e. f ++ (M ++ e)) f e ∙ simp append_assoc

  middle_ends : length (flat before) + length middle ≡ length (F ++ M) + (length E - length (flat after))
  unfolding middle
  middle_ends = simp (length-append, length-drop, length-take) (omega (arith, x.within, y.within))

  both : Kept F M E before after
  unfolding blocks middle
  both =
      let Z = F ++ (M ++ E) in
      let s : ℕ = length (flat before) in
      let u : ℕ = length (F ++ M) + (length E - length (flat after)) in
      let same : (F ++ M) ++ E ≡ Z = append_assoc F M E in
      let ends : (flat after ≡ []) ⊎ (cuts Z u ≡ true) = rw same at y.begins in
      let last : parted (cuts Z) u (flat after) ≡ after = rw same at y.same in
      record {
        new = parted (cuts Z) s middle;
        all = ap (parted (cuts Z) 0) parts ∙ parted-append (cuts Z) 0 s (flat before) (middle ++ flat after) (zero-add s) (inr x.begins)
            ∙ ap₂ ◌++◌ x.same (parted-append (cuts Z) s u middle (flat after) middle_ends ends ∙ ap (λ bs. parted (cuts Z) s middle ++ bs) last);
        cut = ap (parted (cuts Z) s) (sym (parted_flat (cuts Z) s middle));
        names = parted_flat (cuts Z) s middle;
      }

pub splice_keeps : SpliceKeeps
splice_keeps X F X' M Y Y' E before lost gone after x y ex ey far off =
    both F M E before after (front_kept F (M ++ E) X' before lost (ap blocks (sym x) ∙ ex) far) (end_kept (F ++ M) E Y' gone after (ap blocks (sym y) ∙ ey) off)

-- ---- how near the kept blocks reach

-- where a block begins, the blocks fall into those before and those after
halves : (X : List ℕ) (s : ℕ) → s ≤ length X → cuts X s ≡ true → blocks X ≡ parted (cuts X) 0 (take s X) ++ parted (cuts X) s (drop s X)
unfolding blocks
halves X s l h =
    ap (parted (cuts X) 0) (sym (take-append-drop s X)) ∙ parted-append (cuts X) 0 s (take s X) (drop s X) (simp length-take (omega arith)) (inr h)

pub reach_front : ReachFront
reach_front X F X' e h =
    let hn : length X ≡ length F + length X' = ap length e ∙ length-append F X' in
    ⊎_elim
    (λ (l : 12 < length F).
    let r = begins_near (length X) (at X) h.0 h.1 (length F - 13) (omega arith) in
    let s : ℕ = r.0 in
    let p : length F - 13 + 2 ≤ s = r.1 in
    let q : s ≤ length F - 13 + 5 = r.2 in
    let size : length (flat (parted (cuts X) 0 (take s X))) ≡ s = ap length (parted_flat (cuts X) 0 (take s X)) ∙ simp length-take (omega arith) in
    (parted (cuts X) 0 (take s X), parted (cuts X) s (drop s X), halves X s (omega arith) r.3, (inr (omega arith), omega arith)))
    (λ (l : length F ≤ 12). ([], blocks X, refl, (inl refl, omega arith))) (cases_lt 12 (length F))

pub reach_end : ReachEnd
reach_end Y Y' E e h =
    let hn : length Y ≡ length Y' + length E = ap length e ∙ length-append Y' E in
    ⊎_elim
    (λ (l : 12 < length E).
    let r = begins_near (length Y) (at Y) h.0 h.1 (length Y' + 6) (omega arith) in
    let s : ℕ = r.0 in
    let p : length Y' + 6 + 2 ≤ s = r.1 in
    let q : s ≤ length Y' + 6 + 5 = r.2 in
    let size : length (flat (parted (cuts Y) s (drop s Y))) ≡ length Y - s = ap length (parted_flat (cuts Y) s (drop s Y)) ∙ length-drop s Y in
    (parted (cuts Y) 0 (take s Y), parted (cuts Y) s (drop s Y), halves Y s (omega arith) r.3, (inr (omega arith), omega arith)))
    (λ (l : length E ≤ 12). (blocks Y, [], sym (append-nil (blocks Y)), (inl refl, omega arith))) (cases_lt 12 (length E))

all_parts : (P : List ℕ → Type 0) (xs ys : List (List ℕ)) → AllByRecursion P (xs ++ ys) → AllByRecursion P xs × AllByRecursion P ys
all_parts P [] ys h = (tt, h)
all_parts P (x ∷ xs) ys h = let r = all_parts P xs ys h.1 in ((h.0, r.0), r.1)

pub splice_few : SpliceFew
splice_few F M E before after x y k =
    let p : length F ≤ length (flat before) + 12 = x.1 in
    let q : length E ≤ length (flat after) + 12 = y.1 in
    let names : length (flat k.new) ≡ length F - length (flat before) + (length M + min (length E - length (flat after)) (length E)) =
    ap length k.names ∙ simp (length-append, length-drop, length-take) in
    let size : length (flat k.new) ≤ length M + 24 = omega arith in (
      size,
      λ l h.
          let fit : AllByRecursion Fit (before ++ (k.new ++ after)) = rw k.all at (blocks_fit (F ++ (M ++ E)) l h) in
          let new : AllByRecursion Fit k.new = (all_parts Fit k.new after (all_parts Fit before (k.new ++ after) fit).1).0 in
          omega (arith, half_fit k.new new),
    )

pub splice_bounded : SpliceBounded
splice_bounded X F X' M Y Y' E ex ey lx ly =
    let x = reach_front X F X' ex lx in
    let y = reach_end Y Y' E ey ly in
    let far : FarFromEnd F x.0 = ⊎_elim inl (λ l. inr (omega arith)) x.3.0 in
    let k = splice_keeps X F X' M Y Y' E x.0 x.1 y.0 y.1 ex ey x.2 y.2 far y.3.0 in
    record {
      before = x.0;
      lost = x.1;
      gone = y.0;
      after = y.1;
      front = x.2;
      end = y.2;
      kept = k;
      few = (splice_few F M E x.0 y.1 x.3 y.3 k).0;
    }
