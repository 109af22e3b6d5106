-- Runs of equal names.
use Rattle.std.proofs.Common.{◌≡◌, ℕ, zero, suc, ◌+◌, ◌-◌, ◌<◌, ◌≤◌, ◌≢◌, List, [], ◌∷◌, ◌++◌, length, take, drop, replicate, sym, refl, ap, ◌∙◌, ap₂, inl, inr, ⊎_elim, arith}
use Rattle.std.proofs.lemmas.List.{append-nil, append_assoc, replicate-append-replicate, take-append-drop, take_rest, drop-drop, drop_more, drop_all, length-replicate, length-take-le, length-drop, get_or-replicate, get_or-take, get_or-drop, ext_get_or}
use Rattle.std.proofs.lemmas.Bool.Decides.{eqb_tells}
use Rattle.std.proofs.lemmas.Bool.{eq-eqb, ne_eqb, cases_lt}
use Rattle.cutting.specs.declared.runs.Run.{Run}
use Rattle.cutting.specs.Rows.{at}
use Rattle.cutting.specs.Runs.{spell, more, runs, Unlike, Proper, meet, RunsSpell, RunsProper, RunsUnique, RunsAppend, Leading, RunHanded}

abbrev run : ℕ → ℕ → Run
run x k = record { name = x; times = k }

spell_more : (x : ℕ) (rs : List Run) → spell (more x rs) ≡ x ∷ spell rs
unfolding more
spell_more x [] = refl
spell_more x (r ∷ rs) =
    elim (eqb_tells x r.name) [ inl t ↦ rw t.0 (ap (λ n. x ∷ (replicate r.times n ++ spell rs)) t.1) | inr t ↦ rw t.0 ]

pub runs_spell : RunsSpell
unfolding runs
runs_spell [] = refl
runs_spell (x ∷ xs) = spell_more x (runs xs) ∙ ap (λ ys. x ∷ ys) (runs_spell xs)

proper_more : (x : ℕ) (rs : List Run) → Proper rs → Proper (more x rs)
unfolding more Proper
proper_more x [] p = (omega arith, tt, tt)
proper_more x (r ∷ rs) p = elim (eqb_tells x r.name) [ inl t ↦ rw t.0 (omega arith, rw t.1 p.1, p.2) | inr t ↦ rw t.0 (omega arith, t.1, p) ]

pub runs_proper : RunsProper
unfolding runs Proper
runs_proper [] = tt
runs_proper (x ∷ xs) = proper_more x (runs xs) (runs_proper xs)

more_unlike : (x : ℕ) (rs : List Run) → Unlike x rs → more x rs ≡ run x 1 ∷ rs
unfolding more
more_unlike x [] u = refl
more_unlike x (r ∷ rs) u = rw (ne_eqb x r.name u)

-- a run in front of a row whose runs begin with another name
front_run : (x n : ℕ) (ys : List ℕ) → 0 < n → Unlike x (runs ys) → runs (replicate n x ++ ys) ≡ run x n ∷ runs ys
unfolding runs more
front_run x zero ys p u = absurd (omega arith)
front_run x (suc zero) ys p u = more_unlike x (runs ys) u
front_run x (suc (suc n)) ys p u = ap (more x) (front_run x (suc n) ys (omega arith) u) ∙ rw (eq-eqb x x refl)

pub runs_unique : RunsUnique
unfolding runs Proper
runs_unique [] p = refl
runs_unique (r ∷ rs) p =
    let e : runs (spell rs) ≡ rs = runs_unique rs p.2 in
    front_run r.name r.times (spell rs) p.0 (rw e p.1) ∙ ap (λ ss. r ∷ ss) e

-- ---- one row after another

spell_meet : (rs ss : List Run) → spell (meet rs ss) ≡ spell rs ++ spell ss
unfolding meet
spell_meet [] ss = refl
spell_meet (r ∷ []) [] = sym (append-nil (spell (r ∷ [])))
spell_meet (r ∷ []) (s ∷ ss) =
    let A = replicate r.times r.name in
    let B = replicate s.times s.name in
    elim (eqb_tells r.name s.name) [
      | inl t ↦ rw t.0 (ap (λ xs. xs ++ spell ss) (sym (replicate-append-replicate r.times s.times r.name))
          ∙ append_assoc A (replicate s.times r.name) (spell ss) ∙ ap₂ (λ a n. a ++ (replicate s.times n ++ spell ss)) (sym (append-nil A)) t.1)
      | inr t ↦ rw t.0 (ap (λ a. a ++ (B ++ spell ss)) (sym (append-nil A)))
    ]
spell_meet (r ∷ (r' ∷ rs)) ss =
    let A = replicate r.times r.name in
    ap (λ xs. A ++ xs) (spell_meet (r' ∷ rs) ss) ∙ sym (append_assoc A (spell (r' ∷ rs)) (spell ss))

meet_unlike : (x : ℕ) (r : Run) (rs ss : List Run) → x ≢ r.name → Unlike x (meet (r ∷ rs) ss)
unfolding meet
meet_unlike x r [] [] u = u
meet_unlike x r [] (s ∷ ss) u = elim (eqb_tells r.name s.name) [ inl t ↦ rw t.0 u | inr t ↦ rw t.0 u ]
meet_unlike x r (r' ∷ rs) ss u = u

proper_meet : (rs ss : List Run) → Proper rs → Proper ss → Proper (meet rs ss)
unfolding meet Proper
proper_meet [] ss p q = q
proper_meet (r ∷ []) [] p q = p
proper_meet (r ∷ []) (s ∷ ss) p q =
    elim (eqb_tells r.name s.name) [ inl t ↦ rw t.0 (omega (arith, p.0), rw t.1 q.1, q.2) | inr t ↦ rw t.0 (p.0, t.1, q) ]
proper_meet (r ∷ (r' ∷ rs)) ss p q = (p.0, meet_unlike r.name r' rs ss p.1, proper_meet (r' ∷ rs) ss p.2 q)

pub runs_append : RunsAppend
runs_append xs ys =
    ap runs (ap₂ ◌++◌ (sym (runs_spell xs)) (sym (runs_spell ys)) ∙ sym (spell_meet (runs xs) (runs ys)))
    ∙ runs_unique (meet (runs xs) (runs ys)) (proper_meet (runs xs) (runs ys) (runs_proper xs) (runs_proper ys))

-- ---- the walk

-- the runs of a row begin with its first name
unlike_more : (x y : ℕ) (rs : List Run) → x ≢ y → Unlike x (more y rs)
unfolding more
unlike_more x y [] u = u
unlike_more x y (r ∷ rs) u = elim (eqb_tells y r.name) [ inl t ↦ rw t.0 u | inr t ↦ rw t.0 u ]

module _ (xs : List ℕ) (x k : ℕ) (h : Leading xs x k) where
  same_names : take k xs ≡ replicate k x
  same_names =
      let l : length (take k xs) ≡ k = length-take-le k xs h.within in
      ext_get_or 0 (take k xs) (replicate k x) (l ∙ sym (length-replicate k x))
      (λ i p. get_or-take k xs i 0 (omega arith) ∙ h.equal i (omega arith) ∙ sym (get_or-replicate k i x 0 (omega arith)))

  unlike : Unlike x (runs (drop k xs))
  unfolding runs
  unlike =
      ⊎_elim (λ (p : k < length xs). rw (drop_more xs k 0 p) (unlike_more x (at xs k) (runs (drop (k + 1) xs)) (λ e. h.ends p (sym e))))
      (λ p. rw (drop_all k xs p) tt) (cases_lt k (length xs))

  pub first_run : 0 < k → runs xs ≡ run x k ∷ runs (drop k xs)
  first_run p = ap runs (sym (take-append-drop k xs) ∙ ap (λ ys. ys ++ drop k xs) same_names) ∙ front_run x k (drop k xs) p unlike

pub handed_run : (row : List ℕ) (s k : ℕ) → s < length row → Leading (take (length row - s) (drop s row)) (at row s) k → RunHanded row s (run (at row s) k)
handed_run row s k l h =
    let x = at row s in
    let xs = drop s row in
    let n : length xs ≡ length row - s = length-drop s row in
    let h' : Leading xs x k = rw (take_rest row s) at h in
    let own : at xs 0 ≡ x = get_or-drop s row 0 0 ∙ ap (at row) (omega arith) in
    let some : 0 < k = ⊎_elim (λ (p : 0 < k). p) (λ (p : k ≤ 0). absurd (h'.ends (omega arith) (ap (at xs) (omega arith) ∙ own))) (cases_lt 0 k) in
    record {
      some = some;
      within = omega (arith, h'.within);
      first = first_run xs x k h' some ∙ ap (λ ys. run x k ∷ runs ys) (drop-drop k s row);
    }
