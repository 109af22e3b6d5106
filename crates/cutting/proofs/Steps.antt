-- Steps of the walk along a row and its marks.
use Rattle.std.proofs.Common.{◌≡◌, ℕ, ◌+◌, ◌-◌, ◌<◌, ◌≤◌, min, Bool, true, false, not, eqb, List, ◌++◌, length, drop, sym, refl, ap, ◌∙◌, inl, inr, ⊎_elim, zero-add, arith}
use Rattle.std.specs.List.{between}
use Rattle.std.proofs.lemmas.List.{get_or_past, take-append-drop, drop-drop, drop_all}
use Rattle.std.proofs.lemmas.List.Edits.{get_or-between, length-between}
use Rattle.std.proofs.lemmas.Bool.{cases_lt, eq-eqb, ne_eqb}
use Rattle.cutting.specs.Rows.{at, cuts, mark}
use Rattle.cutting.specs.Blocks.{parted, blocks}
use Rattle.cutting.specs.Walk.{flagged, onward, Zeros, Stop, Handed, WalkBegins, WalkEnds}
use Rattle.cutting.proofs.Parts.{parted_same, first_part}

zero_flag : (marks : List ℕ) (k : ℕ) → at marks k ≡ 0 → flagged marks k ≡ false
zero_flag marks k e = ap not (eq-eqb (at marks k) 0 e)

one_flag : (marks : List ℕ) (k : ℕ) → (at marks k ≡ 0 → ⊥) → flagged marks k ≡ true
one_flag marks k ne = ap not (ne_eqb (at marks k) 0 ne)

-- with the marks looked through from s + 1 up to `last`, where the row or the marks end
module _ (marks : List ℕ) (s n last : ℕ) (inside : s < n) (ends : last ≡ min n (length marks)) where
  past : (k : ℕ) → last ≤ k → k < n → flagged marks k ≡ false
  past k l m = zero_flag marks k (get_or_past marks k 0 (omega arith))

  size : length (between (s + 1) last marks) ≡ last - (s + 1)
  size = length-between marks (s + 1) last (omega arith)

  none : (i k : ℕ) → Zeros (between (s + 1) last marks) i → s < k → k < s + 1 + i → k < last → flagged marks k ≡ false
  none i k z p q l =
      let e : s + 1 + (k - (s + 1)) ≡ k = omega arith in
      zero_flag marks k (ap (at marks) (sym e) ∙ sym (get_or-between marks (s + 1) last (k - (s + 1)) 0 (omega arith)) ∙ z (k - (s + 1)) (omega arith))

  pub stop_found : (i : ℕ) → i < length (between (s + 1) last marks) → Zeros (between (s + 1) last marks) i → (at (between (s + 1) last marks) i ≡ 0 → ⊥) → Stop marks s n (s + 1 + i)
  stop_found i l z ne = record {
    later = omega arith;
    within = omega (arith, size);
    inside = λ k p q. none i k z p q (omega (arith, size));
    ends = inr (one_flag marks (s + 1 + i) (λ e. ne (get_or-between marks (s + 1) last i 0 (omega (arith, size)) ∙ e)));
  }

  pub stop_none : Zeros (between (s + 1) last marks) (length (between (s + 1) last marks)) → Stop marks s n n
  stop_none z = record {
    later = inside;
    within = omega arith;
    inside = λ k p q. ⊎_elim (λ (l : k < last). none (length (between (s + 1) last marks)) k z p (omega (arith, size)) l) (λ l. past k l q) (cases_lt k last);
    ends = inl refl;
  }

pub handed : (row marks : List ℕ) (s e : ℕ) → Stop marks s (length row) e → Handed row marks s e (between s e row)
unfolding onward
handed row marks s e t =
    let len : length (between s e row) ≡ e - s = length-between row s e t.within in
    let rest : drop (e - s) (drop s row) ≡ drop e row = drop-drop (e - s) s row ∙ ap (λ n. drop n row) (omega arith) in
    let parts : drop s row ≡ between s e row ++ drop e row = sym (take-append-drop (e - s) (drop s row)) ∙ ap (λ xs. between s e row ++ xs) rest in
    record {
      later = t.later;
      within = t.within;
      part = refl;
      first = ap (parted (flagged marks) s) parts
          ∙ first_part (flagged marks) s e (between s e row) (drop e row) (omega arith) (omega arith) t.inside
          (⊎_elim (λ (z : e ≡ length row). inl (drop_all e row (omega arith))) inr t.ends);
    }

pub mark_flag : (b : Bool) → not (eqb (mark b) 0) ≡ b
mark_flag true = refl
mark_flag false = refl

pub walk_begins : WalkBegins
unfolding onward blocks
walk_begins row marks h =
    parted_same (flagged marks) (cuts row) 0 0 row (λ k p l. simp zero-add (ap (λ v. not (eqb v 0)) (h k l) ∙ mark_flag (cuts row k)))

pub walk_ends : WalkEnds
unfolding onward parted
walk_ends row marks s l = ap (parted (flagged marks) s) (drop_all s row l)
