-- A window's marks are those of every row of which it is a part, at the places that are to be believed.
use Rattle.std.proofs.Common.{◌≡◌, ℕ, ◌+◌, ◌-◌, ◌<◌, ◌≤◌, Bool, not, eqb, List, length, take, sym, ap, ◌∙◌, ⊎_elim, arith, length-drop, length-take}
use Rattle.std.specs.List.{between}
use Rattle.std.proofs.lemmas.List.{get_or-take, length-take-le, ext_get_or}
use Rattle.std.proofs.lemmas.List.Edits.{get_or-between, length-between}
use Rattle.cutting.specs.Rows.{at, cuts, mark}
use Rattle.cutting.specs.Passes.{marks_of}
use Rattle.cutting.specs.Blocks.{parted}
use Rattle.cutting.specs.Walk.{flagged}
use Rattle.cutting.specs.Window.{Part, Believed, Answer}
use Rattle.cutting.proofs.Near.{local}
use Rattle.cutting.proofs.Parts.{parted_same}
use Rattle.cutting.proofs.Passes.{marks_at}
use Rattle.cutting.proofs.Steps.{mark_flag}

module _ (names : List ℕ) (len : ℕ) (first last : Bool) (room : len ≤ length names) where
  size : length (take len names) ≡ len
  size = length-take-le len names room

  seen : (R : List ℕ) (a : ℕ) → Part names len first last R a → (i : ℕ) → Believed len first last i → cuts (take len names) i ≡ cuts R (a + i)
  seen R a p i b =
      let n = length (take len names) in
      let hn : n ≡ len = size in
      let hi : i < len = b.0 in
      let hr : a + len ≤ length R = p.within in
      local n (length R) (at (take len names)) (at R) i (a + i) (omega arith) (record {
        before = ⊎_elim (λ t. (let z : a ≡ 0 = p.from_first t in omega arith)) (λ (l : 8 ≤ i). omega arith) b.1;
        after = ⊎_elim (λ t. (let z : a + len ≡ length R = p.to_last t in omega arith)) (λ (l : i + 4 < len). omega arith) b.2;
        names = λ x y e l u s.
            let sx : x < len = omega arith in
            let sy : a + x ≡ y = omega arith in
            get_or-take len names x 0 sx ∙ p.same x sx ∙ ap (at R) sy;
      })

  part_size : (R : List ℕ) (a : ℕ) → Part names len first last R a → (i j : ℕ) → i ≤ j → j ≤ len → length (between (a + i) (a + j) R) ≡ j - i
  part_size R a p i j l m = simp (length-take, length-drop) (omega (arith, p.within))

  parts : (R : List ℕ) (a : ℕ) → Part names len first last R a → (i j : ℕ) → i ≤ j → j ≤ len → between i j names ≡ between (a + i) (a + j) R
  parts R a p i j l m =
      let s : length (between i j names) ≡ j - i = length-between names i j (omega arith) in
      ext_get_or 0 (between i j names) (between (a + i) (a + j) R) (s ∙ sym (part_size R a p i j l m))
      (λ k q.
      let u : i + k < len = omega arith in
      let e : a + (i + k) ≡ a + i + k = omega arith in
      get_or-between names i j k 0 (omega arith) ∙ p.same (i + k) u ∙ ap (at R) e ∙ sym (get_or-between R (a + i) (a + j) k 0 (omega arith)))

  pub answer : (marks : List ℕ) → take len marks ≡ marks_of (take len names) → ((k : ℕ) → len ≤ k → at marks k ≡ 0) → Answer names len first last marks
  answer marks e z =
      let own : (k : ℕ) → k < len → at marks k ≡ mark (cuts (take len names) k) =
      λ k l. sym (get_or-take len marks k 0 l) ∙ ap (λ xs. at xs k) e ∙ marks_at (take len names) k (omega (arith, size)) in
      let row : (R : List ℕ) (a : ℕ) → Part names len first last R a → (i : ℕ) → Believed len first last i → at marks i ≡ mark (cuts R (a + i)) =
      λ R a p i b. own i b.0 ∙ ap mark (seen R a p i b) in
      record {
        own = own;
        past = z;
        row = row;
        blocks = λ R a p i j l m b.
            ap (parted (flagged marks) i) (parts R a p i j l m)
            ∙ parted_same (flagged marks) (cuts R) i (a + i) (between (a + i) (a + j) R)
            (λ k u v.
            let w : i + k < j = omega (arith, part_size R a p i j l m) in
            ap (λ x. not (eqb x 0)) (row R a p (i + k) (b (i + k) (omega arith) w)) ∙ mark_flag (cuts R (a + (i + k))) ∙ ap (cuts R) (omega arith));
      }
