-- Common prefixes.
use Rattle.std.proofs.Common.{◌≡◌, ℕ, suc, ◌+◌, ◌-◌, ◌<◌, true, false, cond, List, [], ◌∷◌, length, get_or, take, Decides, sym, refl, ap, ◌∙◌, arith}
use Rattle.std.proofs.lemmas.Bool.{false≢true}
use Rattle.std.specs.List.{prefix_len, zip}
use Rattle.lines.specs.declared.record.Record.{Record}
use Rattle.lines.specs.contracts.record.RecordPartialEq.TheImpl.{ghosts}
use Rattle.lines.proofs.Equals.{equal_decides}
use Rattle.matching.specs.Comparing.{Common}

-- how many pairs, from the first on, are the same
abbrev pairs : List Record → List Record → ℕ
pairs xs ys = prefix_len (λ p. ghosts.eq p.0 p.1) (zip xs ys)

common_pairs : (xs ys : List Record) → Common xs ys (pairs xs ys)
common_pairs [] ys = record { left = omega arith; right = omega arith; same = refl; longest = λ h. absurd (omega arith) }
common_pairs (x ∷ xs) [] = record { left = omega arith; right = omega arith; same = refl; longest = λ h k. absurd (omega arith) }
common_pairs (x ∷ xs) (y ∷ ys) = by_first (ghosts.eq x y) (equal_decides x y) (common_pairs xs ys)
  where
    by_first : (t : _) → Decides t (x ≡ y) → Common xs ys (pairs xs ys) → Common (x ∷ xs) (y ∷ ys) (cond t (1 + pairs xs ys) 0)
    by_first true d c =
        let n = pairs xs ys in
        let one : suc n ≡ 1 + n = omega arith in
        record {
          left = omega (arith, c.left);
          right = omega (arith, c.right);
          same = ap (λ k. take k (x ∷ xs)) (sym one) ∙ ap (λ z. z ∷ take n xs) (d.0 refl) ∙ ap (λ l. y ∷ l) c.same ∙ ap (λ k. take k (y ∷ ys)) one;
          longest = λ h k z e. c.longest (omega (arith, h)) (omega (arith, k)) z (ap (λ j. get_or (x ∷ xs) j z) one ∙ e ∙ ap (λ j. get_or (y ∷ ys) j z) (sym one));
        }
    by_first false d c = record { left = omega arith; right = omega arith; same = refl; longest = λ h k z e. false≢true (d.1 e) }

pub common : (xs ys : List Record) (n : ℕ) → n ≡ pairs xs ys → Common xs ys n
common xs ys n e = rw e (common_pairs xs ys)

-- where a common prefix is shorter than one of the lists, they differ
pub differ : {X : Type 0} (xs ys : List X) (n : ℕ) → Common xs ys n → n < length xs + length ys - n → xs ≡ ys → ⊥
differ [] ys n c h e = omega (arith, ap length e)
differ (x ∷ xs) ys n c h e = let long = ap length e in c.longest (omega (arith, long)) (omega (arith, long)) x (ap (λ l. get_or l n x) e)
