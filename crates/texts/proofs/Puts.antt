-- Texts put into a list of bytes.
use Rattle.std.proofs.Common.{◌≡◌, ℕ, ◌+◌, ◌-◌, ◌≤◌, List, ◌++◌, length, take, drop, ap, ◌∙◌, arith}
use borrow.Rule.Slice.PartMut.{put_mid}
use Rattle.std.proofs.lemmas.List.{drop-drop}
use Rattle.texts.specs.Texts.{Put}

-- a text copied over a part of the list
pub put_part : (was text part : List ℕ) (place end : ℕ) → part ≡ text → end ≡ place + length text → end ≤ length was → Put was (put_mid place (end - place) was part) place text end
put_part was text part place end e ends fits =
    let past : place + (end - place) ≡ end = omega arith in
    record {
      ends = ends;
      fits = fits;
      after = ap (λ l. take place was ++ (l ++ drop (end - place) (drop place was))) e ∙ ap (λ l. take place was ++ (text ++ l)) (drop-drop (end - place) place was ∙ ap (λ n. drop n was) past);
    }
