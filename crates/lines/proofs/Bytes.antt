-- The circuit filled up.
use Rattle.std.proofs.Common.{◌≡◌, ℕ, ◌+◌, ◌-◌, ◌≤◌, List, ◌++◌, length, take, drop, replicate, sym, ap, ◌∙◌, arith}
use lib.Seq.{take-append-add}
use Rattle.std.proofs.lemmas.List.{take-replicate, drop-replicate}
use Rattle.lines.specs.Layout.{filled}

-- the bytes, and behind them what a row of zero bytes has from there on
pub filled_is : (bs : List ℕ) → length bs ≤ 12 → bs ++ drop (length bs) (replicate 12 0) ≡ filled bs
filled_is bs h =
    let twelve : 12 ≡ length bs + (12 - length bs) = omega arith in
    sym (ap (λ n. take n (bs ++ replicate 12 0)) twelve ∙ take-append-add bs (replicate 12 0) (12 - length bs) ∙ ap (λ l. bs ++ l) (take-replicate (12 - length bs) 12 0 (omega arith) ∙ sym (drop-replicate (length bs) 12 0)))
