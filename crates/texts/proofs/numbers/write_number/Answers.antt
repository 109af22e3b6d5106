use Rattle.std.proofs.Common.{◌≡◌, ◌+◌, ap, ◌∙◌, sym, length, arith}
use Rattle.texts.specs.Numbers.{digits}
use Rattle.texts.proofs.Digits.{digits_is, written}
use Rattle.texts.proofs.Puts.{put_part}
use Rattle.texts.proofs.numbers.write_number.Goals as goal

pub returns-in_err-end : goal.returns-in_err-end
returns-in_err-end c = rw (digits_is c.args.n (omega arith)) search (arith, written)

pub returns-then-end-out : goal.returns-then-end-out
returns-then-end-out c = rw (digits_is c.args.n (omega arith)) search (arith, written)

pub returns : goal.returns
returns c =
    let text : c.as_bytes-text.result.now ≡ digits c.args.n = c.as_bytes-text.ensures.value ∙ c.format.ensures.text ∙ sym (digits_is c.args.n (omega arith)) in
    record { wrote = put_part _ _ _ _ _ (c.copy_from_slice.ensures.after ∙ text) (c.in_ok-end.ensures.1 ∙ ap (λ t. c.args.place + length t) text) (omega arith); rule = written }
