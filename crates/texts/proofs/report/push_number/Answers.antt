use Rattle.std.proofs.Common.{◌++◌, ap, ◌∙◌, sym, arith}
use Rattle.texts.specs.Reports.{text_of}
use Rattle.texts.proofs.Digits.{digits_is}
use Rattle.texts.proofs.report.push_number.Goals as goal

pub returns-clause-text : goal.returns-clause-text
returns-clause-text c = c.push_str.ensures.bytes ∙ ap (λ t. text_of c.args.line.now ++ t) (c.format.ensures.text ∙ sym (digits_is c.args.n (omega arith)))
