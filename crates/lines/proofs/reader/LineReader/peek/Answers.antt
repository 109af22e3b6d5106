use Rattle.std.proofs.Common.{◌≡◌, ◌+◌, [], ◌∷◌, Err, None, MatchOption, sym, refl, ap, ◌∙◌, subst}
use Rattle.std.proofs.lemmas.Result.{err_from_is_err_and}
use Rattle.lines.specs.Readers.{left, rest, Leads}
use Rattle.lines.proofs.Lefts.{rest_some, next_unended, next_leads, gives, leads_some, ok_or_some, ok_or_none}
use Rattle.lines.proofs.reader.LineReader.peek.Goals as goal

pub returns-in_err-line : goal.returns-in_err-line
returns-in_err-line c =
    let rd = c.args.self.now in
    let p = err_from_is_err_and c.from_residual.result c.from_residual.ensures.1 in
    let q = ok_or_none c.line.result _ c.in_err-line.field-0.0 (sym c.ok_or.ensures.value ∙ c.in_err-line.was) in
    let none = subst (λ o. MatchOption o (left rd ≡ rest rd ∷ []) (Leads rd)) q.0 c.line.ensures in
    rw p.1 (next_unended (rd.lines + 1) (left rd) _ none (rest_some rd c.if-self.false) ∙ ap Err (q.1 ∙ sym p.2))

pub returns-in_err-record : goal.returns-in_err-record
returns-in_err-record c =
    let p = err_from_is_err_and c.from_residual-in_err-record.result c.from_residual-in_err-record.ensures.1 in
    let q = ok_or_none c.to_record.result _ c.in_err-record.field-0.0 (sym c.ok_or-2.ensures.value ∙ c.in_err-record.was) in
    rw p.1 (next_leads c.args.self.now _ (leads_some c.args.self.now c.line.result _ c.in_ok-line.line c.line.ensures (sym c.ok_or.ensures.value ∙ c.in_ok-line.was)) None (sym q.0 ∙ c.to_record.ensures) ∙ ap Err (q.1 ∙ sym p.2))

pub returns : goal.returns
returns c =
    gives c.args.self.now _ _ (leads_some c.args.self.now c.line.result _ c.in_ok-line.line c.line.ensures (sym c.ok_or.ensures.value ∙ c.in_ok-line.was)) (sym (ok_or_some c.to_record.result _ c.in_ok-record.record (sym c.ok_or-2.ensures.value ∙ c.in_ok-record.was)) ∙ c.to_record.ensures) refl
