use Rattle.std.proofs.Common.{length, Ok, subst}
use Rattle.std.proofs.lemmas.Result.{err_from_is_err_and}
use Rattle.lines.specs.Peeks.{Peeked}
use Rattle.lines.proofs.Lawfuls.{rows_lawful}
use Rattle.lines.proofs.Rows.{sofar_more, sofar_ended, sofar_refused, sofar_full}
use Rattle.lines.proofs.reader.LineReader.read_rows.Goals as goal

pub returns-in_err-line : goal.returns-in_err-line
returns-in_err-line c =
    let p = err_from_is_err_and c.from_residual.result c.from_residual.ensures.1 in
    rw (p.1, p.2) record { read = sofar_refused _ _ _ _ _ c.loop-line.invariant _ c.in_err-line.ensures; lawful = rows_lawful c.args.self.now (length c.args.rows.now); within = tt }

pub returns-then-used-rows : goal.returns-then-used-rows
returns-then-used-rows c =
    let line = subst (λ o. Peeked c.loop-line.self (Ok o)) c.in-Some.is c.in_ok-line.ensures in
    record { read = sofar_full _ _ _ _ _ c.loop-line.invariant c.in-Some.line line c.if-used-rows.true; lawful = rows_lawful c.args.self.now (length c.args.rows.now); within = tt }

pub loop-line-preserved : goal.loop-line-preserved
loop-line-preserved c =
    let line = subst (λ o. Peeked c.loop-line.self (Ok o)) c.in-Some.is c.in_ok-line.ensures in
    sofar_more _ _ _ _ _ c.loop-line.invariant c.in-Some.line line c.if-used-rows.false c.pass.new.self c.pass.ensures.file c.pass.ensures.place c.pass.ensures.lines

pub returns : goal.returns
returns c =
    let none = subst (λ o. Peeked c.loop-line.self (Ok o)) c.in_default.is c.in_ok-line.ensures in
    record { read = sofar_ended _ _ _ _ _ c.loop-line.invariant none; lawful = rows_lawful c.args.self.now (length c.args.rows.now); within = c.loop-line.invariant.within }
