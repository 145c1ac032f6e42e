use Rattle.cert_check.proofs.Prelude.{IsTrue, subst, sym, Concludes, Line, no_value}
use Rattle.cert_check.proofs.TurnLemmas.{error_is, fault_after, faults_as, nothing_follows, yes_here}
use Rattle.cert_check.proofs.lines.end.Goals as goal

pub returns-in_err-next-clause-verdict : goal.returns-in_err-next-clause-verdict
returns-in_err-next-clause-verdict g c = λ p bound strict file at same read underway.
    let said = fault_after p bound strict (IsTrue g.D.Desk.tells) file at c.args.walk.now underway c.args.reader.now.at c.args.goal c.finish.result c.in_err-next.field-0.0 read (c.finish.ensures p) (no_value c.finish.result (λ why. c.in_default.not-Some why)) (faults_as (IsTrue g.D.Desk.tells) file _ c.args.reader.now.at c.in_err-next.field-0.0 same c.in_err-next.ensures.line) in
    subst (Concludes p bound strict (IsTrue g.D.Desk.tells) file) (sym (error_is c.from_residual.result (Line c.in_err-next.field-0.0) c.from_residual.ensures.1)) said

pub returns-clause-verdict : goal.returns-clause-verdict
returns-clause-verdict g c = λ p bound strict file at same read underway.
    yes_here p bound strict (IsTrue g.D.Desk.tells) file at c.args.walk.now underway c.args.reader.now.at c.args.goal c.finish.result c.least.result read (c.finish.ensures p) (no_value c.finish.result (λ why. c.in_default.not-Some why)) (c.least.ensures p)
    (nothing_follows (IsTrue g.D.Desk.tells) file _ c.args.reader.now.at c.in_ok-next.field-0 _ same c.requires.ended c.in_ok-next.ensures.line)
