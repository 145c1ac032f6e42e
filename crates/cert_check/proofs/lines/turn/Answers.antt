use Rattle.cert_check.proofs.Prelude.{IsTrue, subst, sym, End, TurnGives}
use Rattle.cert_check.proofs.TurnLemmas.{error_is, file_kept, line_as, moved_step, underway_next}
use Rattle.cert_check.specs.Prelude.{Step as StepLine}
use Rattle.cert_check.proofs.lines.turn.Goals as goal

pub returns-in_err-end-in-End-clause-turn : goal.returns-in_err-end-in-End-clause-turn
returns-in_err-end-in-End-clause-turn g c = λ bound strict file same underway.
    let tells = IsTrue g.D.Desk.tells in
    let read = c.in_ok-text.ensures in
    let said = c.in_err-end-in-End.ensures.verdict c.args.p.now.given bound strict file c.args.reader.now.at (file_kept tells file _ _ _ _ same read.desk.files_stay read.name) (line_as tells file _ c.args.reader.now.at c.in_ok-text.field-0 (End c.in-End.goal) _ same read.line c.in-End.is) underway in
    subst (TurnGives c.args.p.now.given bound strict tells file c.end.new.reader.at c.args.walk.now) (sym (error_is c.from_residual-in_err-end-in-End.result c.in_err-end-in-End.field-0.0 c.from_residual-in_err-end-in-End.ensures.1)) said

pub returns-in_ok-end-in-End-clause-turn : goal.returns-in_ok-end-in-End-clause-turn
returns-in_ok-end-in-End-clause-turn g c = λ bound strict file same underway.
    let tells = IsTrue g.D.Desk.tells in
    let read = c.in_ok-text.ensures in
    c.in_ok-end-in-End.ensures.verdict c.args.p.now.given bound strict file c.args.reader.now.at (file_kept tells file _ _ _ _ same read.desk.files_stay read.name) (line_as tells file _ c.args.reader.now.at c.in_ok-text.field-0 (End c.in-End.goal) _ same read.line c.in-End.is) underway

pub returns-in-None-clause-turn : goal.returns-in-None-clause-turn
returns-in-None-clause-turn g c = λ bound strict file same underway.
    let tells = IsTrue g.D.Desk.tells in
    let read = c.in_ok-text.ensures in
    let moved = moved_step c.args.reader.now.at c.next.new.self.at c.in_ok-text.field-0 c.in-Step.text c.in-Step.is read.moves in
    underway_next c.args.p.now.given bound strict tells file c.args.reader.now.at c.args.walk.now underway c.next.new.self.at c.in-Step.text c.take.new.walk c.in_ok-take-in-Step.field-0
    (line_as tells file _ c.args.reader.now.at c.in_ok-text.field-0 (StepLine c.in-Step.text) _ same read.line c.in-Step.is) moved.0 moved.1 c.in_ok-take-in-Step.ensures.ok c.in-None.is
