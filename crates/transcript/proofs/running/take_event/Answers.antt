use Rattle.std.proofs.Common.{sym, subst}
use Rattle.transcript.specs.Prelude.{ReadsLine, Whole}
use Rattle.transcript.proofs.Steps.{takes_event}
use Rattle.transcript.proofs.running.take_event.Goals as goal

pub returns-in-Whole-clause-turn : goal.returns-in-Whole-clause-turn
returns-in-Whole-clause-turn g c =
    takes_event g.I.Source.tells c.args.p.now.given _ c.args.number _ _ (g.I.Source.rest c.args.input.now) c.deref.result.now (g.I.Source.rest c.read_line.new.input) c.apply.result c.requires.due
    (λ told. subst (λ t. ReadsLine (g.I.Source.rest c.args.input.now) Whole t (g.I.Source.rest c.read_line.new.input)) (sym c.deref.ensures.value) (subst (λ k. ReadsLine (g.I.Source.rest c.args.input.now) k c.read_line.new.line.items (g.I.Source.rest c.read_line.new.input)) c.in-Whole.is (c.in_ok-read_line.ensures.line told)))
    c.apply.ensures.event
