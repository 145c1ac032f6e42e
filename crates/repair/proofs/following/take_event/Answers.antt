use Rattle.std.proofs.Common.{sym, subst}
use Rattle.event_lines.specs.Lines.{ReadsLine}
use Rattle.event_lines.specs.declared.lines.Line.TheVariants.{Whole}
use Rattle.repair.specs.Prelude.{choices_of, phases_of}
use Rattle.repair.proofs.EventLemmas.{takes_wrong}
use Rattle.repair.proofs.following.take_event.Goals as goal

pub returns-in-Err-clause-turn : goal.returns-in-Err-clause-turn
returns-in-Err-clause-turn g c =
    let bytes = g.I.Source.rest c.args.input.now in
    let rest = g.I.Source.rest c.read_line.new.input in
    takes_wrong (Unit {0}) g.I.Source.tells c.args.p.now.given (choices_of c.args.m.now.plan) c.args.number (phases_of c.args.m.now) (phases_of c.apply.new.m) bytes c.deref.result.now rest c.in-Err.fault
    (λ told. subst (λ t. ReadsLine bytes Whole t rest) (sym c.deref.ensures.value) (subst (λ k. ReadsLine bytes k c.read_line.new.line.items rest) c.in-Whole.is (c.in_ok-read_line.ensures.line told)))
    c.in-Err.ensures.event
