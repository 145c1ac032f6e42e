use Rattle.rule_group.proofs.Prelude.{arith}
use Rattle.rule_group.specs.Prelude.{sets}
use Rattle.rule_group.proofs.ActingLemmas.{clear_of, never_acts}
use Rattle.rule_group.proofs.in_turn.acts_alone.Goals as goal

pub returns-then-span : goal.returns-then-span
returns-then-span c =
    λ yes w m n. never_acts c.args.p.now.given (sets c.args.g.now) c.args.v.0 w c.span_of-span.result (omega (arith, c.args.p.now.sound.horizon)) c.span_of-span.ensures
    c.if-span.true

pub returns-else-span : goal.returns-else-span
returns-else-span c =
    λ yes w m n. clear_of c.args.p.now.given (sets c.args.g.now) c.args.v.0 w c.span_of-span.result (omega (arith, c.args.p.now.sound.horizon)) c.span_of-span.ensures (c.others_keep_off.ensures yes w m n)
