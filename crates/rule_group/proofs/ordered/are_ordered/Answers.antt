use Rattle.rule_group.proofs.Prelude.{arith}
use Rattle.rule_group.specs.Prelude.{sets}
use Rattle.rule_group.proofs.ActingLemmas.{ordered_clean}
use Rattle.rule_group.proofs.ordered.are_ordered.Goals as goal

pub returns-then-starts_from : goal.returns-then-starts_from
returns-then-starts_from c =
    λ yes. ordered_clean c.args.p.now.given (sets c.args.g.now) c.args.before c.args.after c.span_of-earlier.result c.span_of-later.result (omega (arith, c.args.p.now.sound.horizon))
    c.if-before-after.false c.span_of-earlier.ensures c.span_of-later.ensures (c.starts_from.ensures c.if-starts_from.true) (c.ends_by.ensures yes)
    c.args.constraint.now c.requires.form
