use Rattle.rule_group.proofs.Prelude.{arith, each_member, ◌≢◌}
use Rattle.rule_group.specs.Prelude.{KeepsOff, sets}
use Rattle.rule_group.proofs.in_turn.others_keep_off.Goals as goal

pub returns : goal.returns
returns c = λ yes. each_member (λ w. w ≢ c.args.v.0 → KeepsOff c.args.p.now.given (sets c.args.g.now) w c.args.span) c.args.machines.now c.loop-i.i (omega arith) c.loop-i.invariant
