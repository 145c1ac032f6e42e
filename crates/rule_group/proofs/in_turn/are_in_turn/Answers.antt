use Rattle.rule_group.specs.Prelude.{sets}
use Rattle.rule_group.proofs.ActingLemmas.{in_turn_clean}
use Rattle.rule_group.proofs.in_turn.are_in_turn.Goals as goal

pub returns : goal.returns
returns c = λ yes. in_turn_clean c.args.p.now.given (sets c.args.g.now) c.args.machines.now (c.act_alone.ensures yes) c.args.constraint.now c.requires.form
