use Rattle.rule_pair.proofs.Prelude.{arith, sets}
use Rattle.rule_pair.proofs.UnmovedLemmas.{unmoved_disturbs_none}
use Rattle.rule_pair.proofs.dirty.set_machine_dirty.Goals as goal

pub returns-then-is_unmoved_in : goal.returns-then-is_unmoved_in
returns-then-is_unmoved_in c = unmoved_disturbs_none c.args.p.now.given (sets c.args.g.now) c.args.v _ c.args.dirty.now (omega (arith, c.args.p.now.sound.horizon)) c.requires.fewer (c.is_unmoved_in.ensures c.if-is_unmoved_in.true)

pub returns : goal.returns
returns c = c.set_looking_dirty.ensures _ c.requires.fewer
