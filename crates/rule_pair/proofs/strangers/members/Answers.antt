use Rattle.rule_pair.proofs.Prelude.{◌∙◌, arith}
use Rattle.rule_pair.proofs.StrangerLemmas.{mark_more}
use Rattle.rule_pair.proofs.strangers.members.Goals as goal

pub loop-v-preserved : goal.loop-v-preserved
loop-v-preserved c = λ v. c.insert.ensures v ∙ mark_more c.args.machines.now c.loop-v.v-index _ v _ (omega arith) (c.loop-v.invariant v)
