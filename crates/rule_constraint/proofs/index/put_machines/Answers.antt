use Rattle.std.proofs.Common.{arith}
use Rattle.rule_constraint.proofs.IndexLemmas.{member_stands, put_fewer, put_then, stands_more}
use Rattle.rule_constraint.proofs.index.put_machines.Goals as goal

pub loop-v-preserved : goal.loop-v-preserved
loop-v-preserved c = put_then _ _ _ _ _ _ _ (λ v at. stands_more c.args.machines.now c.loop-v.v-index _ v at) c.loop-v.invariant c.in_ok-put.ensures

pub returns : goal.returns
returns c = put_fewer _ _ _ _ _ (λ v h. member_stands c.args.machines.now c.loop-v.v-index v (omega arith) h) c.loop-v.invariant
