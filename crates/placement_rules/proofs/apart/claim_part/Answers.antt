use Rattle.base.proofs.Public.{◌∙◌, [], arith, get_or_read}
use Rattle.placement_rules.proofs.Noting.{noted_more, refused_meets}
use Rattle.placement_rules.proofs.LabelLemmas.{part_labels, part_more, part_end, split_meets}
use Rattle.placement_rules.proofs.apart.claim_part.Goals as goal

pub returns-then-not-claim_both-clause-met : goal.returns-then-not-claim_both-clause-met
returns-then-not-claim_both-clause-met c = λ _. split_meets c.args.p.now.given _ c.args.parts.now c.args.i c.items-v-items.result.now c.loop-v.v-index _ (omega arith) (c.items-v-items.ensures ∙ get_or_read c.args.parts.now c.args.i c.index-parts-i.result c.requires.part c.index-parts-i.is []) c.requires.machines (refused_meets c.args.p.now.given _ (part_labels c.args.parts.now c.args.i c.items-v-items.result.now c.loop-v.v-index) _ _ _ _ _ c.holding_at-now.ensures c.loop-v.invariant (rw c.if-not-claim_both.true at c.claim_both.ensures))

pub loop-v-preserved : goal.loop-v-preserved
loop-v-preserved c = noted_more c.args.p.now.given _ (part_labels c.args.parts.now c.args.i c.items-v-items.result.now c.loop-v.v-index) _ _ _ _ _ _ c.holding_at-now.ensures (part_more c.args.parts.now c.args.i c.items-v-items.result.now c.loop-v.v-index _ (omega arith)) c.loop-v.invariant (rw c.if-not-claim_both.false at c.claim_both.ensures)

pub returns-clause-noted : goal.returns-clause-noted
returns-clause-noted c = λ _. part_end _ c.args.parts.now c.args.i c.items-v-items.result.now c.loop-v.v-index _ (omega arith) (c.items-v-items.ensures ∙ get_or_read c.args.parts.now c.args.i c.index-parts-i.result c.requires.part c.index-parts-i.is []) c.loop-v.invariant
