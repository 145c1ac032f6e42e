use Rattle.base.proofs.Public.{refl, arith, false≢true}
use Rattle.placement_rules.proofs.Noting.{noted_more, refused_meets}
use Rattle.placement_rules.proofs.LabelLemmas.{spread_labels, spread_more, spread_apart, spread_meets}
use Rattle.placement_rules.proofs.apart.is_spread.Goals as goal

pub returns-then-not-claim_both : goal.returns-then-not-claim_both
returns-then-not-claim_both c = (λ f. absurd (false≢true f), λ apart. absurd (spread_meets c.args.p.now.given _ c.args.machines.now c.loop-v.v-index _ (omega arith) c.requires.machines (refused_meets c.args.p.now.given _ (spread_labels c.args.machines.now c.loop-v.v-index) _ _ _ _ _ c.holding_at-now.ensures c.loop-v.invariant (rw c.if-not-claim_both.true at c.claim_both.ensures)) apart))

pub loop-v-preserved : goal.loop-v-preserved
loop-v-preserved c = noted_more c.args.p.now.given _ (spread_labels c.args.machines.now c.loop-v.v-index) _ _ _ _ _ _ c.holding_at-now.ensures (spread_more c.args.machines.now c.loop-v.v-index _ (omega arith)) c.loop-v.invariant (rw c.if-not-claim_both.false at c.claim_both.ensures)

pub returns : goal.returns
returns c = (λ _. spread_apart c.args.p.now.given _ c.args.machines.now c.loop-v.v-index _ (omega arith) c.loop-v.invariant, λ _. refl)
