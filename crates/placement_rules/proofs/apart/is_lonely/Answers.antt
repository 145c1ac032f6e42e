use Rattle.std.proofs.Common.{refl, arith}
use Rattle.placement_rules.proofs.Noting.{noted_more}
use Rattle.placement_rules.proofs.LabelLemmas.{lonely_labels, lonely_more, lonely_apart}
use Rattle.placement_rules.proofs.apart.is_lonely.Goals as goal

pub loop-i-preserved : goal.loop-i-preserved
loop-i-preserved c = noted_more c.args.p.now.given _ (lonely_labels c.args.machines.now c.loop-i.i) _ _ _ _ _ _ c.holding_at-now.ensures (lonely_more c.args.machines.now c.loop-i.i) c.loop-i.invariant (rw (c.if-not-claim_both.false, c.label_of.ensures, c.has.ensures, c.members-members.ensures c.loop-i.i) at c.claim_both.ensures)

pub returns : goal.returns
returns c = (λ _. lonely_apart c.args.p.now.given _ c.args.machines.now c.loop-i.i _ (omega arith) c.loop-i.invariant, λ _. refl)
