use Rattle.std.proofs.Common.{refl, arith}
use Rattle.placement_rules.proofs.LabelLemmas.{split_apart}
use Rattle.placement_rules.proofs.apart.is_split.Goals as goal

pub returns : goal.returns
returns c = (λ _. split_apart c.args.p.now.given _ c.args.parts.now c.loop-i.i _ (omega arith) c.loop-i.invariant, λ _. refl)
