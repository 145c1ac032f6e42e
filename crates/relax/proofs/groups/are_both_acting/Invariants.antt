use Rattle.relax.proofs.{Prelude.seen, Prelude.sure, MemberLemmas.IsAlone}
use Rattle.relax.proofs.groups.are_both_acting.Given as goal

abbrev pub invariant-loop-v : goal.invariant-loop-v
invariant-loop-v l = IsAlone (sure l.p.given (seen l.view.region.now l.view.lens) l.t) l.machines l.v-index l.acting
