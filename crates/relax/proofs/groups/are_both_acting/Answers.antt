use Rattle.relax.proofs.Prelude.{◌∙◌, arith, sym, iff_false, seen, sure}
use Rattle.relax.proofs.MemberLemmas.{meet, none_meet}
use Rattle.relax.proofs.groups.are_both_acting.Goals as goal

pub returns-then-not-is_at_most-clause-yes : goal.returns-then-not-is_at_most-clause-yes
returns-then-not-is_at_most-clause-yes c =
    λ _. meet (sure c.args.p.now.given (seen c.args.view.now.region.now c.args.view.now.lens) c.args.t) c.args.machines.now c.loop-v.v-index _ c.loop-v.acting (omega arith) (sym c.surely_so_far.ensures ∙ c.if-not-surely_so_far.false) (iff_false c.is_at_most.ensures c.if-not-is_at_most.true) c.loop-v.invariant

pub returns-clause-no : goal.returns-clause-no
returns-clause-no c =
    λ _. none_meet (sure c.args.p.now.given (seen c.args.view.now.region.now c.args.view.now.lens) c.args.t) c.args.machines.now c.loop-v.v-index c.loop-v.acting (omega arith) c.loop-v.invariant
