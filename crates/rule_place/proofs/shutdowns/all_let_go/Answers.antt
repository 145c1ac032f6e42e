use Rattle.base.proofs.Public.{inl, inr, arith, cases_eq}
use Rattle.rule_place.proofs.shutdowns.all_let_go.Goals as goal

pub loop-i-preserved : goal.loop-i-preserved
loop-i-preserved c = λ v l. elim (cases_eq v c.loop-i.i) [ inl same ↦ rw same (c.lets_go.ensures c.if-not-lets_go.false) | inr other ↦ c.loop-i.invariant v (omega (arith, l, other)) ]
