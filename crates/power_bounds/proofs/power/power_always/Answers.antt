use Rattle.power_bounds.proofs.Prelude.{inl, inr, arith, cases_lt}
use Rattle.power_bounds.proofs.power.power_always.Goals as goal

pub periods-preserved : goal.periods-preserved
periods-preserved c = record {
  most = c.in-Some.ensures.most;
  stays = λ t l. elim (cases_lt t c.periods.from) [ inl earlier ↦ c.periods.invariant.stays t earlier | inr now ↦ c.in-Some.ensures.stays t now l ];
}

pub returns : goal.returns
returns c = λ on t l. c.periods.invariant.stays t (omega (arith, l))
