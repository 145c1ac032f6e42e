use Rattle.rule_setload.proofs.Prelude.{◌≡◌, inl, inr, true, rules, arith, cases_eq}
use Rattle.rule_setload.proofs.fit.machines_fit.Goals as goal

pub loop-i-preserved : goal.loop-i-preserved
loop-i-preserved c =
    let on : c.fits_among.result ≡ true = search rules in
    λ v low. elim (cases_eq v c.loop-i.i) [ inl same ↦ rw same (c.fits_among.ensures on) | inr other ↦ c.loop-i.invariant v (omega (arith, low, other)) ]
