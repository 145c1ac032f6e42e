use Rattle.power_bounds.proofs.Prelude.{◌≡◌, inl, inr, true, rules, arith, cases_eq}
use Rattle.power_bounds.proofs.power.nodes_fit.Goals as goal

pub loop-i-preserved : goal.loop-i-preserved
loop-i-preserved c =
    let on : c.node_fits.result ≡ true = search rules in
    λ n low. elim (cases_eq n c.loop-i.i) [ inl same ↦ rw same (c.node_fits.ensures on) | inr other ↦ c.loop-i.invariant n (omega (arith, low, other)) ]
