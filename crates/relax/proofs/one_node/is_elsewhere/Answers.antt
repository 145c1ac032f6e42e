use Rattle.relax.proofs.Prelude.{◌∙◌, sym, subst, Contains, choices, one, sets, vm}
use Rattle.relax.proofs.AwayLemmas.{away_least}
use Rattle.relax.proofs.one_node.is_elsewhere.Goals as goal

pub returns : goal.returns
returns c =
    λ out w t.
    let one_out = c.may_stay_out.ensures out in
    away_least c.args.p.now.given c.args.v.0 w (one c.args.n.0) t (sets c.args.view.now.region.now (vm c.args.v.0)) one_out.0 (sym c.is_host.ensures ∙ c.if-is_host.false) (subst (λ d. Contains (choices d) one_out.0) c.domain.ensures.domain one_out.1) one_out.2
