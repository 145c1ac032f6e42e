use Rattle.relax.proofs.Prelude.{◌≡◌, ◌∙◌, Bool, true, false, not, refl, sym, Contains, nodes_of, sets, vm}
use Rattle.relax.proofs.MoveLemmas.{all_stay}
use Rattle.relax.proofs.floors.keeps_on.Goals as goal

-- what is not true is false
falsely : (b : Bool) → not b ≡ true → b ≡ false
falsely true e = cc
falsely false e = refl

pub returns : goal.returns
returns c =
    λ t w x h.
    let seen = rw (c.shown.ensures.seen c.args.view.now.region.now) at h in
    let there : Contains (sets c.args.view.now.region.now (vm c.args.v.0)) x = c.is_part.ensures c.if-not-is_part.false (sets c.args.view.now.region.now (vm c.args.v.0)) x seen in
    all_stay c.args.p.now.given c.args.v.0 w c.args.host (nodes_of c.args.p.now.given c.args.area.now) c.args.t c.domain-domain.result.now c.requires.runs (c.is_to_run.ensures c.if-not-is_to_run.false c.args.host c.requires.runs) (sym c.has.ensures ∙ c.if-not-has.false) (c.always_acts.ensures c.if-not-always_acts.false) (rw (c.rows.ensures.items, c.move_time.ensures.time) at (c.is_out_by.ensures.no (falsely c.is_out_by.result t))) x (rw c.domain-domain.ensures.domain there)
