use Rattle.placement_rules.proofs.Prelude.{slice_get, ◌≡◌, Some, subst, length, refl, slice_get_read, choices_of, Holds, snapshot_at}
use Rattle.placement_rules.proofs.forms.holds.Goals as goal

pub returns : goal.returns
returns c =
    let found : slice_get c.args.p.now.given.constraints c.args.c ≡ Some c.index-constraints-c.result =
    slice_get_read c.args.p.now.given.constraints (length c.args.p.now.given.constraints) c.args.c c.index-constraints-c.result refl c.requires.constraint (rw c.constraints.ensures.constraints at c.index-constraints-c.is) in
    let is = rw c.form_of.ensures.form at c.is_kept.ensures in (
      λ kept x e. let same : c.index-constraints-c.result ≡ x = cc in subst (Holds c.args.p.now.given (snapshot_at c.args.p.now.given (choices_of c.args.plan.now) c.args.t)) same (is.0 kept),
      λ held. is.1 (held c.index-constraints-c.result found),
    )
