use Rattle.std.proofs.lemmas.Option.{slice_get_read}
use Rattle.rule_constraint.proofs.Prelude.{length, refl, sym, ◌∙◌, sets, Vm}
use Rattle.rule_constraint.proofs.DirtyLemmas.{spared_covered}
use Rattle.rule_constraint.proofs.disturb.is_spared.Goals as goal

pub returns-else-not-covers : goal.returns-else-not-covers
returns-else-not-covers g c =
    λ yes. spared_covered (g.S.Kinds.kinds c.args.kinds.now) c.args.p.now.given (sets c.args.g.now) (Vm c.args.v) c.args.c c.index-constraints-c.result c.in-Some.kind (slice_get_read c.args.p.now.given.constraints (length c.args.p.now.given.constraints) c.args.c _ refl c.requires.constraint (rw c.constraints.ensures.constraints at c.index-constraints-c.is)) (sym c.reason_kind.ensures ∙ c.in-Some.is)
    (sym c.covers.ensures ∙ c.if-not-covers.false) (c.spares.ensures yes)
