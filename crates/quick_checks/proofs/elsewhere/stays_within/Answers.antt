use Rattle.quick_checks.proofs.Prelude.{ap, arith, sym, ◌∙◌, choices, nodes_of, sets}
use Rattle.quick_checks.proofs.ElsewhereLemmas.{goes_within}
use Rattle.quick_checks.proofs.elsewhere.stays_within.Goals as goal

pub returns : goal.returns
returns c =
    λ yes t short. goes_within c.args.p.now.given (sets c.args.g.now) c.args.v.0 t c.in-Some.h c.in-Some-leaves_of.leaves (nodes_of c.args.p.now.given c.args.area.now) c.domain.result.now c.rows.result.now short
    (sym (ap choices c.domain.ensures.domain)) c.rows.ensures.items c.in-Some.ensures.some (omega (arith, c.if-h-leaves.false)) c.in-Some-leaves_of.ensures (sym c.has.ensures ∙ c.if-not-has.false) (c.rows_go_into.ensures yes)
