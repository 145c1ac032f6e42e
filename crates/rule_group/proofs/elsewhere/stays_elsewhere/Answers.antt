use Rattle.rule_group.proofs.Prelude.{ap, arith, sym, ◌∙◌}
use Rattle.rule_group.specs.Prelude.{choices, group_nodes, groups_seen, sets}
use Rattle.rule_group.proofs.ElsewhereLemmas.{goes_elsewhere}
use Rattle.rule_group.proofs.elsewhere.stays_elsewhere.Goals as goal

pub returns : goal.returns
returns c =
    λ yes t short. goes_elsewhere c.args.p.now.given (sets c.args.g.now) c.args.v.0 t c.in-Some.h c.in-Some-leaves_of.leaves (group_nodes (groups_seen c.args.groups.now) c.args.i) c.domain.result.now c.rows.result.now short
    (sym (ap choices c.domain.ensures.domain)) c.rows.ensures.items c.in-Some.ensures.some (omega (arith, c.if-h-leaves.false)) c.in-Some-leaves_of.ensures (sym c.has.ensures ∙ c.if-has.false) (c.rows_are_out.ensures yes)
