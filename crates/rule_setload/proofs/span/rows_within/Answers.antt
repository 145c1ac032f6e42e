use Rattle.rule_setload.proofs.Prelude.{arith, has_node}
use Rattle.rule_setload.proofs.SpanLemmas.{rows_outside}
use Rattle.rule_setload.proofs.span.rows_within.Goals as goal

pub returns-clause-others : goal.returns-clause-others
returns-clause-others c =
    rows_outside (has_node c.args._nodes.now) c.args.span c.requires.span c.args.rows.now c.count_before-from.result c.min.result c.requires.climbs c.count_before-from.ensures.before c.count_before-from.ensures.behind
    (λ k late low. omega (arith, late, low, c.min.ensures, c.saturating_add.ensures, c.saturating_sub-many.ensures))
