use Rattle.rule_group.proofs.Prelude.{arith}
use Rattle.rule_group.proofs.ActingLemmas.{more_span}
use Rattle.rule_group.proofs.acting.with_row.Goals as goal

pub returns : goal.returns
returns c =
    more_span c.args.p.now.given c.args.v.0 c.args.domain.now c.rows.result.now c.args.span c.args.i c.max.result c.min.result c.rows.ensures.items c.rows.ensures.climbs c.requires.row c.requires.span (omega arith)
    (omega (arith, c.ends_of-first.ensures.first))
