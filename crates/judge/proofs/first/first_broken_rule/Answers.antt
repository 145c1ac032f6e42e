use Rattle.judge.specs.Prelude.{choices_of, node_count, snapshot_at}
use Rattle.judge.proofs.Lowering.{keeps_all, table_fits, unmet_first}
use Rattle.judge.proofs.first.first_broken_rule.Goals as goal

pub returns-in-Some-first_unmet : goal.returns-in-Some-first_unmet
returns-in-Some-first_unmet c =
    let p = c.args.p.now.given in
    unmet_first p (choices_of c.args.plan.now) c.args.t c.in-Some-first_unmet.c (record { loads = table_fits p (snapshot_at p (choices_of c.args.plan.now) c.args.t) c.loads_at.result (node_count p) c.loads_at.ensures c.in_default.ensures; usables = c.in_default-first_away.ensures }) c.in-Some-first_unmet.ensures

pub returns : goal.returns
returns c =
    let p = c.args.p.now.given in
    keeps_all p (choices_of c.args.plan.now) c.args.t (record { loads = table_fits p (snapshot_at p (choices_of c.args.plan.now) c.args.t) c.loads_at.result (node_count p) c.loads_at.ensures c.in_default.ensures; usables = c.in_default-first_away.ensures }) c.in_default-first_unmet.ensures
