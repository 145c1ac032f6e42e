use Rattle.rule_load.proofs.Prelude.{leb-true, ◌-◌, leb, rules, arith, IsPartitionPoint-from_clause, IsPartitionedBy-leb, MostUse, sets}
use Rattle.rule_load.proofs.DoubtLemmas.{afar_more, fits_all, fits_alone}
use Rattle.rule_load.proofs.doubt.machine_doubt.Goals as goal

pub machines-preserved : goal.machines-preserved
machines-preserved c = record {
  most = omega (arith, c.machines.invariant.most);
  late =
      afar_more c.args.p.now.given (sets c.args.g.now) c.args.kept.standings.now c.args.r c.args.n.0 c.args.x c.args.spare c.args.kept.near.now c.order-order.result.now (c.machines.k - 1) _ _ c.order-order.ensures c.requires.kept.standing.count
      (omega (arith, c.machines-test.true, c.machines.invariant.most)) (λ j u from to. c.machines.invariant.late j u (omega (arith, from)) to) (c.fits_from_afar.ensures c.if-not-fits_from_afar.false);
}

pub returns-clause-none : goal.returns-clause-none
returns-clause-none c =
    let parted = IsPartitionedBy-leb (λ (x : MostUse). x.most) c.order-order.result.now c.args.spare c.order-order.ensures.climbs in
    let point = IsPartitionPoint-from_clause (λ (x : MostUse). leb x.most c.args.spare) _ _ c.partition_point-first.ensures.partitioned parted (λ a r q k. search rules) in
    fits_all c.args.p.now.given (sets c.args.g.now) c.args.kept.standings.now c.args.r c.args.n.0 c.args.x c.args.spare c.args.kept.near.now c.order-order.result.now c.partition_point-first.result
    (omega (arith, c.args.p.now.sound.horizon, c.requires.period)) c.order-order.ensures (λ k d h. leb-true _ _ (point.0 k d (omega arith) h)) c.in_default.ensures (λ k d from to. c.machines.invariant.late k d (omega (arith, from, c.machines-test.false)) to)

pub returns-then-stay_away-clause-none : goal.returns-then-stay_away-clause-none
returns-then-stay_away-clause-none c =
    fits_alone c.args.p.now.given (sets c.args.g.now) c.args.kept.standings.now c.args.r c.args.n.0 c.args.x c.args.spare c.args.kept.near.now c.args.kept.firsts.now c.stay_away.new.start c.requires.kept.near c.requires.kept.firsts
    (omega (arith, c.args.p.now.sound.horizon, c.requires.period)) c.stay_away.ensures.start (c.if-stay_away.ensures.away (search rules)) c.in_default.ensures
