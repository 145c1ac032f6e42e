use Rattle.load_bounds.proofs.Prelude.{IsPartitionPoint-from_clause, IsPartitionedBy-leb, leb, leb-true, ◌-◌, rules, arith, sets}
use Rattle.profiles.specs.declared.fixed.MostUse.{MostUse}
use Rattle.load_bounds.proofs.OrderLemmas.{fits_more, fits_order}
use Rattle.load_bounds.proofs.total_fit.machines_fit.Goals as goal

pub machines-preserved : goal.machines-preserved
machines-preserved c = record {
  most = omega (arith, c.machines.invariant.most);
  late =
      fits_more c.args.p.now.given (sets c.args.g.now) c.args.ks.now c.args.r c.args.x c.args.spare c.order-order.result.now (c.machines.k - 1) _ _ c.order-order.ensures c.requires.count
      (omega (arith, c.machines-test.true, c.machines.invariant.most)) (λ j u from to. c.machines.invariant.late j u (omega (arith, from)) to) (c.machine_fits.ensures c.if-not-machine_fits.false);
}

pub returns : goal.returns
returns c =
    let parted = IsPartitionedBy-leb (λ (x : MostUse). x.most) c.order-order.result.now c.args.spare c.order-order.ensures.climbs in
    let point = IsPartitionPoint-from_clause (λ (x : MostUse). leb x.most c.args.spare) _ _ c.partition_point-first.ensures.partitioned parted (λ a r q k. search rules) in
    λ _. fits_order c.args.p.now.given (sets c.args.g.now) c.args.ks.now c.args.r c.args.x c.args.spare c.order-order.result.now c.partition_point-first.result
    c.order-order.ensures (λ k d h. leb-true _ _ (point.0 k d (omega arith) h)) (λ k d from to. c.machines.invariant.late k d (omega (arith, from, c.machines-test.false)) to)
