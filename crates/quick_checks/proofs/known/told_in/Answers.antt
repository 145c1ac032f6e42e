use Rattle.quick_checks.proofs.{Prelude.arith, Prelude.nodes_of, Prelude.seen, Prelude.vm, KnownLemmas.least_is_small}
use Rattle.quick_checks.proofs.known.told_in.Goals as goal

pub returns-in-Some-clause-small : goal.returns-in-Some-clause-small
returns-in-Some-clause-small c =
    let all = seen c.args.view.now.region.now c.args.view.now.lens (vm c.args.v.0) in
    omega (arith, c.kept_in.ensures all c.in-Some.ensures, least_is_small c.args.p.now.given c.args.p.now.sound c.args.v.0 c.args.weight (nodes_of c.args.p.now.given c.args.area.now) c.args.t all)
