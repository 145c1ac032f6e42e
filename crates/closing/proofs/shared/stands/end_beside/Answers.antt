use Rattle.closing.proofs.Prelude.{Option, Some, None, IfSome, Choice, has_node_of, IsEndThat, IsOn, On, sets, vm}
use Rattle.closing.proofs.StandLemmas.{end_on_second}
use Rattle.closing.proofs.shared.stands.end_beside.Goals as goal

pub returns-in-None-clause-some : goal.returns-in-None-clause-some
returns-in-None-clause-some c = rw c.in-On.is (by c.end_on-in-None.result c.end_on-in-None.ensures.some)
  where
    by : (o : Option Choice) → IfSome o (IsEndThat (IsOn c.args.p.now.given c.args.v.0 (has_node_of (On c.in-On.b None)) c.args.t) (sets c.args.g.now (vm c.args.v.0))) → IfSome o (IsEndThat (IsOn c.args.p.now.given c.args.v.0 (has_node_of (On c.in-On.a c.in-On.b)) c.args.t) (sets c.args.g.now (vm c.args.v.0)))
    by None h = tt
    by (Some x) h = end_on_second c.args.p.now.given c.args.v.0 c.args.t (sets c.args.g.now (vm c.args.v.0)) c.in-On.a c.in-On.b x h
