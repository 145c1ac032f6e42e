use Rattle.rule_place.proofs.Prelude.{sets, Vm, not_come}
use Rattle.rule_place.proofs.shutdowns.goes_elsewhere.Goals as goal

pub returns : goal.returns
returns c = λ yes d t there l. not_come c.args.n c.horizon.result t (sets c.args.g.now (Vm c.args.v)) d (c.leaves_none.ensures.0 yes) there (rw c.horizon.ensures.horizon l)
