use Rattle.cert_model.proofs.StandLemmas.{start_legal}
use Rattle.cert_model.proofs.walk.Walk.new.Goals as goal

pub sum_of-sum-requires-clause-legal : goal.sum_of-sum-requires-clause-legal
sum_of-sum-requires-clause-legal g c = start_legal c.args.p.now.given _ c.in_ok-region.ensures.sets
