use Rattle.relax.specs.Prelude.{choices, end_of}
use Rattle.bound.proofs.EndLemmas.{lowest_at_floor}
use Rattle.bound.proofs.ends.is_floor.Goals as goal

pub returns-in-None : goal.returns-in-None
returns-in-None c = λ is.
    let there = c.is_ended_by.ensures is in
    rw c.in-None.is (lowest_at_floor (end_of c.args.p.now.given c.args.e) c.args.floor (choices c.args.domain.now) there.0 there.1 there.2)
