use Rattle.machine_bounds.specs.Prelude.{choices, leave_of}
use Rattle.machine_bounds.proofs.LeavingLemmas.{least_raised}
use Rattle.machine_bounds.proofs.leaving.leave_or_later.Goals as goal

pub returns-in-Some : goal.returns-in-Some
returns-in-Some c = rw c.unwrap_or.ensures (least_raised (leave_of c.args.p.now.given c.args.v.0) c.in-Some.leaves.lasts (choices c.args.domain.now) c.lowest.result c.lowest.ensures)
