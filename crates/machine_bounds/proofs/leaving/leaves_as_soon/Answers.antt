use Rattle.base.proofs.Public.{sym, ◌∙◌}
use Rattle.machine_bounds.specs.Prelude.{leave_of}
use Rattle.machine_bounds.proofs.LeavingLemmas.{as_soon, none_lost}
use Rattle.machine_bounds.proofs.leaving.leaves_as_soon.Goals as goal

pub returns-in-None : goal.returns-in-None
returns-in-None c = λ _. rw c.in-Lost.is (none_lost (leave_of c.args.p.now.given c.args.v.0) c.in-Lost.lost c.args.domain.now (rw c.in-Lost.is at c.requires.fewer) (sym c.lowest_lost.ensures ∙ c.in-None.is))

pub returns-in-Some : goal.returns-in-Some
returns-in-Some c = λ on.
    let found = c.may_leave_by.ensures on in
    rw c.in-Lost.is
    (as_soon (leave_of c.args.p.now.given c.args.v.0) c.in-Lost.lost c.args.domain.now found.0 c.in-Some.first (rw c.in-Lost.is at c.requires.fewer) (sym c.lowest_lost.ensures ∙ c.in-Some.is) found.1 found.2)
