use Rattle.std.proofs.Common.{arith}
use Rattle.domains.proofs.ListingLemmas.{first_some, first_none, fixed_at}
use Rattle.domains.proofs.listing.Listing.first_unfixed.Goals as goal

pub returns-in-Some-clause-some : goal.returns-in-Some-clause-some
returns-in-Some-clause-some c =
    rw (← c.self.view_is)
    (first_some c.self.inside.unfixed c.self.inside.domains.items c.self.invariant c.loop-block.block c.loop-block.invariant (omega arith) c.in-Some.i
    (rw c.as_slice.ensures.value at c.in-Some.ensures.some))

pub returns-in-None-clause-none : goal.returns-in-None-clause-none
returns-in-None-clause-none c =
    rw (← c.self.view_is)
    (first_none c.self.inside.unfixed c.self.inside.domains.items c.self.invariant c.loop-block.block c.loop-block.invariant (omega arith)
    (rw c.as_slice.ensures.value at c.in-None.ensures.none))

pub returns-clause-none : goal.returns-clause-none
returns-clause-none c =
    rw (← c.self.view_is)
    (λ k l u. fixed_at c.self.inside.unfixed c.self.inside.domains.items c.self.invariant c.loop-block.block c.loop-block.invariant k u (omega arith))
