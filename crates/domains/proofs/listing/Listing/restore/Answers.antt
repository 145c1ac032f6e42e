use Rattle.std.proofs.Common.{arith}
use Rattle.domains.proofs.ListingLemmas.{recount_room, recount_term, listed_change}
use Rattle.domains.proofs.listing.Listing.restore.Goals as goal

pub recount-requires-clause-room : goal.recount-requires-clause-room
recount-requires-clause-room c =
    let v = c.self.inside.domains in
    recount_room c.self.inside.unfixed v.items _ c.args.i c.self.invariant.counted (omega (arith, v.ok.0, v.ok.1, v.small))

pub recount-requires-clause-counted : goal.recount-requires-clause-counted
recount-requires-clause-counted c =
    recount_term c.self.inside.unfixed c.self.inside.domains.items c.args.i c.index_mut-domain.result.now c.is_one-was_one.result c.self.invariant
    (rw c.self.view_is c.requires.within) c.index_mut-domain.ensures.value c.is_one-was_one.ensures.one

pub invariant_of-self : goal.invariant_of-self
invariant_of-self c =
    listed_change c.self.inside.unfixed c.self.inside.domains.items c.args.i c.index_mut-domain.result.now c.is_one-was_one.result c.self.invariant
    (rw c.self.view_is c.requires.within) c.index_mut-domain.ensures.value c.is_one-was_one.ensures.one
    c.recount.new.unfixed c.restore.new.self c.is_one-is_one.result c.restore.ensures.climbs c.is_one-is_one.ensures.one c.recount.ensures
