use Rattle.std.proofs.Common.{arith, ap, ◌∙◌}
use Rattle.domains.specs.Choices.{is_one}
use Rattle.domains.proofs.ListingLemmas.{recount_room, recount_term, listed_change}
use Rattle.domains.proofs.listing.Listing.set.Goals as goal

pub recount-requires-clause-room : goal.recount-requires-clause-room
recount-requires-clause-room c =
    let v = c.self.inside.domains in
    recount_room c.self.inside.unfixed v.items _ c.args.i c.self.invariant.counted (omega (arith, v.ok.0, v.ok.1, v.small))

pub recount-requires-clause-counted : goal.recount-requires-clause-counted
recount-requires-clause-counted c =
    recount_term c.self.inside.unfixed c.self.inside.domains.items c.args.i c.index_mut.result.now c.is_one.result c.self.invariant
    (rw c.self.view_is c.requires) c.index_mut.ensures.value (c.is_one.ensures.one ∙ ap is_one c.replace-old.ensures.value)

pub invariant_of-self : goal.invariant_of-self
invariant_of-self c =
    listed_change c.self.inside.unfixed c.self.inside.domains.items c.args.i c.index_mut.result.now c.is_one.result c.self.invariant
    (rw c.self.view_is c.requires) c.index_mut.ensures.value (c.is_one.ensures.one ∙ ap is_one c.replace-old.ensures.value)
    c.recount.new.unfixed c.replace-old.new.dest c.is_one-is_one.result (rw c.replace-old.ensures.after c.is_one-is_one.ensures.climbs) (rw c.replace-old.ensures.after c.is_one-is_one.ensures.one) c.recount.ensures
