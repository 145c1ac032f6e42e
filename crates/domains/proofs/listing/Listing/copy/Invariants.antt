use Rattle.std.proofs.Common.{◌≡◌, take}
use Rattle.domains.proofs.listing.Listing.copy.Given as goal

abbrev pub invariant-loop-domain : goal.invariant-loop-domain
invariant-loop-domain l = l.copies.items ≡ take l.domain-index l.domain-items
