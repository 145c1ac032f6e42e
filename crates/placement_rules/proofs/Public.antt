-- What crates above may cite; the rest is for this crate alone.

-- the machines of a list, of a prefix of it, and of parts
pub use Rattle.placement_rules.proofs.Members.{member_here, member_kept, member_split, member_within}
-- what is held is on nodes in range
pub use Rattle.placement_rules.proofs.Noting.{in_within}
