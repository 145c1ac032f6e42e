-- What is cited together of this crate and of those below it, passed on from one place. Declares nothing.
pub use Rattle.relax.specs.Prelude.{AreFewer, choices, Climbs, domain_before, DomainView, in_part, Instance, IsElement, IsEnd, IsSized, least, machine_count, max_nodes, no_row, row_at, Sets, sets, vm}
pub use Rattle.standings.specs.Prelude.{AreLeaves, leave_climbs, leave_of, never}
pub use Rattle.cluster.specs.declared.choices.Choice.{Choice}
pub use Rattle.cluster.specs.declared.choices.Choice.TheVariants.{Act}
pub use Rattle.cluster.specs.declared.choices.Place.TheVariants.{At}
pub use Rattle.machine_bounds.specs.Ends.{AreEnds, AreEnough, HaveBits, IsKnown}
pub use Rattle.machine_bounds.specs.Gone.{AreGone, bound_count, gone_at, GoneView, StartsFrom}
