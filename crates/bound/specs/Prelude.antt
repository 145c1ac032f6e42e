-- What is cited together of this crate and of those below it, passed on from one place. Declares nothing.
pub use Rattle.relax.specs.Prelude.{Instance, IsOneOf, machine_count, max_held, Nodes, RegionView, Sets, sets, Snapshot, sum_to}
