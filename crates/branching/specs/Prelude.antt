-- What is cited together of this crate and of those below it, passed on from one place. Declares nothing.
pub use Rattle.trees.specs.Prelude.{choices, Climbs, ComesBefore, domain_at, DomainView, element_at, element_count, element_number, HasElement, HaveChoices, in_part, Instance, Inventory, inventory_of, IsElement, IsFirstUnfixed, IsFixed, IsFixedAt, IsListed, IsPlanOf, IsSplit, max_capacity, no_row, out_of_part, place_index, RegionView, row_choices, same_place, sets, starts_from}
unfoldable pub use Rattle.trees.specs.Prelude.{end_of}
pub use Rattle.cluster.specs.declared.choices.Choice.{Choice}
pub use Rattle.cluster.specs.declared.choices.Choice.TheVariants.{Act}
pub use Rattle.cluster.specs.declared.choices.Place.{Place}
pub use Rattle.cluster.specs.declared.ids.Element.{Element}
pub use Rattle.cluster.specs.declared.ids.Element.TheVariants.{Node, Vm}
pub use Rattle.domains.specs.declared.parts.Part.{Part}
pub use Rattle.domains.specs.declared.parts.Part.TheVariants.{From, Idle, Upto}
pub use Rattle.domains.specs.declared.parts.Row.{Row}
pub use Rattle.relax.specs.Areas.{AreLegal, IsSized}
pub use Rattle.branching.specs.Better.{IsBetter}
pub use Rattle.branching.specs.Elements.{HasMostFailures, IsUnfixed}
pub use Rattle.branching.specs.Parts.{first_start, IsFirstFree, IsLeastStart, IsOpen, row_of, Splits, StartsFirst}
