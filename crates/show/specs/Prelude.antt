-- What is cited together of this crate and of those below it, passed on from one place. Declares nothing.
pub use Rattle.replay.specs.Prelude.{Choices, choices_of, CountsWrites, element_count, InRange, Instance, inventory_of, IsElement, IsPlanOf, IsVerdict, spaced}
unfoldable pub use Rattle.replay.specs.Prelude.{broken_line, end_of}
pub use Rattle.judge.specs.Prelude.{cost_of, element_at, name_of, node, SoundInstance}
pub use Rattle.slices.specs.Prelude.{host_of, state_of}
pub use Rattle.cluster.specs.declared.choices.Choice.{Choice}
pub use Rattle.cluster.specs.declared.choices.Choice.TheVariants.{Act, Idle}
pub use Rattle.cluster.specs.declared.ids.Element.{Element}
pub use Rattle.show.specs.Listing.{acting, actions_of, in_time, IsActionOf, IsListing}
unfoldable pub use Rattle.show.specs.Listing.{action_of}
pub use Rattle.show.specs.Lines.{host_of_element, kind_text, last_end, node_name, target_of}
unfoldable pub use Rattle.show.specs.Lines.{action_line, last_line, total_line}
pub use Rattle.show.specs.Shown.{IsCutShort, IsPartOfShown, IsShown}
unfoldable pub use Rattle.show.specs.Shown.{listing_text}
