-- What is cited together of this crate and of those below it, passed on from one place. Declares nothing.
pub use Rattle.cluster.specs.Prelude.{element_at, element_count, element_named, element_number, goes_on_name, has_bit, host_is_online, host_of, Inventory, is_online, IsListed, IsWithin, least, lower, lowest, max_amount, max_machines, max_nodes, name_of, product_to, resource_named, sum_to}
unfoldable pub use Rattle.cluster.specs.Prelude.{has_machine, has_node, is_name, no_nodes, with_node}
pub use Rattle.base.specs.declared.memory.Memory.{Memory}
pub use Rattle.cluster.specs.declared.choices.Choice.{Choice}
pub use Rattle.cluster.specs.declared.choices.Choice.TheVariants.{Act}
pub use Rattle.cluster.specs.declared.choices.Place.{Place}
pub use Rattle.cluster.specs.declared.choices.Place.TheVariants.{At, Nowhere}
pub use Rattle.cluster.specs.declared.ids.Element.{Element}
pub use Rattle.cluster.specs.declared.ids.Element.TheVariants.{Node, Vm}
pub use Rattle.cluster.specs.declared.ids.NodeId.{NodeId}
pub use Rattle.cluster.specs.declared.ids.VmId.{VmId}
pub use Rattle.cluster.specs.declared.kinds.Kind.{Kind}
pub use Rattle.cluster.specs.declared.kinds.Kind.TheVariants.{Allocate, Boot, Forge, Kill, Migrate, NodeBoot, NodeShutdown, Resume, Shutdown, Suspend}
pub use Rattle.cluster.specs.declared.names.NameFault.{NameFault}
pub use Rattle.cluster.specs.declared.names.NameFault.TheVariants.{BadName}
pub use Rattle.cluster.specs.declared.sets.NodeSet.{NodeSet}
pub use Rattle.cluster.specs.declared.states.State.{State}
pub use Rattle.cluster.specs.declared.states.State.TheVariants.{Gone, Init, Ready, Running, Sleeping}
pub use Rattle.domains.specs.Choices.{choices, Climbs, ComesAfter, DomainView, is_one, no_row, place_index, row_choices, same_place, starts_from, staying}
pub use Rattle.domains.specs.Kept.{AreCounted, AreFixed, AreKept, AreListed, block_count, block_of, HaveRoom, IsFirstFrom, RowsView, unfixed, unfixed_in}
pub use Rattle.domains.specs.Laws.{AreFewer, CountFalls, CountFallsBelow, FilterIsFewer, is_above_none, is_nought, LeastGrows, LeastOfEach, LostIsRestored, LowestBefore, MayByLeast, MayEach, MayStays, OpenHasTwo, PartsAreDisjoint, PartsCover, PlanSplits, PlanStays, RestoredIsBoth, SizeFalls, SizeIsPositive, SplitAddsUp, SurelyByLeast, SurelyEach, SurelyStays}
pub use Rattle.domains.specs.Measures.{lower_option}
pub use Rattle.domains.specs.Parts.{in_part, on_side, out_of_part, stays}
pub use Rattle.domains.specs.Rows.{IsFound, IsGap, IsPartAt, IsRowAt, KeepsBetween, option_choices}
pub use Rattle.domains.specs.Sets.{ComesBefore, domain_at, HasElement, IsFirstUnfixed, IsFixed, IsFixedAt, IsIn, IsOnly, keeping, may, RegionView, same_element, Sets, sets, setting, surely, with_domain}
pub use Rattle.domains.specs.Sizes.{choice_count, IsOneOf, machine_choices, node_choices, size}
pub use Rattle.domains.specs.Undo.{CanRestore, domain_before, lost_choices, put_back, put_row, restored}
pub use Rattle.domains.specs.Views.{idle_seen, rows_under, seen, SeenByRows, shows, sight_at, sight_of}
pub use Rattle.domains.specs.declared.parts.Change.{Change}
pub use Rattle.domains.specs.declared.parts.Part.{Part}
pub use Rattle.domains.specs.declared.parts.Part.TheVariants.{From, Idle, Upto}
pub use Rattle.domains.specs.declared.parts.Row.{Row}
pub use Rattle.domains.specs.declared.parts.Side.{Side}
pub use Rattle.domains.specs.declared.parts.Side.TheVariants.{Inside, Outside}
pub use Rattle.domains.specs.declared.undo.Before.{Before}
pub use Rattle.domains.specs.declared.undo.Lost.{Lost}
pub use Rattle.domains.specs.declared.undo.Lost.TheVariants.{Nothing}
pub use Rattle.domains.specs.declared.view.Lens.{Lens}
pub use Rattle.domains.specs.declared.view.Lens.TheVariants.{Set, Whole}
pub use Rattle.domains.specs.declared.view.Sight.{Sight}
pub use Rattle.domains.specs.declared.view.Sight.TheVariants.{All, In, Only, Out}
