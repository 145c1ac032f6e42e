-- What is cited together of this crate and of those below it, passed on from one place. Declares nothing.
pub use Rattle.base.specs.Least.{least, lower, lowest}
pub use Rattle.base.specs.Sums.{product_to, sum_to}
pub use Rattle.cluster.specs.Bits.{has_bit, HasNoBit, IsBits, IsBits-with_bit, IsBits-zero, IsFirstBit, with_bit}
pub use Rattle.cluster.specs.Elements.{element_at, element_count, element_number}
pub use Rattle.cluster.specs.Inventory.{amounts_fit, are_distinct, base_fault, duration_fits, element_named, element_of_places, has_places, host_is_online, Inventory, is_online, is_taken, IsInventory, IsListed, machine_fault, machine_fits, machine_own_fits, name_of, names_of, names_of_machines, names_of_nodes, node_fault, node_fits, node_own_fits, own_fits, resource_fits, resource_named, SoundInventory}
pub use Rattle.cluster.specs.Kinds.{kind_count, kind_number, machine_kind_count}
unfoldable pub use Rattle.cluster.specs.Kinds.{kind_of_word, kind_word, kind_words, kinds}
pub use Rattle.cluster.specs.Limits.{max_amount, max_duration, max_machines, max_name_bytes, max_nodes, max_resources}
pub use Rattle.cluster.specs.Names.{goes_on_name, starts_name}
unfoldable pub use Rattle.cluster.specs.Names.{is_name}
pub use Rattle.cluster.specs.Sets.{IsFirstFrom, IsWithin}
unfoldable pub use Rattle.cluster.specs.Sets.{has_machine, has_node, no_nodes, with_node}
pub use Rattle.cluster.specs.States.{host_of, state_number}
unfoldable pub use Rattle.cluster.specs.States.{state_word, state_words}
pub use Rattle.cluster.specs.ByName.{at_name}
pub use Rattle.cluster.specs.Tables.{inventory_of, IsIndexed}
pub use Rattle.cluster.specs.declared.choices.Choice.{Choice}
pub use Rattle.cluster.specs.declared.choices.Choice.TheVariants.{Act, Idle}
pub use Rattle.cluster.specs.declared.choices.Place.{Place}
pub use Rattle.cluster.specs.declared.choices.Place.TheVariants.{At, Nowhere}
pub use Rattle.cluster.specs.declared.durations.Duration.{Duration}
pub use Rattle.cluster.specs.declared.ids.Element.{Element}
pub use Rattle.cluster.specs.declared.ids.Element.TheVariants.{Node, Vm}
pub use Rattle.cluster.specs.declared.ids.NodeId.{NodeId}
pub use Rattle.cluster.specs.declared.ids.VmId.{VmId}
pub use Rattle.cluster.specs.declared.inventory.AddFault.TheVariants.{BadHost, Memory, TooGreat, TooMany, Twice}
pub use Rattle.cluster.specs.declared.inventory.Cluster.TheInside.{Inside}
pub use Rattle.cluster.specs.declared.kinds.Kind.{Kind}
pub use Rattle.cluster.specs.declared.kinds.Kind.TheVariants.{Allocate, Boot, Forge, Kill, Migrate, NodeBoot, NodeShutdown, Resume, Shutdown, Suspend}
pub use Rattle.cluster.specs.declared.kinds.TheConstants.{KINDS}
pub use Rattle.cluster.specs.declared.machines.Machine.{Machine}
pub use Rattle.cluster.specs.declared.names.NameFault.{NameFault}
pub use Rattle.cluster.specs.declared.names.NameFault.TheVariants.{BadName}
pub use Rattle.cluster.specs.declared.sets.MachineSet.{MachineSet}
pub use Rattle.cluster.specs.declared.sets.NodeSet.{NodeSet}
pub use Rattle.cluster.specs.declared.states.State.{State}
pub use Rattle.cluster.specs.declared.states.State.TheVariants.{Gone, Init, Ready, Running, Sleeping}
