-- What is cited together of this crate and of those below it, passed on from one place. Declares nothing.
pub use Rattle.base.specs.Sums.{sum_to}
unfoldable pub use Rattle.json_walk.specs.Each.{each}
pub use Rattle.json_walk.specs.Json.{json_fault_of, json_of, max_text_bytes}
pub use Rattle.json_walk.specs.Members.{as_walk, field_by, number_field, only_keys, optional_by, optional_flag, optional_number}
unfoldable pub use Rattle.json_walk.specs.Members.{map_walk, word_field}
pub use Rattle.json_walk.specs.Path.{root}
unfoldable pub use Rattle.json_walk.specs.Path.{item_path, key_path}
pub use Rattle.json_walk.specs.PathRef.{path_of}
unfoldable pub use Rattle.json_walk.specs.Texts.{kind_text}
pub use Rattle.json_walk.specs.Walk.{Fails, fault_at, fault_of, Gives, items_list, keys_of, wants, ◌>>=◌, ◌>>◌}
unfoldable pub use Rattle.json_walk.specs.Walk.{field_of, flag_of, list_field_of, list_of, number_field_of, number_of, object_of, only_of, optional, text_field_of, text_of, word_field_of, word_of}
pub use Rattle.json_walk.specs.declared.fault.Fault.{Fault}
pub use Rattle.json_walk.specs.declared.fault.FaultKind.TheVariants.{Missing, OutOfRange, Unknown, WrongKind}
pub use Rattle.json_walk.specs.declared.fault.JsonFault.TheVariants.{NotJson}
pub use Rattle.json_walk.specs.declared.fault.WalkFault.{WalkFault}
pub use Rattle.json_walk.specs.declared.fault.WalkFault.TheVariants.{Bad}
