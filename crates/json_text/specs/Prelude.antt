-- What is cited together of this crate and of those below it, passed on from one place. Declares nothing.
pub use Rattle.json_walk.specs.Prelude.{as_walk, fault_at, field_by, json_of, number_field, only_keys, optional_by, root, wants, ◌>>=◌, ◌>>◌}
unfoldable pub use Rattle.json_walk.specs.Prelude.{each, item_path, key_path, list_of, text_of}
