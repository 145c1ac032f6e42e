-- The path that lent parts make.
use Rattle.std.specs.Prelude.{ℕ, List}
use Rattle.json_walk.specs.declared.path_ref.PathRef.{PathRef, Key', Item'}
use Rattle.json_walk.specs.declared.path_ref.PathRef.TheVariants.{Root, Text}
use Rattle.json_walk.specs.Path.{root, key_path, item_path}

abbrev pub path_of : PathRef → List ℕ
path_of Root = root
path_of (Text p) = p.now
path_of (Key' at p key) = key_path (path_of p) key.now
path_of (Item' at p place) = item_path (path_of p) place
