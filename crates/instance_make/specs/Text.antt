-- The text of a problem.
use Rattle.std.specs.Prelude.{ℕ, List, [], ◌∷◌, ◌++◌, map, Some, codes}
use Rattle.serde_json.specs.Data.{Data, string, number, unsigned, object, no_members, member}
use Rattle.serde_json.specs.Written.{compact_text}
use Rattle.catalogue.specs.Instance.{Instance, inventory_of}
use Rattle.instance_make.specs.Elements.{durations_data, node_data, machine_data}
use Rattle.instance_make.specs.Rules.{list_data, constraint_data}

-- the keys ascend; all ten kinds have a duration
unfoldable pub instance_data : Instance → Data
instance_data p =
    object (member (codes "constraints") (list_data (map (constraint_data (inventory_of p)) p.constraints))
    (member (codes "durations") (durations_data p.resources (map Some p.durations))
    (member (codes "horizon") (number (unsigned p.horizon))
    (member (codes "machines") (list_data (map (machine_data (inventory_of p)) p.machines))
    (member (codes "nodes") (list_data (map (node_data (inventory_of p)) p.nodes))
    (member (codes "resources") (list_data (map string p.resources)) no_members))))))

-- compact, and one newline
unfoldable pub instance_text : Instance → List ℕ
instance_text p = compact_text (instance_data p) ++ 10 ∷ []
