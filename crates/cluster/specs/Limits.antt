-- How much a cluster takes, and how great its numbers may be.
use Rattle.std.specs.Prelude.{ℕ}

-- at most so many resources, nodes and machines
abbrev pub max_resources : ℕ
max_resources = 8

abbrev pub max_nodes : ℕ
max_nodes = 512

abbrev pub max_machines : ℕ
max_machines = 4096

-- at most so many bytes in a name
abbrev pub max_name_bytes : ℕ
max_name_bytes = 64

-- at most so many units of one resource
abbrev pub max_amount : ℕ
max_amount = 1000000000

-- at most so many instants in the base of a duration, and for each unit of its resource
abbrev pub max_duration : ℕ
max_duration = 1000000
