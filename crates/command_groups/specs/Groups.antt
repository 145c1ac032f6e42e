-- What the bytes of groups mean for a problem.
use Rattle.std.specs.Prelude.{ℕ, List, Result, Ok, Err, codes}
use Rattle.plan_io.specs.Files.{Files, bytes_of}
use Rattle.cluster.specs.declared.sets.NodeSet.{NodeSet}
use Rattle.catalogue.specs.Prelude.{Instance, inventory_of}
use Rattle.partition.specs.{declared.groups_fault.GroupsFault.GroupsFault, Prelude.groups_of, Prelude.fault_text as groups_text}
use Rattle.command_frame.specs.Inputs.{input_line, whole_of}

abbrev pub groups_line : (text : List ℕ) → List ℕ
groups_line text = input_line (codes "groups") text

-- Groups of nodes, or the line of their first fault.
abbrev pub groups_lined : Result (List NodeSet) GroupsFault → Result (List NodeSet) (List ℕ)
groups_lined (Ok groups) = Ok groups
groups_lined (Err f) = Err (groups_line (groups_text f))

-- The groups of nodes that these bytes are for a problem, or the line that refuses them.
abbrev pub groups_reading_of : Instance → Result (List ℕ) (List ℕ) → Result (List NodeSet) (List ℕ)
groups_reading_of p (Ok bytes) = groups_lined (groups_of (inventory_of p) bytes)
groups_reading_of p (Err line) = Err line

-- The groups of nodes for a problem in the file of this name, or the line that refuses them.
abbrev pub groups_in : Instance → Files → (name : List ℕ) → Result (List NodeSet) (List ℕ)
groups_in p files name = groups_reading_of p (whole_of (codes "groups") (bytes_of (files name)))
