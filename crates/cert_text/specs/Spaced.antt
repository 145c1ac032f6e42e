-- Helping only: words that each stand after a blank.
use Rattle.std.specs.Prelude.{ℕ, List, [], ◌∷◌, if◌then◌else◌}
use Rattle.std.specs.List.{flat_map}
use Rattle.trees.specs.Prelude.{has_node, Instance, node}
use Rattle.cluster.specs.declared.sets.NodeSet.{NodeSet}
use Rattle.cert_text.specs.Kinds.{Word}
use Rattle.cert_text.specs.Spelling.{element_name}

abbrev pub spaced : Word → List ℕ
spaced word = 32 ∷ word

abbrev pub all_spaced : List Word → List ℕ
all_spaced words = flat_map spaced words

-- the name of a node where a set has it
abbrev pub spaced_if_in : Instance → NodeSet → ℕ → List ℕ
spaced_if_in p set n = if has_node set n then spaced (element_name p (node n)) else []
