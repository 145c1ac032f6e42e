-- The lines of a listing.
use Rattle.std.specs.Prelude.{ℕ, List, ◌++◌, length, max, Option, Some, None, codes, fold}
use Rattle.std.specs.Fmt.{decimal}
use Rattle.std.specs.Option.{option_map_or}
use Rattle.judge.specs.Prelude.{cost_of, element_at, name_of}
use Rattle.slices.specs.Prelude.{host_of, kind_of, kind_word, state_of}
use Rattle.replay.specs.Prelude.{broken_line, Choices, Instance, inventory_of, spaced}
use Rattle.cluster.specs.declared.choices.Choice.{Choice}
use Rattle.cluster.specs.declared.choices.Choice.TheVariants.{Idle, Act}
use Rattle.cluster.specs.declared.choices.Place.TheVariants.{At, Nowhere}
use Rattle.cluster.specs.declared.ids.Element.{Element}
use Rattle.cluster.specs.declared.ids.Element.TheVariants.{Vm, Node}
use Rattle.cluster.specs.declared.ids.NodeId.{NodeId}
use Rattle.slices.specs.declared.rule.Broken.{Broken}
use Rattle.show.specs.declared.actions.Action.{Action}

-- the node on which a machine runs, or on which its image lies, at present
abbrev pub host_of_element : Instance → Element → Option NodeId
host_of_element p (Vm v) = host_of (state_of p v.0)
host_of_element p (Node n) = None

-- the node to which a choice takes its element
abbrev pub target_of : Choice → Option NodeId
target_of Idle = None
target_of (Act Nowhere start) = None
target_of (Act (At n) start) = Some n

-- the name of a node, or a dash
abbrev pub node_name : Instance → Option NodeId → List ℕ
node_name p None = codes "-"
node_name p (Some n) = name_of (inventory_of p) (Node n)

-- the kind of a choice's action, or a dash
abbrev pub kind_text : Instance → Element → Choice → List ℕ
kind_text p e Idle = codes "-"
kind_text p e (Act place start) = option_map_or kind_word (kind_of p e place) (codes "-")

-- START END KIND ELEMENT FROM TO
unfoldable pub action_line : Instance → Choices → Action → List ℕ
action_line p plan a =
    let e = element_at (inventory_of p) a.number in
    decimal a.start ++ spaced (decimal a.end) ++ spaced (kind_text p e (plan e)) ++ spaced (name_of (inventory_of p) e)
    ++ spaced (node_name p (host_of_element p e)) ++ spaced (node_name p (target_of (plan e))) ++ codes "\n"

-- when the last of some actions ends, 0 where there is none
abbrev pub last_end : List Action → ℕ
last_end actions = fold (λ last a. max a.end last) 0 actions

-- how many act, when the last ends, and the cost
unfoldable pub total_line : Instance → Choices → List Action → List ℕ
total_line p plan actions =
    codes "actions" ++ spaced (decimal (length actions)) ++ spaced (codes "last") ++ spaced (decimal (last_end actions))
    ++ spaced (codes "cost") ++ spaced (decimal (cost_of p plan)) ++ codes "\n"

-- the same, or what is broken
unfoldable pub last_line : Instance → Choices → List Action → Option Broken → List ℕ
last_line p plan actions None = total_line p plan actions
last_line p plan actions (Some b) = broken_line p b
