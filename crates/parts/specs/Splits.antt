-- Whether groups of nodes split a problem, and if not, the first fault in order.
use Rattle.std.specs.Prelude.{ℕ, Bool, true, false, not, ◌&&◌, ◌||◌, ◌==◌, nat_lt, List, [], ◌∷◌, length, Option, None, is_none, option_map, unwrap_or, if◌then◌else◌}
use Rattle.std.specs.List.{find, list_any, position, range_with_len}
use Rattle.std.specs.Option.{option_or}
use Rattle.cluster.specs.declared.sets.NodeSet.{NodeSet}
use Rattle.cluster.specs.declared.states.State.{State}
use Rattle.cluster.specs.declared.states.State.TheVariants.{Init, Ready, Running, Sleeping, Gone}
use Rattle.catalogue.specs.Prelude.{Instance, is_member}
use Rattle.slices.specs.Actions.{wanted_state}
use Rattle.slices.specs.Elements.{machine_count, node_count, state_of}
use Rattle.slices.specs.Forms.{Form, Apart, Allowed, Together, Ordered, InTurn, Bounded, Powered, Settled, AnyNode, AnyOf, Outside, Within, OnHost, form_of, members}
use Rattle.parts.specs.declared.fault.SplitFault.{SplitFault}
use Rattle.parts.specs.declared.fault.SplitFault.TheVariants.{Uncovered, Free, Spans}
use Rattle.parts.specs.Groups.{first_group, has_some, is_inside, is_to_run, machine_group, node_group}

-- ---- machines that may leave their group

-- a form keeps a machine in a group: a fence that has it, and has nodes of the group alone, or none
abbrev pub fences : Instance → List NodeSet → ℕ → ℕ → Form → Bool
fences p groups v i (Allowed vs (Within ns)) = is_member vs v && is_inside p groups i ns
fences p groups v i (Allowed vs (Outside ns)) = false
fences p groups v i (Allowed vs OnHost) = false
fences p groups v i (Apart separation) = false
fences p groups v i (Together vs choices) = false
fences p groups v i (Ordered before after) = false
fences p groups v i (InTurn vs) = false
fences p groups v i (Bounded weight ns amount) = false
fences p groups v i (Powered ns amount) = false
fences p groups v i Settled = false

-- a form keeps a machine on its host: a root that has it
abbrev pub roots : ℕ → Form → Bool
roots v (Allowed vs (Within ns)) = false
roots v (Allowed vs (Outside ns)) = false
roots v (Allowed vs OnHost) = is_member vs v
roots v (Apart separation) = false
roots v (Together vs choices) = false
roots v (Ordered before after) = false
roots v (InTurn vs) = false
roots v (Bounded weight ns amount) = false
roots v (Powered ns amount) = false
roots v Settled = false

abbrev pub is_running : State → Bool
is_running Init = false
is_running Ready = false
is_running (Running host) = true
is_running (Sleeping host) = false
is_running Gone = false

-- a fence keeps the machine in its group
abbrev pub is_fenced : Instance → List NodeSet → ℕ → Bool
is_fenced p groups v = list_any (λ c. fences p groups v (machine_group p groups v) (form_of c)) p.constraints

-- the machine runs at present, and a root keeps it on its host
abbrev pub is_rooted : Instance → ℕ → Bool
is_rooted p v = is_running (state_of p v) && list_any (λ c. roots v (form_of c)) p.constraints

-- the machine is wanted running, and nothing keeps it in its group
abbrev pub is_free : Instance → List NodeSet → ℕ → Bool
is_free p groups v = is_to_run (wanted_state p v) && not (is_fenced p groups v || is_rooted p v)

-- ---- constraints of several groups

-- a form speaks of all its members and nodes together; the others speak of each by itself, so that they may be cut down
abbrev pub is_joint : Form → Bool
is_joint (Apart separation) = true
is_joint (Allowed vs places) = false
is_joint (Together vs choices) = true
is_joint (Ordered before after) = true
is_joint (InTurn vs) = true
is_joint (Bounded weight ns amount) = true
is_joint (Powered ns amount) = true
is_joint Settled = false

-- the sets of nodes that a joint form lists
abbrev pub joint_sets : Form → List NodeSet
joint_sets (Apart separation) = []
joint_sets (Allowed vs places) = []
joint_sets (Together vs AnyNode) = []
joint_sets (Together vs (AnyOf sets)) = sets
joint_sets (Ordered before after) = []
joint_sets (InTurn vs) = []
joint_sets (Bounded weight ns amount) = ns ∷ []
joint_sets (Powered ns amount) = ns ∷ []
joint_sets Settled = []

-- a joint form names the group: a machine or a node of it
abbrev pub names : Instance → List NodeSet → Form → ℕ → Bool
names p groups f i = list_any (λ v. machine_group p groups v.0 == i) (members f) || list_any (has_some p groups i) (joint_sets f)

-- the first group that it names, and if it names none the first of all
abbrev pub home : Instance → List NodeSet → Form → ℕ
home p groups f = unwrap_or (first_group groups (names p groups f)) 0

-- it names another one too
abbrev pub spans : Instance → List NodeSet → Form → Bool
spans p groups f = is_joint f && list_any (λ i. names p groups f i && not (i == home p groups f)) (range_with_len 0 (length groups))

-- ---- the first fault

abbrev pub first_uncovered : Instance → List NodeSet → Option ℕ
first_uncovered p groups = find (λ n. is_none (node_group groups n)) (range_with_len 0 (node_count p))

-- one group alone leaves no machine anywhere else to go
abbrev pub first_free : Instance → List NodeSet → Option ℕ
first_free p groups = if nat_lt 1 (length groups) then find (is_free p groups) (range_with_len 0 (machine_count p)) else None

abbrev pub first_spanning : Instance → List NodeSet → Option ℕ
first_spanning p groups = position (λ c. spans p groups (form_of c)) p.constraints

-- why the groups do not split the problem
unfoldable pub split_fault : Instance → List NodeSet → Option SplitFault
split_fault p groups =
    option_or (option_map (λ n. Uncovered (record { 0 = n })) (first_uncovered p groups))
    (option_or (option_map (λ v. Free (record { 0 = v })) (first_free p groups))
    (option_map Spans (first_spanning p groups)))
