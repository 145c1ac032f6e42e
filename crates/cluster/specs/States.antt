-- The hosts of states, and their words.
use Rattle.std.specs.Prelude.{ℕ, List, [], ◌∷◌, codes, slice_index_or, Option, Some, None}
use Rattle.cluster.specs.declared.ids.NodeId.{NodeId}
use Rattle.cluster.specs.declared.states.State.{State}
use Rattle.cluster.specs.declared.states.State.TheVariants.{Init, Ready, Running, Sleeping, Gone}

-- the node on which a machine in the state runs, or on which its image lies
abbrev pub host_of : State → Option NodeId
host_of (Running host) = Some host
host_of (Sleeping host) = Some host
host_of Init = None
host_of Ready = None
host_of Gone = None

-- the place of a state, whatever its host, among the five
abbrev pub state_number : State → ℕ
state_number Init = 0
state_number Ready = 1
state_number (Running host) = 2
state_number (Sleeping host) = 3
state_number Gone = 4

-- the words in the same order
unfoldable pub state_words : List (List ℕ)
state_words = codes "init" ∷ codes "ready" ∷ codes "running" ∷ codes "sleeping" ∷ codes "gone" ∷ []

-- the word of a state
unfoldable pub state_word : State → List ℕ
state_word state = slice_index_or state_words (state_number state) []
