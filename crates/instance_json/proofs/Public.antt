-- What crates above may cite: what is printed of words, names and lists is read back. All else under proofs/ is private.
use Rattle.std.proofs.Common.{◌≡◌, ℕ, suc, ◌<◌, true, List, [], ◌∷◌, length, get_or, Some, Ok, slice_get, refl, arith}
use Rattle.instance_json.specs.Prelude.{Among, Ban, Constraint, CONSTRAINT_KINDS, constraint_number, constraint_word, constraint_words, ConstraintKind, Either, Fence, Field, field_of, Gather, Inventory, is_name, IsInventory, IsListed, Killed, listed_machine, listed_node, Lonely, Machine, map_walk, MaxOnline, name_from, name_of, Node, NodeId, Offline, Online, Overbook, Owner, Precedence, Preserve, Ready, ResourceCapacity, Root, Running, RunningCapacity, Serialize, Sleeping, Split, Spread, State, state_number, state_word, state_words, STATES, StateWord, text_of, Vm, VmId, Walk, word_field, word_field_of, word_of}
use Rattle.cluster.specs.declared.ids.Element.TheVariants.{Node as NodeElement}
use Rattle.serde_json.specs.Data.{Data, string}
use Rattle.cluster.specs.declared.states.State.TheVariants as states
use Rattle.cluster.proofs.Public.{element_named-name_of, is_name-name_of, place-state_word}
use Rattle.catalogue.specs.declared.constraint.Constraint.TheVariants as constraint
use Rattle.catalogue.proofs.Public.{place-constraint_word}
use Rattle.instance_json.specs.declared.states.StateWord.TheVariants as words

-- ---- words

-- a state without its host
abbrev pub word_of_state : State → StateWord
word_of_state states.Init = words.Init
word_of_state states.Ready = words.Ready
word_of_state (states.Running host) = words.Running
word_of_state (states.Sleeping host) = words.Sleeping
word_of_state states.Gone = words.Gone

state_at : (state : State) → slice_get STATES (state_number state) ≡ Some (word_of_state state)
state_at states.Init = refl
state_at states.Ready = refl
state_at (states.Running host) = refl
state_at (states.Sleeping host) = refl
state_at states.Gone = refl

-- the word of a state is read as the state
pub word_field-state : (state : State) (d : Data) (path key : List ℕ) → field_of d path key ≡ Ok (string (state_word state))
    → word_field Field state_words STATES d path key ≡ Ok (word_of_state state)
unfolding word_field word_field_of word_of text_of
word_field-state state d path key h = rw (h, place-state_word state, state_at state) refl

-- a constraint without its fields
abbrev pub kind_of_constraint : Constraint → ConstraintKind
kind_of_constraint (constraint.Spread _ _) = Spread
kind_of_constraint (constraint.Ban _ _ _) = Ban
kind_of_constraint (constraint.Fence _ _ _) = Fence
kind_of_constraint (constraint.Gather _ _) = Gather
kind_of_constraint (constraint.Lonely _ _) = Lonely
kind_of_constraint (constraint.Among _ _ _) = Among
kind_of_constraint (constraint.Split _ _) = Split
kind_of_constraint (constraint.Root _) = Root
kind_of_constraint (constraint.Precedence _ _) = Precedence
kind_of_constraint (constraint.Serialize _) = Serialize
kind_of_constraint (constraint.Preserve _ _ _) = Preserve
kind_of_constraint (constraint.ResourceCapacity _ _ _ _) = ResourceCapacity
kind_of_constraint (constraint.RunningCapacity _ _ _) = RunningCapacity
kind_of_constraint (constraint.MaxOnline _ _ _) = MaxOnline
kind_of_constraint (constraint.Overbook _ _ _ _) = Overbook
kind_of_constraint (constraint.Online _) = Online
kind_of_constraint (constraint.Offline _) = Offline
kind_of_constraint (constraint.Running _) = Running
kind_of_constraint (constraint.Sleeping _) = Sleeping
kind_of_constraint (constraint.Ready _) = Ready
kind_of_constraint (constraint.Killed _) = Killed

kind_at : (c : Constraint) → slice_get CONSTRAINT_KINDS (constraint_number c) ≡ Some (kind_of_constraint c)
kind_at (constraint.Spread _ _) = refl
kind_at (constraint.Ban _ _ _) = refl
kind_at (constraint.Fence _ _ _) = refl
kind_at (constraint.Gather _ _) = refl
kind_at (constraint.Lonely _ _) = refl
kind_at (constraint.Among _ _ _) = refl
kind_at (constraint.Split _ _) = refl
kind_at (constraint.Root _) = refl
kind_at (constraint.Precedence _ _) = refl
kind_at (constraint.Serialize _) = refl
kind_at (constraint.Preserve _ _ _) = refl
kind_at (constraint.ResourceCapacity _ _ _ _) = refl
kind_at (constraint.RunningCapacity _ _ _) = refl
kind_at (constraint.MaxOnline _ _ _) = refl
kind_at (constraint.Overbook _ _ _ _) = refl
kind_at (constraint.Online _) = refl
kind_at (constraint.Offline _) = refl
kind_at (constraint.Running _) = refl
kind_at (constraint.Sleeping _) = refl
kind_at (constraint.Ready _) = refl
kind_at (constraint.Killed _) = refl

-- the word of a constraint is read as its kind
pub word_field-constraint : (c : Constraint) (d : Data) (path key : List ℕ) → field_of d path key ≡ Ok (string (constraint_word c))
    → word_field Field constraint_words CONSTRAINT_KINDS d path key ≡ Ok (kind_of_constraint c)
unfolding word_field word_field_of word_of text_of
word_field-constraint c d path key h = rw (h, place-constraint_word c, kind_at c) refl

-- ---- whose durations an object has

abbrev pub DurationOwner : Type 0
DurationOwner = Owner

abbrev pub of_machine : DurationOwner
of_machine = Machine

abbrev pub of_node : DurationOwner
of_node = Node

-- those of both sorts
abbrev pub of_either : DurationOwner
of_either = Either

-- ---- names

pub name_from-name : (name path : List ℕ) → is_name name ≡ true → name_from (string name) path ≡ Ok name
unfolding name_from text_of
name_from-name name path named = rw named refl

pub listed_machine-name : (k : Inventory) (v : VmId) (path : List ℕ) → IsInventory k → IsListed k (Vm v)
    → listed_machine k (string (name_of k (Vm v))) path ≡ Ok v
unfolding listed_machine
listed_machine-name k v path is listed = rw (name_from-name (name_of k (Vm v)) path (is_name-name_of k (Vm v) is listed), element_named-name_of k (Vm v) is listed) refl

pub listed_node-name : (k : Inventory) (n : NodeId) (path : List ℕ) → IsInventory k → IsListed k (NodeElement n)
    → listed_node k (string (name_of k (NodeElement n))) path ≡ Ok n
unfolding listed_node
listed_node-name k n path is listed = rw (name_from-name (name_of k (NodeElement n)) path (is_name-name_of k (NodeElement n) is listed), element_named-name_of k (NodeElement n) is listed) refl

-- ---- lists

-- a list whose items are read back one by one
pub map_walk-items : {X A : Type 0} (test : X → Walk A) (xs : List X) (ys : List A) → length ys ≡ length xs
    → ((i : ℕ) (x : X) (y : A) → i < length xs → test (get_or xs i x) ≡ Ok (get_or ys i y)) → map_walk test xs ≡ Ok ys
unfolding map_walk
map_walk-items test [] [] long items = refl
map_walk-items test [] (y ∷ ys) long items = absurd (omega arith)
map_walk-items test (x ∷ xs) [] long items = absurd (omega arith)
map_walk-items test (x ∷ xs) (y ∷ ys) long items =
    rw (items 0 x y (omega arith), map_walk-items test xs ys (omega arith) (λ i a b lt. items (suc i) a b (omega arith))) refl
