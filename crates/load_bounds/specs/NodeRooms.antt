-- What all nodes have of each resource, and which of them may not be usable at all times.
use Rattle.std.specs.Prelude.{◌≡◌, ℕ, ◌*◌, ◌<◌, ◌≤◌, true, List, length, slice_index_or}
use Rattle.std.specs.List.{Contains}
use Rattle.load_bounds.specs.Words.{capacity_of, Element, Instance, max_capacity, max_nodes, node_count, Sets, sum_to, sure, TheNode, Vm}
use Rattle.load_bounds.specs.declared.loose_room.LooseRoom.{LooseRoom}
use Rattle.load_bounds.specs.declared.period.Period.{Period}

-- from the first instant to the horizon
abbrev pub always : Instance → Period
always p = record { from = 0; to = p.horizon }

-- what a contract sees of it: by resource what all nodes have and the most that one of them has, and the nodes in question
pub record RoomsView : Type 0 where
  pub rooms : List LooseRoom
  pub leavers : List ℕ

-- all nodes have so much of resource r together, and none has more than is at stake
pub record IsWholeRoom (p : Instance) (r : ℕ) (x : LooseRoom) : Type 0 where
  pub total : x.total ≡ sum_to (node_count p) (λ n. capacity_of p n r)
  pub stake : (n : ℕ) → n < node_count p → capacity_of p n r ≤ x.at_stake
  pub small : x.total ≤ max_nodes * max_capacity
  pub small_stake : x.at_stake ≤ max_capacity

abbrev pub no_room_at_all : LooseRoom
no_room_at_all = record { total = 0; at_stake = 0 }

-- so it is of the first resources
pub record AreWholeRooms (p : Instance) (many : ℕ) (xs : List LooseRoom) : Type 0 where
  pub count : length xs ≡ many
  pub each : (r : ℕ) → r < many → IsWholeRoom p r (slice_index_or xs r no_room_at_all)

-- node n may be usable at the first instant and at the horizon, and so at each between
pub record Lasts (p : Instance) (s : Sets) (n : ℕ) : Type 0 where
  pub first : (sure p s 0).usable n ≡ true
  pub last : (sure p s p.horizon).usable n ≡ true

abbrev pub AreNodes : Instance → List ℕ → Type 0
AreNodes p xs = (n : ℕ) → Contains xs n → n < node_count p

-- any node that is not in the list lasts
pub record AreRooms (p : Instance) (s : Sets) (x : RoomsView) : Type 0 where
  pub whole : AreWholeRooms p (length p.resources) x.rooms
  pub nodes : AreNodes p x.leavers
  pub others : (n : ℕ) → n < node_count p → ¬ Contains x.leavers n → Lasts p s n

-- ---- one change more

-- no node is gone from the list, and what were nodes of an instance of so many still are
pub record IsWidened (count : ℕ) (x y : RoomsView) : Type 0 where
  pub rooms : y.rooms ≡ x.rooms
  pub kept : (n : ℕ) → Contains x.leavers n → Contains y.leavers n
  pub nodes : (p : Instance) → node_count p ≡ count → AreNodes p x.leavers → AreNodes p y.leavers

-- node n is in the list, or lasts
pub record IsListedOrLasts (p : Instance) (s : Sets) (n : ℕ) (xs : List ℕ) : Type 0 where
  pub lasts : ¬ Contains xs n → Lasts p s n

-- so it is of an element, if it is a node
abbrev pub IsWidenedBy : Instance → Sets → Element → List ℕ → Type 0
IsWidenedBy p s (TheNode n) xs = IsListedOrLasts p s n.0 xs
IsWidenedBy p s (Vm v) xs = Unit {0}
