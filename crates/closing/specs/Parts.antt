-- What the code says of instants, ends and single machines.
use Rattle.std.specs.Prelude.{◌≡◌, ◌⊎◌, ℕ, ◌+◌, ◌<◌, ◌≤◌, Bool, true, false, List, Some, IsTrue, slice_index_or}
use Rattle.relax.specs.Prelude.{capacity_of, held_at, hosted_in, in_part, Instance, IsEnd, no_row, node, Nodes, one, powered_at, Sets, start_of, state_of, sure, usable_at, vm}
use Rattle.cluster.specs.declared.choices.{Choice.Choice, Choice.TheVariants.Idle, Choice.TheVariants.Act, Place.Place}
use Rattle.slices.specs.declared.slice.Weight.{Weight, TheVariants.Image, TheVariants.Presence}
use Rattle.domains.specs.declared.parts.{Part.TheVariants.From, Row.Row}

-- ---- instants

-- x is not between a and b
abbrev pub IsNotBetween : ℕ → ℕ → ℕ → Type 0
IsNotBetween a b x = a < x → b ≤ x

-- of the first so many rows none starts or ends between a and b
pub record AreRowsPast (a b count : ℕ) (rows : List Row) : Type 0 where
  pub lo : (i : ℕ) → i < count → IsNotBetween a b (slice_index_or rows i no_row).lo
  pub hi : (i : ℕ) → i < count → IsNotBetween a b (slice_index_or rows i no_row).hi

-- no end of the choices starts between a and b
pub record StartsPast (cs : List Choice) (a b : ℕ) : Type 0 where
  pub past : (c : Choice) (t : ℕ) → IsEnd cs c → start_of c ≡ Some t → IsNotBetween a b t

-- ---- ends

-- no end of the choices passes a test
pub record FailAtEnds (test : Choice → Type 0) (cs : List Choice) : Type 0 where
  pub ends : (c : Choice) → IsEnd cs c → ¬ test c

-- an end of the choices passes it
pub record IsEndThat (test : Choice → Type 0) (cs : List Choice) (c : Choice) : Type 0 where
  pub is_end : IsEnd cs c
  pub passes : test c

-- only choices at a place pass it
pub record PassOnlyAt (place : Place) (test : Choice → Type 0) : Type 0 where
  pub elsewhere : (c : Choice) → in_part (From place 0) c ≡ false → ¬ test c

-- no end of a row does; one does
pub record FailAtRow (test : Choice → Type 0) (r : Row) : Type 0 where
  pub lo : ¬ test (Act r.place r.lo)
  pub hi : ¬ test (Act r.place r.hi)

pub record IsRowEndThat (test : Choice → Type 0) (r : Row) (c : Choice) : Type 0 where
  pub is_end : (c ≡ Act r.place r.lo) ⊎ (c ≡ Act r.place r.hi)
  pub passes : test c

-- Idle and the ends of the first so many rows do not pass
pub record FailAtRows (test : Choice → Type 0) (idle : Bool) (rows : List Row) (count : ℕ) : Type 0 where
  pub at_idle : idle ≡ true → ¬ test Idle
  pub at_row : (i : ℕ) → i < count → FailAtRow test (slice_index_or rows i no_row)

-- ---- sums

-- under a choice a machine holds more on the nodes of a set than a bound
abbrev pub HoldsAbove : Instance → ℕ → Weight → Nodes → ℕ → ℕ → Choice → Type 0
HoldsAbove p v w set t bound c = bound < held_at p v w set t c

-- where so much is spare, the most that a machine may hold: its least, and what is spare
abbrev pub most_of : Instance → Sets → ℕ → Weight → Nodes → ℕ → ℕ → ℕ
most_of p s v w set t spare = spare + (sure p s t).held v w set

-- no end of a machine's choices holds more than it may
abbrev pub IsSpared : Instance → Sets → Weight → Nodes → ℕ → ℕ → ℕ → Type 0
IsSpared p s w set t spare v = FailAtEnds (HoldsAbove p v w set t (most_of p s v w set t spare)) (s (vm v))

-- the end does
abbrev pub IsAbove : Instance → Sets → Weight → Nodes → ℕ → ℕ → ℕ → Choice → Type 0
IsAbove p s w set t spare v = IsEndThat (HoldsAbove p v w set t (most_of p s v w set t spare)) (s (vm v))

-- under the choice the node is not usable
abbrev pub IsNotUsable : Instance → ℕ → ℕ → Choice → Type 0
IsNotUsable p n t c = usable_at p n t c ≡ false

-- a node of the set that may be usable has no more capacity than is spare, or it is usable under each end of its choices
pub record IsNodeSpared (p : Instance) (s : Sets) (r : ℕ) (set : Nodes) (t spare n : ℕ) : Type 0 where
  pub ends : IsTrue (set n) → IsTrue ((sure p s t).usable n) → spare < capacity_of p n r → FailAtEnds (IsNotUsable p n t) (s (node n))

-- it has more, and is not usable under the end
pub record IsNodeMissed (p : Instance) (s : Sets) (r : ℕ) (set : Nodes) (t spare n : ℕ) (c : Choice) : Type 0 where
  pub inside : IsTrue (set n)
  pub may_be : IsTrue ((sure p s t).usable n)
  pub needed : spare < capacity_of p n r
  pub misses : IsEndThat (IsNotUsable p n t) (s (node n)) c

-- under the choice a machine is on the node or has its image there
abbrev pub StandsUnder : Instance → ℕ → ℕ → ℕ → Choice → Type 0
StandsUnder p v n t c = (0 < held_at p v Presence (one n) t c) ⊎ (0 < held_at p v Image (one n) t c)

-- none of the first so many machines that have the node as their host, or of those that have not, is so at an end of its choices
pub record NoneAmong (p : Instance) (s : Sets) (n t : ℕ) (hosted : Bool) (count : ℕ) : Type 0 where
  pub fail : (v : ℕ) → v < count → hosted_in (state_of p v) (one n) ≡ hosted → FailAtEnds (StandsUnder p v n t) (s (vm v))

-- under the choice the node is powered
abbrev pub IsPoweredUnder : Instance → ℕ → ℕ → Choice → Type 0
IsPoweredUnder p n t c = IsTrue (powered_at p n t c)
