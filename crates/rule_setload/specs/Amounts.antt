-- Helping only: what machines hold on the nodes of a constraint while they stay as they are, and what they may hold more.
use Rattle.std.specs.Prelude.{◌≡◌, ℕ, ◌+◌, ◌-◌, ◌*◌, ◌<◌, ◌≤◌, Bool, true, List, [], length, Option, Some, None, slice_get, slice_index_or}
use Rattle.std.specs.List.{sum_by}
use Rattle.rule_constraint.specs.Prelude.{Allowed, Apart, AreMovers, base, Bounded, Form, form_of, has_node, held_at, hosted_in, if_so, Instance, InTurn, IsIndexOf, Lists, machine_count, max_amount, Nodes, Ordered, Powered, Sets, Settled, state_of, sum_to, sure, Together, unit_of}
use Rattle.profiles.specs.Prelude.{AreStanding, IsStanding, least, level_at, Levels, Tables}
use Rattle.cluster.specs.declared.choices.Choice.{Choice}
use Rattle.catalogue.specs.declared.constraint.Constraint.{Constraint}
use Rattle.slices.specs.declared.slice.Weight.{Weight}
use Rattle.rule_frame.specs.Caches.{Cache}
use Rattle.standings.specs.declared.numbers.Standing.{Standing}
use Rattle.rule_setload.specs.declared.bounds.Bound.{Bound}
use Rattle.rule_setload.specs.declared.holders.Holder.{Holder}
use Rattle.rule_setload.specs.declared.stayers.Stayers.{Stayers}

-- what a form bounds, if it bounds what machines hold
abbrev pub bound_of : Form → Option Bound
bound_of (Apart separation) = None
bound_of (Allowed vs places) = None
bound_of (Together vs groups) = None
bound_of (Ordered before after) = None
bound_of (InTurn vs) = None
bound_of (Bounded weight ns amount) = Some (record { weight = weight; nodes = ns; amount = amount })
bound_of (Powered ns amount) = None
bound_of Settled = None

abbrev pub bound_in : Option Constraint → Option Bound
bound_in None = None
bound_in (Some k) = bound_of (form_of k)

-- ---- what no change of a region changes

-- what machine v has on its host at present, where that is in the set
abbrev pub stay_of : Instance → Weight → Nodes → ℕ → ℕ
stay_of p w set v = if_so (hosted_in (state_of p v) set) (base p v w)

-- what the first so many machines have, and the most that one of them brings
pub record AreStayersTo (p : Instance) (w : Weight) (set : Nodes) (count : ℕ) (x : Stayers) : Type 0 where
  pub total : x.total ≡ sum_to count (stay_of p w set)
  pub most : (v : ℕ) → v < count → unit_of p v w ≤ x.most
  pub small : x.total ≤ count * max_amount
  pub small_most : x.most ≤ max_amount

-- so it is of all machines, for what a constraint bounds, if it bounds something
abbrev pub AreStayersOf : Instance → Option Bound → Stayers → Type 0
AreStayersOf p None x = Unit {0}
AreStayersOf p (Some b) x = AreStayersTo p b.weight (has_node b.nodes) (machine_count p) x

abbrev pub no_stayers : Stayers
no_stayers = record { total = 0; most = 0 }

-- and for each of the first constraints
pub record AreAllStayers (p : Instance) (many : ℕ) (xs : List Stayers) : Type 0 where
  pub count : length xs ≡ many
  pub each : (c : ℕ) → c < many → AreStayersOf p (bound_in (slice_get p.constraints c)) (slice_index_or xs c no_stayers)

-- machine v holds no less than m in the set while all of its choices keep its host
pub record IsKept (p : Instance) (w : Weight) (set : Nodes) (v m : ℕ) : Type 0 where
  pub held : (cs : List Choice) (k : Standing) (t : ℕ) → IsStanding p v cs k → t ≤ p.horizon → t < k.leave → m ≤ least (held_at p v w set t) cs
  pub small : m ≤ max_amount

abbrev pub no_holder : Holder
no_holder = record { machine = record { 0 = 0 }; amount = 0 }

-- so it is of each of a list
pub record AreKept (p : Instance) (b : Bound) (xs : List Holder) : Type 0 where
  pub each : (i : ℕ) → i < length xs → IsKept p b.weight (has_node b.nodes) (slice_index_or xs i no_holder).machine.0 (slice_index_or xs i no_holder).amount

-- for what a constraint bounds, if it bounds something
abbrev pub AreHolders : Instance → Option Bound → List Holder → Type 0
AreHolders p None xs = Unit {0}
AreHolders p (Some b) xs = AreKept p b xs

-- and for each of the first constraints
pub record AreAllHolders (p : Instance) (many : ℕ) (ls : List (List Holder)) : Type 0 where
  pub count : length ls ≡ many
  pub each : (c : ℕ) → c < many → AreHolders p (bound_in (slice_get p.constraints c)) (slice_index_or ls c [])

-- ---- the machines that may not stay

-- up to the horizon machine v surely holds no more than what it has at present and this
pub record IsExtra (p : Instance) (s : Sets) (w : Weight) (set : Nodes) (v extra : ℕ) : Type 0 where
  pub each : (t : ℕ) → t ≤ p.horizon → (sure p s t).held v w set ≤ stay_of p w set v + extra

-- so it is of the machines of a list together
pub record AreExtra (p : Instance) (s : Sets) (w : Weight) (set : Nodes) (xs : List ℕ) (extra : ℕ) : Type 0 where
  pub each : (t : ℕ) → t ≤ p.horizon → sum_by (λ v. (sure p s t).held v w set - stay_of p w set v) xs ≤ extra

-- ---- what is kept beside the rule

-- the index of the constraints, for each constraint what all have at present and who has it, and of a level, where a constraint bounds
-- what machines hold, where each machine surely stands, and the machines that may not stay
pub record AreAmountsKept (p : Instance) (s : Sets) (on : Bool) (l : Lists) (m : Tables) (xs : Levels ℕ) (ys : List Stayers) (zs : List (List Holder)) (k : ℕ) : Type 0 where
  pub index : IsIndexOf p (length p.constraints) l
  pub standing : on ≡ true → AreStanding p s (level_at m k)
  pub movers : on ≡ true → AreMovers p s (level_at xs k)
  pub alike : length xs.older ≡ length m.older
  pub stayers : AreAllStayers p (length p.constraints) ys
  pub holders : AreAllHolders p (length p.constraints) zs

abbrev pub cache_of : Bool → Lists → Tables → Levels ℕ → List Stayers → List (List Holder) → Cache
cache_of on l m xs ys zs = record { right = λ p k s. AreAmountsKept p s on l m xs ys zs k; level = length m.older }
