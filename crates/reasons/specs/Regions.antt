-- Helping only: the start region, and the ends and turns of a region by its rows.
use Rattle.std.specs.Prelude.{◌≡◌, ◌⊎◌, ◌↔◌, ℕ, ◌<◌, true, length, slice_index_or, IsTrue}
use Rattle.std.specs.List.{Contains}
use Rattle.domains.specs.Prelude.{choices, Climbs, domain_at, DomainView, HasElement, IsIn, no_row, RegionView, sets}
use Rattle.slices.specs.Prelude.{Choices, cost_of, Instance, is_legal, IsElement, IsPlan, IsValid, machine_count, node_count}
use Rattle.cluster.specs.declared.choices.Choice.{Choice}
use Rattle.cluster.specs.declared.choices.Choice.TheVariants.{Idle, Act}
use Rattle.cluster.specs.declared.ids.Element.{Element}
use Rattle.domains.specs.declared.parts.Row.{Row}
use Rattle.reasons.specs.Closed.{IsEnd}
use Rattle.reasons.specs.Quiet.{AreOf, IsTurn}
use Rattle.reasons.specs.Start.{start_sets, within}

-- ---- the start region

-- it has exactly the legal choices of each element
abbrev pub StartIsLegal : Type 0
StartIsLegal = (p : Instance) (e : Element) → IsElement p e → (c : Choice) → Contains (start_sets p e) c ↔ IsTrue (is_legal p e c)

-- so each plan is in it, with all else idle
abbrev pub StartHas : Type 0
StartHas = (p : Instance) (plan : Choices) → IsPlan p plan → IsIn (start_sets p) (within p plan)

-- which costs as much, and is valid where the plan is
abbrev pub CostWithin : Type 0
CostWithin = (p : Instance) (plan : Choices) → cost_of p (within p plan) ≡ cost_of p plan

abbrev pub WithinValid : Type 0
WithinValid = (p : Instance) (plan : Choices) → IsValid p plan → IsValid p (within p plan)

-- what is in it is a plan
abbrev pub StartIsPlan : Type 0
StartIsPlan = (p : Instance) (plan : Choices) → IsIn (start_sets p) plan → IsPlan p plan

-- and no element that the instance has not can act
abbrev pub StartIsOf : Type 0
StartIsOf = (p : Instance) → AreOf p (start_sets p)

-- ---- rows

abbrev pub row_at : DomainView → ℕ → Row
row_at d i = slice_index_or d.rows i no_row

-- the choice is Idle, which is held, or the first or the last start of a row
abbrev pub IsRowEnd : DomainView → Choice → Type 0
IsRowEnd d Idle = d.idle ≡ true
IsRowEnd d (Act place s) =
    (i : ℕ) × (i < length d.rows) × ((row_at d i).place ≡ place) × (((row_at d i).lo ≡ s) ⊎ ((row_at d i).hi ≡ s))

-- the ends of a domain's choices are the ends of its rows
abbrev pub EndsOfRows : Type 0
EndsOfRows = (d : DomainView) → Climbs 0 d.rows → (c : Choice) → IsEnd (choices d) c ↔ IsRowEnd d c

-- the region is one of the instance, and the rows of each domain climb
pub record IsRegionOf (p : Instance) (g : RegionView) : Type 0 where
  pub machines : length g.machines ≡ machine_count p
  pub nodes : length g.nodes ≡ node_count p
  pub climb : (e : Element) → HasElement g e → Climbs 0 (domain_at g e).rows

-- no element past its end can act
abbrev pub RegionIsOf : Type 0
RegionIsOf = (p : Instance) (g : RegionView) → IsRegionOf p g → AreOf p (sets g)

-- a row of the region starts or ends at the instant
pub record IsRowTurn (g : RegionView) (t : ℕ) : Type 0 where
  pub element : Element
  pub row : ℕ
  pub there : HasElement g element
  pub within : row < length (domain_at g element).rows
  pub turns : ((row_at (domain_at g element) row).lo ≡ t) ⊎ ((row_at (domain_at g element) row).hi ≡ t)

-- each turn of a region is 0, the horizon, or an end of a row
abbrev pub TurnsOfRows : Type 0
TurnsOfRows = (p : Instance) (g : RegionView) → IsRegionOf p g → (t : ℕ) → IsTurn p (sets g) t → (t ≡ 0) ⊎ ((t ≡ p.horizon) ⊎ IsRowTurn g t)
