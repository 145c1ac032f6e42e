-- The element that is split next.
use Rattle.std.specs.Prelude.{ℕ, ◌<◌, ◌≤◌}
use Rattle.cluster.specs.declared.ids.Element.{Element}
use Rattle.domains.specs.Sets.{RegionView, ComesBefore, HasElement, IsFixedAt}

-- the element is one of the region that has not exactly one choice
pub record IsUnfixed (g : RegionView) (x : Element) : Type 0 where
  pub there : HasElement g x
  pub unfixed : ¬ IsFixedAt g x

-- of these it has the most failures, and none before it has as many
pub record HasMostFailures (failures : Element → ℕ) (g : RegionView) (x : Element) : Type 0 where
  pub is_open : IsUnfixed g x
  pub most : (e : Element) → IsUnfixed g e → failures e ≤ failures x
  pub first : (e : Element) → IsUnfixed g e → ComesBefore e x → failures e < failures x
