-- Which of two elements has more failures, as the code compares them.
use Rattle.std.specs.Prelude.{◌≡◌, ◌⊎◌, ℕ, ◌<◌, ◌≤◌}
use Rattle.cluster.specs.declared.ids.Element.{Element}
use Rattle.domains.specs.Sets.{RegionView}
use Rattle.branching.specs.Elements.{IsUnfixed}

-- the other element, which is not fixed and has more, or else the best one, of which the other has no more or is fixed
abbrev pub IsBetter : (Element → ℕ) → RegionView → Element → Element → Element → Type 0
IsBetter failures g best e result =
    ((result ≡ e) × IsUnfixed g e × (failures best < failures e)) ⊎ ((result ≡ best) × (IsUnfixed g e → failures e ≤ failures best))
