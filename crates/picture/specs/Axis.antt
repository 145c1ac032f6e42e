-- The axis.
use Rattle.std.specs.Prelude.{ℕ, ◌+◌, ◌*◌, ◌/◌, ◌==◌, List, length, max, if◌then◌else◌}
use Rattle.show.specs.Prelude.{Instance, last_end}
use Rattle.show.specs.declared.actions.Action.{Action}

-- the place of an instant on an axis that ends at an instant: 118 at its beginning, 908 at its end
abbrev pub place_at : ℕ → ℕ → ℕ
place_at span t = 118 + t * 790 / max span 1

-- the axis ends where the last action does, or at the horizon where nothing acts
abbrev pub span_of : Instance → List Action → ℕ
span_of p actions = if length actions == 0 then p.horizon else last_end actions
