-- Where a machine stands that holds something.
use Rattle.std.specs.Prelude.{ℕ, Bool, ◌||◌, nat_lt}
use Rattle.placement_rules.specs.Prelude.{image_in, is_in, one}
use Rattle.slices.specs.declared.holding.Holding.{Holding}

-- whether what is held is a presence, or the image, on a node
abbrev pub is_where : Holding → ℕ → Bool
is_where h n = is_in (one n) h.source || is_in (one n) h.target || nat_lt 0 (image_in (one n) h.image)
