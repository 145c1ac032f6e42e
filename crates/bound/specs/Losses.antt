-- The least value before choices were lost.
use Rattle.std.specs.Prelude.{ℕ, List, Option, unwrap_or}
use Rattle.base.specs.Least.{lowest}
use Rattle.cluster.specs.declared.choices.Choice.{Choice}
use Rattle.domains.specs.Measures.{lower_option}

-- the least value over some choices and over others, whose least value is known if there are any; 0 where there are none
abbrev pub least_with : (Choice → ℕ) → List Choice → Option ℕ → ℕ
least_with f kept gone = unwrap_or (lower_option (lowest f kept) gone) 0
