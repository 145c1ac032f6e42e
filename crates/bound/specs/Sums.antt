-- What a lower bound keeps: the sum of the least ends now, and the sum at each mark that stands, the newest first.
use Rattle.std.specs.Prelude.{ℕ, List}

pub record Sums : Type 0 where
  pub top : ℕ
  pub older : List ℕ
