-- What is proved of numbers in texts.
use Rattle.std.specs.Prelude.{◌≡◌, ◌<◌, ◌^◌, ℕ, List, Some}
use Rattle.std.specs.Fmt.{decimal}
use Rattle.numerals.specs.Numbers.{number_of}

-- what is read as a number is its decimal text, and that of each number below 2^64 is read as it
pub record NumbersAreExact : Type 0 where
  pub spelled : (word : List ℕ) (n : ℕ) → number_of word ≡ Some n → (word ≡ decimal n) × (n < 2 ^ 64)
  pub read : (n : ℕ) → n < 2 ^ 64 → number_of (decimal n) ≡ Some n
