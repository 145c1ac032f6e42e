-- New numbers for those of the numbers below a bound that pass a test, in their order.
use Rattle.std.specs.Prelude.{ℕ, ◌+◌, Bool, List, filter, slice_index_or, if◌then◌else◌}
use Rattle.std.specs.List.{range_with_len}
use Rattle.base.specs.Sums.{sum_to}

-- the numbers below the bound that pass, in order
abbrev pub passing : (ℕ → Bool) → ℕ → List ℕ
passing test bound = filter test (range_with_len 0 bound)

-- the new number of one that passes: how many pass before it
abbrev pub new_number : (ℕ → Bool) → ℕ → ℕ
new_number test x = sum_to x (λ y. if test y then 1 else 0)

-- the old number of a new one; past the last one they go on with numbers that are not below the bound
abbrev pub old_number : (ℕ → Bool) → ℕ → ℕ → ℕ
old_number test bound k = slice_index_or (passing test bound) k (bound + k)
