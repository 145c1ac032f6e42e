-- The reading of a number: digits without a leading zero, below 2^64.
use Rattle.std.specs.Prelude.{ℕ, ◌&&◌, ◌||◌, ◌==◌, ◌^◌, Bool, not, length, nat_lt, slice_index, List, Option, Some, None, if◌then◌else◌}
use Rattle.std.specs.Char.{is_ascii_digit}
use Rattle.std.specs.List.{list_all}
use Rattle.std.specs.Str.Parse.{digits_value}

-- at least one digit, and digits alone; the first is not 0, unless it is the only one
unfoldable pub is_numeral : List ℕ → Bool
is_numeral word = nat_lt 0 (length word) && (not (slice_index word 0 == 48) || (length word == 1)) && list_all is_ascii_digit word

unfoldable pub number_of : List ℕ → Option ℕ
number_of word = if is_numeral word && nat_lt (digits_value 10 word) (2 ^ 64) then Some (digits_value 10 word) else None
