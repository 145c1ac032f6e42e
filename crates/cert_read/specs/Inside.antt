-- What the fields of a cursor are to contracts.
use Rattle.std.specs.Prelude.{◌+◌, ◌<◌, ◌≤◌, ◌^◌, length, string_bytes}
use Rattle.cert_read.specs.{declared.cursor.Cursor.TheInside.Inside, Reader.ReaderState, Reader.max_held}

abbrev pub state_of : Inside → ReaderState
state_of a = record { name = string_bytes a.name; at = a.at; held = a.held }

-- each line that was read has a byte, and what is held ends before place 2^64 and is a line and a piece at most
pub record IsKept (a : Inside) : Type 0 where
  pub few : length a.held ≤ max_held
  pub lines : a.at.lines ≤ a.at.place
  pub place : a.at.place + length a.held < 2 ^ 64
