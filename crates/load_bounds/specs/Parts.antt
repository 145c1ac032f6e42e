-- What the code says of single machines and nodes.
use Rattle.std.specs.Prelude.{ℕ, ◌-◌, ◌<◌, ◌≤◌, ◌&&◌, List, nat_lt, if◌then◌else◌}
use Rattle.std.specs.List.{Contains}
use Rattle.load_bounds.specs.Words.{base, gain, has_come, hosted_in, Instance, leave_of, never, one, state_of, usable_at, Choice, Act, At, Amount}

-- under each of these choices machine v gives its host up by the instant
pub record HasLeft (p : Instance) (v : ℕ) (cs : List Choice) (by : ℕ) : Type 0 where
  pub each : (c : Choice) → Contains cs c → leave_of p v c ≤ by

-- under none of them has it more than m on node n, its host, from an instant on
pub record IsMostLeft (p : Instance) (v : ℕ) (cs : List Choice) (n r from m : ℕ) : Type 0 where
  pub each : (c : Choice) (t : ℕ) → Contains cs c → from ≤ t → (if hosted_in (state_of p v) (one n) && nat_lt t (leave_of p v c) then base p v (Amount r) else 0) ≤ m

-- under none of them has it brought more than m to node n by an instant
pub record IsMostBrought (p : Instance) (v : ℕ) (cs : List Choice) (n r by m : ℕ) : Type 0 where
  pub each : (c : Choice) (t : ℕ) → Contains cs c → t ≤ by → (if has_come n t c then gain p v (Amount r) n else 0) ≤ m

-- none of these choices starts at node n up to an instant
pub record StartsPast (cs : List Choice) (n by : ℕ) : Type 0 where
  pub after : (start : ℕ) → Contains cs (Act (At (record { 0 = n })) start) → by < start

-- how long before the end of time machine v gives its host up, 0 where it never does
abbrev pub left_over : Instance → ℕ → Choice → ℕ
left_over p v c = never - leave_of p v c

-- 1 for a choice under which the node is usable
abbrev pub usable_count : Instance → ℕ → ℕ → Choice → ℕ
usable_count p n t c = if usable_at p n t c then 1 else 0
