-- What machines use at the most on all nodes together, and what nodes have room for, during a period.
use Rattle.std.specs.Prelude.{ℕ, ◌+◌, Bool, true, false, ◌&&◌, nat_le, nat_lt, if◌then◌else◌}
use Rattle.load_bounds.specs.Words.{base, demand_of, Instance, may, node, Sets, surely, usable_at, vm, Choice, Idle, Act, Amount, Standing}
use Rattle.load_bounds.specs.declared.period.Period.{Period}

-- whether a choice leaves a machine as it is up to an instant t; of one that acts this is told before the last instant of all
abbrev pub waits : ℕ → ℕ → Choice → Bool
waits last t Idle = true
waits last t (Act place start) = nat_lt t last && nat_lt t start

-- 0 for such a choice
abbrev pub hurry_count : ℕ → ℕ → Choice → ℕ
hurry_count last t c = if waits last t c then 0 else 1

-- what machine v with these numbers surely uses at the most: what it has where it is, if it may wait until the period is over; its demand,
-- if it may have left; else both
abbrev pub most_anywhere : Instance → ℕ → ℕ → Period → Bool → Standing → ℕ
most_anywhere p v r x true k = base p v (Amount r)
most_anywhere p v r x false k = if nat_le k.leave x.from then demand_of p v r else base p v (Amount r) + demand_of p v r

-- whether machine v may
abbrev pub may_wait : Instance → Sets → Period → ℕ → Bool
may_wait p s x v = may (waits p.horizon x.to) (s (vm v))

-- whether a node is usable at both ends of the period under each of its choices, of which there is one
abbrev pub is_steady : Instance → Sets → Period → ℕ → Bool
is_steady p s x n =
    may (usable_at p n x.from) (s (node n)) && (surely (usable_at p n x.from) (s (node n)) && surely (usable_at p n x.to) (s (node n)))
