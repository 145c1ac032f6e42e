use Rattle.base.proofs.Public.{◌≡◌, ◌++◌, decimal, flat_map, range_with_len, string_bytes}
use Rattle.replay.specs.Prelude.{cell, spaced}
use Rattle.replay.proofs.lines.push_loads.Given as goal

abbrev pub invariant-loop-r : goal.invariant-loop-r
invariant-loop-r l = string_bytes l.line ≡ string_bytes l.initial.line ++ flat_map (λ r. spaced (decimal (cell l.table l.n.0 r))) (range_with_len 0 l.r)
