use Rattle.base.proofs.Public.{◌≡◌, ◌++◌, flat_map, range_with_len, string_bytes}
use Rattle.replay.specs.Prelude.{cell, node_text}
use Rattle.replay.proofs.lines.push_nodes.Given as goal

abbrev pub invariant-loop-n : goal.invariant-loop-n
invariant-loop-n l = string_bytes l.line ≡ string_bytes l.initial.line ++ flat_map (node_text l.p.given (cell l.table)) (range_with_len 0 l.n)
