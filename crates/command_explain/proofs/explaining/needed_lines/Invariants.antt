use Rattle.std.proofs.Common.{◌≡◌, ◌++◌, string_bytes}
use Rattle.std.specs.Iterator.Adapters.{zip_first, zip_second}
use Rattle.std.specs.Slice.Iter.{iter_rest}
use Rattle.command_explain.specs.Prelude.{needed_lines}
use Rattle.command_explain.proofs.explaining.needed_lines.Given as goal

abbrev pub invariant-loop-number : goal.invariant-loop-number
invariant-loop-number l = string_bytes l.lines ++ needed_lines (iter_rest (zip_first l.number-iterator)) (iter_rest (zip_second l.number-iterator)) ≡ needed_lines l.kept l.costs
