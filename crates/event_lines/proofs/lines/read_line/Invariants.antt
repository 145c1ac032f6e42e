use Rattle.std.proofs.Common.{◌≡◌, ◌++◌, ◌+◌, ◌-◌, ◌≤◌, length, IsTrue}
use Rattle.event_lines.specs.Prelude.{IsOneLine, max_line_bytes}
use Rattle.event_lines.proofs.lines.read_line.Given as goal

abbrev pub invariant-bytes : goal.invariant-bytes
invariant-bytes g l = record {
  bytes : IsTrue g.I.Source.tells → g.I.Source.rest l.fn.input ≡ l.line.items ++ g.I.Source.rest l.input;
  one : IsOneLine l.line.items;
  few : length l.line.items ≤ max_line_bytes + 1;
  faults : g.I.Source.faults l.input ≡ g.I.Source.faults l.fn.input;
}

abbrev pub decreases-bytes : goal.decreases-bytes
decreases-bytes g l = (max_line_bytes + 1) - length l.line.items
