use Rattle.base.proofs.Public.{◌≡◌, ◌+◌, ◌≤◌, length, slice_split}
use Rattle.rule_script.specs.Script.{lines_done, script_done}
use Rattle.rule_script.proofs.ScriptLemmas.{newline}
use Rattle.rule_script.proofs.script.read_lines.Given as goal

abbrev pub invariant-lines : goal.invariant-lines
invariant-lines l = record {
  done : lines_done l.number l.problem.given l.variables (slice_split newline l.rest) ≡ script_done l.fn.problem.given l.bytes;
  small : l.number + length l.rest ≤ 1 + length l.bytes;
}

abbrev pub decreases-lines : goal.decreases-lines
decreases-lines l = length l.rest
