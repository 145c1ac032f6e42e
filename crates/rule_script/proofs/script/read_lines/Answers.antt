use Rattle.base.proofs.Public.{◌≡◌, ◌+◌, ◌-◌, ◌<◌, ap, arith, drop, length, length-drop, slice_split, take, take_all}
use Rattle.rule_script.specs.Script.{at, lines_done, script_done}
use Rattle.rule_script.proofs.ScriptLemmas.{all_lines, line_wrong, newline, one_more_line}
use Rattle.rule_script.proofs.script.read_lines.Goals as goal

pub lines-init : goal.lines-init
unfolding script_done
lines-init c = record {
  done = ap (λ env. lines_done 1 c.args.problem.now.given env (slice_split newline c.args.bytes.now)) c.new-variables.ensures;
  small = omega arith;
}

pub returns-in-Err : goal.returns-in-Err
returns-in-Err c =
    rw c.fault_at.ensures
    (line_wrong c.lines.number c.lines.problem.given c.lines.variables c.lines.rest.now c.line_len-len.result (script_done c.args.problem.now.given c.args.bytes.now) c.line_len-len.ensures.len c.lines.invariant.done c.in-Err.refusal (at c.read_line.new.problem.given c.read_line.new.variables) c.read_line.new.problem.given c.line_len-len.ensures.within c.in-Err.ensures)

pub returns-then-len-rest : goal.returns-then-len-rest
returns-then-len-rest c =
    all_lines c.lines.number c.lines.problem.given c.lines.variables c.lines.rest.now c.line_len-len.result (script_done c.args.problem.now.given c.args.bytes.now) c.line_len-len.ensures.len c.lines.invariant.done c.read_line.new.problem.given c.read_line.new.variables c.if-len-rest.true c.in-Ok.ensures

pub lines-preserved : goal.lines-preserved
lines-preserved c =
    let rest = c.lines.rest.now in
    let len = c.line_len-len.result in
    let within : len < length rest = omega (arith, c.if-len-rest.false, c.line_len-len.ensures.within) in
    let tail : take (length rest - (len + 1)) (drop (len + 1) rest) ≡ drop (len + 1) rest = take_all (length rest - (len + 1)) (drop (len + 1) rest) (omega (arith, length-drop (len + 1) rest)) in
    record {
      done = rw tail (one_more_line c.lines.number c.lines.problem.given c.lines.variables rest len (script_done c.args.problem.now.given c.args.bytes.now) c.line_len-len.ensures.len c.lines.invariant.done c.read_line.new.problem.given c.read_line.new.variables within c.in-Ok.ensures);
      small = rw tail (omega (arith, length-drop (len + 1) rest, c.lines.invariant.small));
    }
