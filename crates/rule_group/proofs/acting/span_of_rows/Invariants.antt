use Rattle.rule_group.specs.Prelude.{choices, HasSpan}
use Rattle.rule_group.proofs.acting.span_of_rows.Given as goal

abbrev pub invariant-loop-i : goal.invariant-loop-i
invariant-loop-i l = HasSpan l.p.given l.v.0 (choices l.domain) l.span
