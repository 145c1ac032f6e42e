use Rattle.rule_script.proofs.ReadingLemmas.{last_here}
use Rattle.rule_script.proofs.reading.sets.Goals as goal

pub returns-then-not-bar : goal.returns-then-not-bar
returns-then-not-bar c =
    let over = rw c.if-not-bar.true at c.bar.ensures in
    rw c.new.ensures (last_here c.sets.found.items _ c.sets.rest _ _ _ c.in_ok-set.field-0 c.sets.invariant c.in_ok-set.ensures over c.in_ok-push.ensures.items)
