use Rattle.std.proofs.Common.{◌≡◌, false}
use Rattle.serde_json.specs.View.{view}
use Rattle.serde_json.specs.Written.{has_float}
use Rattle.text_tests.proofs.printed.nested.Given as goal

abbrev pub invariant-loop : goal.invariant-loop
invariant-loop l = has_float (view l.value) ≡ false
