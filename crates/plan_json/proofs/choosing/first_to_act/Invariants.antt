use Rattle.base.proofs.Public.{◌≡◌, ◌-◌, length, find, range_with_len}
use Rattle.plan_json.specs.Plans.{must_act}
use Rattle.plan_json.proofs.choosing.first_to_act.Given as goal

abbrev pub invariant-loop-x : goal.invariant-loop-x
invariant-loop-x l = find (must_act l.p.given l.choices) (range_with_len l.x (length l.choices - l.x)) ≡ find (must_act l.p.given l.choices) (range_with_len 0 (length l.choices))
