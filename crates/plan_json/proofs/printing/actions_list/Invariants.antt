use Rattle.base.proofs.Public.{◌≡◌, flat_map, range_with_len}
use Rattle.plan_json.specs.Prelude.{element_data, items}
use Rattle.plan_json.proofs.printing.actions_list.Given as goal

abbrev pub invariant-loop-x : goal.invariant-loop-x
invariant-loop-x l = items l.list ≡ flat_map (element_data l.p.given l.plan) (range_with_len 0 l.x)
