use Rattle.base.proofs.Public.{◌≡◌, take}
use Rattle.rule_script.specs.Elements.{entry_of, standing}
use Rattle.rule_script.proofs.gathered.counted.Given as goal

abbrev pub invariant-loop-e : goal.invariant-loop-e
invariant-loop-e l = (l.number ≡ l.e-index) × (l.found ≡ standing (entry_of l.places) 1 (take l.e-index l.list))
