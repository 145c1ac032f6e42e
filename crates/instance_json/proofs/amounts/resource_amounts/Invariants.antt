use Rattle.serde_json.specs.View.{view}
use Rattle.instance_json.specs.Prelude.{Field, max_amount, optional_number, path_of}
use Rattle.instance_json.proofs.Loops.{Fills}
use Rattle.instance_json.proofs.Fitting.{AreAmounts}
use Rattle.instance_json.proofs.amounts.resource_amounts.Given as goal

abbrev pub invariant-loop-i : goal.invariant-loop-i
invariant-loop-i l = record {
  fills : Fills (optional_number Field max_amount (view l.value) (path_of l.path)) l.resources l.i l.amounts;
  fit : AreAmounts l.i l.amounts;
}
