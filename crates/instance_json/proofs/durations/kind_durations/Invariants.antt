use Rattle.std.proofs.Common.{◌≡◌, length, true}
use Rattle.instance_json.specs.Prelude.{duration_by_kind, kind_count, KINDS, owner_fits, path_of}
use Rattle.serde_json.specs.View.{view}
use Rattle.instance_json.proofs.Loops.{Fills}
use Rattle.instance_json.proofs.durations.kind_durations.Given as goal

abbrev pub invariant-loop-i : goal.invariant-loop-i
invariant-loop-i l = record {
  fills : Fills (duration_by_kind l.resources l.owner (view l.value) (path_of l.path)) KINDS l.i l.durations;
  long : length l.durations ≡ kind_count;
  fit : owner_fits (length l.resources) l.owner l.durations ≡ true;
}
