use Rattle.base.proofs.Public.{◌∙◌, ◌<◌, ◌≤◌, length, ap, Ok, arith, rules, take_all, length-set}
use Rattle.instance_json.specs.Prelude.{duration_by_kind, instance_fault_of, KINDS, kinds, path_of}
use Rattle.serde_json.specs.View.{view}
use Rattle.instance_json.proofs.Loops.{fills_more_at, fills_all, fill_fails_at}
use Rattle.instance_json.proofs.Fitting.{owner_more_at}
use Rattle.instance_json.proofs.durations.kind_durations.Goals as goal

pub returns-in_err-durations-clause-gives : goal.returns-in_err-durations-clause-gives
unfolding kinds
returns-in_err-durations-clause-gives c =
    let test = duration_by_kind c.args.resources.now c.args.owner (view c.args.value.now) (path_of c.args.path.now) in
    let within : c.loop-i.i < length KINDS = c.loop-i-test.true in
    let fails = fill_fails_at test KINDS c.loop-i.i c.loop-i.durations _ (instance_fault_of c.in_err-durations.field-0.0) within c.loop-i.invariant.fills c.in_err-durations.ensures.gives in
    search (rules, fails)

pub loop-i-preserved : goal.loop-i-preserved
loop-i-preserved c =
    let test = duration_by_kind c.args.resources.now c.args.owner (view c.args.value.now) (path_of c.args.path.now) in
    let within : c.loop-i.i < length KINDS = c.loop-i-test.true in
    let inside : c.loop-i.i < length c.loop-i.durations = omega (arith, c.loop-i.invariant.long) in
    record {
      fills = fills_more_at test KINDS c.loop-i.i c.loop-i.durations _ c.in_ok-durations.field-0 within inside c.loop-i.invariant.fills c.in_ok-durations.ensures.gives;
      long = length-set c.loop-i.durations c.loop-i.i c.in_ok-durations.field-0 ∙ c.loop-i.invariant.long;
      fit = owner_more_at (length c.args.resources.now) c.args.owner c.loop-i.durations c.loop-i.i _ c.in_ok-durations.field-0 within c.loop-i.invariant.fit c.in_ok-durations.ensures.fits;
    }

pub returns-clause-gives : goal.returns-clause-gives
unfolding kinds
returns-clause-gives c =
    let test = duration_by_kind c.args.resources.now c.args.owner (view c.args.value.now) (path_of c.args.path.now) in
    let all : length c.loop-i.durations ≤ c.loop-i.i = omega (arith, c.loop-i.invariant.long) in
    fills_all test KINDS c.loop-i.i c.loop-i.durations c.loop-i-test.false c.loop-i.invariant.fills ∙ ap Ok (take_all c.loop-i.i c.loop-i.durations all)
