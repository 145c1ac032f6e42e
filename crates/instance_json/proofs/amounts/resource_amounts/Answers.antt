use Rattle.base.proofs.Public.{◌≡◌, ◌∙◌, ◌<◌, ◌++◌, ◌-◌, length, take, replicate, Ok, ap, sym, arith, rules, take-append-drop}
use Rattle.instance_json.specs.Prelude.{amounts_fit, Field, instance_fault_of, map_walk, max_amount, max_resources, optional_number, path_of, resource_amounts, ◌>>=◌}
use Rattle.serde_json.specs.View.{view}
use Rattle.instance_json.proofs.Loops.{fills_more, fills_all, fill_fails, fails_then}
use Rattle.instance_json.proofs.Fitting.{amounts_more, amounts_all}
use Rattle.instance_json.proofs.amounts.resource_amounts.Goals as goal

pub returns-in_err-amounts-clause-gives : goal.returns-in_err-amounts-clause-gives
unfolding resource_amounts
returns-in_err-amounts-clause-gives c =
    let test = optional_number Field max_amount (view c.args.value.now) (path_of c.args.path.now) in
    let rs = c.args.resources.now in
    let within : c.loop-i.i < length rs = omega arith in
    let fault = instance_fault_of c.in_err-amounts.field-0.0 in
    let fails = fill_fails test rs c.loop-i.i c.loop-i.amounts c.index-resources-i.result fault within c.index-resources-i.is c.loop-i.invariant.fills c.in_err-amounts.ensures.gives in
    let whole = fails_then (map_walk test rs) (λ amounts. Ok (amounts ++ replicate (max_resources - length rs) 0)) fault fails in
    search (rules, whole)

pub loop-i-preserved : goal.loop-i-preserved
loop-i-preserved c =
    let test = optional_number Field max_amount (view c.args.value.now) (path_of c.args.path.now) in
    let within : c.loop-i.i < length c.args.resources.now = omega arith in
    let inside : c.loop-i.i < length c.loop-i.amounts = omega (arith, c.loop-i.invariant.fit.long) in
    record {
      fills = fills_more test c.args.resources.now c.loop-i.i c.loop-i.amounts c.index-resources-i.result c.in_ok-amounts.field-0 within inside c.index-resources-i.is c.loop-i.invariant.fills c.in_ok-amounts.ensures.gives;
      fit = amounts_more c.loop-i.i c.loop-i.amounts c.in_ok-amounts.field-0 c.loop-i.invariant.fit c.in_ok-amounts.ensures.small;
    }

pub returns-clause-gives : goal.returns-clause-gives
unfolding resource_amounts
returns-clause-gives c =
    let test = optional_number Field max_amount (view c.args.value.now) (path_of c.args.path.now) in
    let rs = c.args.resources.now in
    let i = c.loop-i.i in
    let out = c.loop-i.amounts in
    let count : i ≡ length rs = omega arith in
    let read = fills_all test rs i out c.loop-i-test.false c.loop-i.invariant.fills in
    ap (λ walk. walk >>= λ amounts. Ok (amounts ++ replicate (max_resources - length rs) 0)) read
    ∙ ap (λ rest. Ok (take i out ++ rest)) (ap (λ n. replicate (max_resources - n) 0) (sym count) ∙ sym c.loop-i.invariant.fit.rest)
    ∙ ap Ok (take-append-drop i out)

pub returns-clause-fit : goal.returns-clause-fit
returns-clause-fit c =
    let count : c.loop-i.i ≡ length c.args.resources.now = omega arith in
    ap (λ n. amounts_fit n c.loop-i.amounts) (sym count) ∙ amounts_all c.loop-i.i c.loop-i.amounts c.loop-i.invariant.fit
