use Rattle.std.proofs.Common.{◌≡◌, ℕ, ◌+◌, List, Some, [], ◌∷◌, ◌++◌, length, sym, ap, subst, ◌∙◌, arith, rules, length-append}
use Rattle.std.specs.Prelude.{slice_get}
use Rattle.std.specs.Option.{option_map}
use Rattle.cluster.specs.declared.{choices.Choice.Choice, machines.Machine.Machine}
use Rattle.repair.specs.Prelude.{choices_of, done_choices, machine_after, phases_of, vm}
use Rattle.repair.proofs.GoingLemmas.{all_changed, AreChangedBelow, one_more_changed}
use Rattle.repair.proofs.going_on.rest_machines.Goals as goal

pub loop-i-preserved : goal.loop-i-preserved
loop-i-preserved c =
    let p = c.args.p.now.given in
    let i = c.loop-i.i in
    let change = λ (v : ℕ). machine_after p v (done_choices (choices_of c.args.plan.now) (phases_of c.args.m.now) (vm v)) in
    let machine = c.in_ok-machine_after.field-0 in
    let items : c.push.new.self.items ≡ c.loop-i.machines.items ++ machine ∷ [] = search rules in
    let this : option_map (change i) (slice_get p.machines i) ≡ Some machine =
    subst (λ (d : Choice). option_map (machine_after p i d) (slice_get p.machines i) ≡ Some machine) c.done_choice.ensures c.in_ok-machine_after.ensures
    in
    record {
      count = ap length items ∙ omega (arith, length-append c.loop-i.machines.items (machine ∷ []), c.loop-i.invariant.count);
      below = subst (λ (xs : List Machine). AreChangedBelow change p.machines (i + 1) xs) (sym items) (one_more_changed change p.machines c.loop-i.machines.items machine i c.loop-i.invariant.count c.loop-i.invariant.below this);
    }

pub returns : goal.returns
returns c =
    let p = c.args.p.now.given in
    let change = λ (v : ℕ). machine_after p v (done_choices (choices_of c.args.plan.now) (phases_of c.args.m.now) (vm v)) in
    let count : length c.machines-i-end.result.now ≡ length p.machines = ap length (c.machines-i-end.ensures.machines ∙ ap (λ k. k.machines) c.cluster.ensures.cluster) in
    all_changed change p.machines c.loop-i.machines.items (omega (arith, count, c.loop-i.invariant.count)) (λ v low. c.loop-i.invariant.below v (omega (arith, low, count)))
