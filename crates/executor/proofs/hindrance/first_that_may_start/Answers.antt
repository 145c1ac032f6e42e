use Rattle.std.proofs.Common.{◌≡◌, sym, ap, subst, ◌∙◌}
use Rattle.executor.specs.Prelude.{choices_of, element_at, inventory_of, IsFirst, MayStart, phases_in}
use Rattle.executor.proofs.{GoingOn.never_stands_still, TableLemmas.first_ready, TableLemmas.none_after_failure, TableLemmas.none_ready}
use Rattle.executor.proofs.hindrance.first_that_may_start.Goals as goal

pub returns-in-Some-clause-first : goal.returns-in-Some-clause-first
returns-in-Some-clause-first c =
    none_after_failure c.args.p.now.given c.args.plan.now c.requires.plan c.args.phases.now c.requires.rows c.args.times.now c.requires.times
    c.in-Some.field-0 c.in-Some.ensures.0 c.in-Some.ensures.1

pub returns-in-Some-clause-goes_on : goal.returns-in-Some-clause-goes_on
returns-in-Some-clause-goes_on c = λ idle.
    let a = never_stands_still c.args.p.now.given c.args.p.now.sound c.args.plan.now c.requires.plan (phases_in c.args.p.now.given c.args.phases.now) c.requires.execution idle in
    absurd (returns-in-Some-clause-first c a.0 a.1)

pub returns-in-Some-first_ready-clause-first : goal.returns-in-Some-first_ready-clause-first
returns-in-Some-first_ready-clause-first c =
    let p = c.args.p.now.given in
    let plan = c.args.plan.now in
    let phases = c.args.phases.now in
    let x = c.in-Some-first_ready.x in
    let o = c.in-Some-first_ready.ensures in
    let q : c.element.result ≡ element_at (inventory_of p) x = c.element.ensures.element ∙ ap (λ k. element_at k x) c.cluster.ensures.cluster in
    subst (λ y. IsFirst p (MayStart p (choices_of plan) (phases_in p phases)) y) (sym q)
    (first_ready p plan c.requires.plan phases c.requires.rows c.args.times.now c.requires.times c.in_default.ensures x o.0 o.1 o.2)

pub returns-in-None-clause-first : goal.returns-in-None-clause-first
returns-in-None-clause-first c =
    none_ready c.args.p.now.given c.args.plan.now c.requires.plan c.args.phases.now c.requires.rows c.args.times.now c.requires.times
    c.in_default.ensures c.in-None.ensures

pub returns-in-None-clause-goes_on : goal.returns-in-None-clause-goes_on
returns-in-None-clause-goes_on c = λ idle.
    let a = never_stands_still c.args.p.now.given c.args.p.now.sound c.args.plan.now c.requires.plan (phases_in c.args.p.now.given c.args.phases.now) c.requires.execution idle in
    absurd (returns-in-None-clause-first c a.0 a.1)
