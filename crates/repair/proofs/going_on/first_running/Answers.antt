use Rattle.std.proofs.Common.{◌≡◌, refl, sym, ap, subst, ◌∙◌, arith}
use Rattle.executor.specs.declared.phase.Phase.TheVariants.{Running}
use Rattle.repair.specs.Prelude.{element_at, element_count, inventory_of, IsFirst, phases_of}
use Rattle.repair.proofs.GoingLemmas.{first_runs, known_of, none_runs}
use Rattle.repair.proofs.going_on.first_running.Goals as goal

pub returns-in-Running : goal.returns-in-Running
returns-in-Running c =
    let p = c.args.p.now.given in
    let phases = phases_of c.args.m.now in
    let count : c.element_count-x-end.result ≡ element_count (inventory_of p) = c.element_count-x-end.ensures.count ∙ ap element_count c.cluster.ensures.cluster in
    let at : c.element-e.result ≡ element_at (inventory_of p) c.loop-x.x = c.element-e.ensures.element ∙ ap (λ k. element_at k c.loop-x.x) c.cluster-in-loop-x.ensures.cluster in
    let runs : phases (element_at (inventory_of p) c.loop-x.x) ≡ Running = ap phases (sym at) ∙ sym c.phase.ensures ∙ c.in-Running.is in
    subst (λ e. IsFirst p (λ x. phases x ≡ Running) e) (sym at) (first_runs p phases c.loop-x.x (omega (arith, count)) runs c.loop-x.invariant)

pub returns : goal.returns
returns c =
    let p = c.args.p.now.given in
    let m = c.args.m.now in
    let known = known_of m c.args.p.now m.plan c.requires refl c.known.ensures in
    let count : c.element_count-x-end.result ≡ element_count (inventory_of p) = c.element_count-x-end.ensures.count ∙ ap element_count c.cluster.ensures.cluster in
    none_runs p m.plan known.whole (phases_of m) known.execution (λ y low. c.loop-x.invariant y (omega (arith, low, count)))
