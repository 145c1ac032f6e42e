use Rattle.std.proofs.Common.{◌≡◌, IsTrue, sym, ap, subst, ◌∙◌}
use Rattle.executor.specs.Prelude.{choices_of, element_at, element_number, inventory_of, is_open_at, IsHindrance, phases_in}
use Rattle.executor.proofs.TableLemmas.{number, open_hinders, phase_by_number, ready_may_start}
use Rattle.executor.proofs.hindrance.hindrance.Goals as goal

pub returns-in-Some-first_open : goal.returns-in-Some-first_open
returns-in-Some-first_open c =
    let p = c.args.p.now.given in
    let plan = c.args.plan.now in
    let times = c.args.times.now in
    let phases = c.args.phases.now in
    let x = c.in-Some-first_open.x in
    let o = c.in-Some-first_open.ensures in
    let n : c.number.result ≡ number p c.args.e = c.number.ensures.number ∙ ap (λ k. element_number k c.args.e) c.cluster-2.ensures.cluster in
    let q : c.element-in-Some-first_open.result ≡ element_at (inventory_of p) x =
    c.element-in-Some-first_open.ensures.element ∙ ap (λ k. element_at k x) c.cluster-in-Some-first_open.ensures.cluster
    in
    subst (λ y. IsHindrance p (choices_of plan) (phases_in p phases) c.args.e y) (sym q)
    (open_hinders p plan c.requires.plan phases c.requires.rows times c.requires.times c.args.e c.requires.element c.in_default.ensures x o.0
    (subst (λ m. IsTrue (is_open_at times phases m x)) n o.1)
    (λ y low h. o.2 y low (subst (λ m. IsTrue (is_open_at times phases m y)) (sym n) h)))

pub returns-in-None : goal.returns-in-None
returns-in-None c =
    let p = c.args.p.now.given in
    let plan = c.args.plan.now in
    let times = c.args.times.now in
    let phases = c.args.phases.now in
    let n : c.number.result ≡ number p c.args.e = c.number.ensures.number ∙ ap (λ k. element_number k c.args.e) c.cluster-2.ensures.cluster in
    (ready_may_start p plan c.requires.plan phases c.requires.rows times c.requires.times c.in_default.ensures c.args.e c.requires.element).1 (record {
      waiting = sym (phase_by_number p phases c.args.e c.requires.element) ∙ c.requires.waiting;
      none_open = λ b low still. c.in-None.ensures b low (subst (λ m. IsTrue (is_open_at times phases m b)) (sym n) still);
    })
