use Rattle.cert_model.proofs.Prelude.{sym, refl, least_cost, left_along, sets, the_view}
use Rattle.cert_model.proofs.StandLemmas.{IsHeld, few_decisions, legal_here, no_value, stands_as, stands_next, sum_here}
use Rattle.cert_model.proofs.walk.Walk.step.Goals as goal

pub tally_for-self-inside-requires-clause-legal : goal.tally_for-self-inside-requires-clause-legal
tally_for-self-inside-requires-clause-legal g c =
    let r = c.requires.stands in
    let p = c.args.p.now.given in
    let w = the_view c.self.inside in
    let opened = c.in_ok-enter.ensures in
    let held : IsHeld w c.enter.new.self = record { sets_kept = opened.sets; sums_kept = opened.sums; machines = sym opened.size.machines; nodes = sym opened.size.nodes } in
    legal_here p r.bound r.strict r.steps w c.enter.new.self held (stands_as p r.bound r.strict r.steps w c.args.self.now c.self.view_is r.stands) c.in-Whole.is

pub refusal-requires-clause-legal : goal.refusal-requires-clause-legal
refusal-requires-clause-legal g c =
    let r = c.requires.stands in
    let p = c.args.p.now.given in
    let w = the_view c.self.inside in
    let opened = c.in_ok-enter.ensures in
    let held : IsHeld w c.enter.new.self = record { sets_kept = opened.sets; sums_kept = opened.sums; machines = sym opened.size.machines; nodes = sym opened.size.nodes } in
    legal_here p r.bound r.strict r.steps w c.enter.new.self held (stands_as p r.bound r.strict r.steps w c.args.self.now c.self.view_is r.stands) c.in-Whole.is

pub advance-requires-clause-legal : goal.advance-requires-clause-legal
advance-requires-clause-legal g c =
    let r = c.requires.stands in
    let p = c.args.p.now.given in
    let w = the_view c.self.inside in
    let opened = c.in_ok-enter.ensures in
    let held : IsHeld w c.enter.new.self = record { sets_kept = opened.sets; sums_kept = opened.sums; machines = sym opened.size.machines; nodes = sym opened.size.nodes } in
    legal_here p r.bound r.strict r.steps w c.enter.new.self held (stands_as p r.bound r.strict r.steps w c.args.self.now c.self.view_is r.stands) c.in-Whole.is

pub counted-self-inside-requires : goal.counted-self-inside-requires
counted-self-inside-requires g c =
    let r = c.requires.stands in
    let p = c.args.p.now.given in
    let w = the_view c.self.inside in
    let opened = c.in_ok-enter.ensures in
    let held : IsHeld w c.enter.new.self = record { sets_kept = opened.sets; sums_kept = opened.sums; machines = sym opened.size.machines; nodes = sym opened.size.nodes } in
    few_decisions p r.bound r.strict r.steps w c.enter.new.self held (stands_as p r.bound r.strict r.steps w c.args.self.now c.self.view_is r.stands) r.few

pub returns-clause-ok : goal.returns-clause-ok
returns-clause-ok g c =
    λ bound strict steps shown.
    let p = c.args.p.now.given in
    let w = the_view c.self.inside in
    let f = c.enter.new.self in
    let opened = c.in_ok-enter.ensures in
    let moved = c.in_ok-advance.ensures in
    let held : IsHeld w f = record { sets_kept = opened.sets; sums_kept = opened.sums; machines = sym opened.size.machines; nodes = sym opened.size.nodes } in
    let stands = stands_as p bound strict steps w c.args.self.now c.self.view_is shown in
    stands_next p bound strict steps w f held stands c.in-Whole.is _ c.args.step.now
    (c.in_ok-why.ensures.holds (no_value c.in_ok-why.field-0 (λ why. c.in_default-2.not-Some why)) steps stands.cheapest)
    moved.sets moved.sums (sym moved.size.machines) (sym moved.size.nodes)
    c.counted-self-inside.ensures (c.cheaper-self-inside.ensures steps stands.cheapest)
    (c.least_with-self-inside.ensures (least_cost p) (left_along p steps) (sets f.trail.region) stands.least_left (sum_here p bound strict steps w f held stands c.in-Whole.is)) refl refl
