use Rattle.quick_checks.proofs.{Prelude.◌≢◌, Prelude.ℕ, Prelude.◌<◌, Prelude.arith, Prelude.machine_count, Prelude.nat_tests, Prelude.nodes_of, Prelude.rules, Prelude.seen, Prelude.sets, TallyLemmas.total_changed, TallyLemmas.total_same}
use Rattle.quick_checks.proofs.tally.exceeds.Goals as goal

pub returns-in_default : goal.returns-in_default
returns-in_default c =
    let p = c.args.p.now.given in
    let g = c.args.view.now.region.now in
    let same = total_same p (sets g) (seen g c.args.view.now.lens) c.args.t c.args.weight (nodes_of p c.args.area.now) (λ v l. search (rules, c.narrowed.ensures g v, c.in_default.not-Some)) in
    λ over. grind (arith, nat_tests, over, same, c.requires.total)

pub returns-then-v-machine_total : goal.returns-then-v-machine_total
returns-then-v-machine_total c =
    let p = c.args.p.now.given in
    let g = c.args.view.now.region.now in
    let other : (v : ℕ) → v < machine_count p → v ≢ c.in-Some.v.0 = λ v l e. absurd (omega (arith, l, e, c.if-v-machine_total.true, c.machine_total.ensures)) in
    let same = total_same p (sets g) (seen g c.args.view.now.lens) c.args.t c.args.weight (nodes_of p c.args.area.now) (λ v l. search (rules, c.in-Some.ensures g v (other v l))) in
    λ over. grind (arith, nat_tests, over, same, c.requires.total)

pub returns-then-before-sum : goal.returns-then-before-sum
returns-then-before-sum c =
    let p = c.args.p.now.given in
    let g = c.args.view.now.region.now in
    let changed = total_changed p (sets g) (seen g c.args.view.now.lens) c.args.t c.args.weight (nodes_of p c.args.area.now) c.in-Some.v.0 (search rules) (λ k ne. search (rules, c.in-Some.ensures g k ne)) in
    λ over. grind (arith, nat_tests, over, changed, c.requires.total, c.least_held-before.ensures.held, c.least_held.ensures.held, c.if-before-sum.true)
