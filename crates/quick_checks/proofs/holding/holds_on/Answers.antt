use Rattle.quick_checks.proofs.Prelude.{ap, rules, sym, choices, seen, sets}
use Rattle.relax.proofs.Public.{idle_in}
use Rattle.quick_checks.proofs.HoldLemmas.{use_there}
use Rattle.quick_checks.proofs.holding.holds_on.Goals as goal

pub returns-then-is_node : goal.returns-then-is_node
returns-then-is_node c =
    λ yes r t.
    use_there c.args.p.now.given (sets c.args.view.now.region.now) (seen c.args.view.now.region.now c.args.view.now.lens) c.args.v.0 r c.in-Some.h t c.requires.legal
    (c.is_narrowed.ensures c.if-is_narrowed.false c.args.view.now.region.now) c.requires.machine
    (rw (sym (ap choices c.domain.ensures.domain)) (idle_in c.domain.result.now (search (rules, c.idle.ensures, c.if-not-idle.false)))) c.in-Some.ensures.some (c.is_node.ensures c.if-is_node.true)
    (c.is_to_run.ensures yes c.in-Some.h c.in-Some.ensures.some)
