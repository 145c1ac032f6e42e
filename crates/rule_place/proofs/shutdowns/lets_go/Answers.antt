use Rattle.rule_place.proofs.Prelude.{◌≢◌, [], sym, ◌∙◌, arith, false≢true, sets, Vm}
use Rattle.rule_place.proofs.ShutdownLemmas.{host_goes, other_goes}
use Rattle.rule_place.proofs.shutdowns.lets_go.Goals as goal

pub returns-then-not-is_host : goal.returns-then-not-is_host
returns-then-not-is_host c =
    λ yes.
    let some : sets c.args.g.now (Vm c.args.v) ≢ [] = λ none. false≢true (sym c.if-is_empty.false ∙ c.is_empty.ensures.1 (rw c.domain-domain.ensures.domain none)) in
    other_goes c.args.p.now.given (sets c.args.g.now) c.args.v.0 c.args.n.0 c.args.x (omega (arith, c.args.p.now.sound.horizon)) some (c.goes_elsewhere.ensures c.if-not-goes_elsewhere.false)
    (sym c.is_host.ensures ∙ c.if-not-is_host.true)

pub returns-then-may_leave_by : goal.returns-then-may_leave_by
returns-then-may_leave_by c =
    λ yes.
    let soon = c.may_leave_by.ensures c.if-may_leave_by.true in
    host_goes c.args.p.now.given (sets c.args.g.now) c.args.v.0 c.args.n.0 c.args.x (omega (arith, c.args.p.now.sound.horizon)) (c.goes_elsewhere.ensures c.if-not-goes_elsewhere.false)
    (soon.0, rw c.domain-domain.ensures.domain at soon.1, omega (arith, soon.2, c.from.ensures))
    (rw c.domain-domain.ensures.domain at (c.leaves_by.ensures yes))
