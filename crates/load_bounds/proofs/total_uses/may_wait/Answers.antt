use Rattle.load_bounds.proofs.Prelude.{sym, ap, ◌∙◌, ◌≤◌, arith, domain_at, DomainView, is_nought, may, sets, vm, waits, may_by_least}
use Rattle.load_bounds.proofs.WaitLemmas.{waits_idle}
use Rattle.load_bounds.proofs.total_uses.may_wait.Goals as goal

pub returns : goal.returns
returns c =
    let all = sets c.args.g.now (vm c.args.v.0) in
    c.is_zero.ensures ∙ ap is_nought c.lowest_seen.ensures ∙ sym (may_by_least (waits c.horizon-last.result c.args.x.to) all) ∙ ap (λ last. may (waits last c.args.x.to) all) c.horizon-last.ensures.horizon

pub returns-then-last-x : goal.returns-then-last-x
returns-then-last-x c =
    let late : c.args.p.now.given.horizon ≤ c.args.x.to = omega (arith, c.if-last-x.true, c.horizon-last.ensures.horizon) in
    c.idle.ensures ∙ ap (λ (d : DomainView). d.idle) c.domain.ensures.domain ∙ waits_idle (domain_at c.args.g.now (vm c.args.v.0)) c.args.p.now.given.horizon c.args.x.to late
