use Rattle.closing.proofs.Prelude.{sym, Allowed, Apart, places_seen, separation_seen, sets}
use Rattle.closing.proofs.{FormLemmas.rule_by_form, RuleLemmas.misplaced_found}
use Rattle.closing.proofs.exact.constraint.rule_found.Goals as goal

pub returns-in-Apart : goal.returns-in-Apart
returns-in-Apart c =
    rule_by_form c.args.p.now.given (sets c.args.g.now) c.args.t c.separated_found.result c.args.constraint.now (Apart (separation_seen c.in-Apart.separation)) (sym c.in-Apart.ensures.form) c.separated_found.ensures

pub returns-in-Allowed : goal.returns-in-Allowed
returns-in-Allowed c =
    let k = c.in-Allowed in
    rule_by_form c.args.p.now.given (sets c.args.g.now) c.args.t c.placed_found.result c.args.constraint.now (Allowed k.machines.now (places_seen k.places)) (sym k.ensures.form)
    (misplaced_found c.args.p.now.given (sets c.args.g.now) c.args.t c.placed_found.result k.machines.now (places_seen k.places) (k.ensures.sound c.args.p.now.given c.requires.rule).listed (rw c.items.ensures at c.placed_found.ensures))
