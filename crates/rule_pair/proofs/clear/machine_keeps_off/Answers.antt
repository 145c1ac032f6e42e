use Rattle.rule_pair.proofs.Prelude.{ap, arith, sym, ◌∙◌, false≢true, choices, sets}
use Rattle.rule_pair.proofs.ApartLemmas.{keeps_off, keeps_off_there}
use Rattle.rule_pair.proofs.ReachLemmas.{late_rows}
use Rattle.rule_pair.proofs.clear.machine_keeps_off.Goals as goal

pub returns-then-comes_late : goal.returns-then-comes_late
returns-then-comes_late c =
    let late = c.comes_late.ensures c.if-comes_late.true in
    keeps_off_there c.args.p.now.given (sets c.args.g.now) c.args.table.now c.args.part c.args.from c.args.w.0 (omega (arith, c.args.p.now.sound.horizon)) (choices c.domain-domain.result.now) _ (ap choices (sym c.domain-domain.ensures.domain))
    (λ none. false≢true (sym c.if-is_empty.false ∙ c.is_empty.ensures.1 none)) (c.requires.kept.each c.args.w.0 late.0) late.1 c.in_default.ensures

pub returns-in-None : goal.returns-in-None
returns-in-None c =
    keeps_off c.args.p.now.given (sets c.args.g.now) c.args.table.now c.args.part c.args.from c.args.w.0 (omega (arith, c.args.p.now.sound.horizon)) c.domain-domain.result.now c.rows.result.now (ap choices (sym c.domain-domain.ensures.domain))
    (λ none. false≢true (sym c.if-is_empty.false ∙ c.is_empty.ensures.1 none)) c.rows.ensures.items c.rows.ensures.climbs c.in_default.ensures
    (late_rows c.args.table.now c.args.part c.args.from c.args.w.0 c.args.gone.now.bounds c.args.gone.now.words.top c.args.ends.now (sets c.args.g.now) c.domain-domain.result.now c.rows.result.now c.requires.ends c.requires.gone (ap choices (sym c.domain-domain.ensures.domain)) c.rows.ensures.items c.rows.ensures.climbs c.in-None.ensures)
