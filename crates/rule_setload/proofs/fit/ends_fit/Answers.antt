use Rattle.rule_setload.proofs.Prelude.{◌≡◌, inl, inr, ℕ, ◌∙◌, true, rules, arith, cases_lt, has_node, sets, slice_index_or}
use Rattle.rule_setload.specs.Prelude.{Idle, no_row}
use Rattle.rule_setload.proofs.FitLemmas.{all_fit, row_out}
use Rattle.rule_setload.proofs.HoldLemmas.{ever_share}
use Rattle.rule_setload.proofs.fit.ends_fit.Goals as goal

pub returns : goal.returns
returns c = λ _.
    let fits : c.idle_fits.result ≡ true = search rules in
    all_fit c.args.p.now.given (sets c.args.g.now) c.args.bound.now.weight (has_node c.args.bound.now.nodes) c.args.x c.args.v.0 c.args.limit c.domain-domain.result.now c.rows-rows.result.now (search rules) c.rows-rows.ensures.items c.rows-rows.ensures.climbs
    (λ e. ever_share c.args.p.now.given c.args.p.now.sound c.args.bound.now.weight (has_node c.args.bound.now.nodes) c.args.v.0 c.args.x c.requires.period Idle c.args.stays 0 c.args.limit c.requires.stays (λ t l. omega arith) (omega (arith, (c.idle_fits.ensures fits) (c.idle.ensures ∙ e))))
    (λ k low. c.loop-i.invariant k low (elim (cases_lt k c.loop-i.i) [ inl before ↦ inl before | inr from ↦ inr (omega (arith, from, c.loop-i-test.false)) ]))

pub loop-i-init : goal.loop-i-init
loop-i-init c = λ k low outer.
    let both = c.rows_in_doubt-doubt.ensures.others k low outer in
    let row = slice_index_or c.rows-rows.result.now k no_row in
    let out = λ (u : ℕ). row_out c.args.p.now.given (sets c.args.g.now) c.args.bound.now.weight (has_node c.args.bound.now.nodes) c.args.x c.args.p.now.sound c.requires.period c.args.v.0 c.args.stays c.args.limit u row.place c.requires.stays both.0 both.1 in
    (out row.lo, out row.hi)
