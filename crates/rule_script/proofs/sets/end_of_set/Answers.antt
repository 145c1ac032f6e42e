use Rattle.base.proofs.Public.{◌∙◌, sym}
use Rattle.rule_script.proofs.SetLemmas.{done_at, stops_at}
use Rattle.rule_script.proofs.sets.end_of_set.Goals as goal

pub returns-in-None : goal.returns-in-None
returns-in-None c = stops_at c.tokens.now c.args.tokens.now _ c.tokens.at c.index-tokens-at.result _ c.tokens.invariant c.tokens-test.true c.index-tokens-at.is (sym c.step.ensures ∙ c.in-None.is) c.end_where.ensures

pub returns : goal.returns
returns c = done_at c.tokens.now c.args.tokens.now _ c.tokens.at _ c.tokens.invariant c.tokens-test.false c.end_where-2.ensures
