use Rattle.base.proofs.Public.{[]}
use Rattle.rule_script.specs.Pass.{run}
use Rattle.rule_script.specs.declared.pass.Due.TheVariants.{Term}
use Rattle.rule_script.specs.declared.pass.Waiting.TheVariants.{Nothing}
use Rattle.rule_script.proofs.PassLemmas.{token_goes, token_stops, tokens_over}
use Rattle.rule_script.proofs.pass.worth.Goals as goal

pub returns-in-Done : goal.returns-in-Done
returns-in-Done c =
    let k = c.args.cluster.now.given in
    let env = c.args.bindings.now in
    token_stops k env c.args.tokens.now c.loop-token.token-index c.loop-token.due c.loop-token.brackets (run k env (Term Nothing) [] c.args.tokens.now) c.loop-token.invariant c.token-item.result c.in_ok-more.field-0 c.in-Done.worth c.advance.new.brackets c.loop-token-test.true c.token-item.is c.in_ok-more.ensures c.in-Done.is

pub loop-token-preserved : goal.loop-token-preserved
loop-token-preserved c =
    let k = c.args.cluster.now.given in
    let env = c.args.bindings.now in
    token_goes k env c.args.tokens.now c.loop-token.token-index c.loop-token.due c.loop-token.brackets (run k env (Term Nothing) [] c.args.tokens.now) c.loop-token.invariant c.token-item.result c.in_ok-more.field-0 c.in-On.more c.advance.new.brackets c.loop-token-test.true c.token-item.is c.in_ok-more.ensures c.in-On.is

pub returns : goal.returns
returns c =
    let k = c.args.cluster.now.given in
    let env = c.args.bindings.now in
    tokens_over k env c.args.tokens.now c.loop-token.token-index c.loop-token.due c.loop-token.brackets (run k env (Term Nothing) [] c.args.tokens.now) c.loop-token.invariant c.whole.result c.loop-token-test.false c.whole.ensures
