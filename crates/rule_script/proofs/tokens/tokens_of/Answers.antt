use Rattle.base.proofs.Public.{arith, common_steps}
use Rattle.rule_script.specs.Tokens.{pieces, tokens_of}
use Rattle.rule_script.proofs.tokens.tokens_of.Goals as goal

pub returns : goal.returns
unfolding pieces tokens_of
returns c = grind (arith, common_steps, c.pieces.invariant)
