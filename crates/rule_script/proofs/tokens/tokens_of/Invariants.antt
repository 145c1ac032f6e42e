use Rattle.base.proofs.Public.{◌≡◌, [], fold, length}
use Rattle.rule_script.specs.Tokens.{content, pieces, with_piece}
use Rattle.rule_script.proofs.tokens.tokens_of.Given as goal

abbrev pub invariant-pieces : goal.invariant-pieces
invariant-pieces l = fold with_piece l.found.items (pieces l.rest) ≡ fold with_piece [] (pieces (content l.fn.line))

abbrev pub decreases-pieces : goal.decreases-pieces
decreases-pieces l = length l.rest
