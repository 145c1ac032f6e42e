use Rattle.numerals.proofs.Public.{numbers_are_exact}
use Rattle.numerals.proofs.laws.numbers_are_exact.Goals as goal

pub returns : goal.returns
returns c = numbers_are_exact
