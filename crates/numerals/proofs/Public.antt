-- What crates above may cite. All else under proofs/ is private.
-- ---- numbers are read from their decimal texts, and these are digits
pub use Rattle.numerals.proofs.NumberLemmas.{number_of-decimal, decimal-number_of, digits_of-decimal}
-- ---- the law
use Rattle.numerals.specs.Laws.{NumbersAreExact}

pub numbers_are_exact : NumbersAreExact
numbers_are_exact = record { spelled = decimal-number_of; read = number_of-decimal }
