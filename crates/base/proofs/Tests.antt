-- Tests that imply others, and numbers that count only where a test holds.
use Rattle.std.proofs.Common.{◌≡◌, ℕ, ◌≤◌, Bool, true, false, cond, ◌==◌, nat_lt, IsTrue, refl, sym, ◌∙◌, arith}
use Rattle.std.proofs.lemmas.Bool.{false≢true, false_from_ne_true}
use Rattle.std.proofs.lemmas.Bool.Decides.{nat_tests}

-- ---- tests

-- what implies a test that fails fails
pub fails_below : (a b : Bool) → (IsTrue a → IsTrue b) → b ≡ false → a ≡ false
fails_below a b implies fail = false_from_ne_true a (λ x. false≢true (sym fail ∙ implies x))

-- what is not less than a positive number is positive
pub positive_above : (a b : ℕ) → a ≤ b → IsTrue (nat_lt 0 a) → IsTrue (nat_lt 0 b)
positive_above a b le positive = grind (arith, nat_tests)

pub same_either_way : (a b : ℕ) → (a == b) ≡ (b == a)
same_either_way a b = grind (arith, nat_tests)

-- ---- numbers that count where a test holds

pub cond-none : (b : Bool) → ◌≡◌ {A = ℕ} (cond b 0 0) 0
cond-none true = refl
cond-none false = refl

-- a test that implies another counts no more
pub cond-implied : (a b : Bool) (m : ℕ) → (IsTrue a → IsTrue b) → cond a m 0 ≤ cond b m 0
cond-implied true true m implies = omega arith
cond-implied true false m implies = absurd (false≢true (implies refl))
cond-implied false b m implies = omega arith

-- what is no greater counts no more
pub cond-le : (b : Bool) (x y : ℕ) → (IsTrue b → x ≤ y) → cond b x 0 ≤ cond b y 0
cond-le true x y le = le refl
cond-le false x y le = omega arith
