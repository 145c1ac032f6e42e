-- The greatest of some amounts, and how full a node is.
use Rattle.base.proofs.Public.{◌≡◌, ℕ, zero, suc, ◌+◌, ◌<◌, add-one, refl, arith, length, max}
use Rattle.judge.specs.Prelude.{Loads}
use Rattle.picture.specs.Prelude.{capacity_of, fullness, Instance, most_to, parts_of}

-- the greatest of the same amounts is the same
most_same : (n : ℕ) (f g : ℕ → ℕ) → ((k : ℕ) → k < n → f k ≡ g k) → most_to n f ≡ most_to n g
most_same zero f g h = refl
most_same (suc n) f g h = rw (most_same n f g (λ k l. h k (omega arith)), h n (omega arith)) refl

-- one amount more
pub most_more : (n : ℕ) (f : ℕ → ℕ) → most_to (n + 1) f ≡ max (most_to n f) (f n)
most_more n f = rw add-one refl

-- a node is as full by loads that are the same there
pub fullness_same : (p : Instance) (a b : Loads) (n : ℕ) → ((r : ℕ) → r < length p.resources → a n r ≡ b n r) → fullness p a n ≡ fullness p b n
fullness_same p a b n same =
    most_same (length p.resources) (λ r. parts_of (capacity_of p n r) (a n r)) (λ r. parts_of (capacity_of p n r) (b n r)) (λ r low. rw (same r low) refl)
