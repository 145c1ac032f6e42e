-- Tables of nodes.
use Rattle.base.proofs.Public.{◌≡◌, inl, inr, ℕ, ◌+◌, add-one, List, [], replicate, slice_index, ◌∙◌, ap, arith, cases_lt, get_or-replicate, get_or_past, length-replicate, copies_at}
use Rattle.judge.specs.Prelude.{cell, sum_to}

-- a table that repeats a row of zeros
pub cell_none : (k m n r : ℕ) → cell (replicate k (replicate m 0)) n r ≡ 0
cell_none k m n r =
    elim (cases_lt n k) [
      | inl low ↦ ap (λ row. slice_index row r) (get_or-replicate k n (replicate m 0) [] low) ∙ copies_at m r 0
      | inr past ↦ ap (λ row. slice_index row r) (get_or_past (replicate k (replicate m 0)) n [] (omega (arith, length-replicate {A = List ℕ} k (replicate m 0)))) ∙ get_or_past [] r 0 (omega arith)
    ]

-- one term more
pub sum_more : (f : ℕ → ℕ) (i a b x y : ℕ) → a ≡ sum_to i f → f i ≡ x + y → b ≡ a + (x + y) → b ≡ sum_to (i + 1) f
sum_more f i a b x y was term now = rw add-one (omega arith)
