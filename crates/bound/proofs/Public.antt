-- What crates above may cite: the laws, by the names of their statements in specs/.
pub use Rattle.bound.proofs.CostLemmas.{cost_is_small, cost_put_back, narrowing_tells, same_cost}
-- ---- what one element has of the sum, sums that differ in one element, and what a narrowing keeps
pub use Rattle.bound.proofs.CostLemmas.{cost_change, cost_term, kept_else, kept_here}
