-- What proofs of this crate cite together of std, of the crates below and of its definitions, passed on from one place. Declares nothing.
pub use Rattle.base.proofs.Public.{Bool, IsTrue, nat_tests, ◌||◌, List, [], arith, cases_eq, cases_lt, cond, false, inl, inr, length, refl, rules, slice_index_or, sum_to-le, sym, true, ℕ, ◌&&◌, ◌+◌, ◌-◌, ◌<◌, ◌==◌, ◌∙◌, ◌∷◌, ◌≡◌, ◌≤◌}
pub use Rattle.reasons.proofs.Public.{ends_of_rows, machine_change, setting_agrees, setting_powered}
pub use Rattle.power_bounds.specs.Prelude.{has_node, sets}
