use Rattle.profiles.proofs.Prelude.{◌≡◌, [], ℕ, Vec, map, replicate, Global}
use Rattle.profiles.proofs.number_lists.NumberLists.new.Given as goal

abbrev pub invariant-loop : goal.invariant-loop
invariant-loop l = map (λ (v : Vec ℕ Global). v.items) l.lists.items ≡ replicate l.counter []
