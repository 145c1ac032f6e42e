-- The regions that are open, as they are kept: one region, the regions at the decisions before, and their outer sides.
use Rattle.std.specs.Prelude.{ℕ, List, [], ◌∷◌}
use Rattle.trees.specs.Prelude.{outside, RegionView, Sets, sets}
use Rattle.cert_model.specs.declared.frontier.{Due.Due, Due.TheVariants.Nothing, Due.TheVariants.Whole, Due.TheVariants.Outside, Outer.Outer}

-- what is due of a region
abbrev pub due_sets : Due → Sets → List Sets
due_sets Nothing s = []
due_sets Whole s = s ∷ []
due_sets (Outside x part) s = outside x part s ∷ []

-- the outer sides of decisions, each made at a mark; the newest first
abbrev pub outer_sets : List RegionView → List Outer → List Sets
outer_sets [] outers = []
outer_sets (mark ∷ marks) [] = []
outer_sets (mark ∷ marks) (o ∷ outers) = outside o.element o.part (sets mark) ∷ outer_sets marks outers

-- what is due of a sum
abbrev pub due_sums : Due → ℕ → List ℕ
due_sums Nothing sum = []
due_sums Whole sum = sum ∷ []
due_sums (Outside x part) sum = sum ∷ []
