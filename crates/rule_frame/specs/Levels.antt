-- Which watches are dirty, with levels: a flag for each watch, and the flags of each level that stands below.
use Rattle.std.specs.Prelude.{ℕ, Bool, List, [], ◌∷◌, ◌++◌, slice_index_or}

-- the flags of the levels below, the lowest first, and those of the top
pub record Levels : Type 0 where
  pub older : List (List Bool)
  pub top : List Bool

-- the flags of a level
abbrev pub level_at : Levels → ℕ → List Bool
level_at m k = slice_index_or (m.older ++ m.top ∷ []) k []
