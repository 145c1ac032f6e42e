-- A list with levels, and how they are kept.
use Rattle.std.specs.Prelude.{◌≡◌, ℕ, List, [], ◌∷◌, ◌++◌, length, slice_index_or, slice_set, refl}
use Rattle.std.specs.Coded.{Coded, code_by, coded×, coded_list}
use Rattle.standings.specs.declared.levels.Entry.{Entry, TheVariants.Mark, TheVariants.Undo}

-- what a contract sees of a `Levelled`: the items of each level below the top, the lowest first, and those of the top
pub record Levels (T : Type 0) : Type 0 where
  pub older : List (List T)
  pub top : List T

-- stored as both
abbrev pub levels_code : {T : Type 0} → Coded T → Coded (Levels T)
levels_code {T} code =
    code_by
    (List (List T) × List T)
    (coded× (coded_list (coded_list code)) (coded_list code))
    (λ m. (m.older, m.top))
    (λ p. record { older = p.0; top = p.1 })
    (λ _. refl)

module _ {T : Type 0} where
  -- the items of a level; the lowest is level 0
  abbrev pub level_at : Levels T → ℕ → List T
  level_at m k = slice_index_or (m.older ++ m.top ∷ []) k []

  -- one level more, which has the items of the top
  abbrev pub marked : Levels T → Levels T
  marked m = record { older = m.older ++ m.top ∷ []; top = m.top }

  -- the level below the top is the top now
  abbrev pub IsBack : (before after : Levels T) → Type 0
  IsBack before after = before.older ≡ after.older ++ after.top ∷ []

  -- the levels below the top of a log, its newest entry first
  abbrev pub olders : List T → List (Entry T) → List (List T)
  olders top [] = []
  olders top (Mark ∷ es) = olders top es ++ top ∷ []
  olders top (Undo i x ∷ es) = olders (slice_set top i x) es

  -- a log with the number of its marks: without a mark nothing is kept
  pub record IsLog (top : List T) (log : List (Entry T)) (marks : ℕ) : Type 0 where
    pub count : marks ≡ length (olders top log)
    pub empty : marks ≡ 0 → log ≡ []
