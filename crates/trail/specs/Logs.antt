-- What a trail is: the region now, and the region at each mark that stands, the newest first.
use Rattle.std.specs.Prelude.{◌≡◌, ℕ, List, [], ◌∷◌, ◌++◌, length, reverse}
use Rattle.domains.specs.Prelude.{CanRestore, domain_at, HasElement, RegionView, restored, with_domain}
use Rattle.trail.specs.declared.log.Entry.{Entry}
use Rattle.trail.specs.declared.log.Entry.TheVariants.{Mark, Whole, Lost}

pub record Marked : Type 0 where
  pub region : RegionView
  pub marks : List RegionView

-- the region before what an entry tells of
abbrev pub undone : Entry → RegionView → RegionView
undone Mark g = g
undone (Whole x old) g = with_domain g x old.value
undone (Lost x lost) g = with_domain g x (restored lost (domain_at g x))

-- and it can be had again without memory
abbrev pub CanUndo : Entry → RegionView → Type 0
CanUndo Mark g = Unit {0}
CanUndo (Whole x old) g = HasElement g x
CanUndo (Lost x lost) g = HasElement g x × CanRestore lost (domain_at g x)

-- the regions at the marks of a log, its newest entry first
abbrev pub marked : RegionView → List Entry → List RegionView
marked g [] = []
marked g (Mark ∷ es) = g ∷ marked g es
marked g (Whole x old ∷ es) = marked (with_domain g x old.value) es
marked g (Lost x lost ∷ es) = marked (with_domain g x (restored lost (domain_at g x))) es

abbrev pub CanUndoAll : RegionView → List Entry → Type 0
CanUndoAll g [] = Unit {0}
CanUndoAll g (e ∷ es) = CanUndo e g × CanUndoAll (undone e g) es

-- a log, its oldest entry first, with the number of its marks: without a mark nothing is kept
pub record IsLog (g : RegionView) (log : List Entry) (marks : ℕ) : Type 0 where
  pub undo : CanUndoAll g (reverse log)
  pub count : marks ≡ length (marked g (reverse log))
  pub empty : marks ≡ 0 → log ≡ []

-- an entry that tells of a change
abbrev pub IsChange : Entry → Type 0
IsChange Mark = ⊥
IsChange (Whole x old) = Unit {0}
IsChange (Lost x lost) = Unit {0}

-- a change of the region, with what undoes it added to the log
pub record HasKept (before after : RegionView) (log longer : List Entry) : Type 0 where
  pub entry : Entry
  pub change : IsChange entry
  pub added : longer ≡ log ++ entry ∷ []
  pub undoes : undone entry after ≡ before
  pub can : CanUndo entry after
