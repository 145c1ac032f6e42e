-- What is kept beside a rule, with levels.
use Rattle.std.specs.Prelude.{◌≡◌, ℕ, ◌+◌, ◌<◌}
use Rattle.prop_core.specs.Prelude.{Instance, Sets}

-- `right p k s`: what is kept at level k is right for the sets of choices s of the instance p
pub record Cache : Type 1 where
  pub right : Instance → ℕ → Sets → Type 0
  pub level : ℕ

-- what is kept at the top level is right
abbrev pub IsCacheFor : Cache → Instance → Sets → Type 0
IsCacheFor c p s = c.right p c.level s

-- ---- what the calls leave: c before the call, d after it

-- each level below k is right for what it was right for
pub record KeepsCache (k : ℕ) (c d : Cache) : Type 0 where
  pub kept : (j : ℕ) (p : Instance) (s : Sets) → j < k → c.right p j s → d.right p j s

-- there is level 0 alone, and it is right
pub record IsCachePosted (p : Instance) (s : Sets) (d : Cache) : Type 0 where
  pub level : d.level ≡ 0
  pub top : IsCacheFor d p s

-- the top level is right, the lower ones for what they were
pub record IsCacheTold (p : Instance) (s : Sets) (c d : Cache) : Type 0 where
  pub below : KeepsCache c.level c d
  pub top : IsCacheFor d p s

-- there is one level more, whose top is right for all that the old top was
pub record IsCacheMarked (c d : Cache) : Type 0 where
  pub level : d.level ≡ c.level + 1
  pub below : KeepsCache (c.level + 1) c d
  pub top : (p : Instance) (s : Sets) → IsCacheFor c p s → IsCacheFor d p s

-- all levels are as they were
pub record IsCacheSame (c d : Cache) : Type 0 where
  pub level : d.level ≡ c.level
  pub below : KeepsCache (c.level + 1) c d

-- the top level is dropped
pub record IsCacheBack (c d : Cache) : Type 0 where
  pub level : d.level + 1 ≡ c.level
  pub below : KeepsCache c.level c d
