-- What the outputs that commands write have in common.
use Rattle.std.specs.Prelude.{◌≡◌, ◌≢◌, ◌⊎◌, ℕ, List, Some}
use Rattle.std.specs.Io.{StartsWith}
use Rattle.plan_io.specs.Files.{bytes_of, Files, IsCut, OthersStay}

-- The file holds this text, and no other file changes.
pub record HasText (name text : List ℕ) (before after : Files) : Type 0 where
  pub whole : after name ≡ Some text
  pub others : OthersStay name before after

-- The file is as before, absent, empty or a prefix of this text, and no other file changes.
pub record IsTextCut (name text : List ℕ) (before after : Files) : Type 0 where
  pub cut : IsCut (before name) text (after name)
  pub others : OthersStay name before after

-- Each file but these two is as before.
abbrev pub RestStays : (one other : List ℕ) → Files → Files → Type 0
RestStays one other before after = (name : List ℕ) → name ≢ one → name ≢ other → after name ≡ before name

-- Two files hold these texts, and no other file changes.
pub record HasTexts (first first_text second second_text : List ℕ) (before after : Files) : Type 0 where
  pub first_whole : after first ≡ Some first_text
  pub second_whole : after second ≡ Some second_text
  pub others : RestStays second first before after

-- The second file is as before until the first is whole, and then absent, empty or a prefix of its text. Until then the first is as before, absent, empty
-- or a prefix of its own text. No other file changes.
pub record AreTextsCut (first first_text second second_text : List ℕ) (before after : Files) : Type 0 where
  pub first_cut : IsCut (before first) first_text (after first)
  pub second_cut : (after second ≡ before second) ⊎ ((after first ≡ Some first_text) × StartsWith second_text (bytes_of (after second)))
  pub others : RestStays second first before after
