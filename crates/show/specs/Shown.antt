-- The listing of a plan, as it is written.
use Rattle.std.specs.Prelude.{◌≡◌, ◌⊎◌, ℕ, List, ◌++◌, Option}
use Rattle.std.specs.Io.{StartsWith}
use Rattle.std.specs.List.{flat_map}
use Rattle.replay.specs.Prelude.{Choices, Instance, IsVerdict}
use Rattle.slices.specs.declared.rule.Broken.{Broken}
use Rattle.show.specs.Listing.{IsListing}
use Rattle.show.specs.Lines.{action_line, last_line}
use Rattle.show.specs.declared.actions.Action.{Action}

-- a line an action, and the last line
unfoldable pub listing_text : Instance → Choices → List Action → Option Broken → List ℕ
listing_text p plan actions answer = flat_map (action_line p plan) actions ++ last_line p plan actions answer

-- what was written before, and after it the whole listing
pub record IsShown (p : Instance) (plan : Choices) (answer : Option Broken) (before after : List ℕ) : Type 0 where
  pub actions : List Action
  pub listing : IsListing p plan actions
  pub text : after ≡ before ++ listing_text p plan actions answer

-- what was written before, and after it a prefix of the listing
pub record IsCutShort (p : Instance) (plan : Choices) (before after : List ℕ) : Type 0 where
  pub answer : Option Broken
  pub verdict : IsVerdict p plan answer
  pub actions : List Action
  pub listing : IsListing p plan actions
  pub prefix : StartsWith (before ++ listing_text p plan actions answer) after

-- nothing was written, or a prefix of the listing
abbrev pub IsPartOfShown : Instance → Choices → List ℕ → List ℕ → Type 0
IsPartOfShown p plan before after = (after ≡ before) ⊎ IsCutShort p plan before after
