-- What is written of a listing.
use Rattle.std.proofs.Math.Seq.{drop-cons}
use Rattle.base.proofs.Public.{◌≡◌, ℕ, suc, ◌<◌, List, ◌∷◌, ◌++◌, Option, drop, get_or, inr, length, sym, ◌∙◌, append_assoc, StartsWith, flat_map, longer_text}
use Rattle.show.specs.Prelude.{action_line, Choices, Instance, IsListing, IsPartOfShown, IsVerdict, last_line}
use Rattle.show.specs.Shown.{listing_text}
use Rattle.show.specs.declared.actions.Action.{Action}
use Rattle.slices.specs.declared.rule.Broken.{Broken}

-- what is written of a piece is a prefix of all, where the piece and the rest are left
pub piece_prefix : {X : Type 0} (f : X → List ℕ) (xs : List X) (i : ℕ) (d : X) (start now new piece : List ℕ) → now ++ flat_map f (drop i xs) ≡ start ++ flat_map f xs → i < length xs → piece ≡ f (get_or xs i d) → StartsWith (now ++ piece) new → StartsWith (start ++ flat_map f xs) new
piece_prefix f xs i d start now new piece all low is prefix =
    let here : drop i xs ≡ get_or xs i d ∷ drop (suc i) xs = drop-cons xs i d low in
    let split : start ++ flat_map f xs ≡ (now ++ piece) ++ flat_map f (drop (suc i) xs) = sym all ∙ rw (here, is) (sym (append_assoc now (f (get_or xs i d)) (flat_map f (drop (suc i) xs)))) in
    rw split (longer_text (now ++ piece) (flat_map f (drop (suc i) xs)) new prefix)

-- a prefix of the lines is a prefix of the listing
pub lines_cut : (p : Instance) (plan : Choices) (answer : Option Broken) (actions : List Action) (before after : List ℕ) → IsVerdict p plan answer → IsListing p plan actions → StartsWith (before ++ flat_map (action_line p plan) actions) after → IsPartOfShown p plan before after
unfolding listing_text
lines_cut p plan answer actions before after verdict listing prefix =
    let lines = flat_map (action_line p plan) actions in
    inr (record {
      answer = answer;
      verdict = verdict;
      actions = actions;
      listing = listing;
      prefix = rw (← append_assoc before lines (last_line p plan actions answer)) (longer_text (before ++ lines) (last_line p plan actions answer) after prefix);
    })

-- and so is one of the last line after all lines
pub last_cut : (p : Instance) (plan : Choices) (answer : Option Broken) (actions : List Action) (before now piece after : List ℕ) → IsVerdict p plan answer → IsListing p plan actions → now ≡ before ++ flat_map (action_line p plan) actions → piece ≡ last_line p plan actions answer → StartsWith (now ++ piece) after → IsPartOfShown p plan before after
unfolding listing_text
last_cut p plan answer actions before now piece after verdict listing lines is prefix =
    let all = flat_map (action_line p plan) actions in
    inr (record {
      answer = answer;
      verdict = verdict;
      actions = actions;
      listing = listing;
      prefix = rw (← append_assoc before all (last_line p plan actions answer)) (rw (lines, is) at prefix);
    })
