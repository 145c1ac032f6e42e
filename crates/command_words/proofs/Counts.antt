-- Words that are too few, or too many, for every command.
use Rattle.base.proofs.Public.{◌≡◌, ◌<◌, ◌≤◌, List, [], ◌∷◌, length, None, refl, arith}
use Rattle.std.specs.{declared.alloc.Global.Global, Prelude.String}
use Rattle.command_words.specs.Words.{asked}

pub few_words : (words : List (String Global)) → length words < 2 → asked words ≡ None
few_words [] few = refl
few_words (a ∷ []) few = refl
few_words (a ∷ b ∷ rest) few = absurd (omega (arith, few))

pub many_words : (words : List (String Global)) → 8 ≤ length words → asked words ≡ None
many_words [] many = absurd (omega (arith, many))
many_words (a ∷ []) many = absurd (omega (arith, many))
many_words (a ∷ b ∷ []) many = absurd (omega (arith, many))
many_words (a ∷ b ∷ c ∷ []) many = absurd (omega (arith, many))
many_words (a ∷ b ∷ c ∷ d ∷ []) many = absurd (omega (arith, many))
many_words (a ∷ b ∷ c ∷ d ∷ e ∷ []) many = absurd (omega (arith, many))
many_words (a ∷ b ∷ c ∷ d ∷ e ∷ f ∷ []) many = absurd (omega (arith, many))
many_words (a ∷ b ∷ c ∷ d ∷ e ∷ f ∷ g ∷ []) many = absurd (omega (arith, many))
many_words (a ∷ b ∷ c ∷ d ∷ e ∷ f ∷ g ∷ h ∷ rest) many = refl
