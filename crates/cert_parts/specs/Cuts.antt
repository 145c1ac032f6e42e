-- Helping only: a text's first line, a section's bytes before the next section, and the sections that a text begins with.
use Rattle.std.specs.Prelude.{◌≡◌, ◌⊎◌, ℕ, List, [], ◌∷◌, ◌++◌, codes}
use Rattle.std.specs.List.{Contains}
use Rattle.cert_parts.specs.Sections.{AreWholeLines, HasPartLine, IsCutInto, IsFirst, part_word, SectionText}

-- the text begins as a line that names a part
abbrev pub StartsPart : List ℕ → Type 0
StartsPart text = (after : List ℕ) × (text ≡ part_word ++ after)

-- the line stands first in the bytes, and this comes after its newline; after a line without one comes nothing
pub record SplitsLine (bytes line after : List ℕ) : Type 0 where
  pub one : ¬ Contains line 10
  pub text : (bytes ≡ line ++ (codes "\n" ++ after)) ⊎ ((bytes ≡ line) × (after ≡ []))

-- nothing is left after a section's bytes, or they are whole lines and another section begins
abbrev pub IsParted : List ℕ → List ℕ → Type 0
IsParted body rest = (rest ≡ []) ⊎ (AreWholeLines body × StartsPart rest)

-- the bytes begin with a section's, and these are left
pub record SplitsBody (bytes body rest : List ℕ) : Type 0 where
  pub text : bytes ≡ body ++ rest
  pub no_part_line : ¬ HasPartLine body
  pub parted : IsParted body rest

-- the bytes begin with these sections, and this is left
abbrev pub BeginsWith : List ℕ → List SectionText → List ℕ → Type 0
BeginsWith bytes [] rest = bytes ≡ rest
BeginsWith bytes (s ∷ others) rest = (next : List ℕ) × IsFirst bytes s next × BeginsWith next others rest

-- the bytes are cut in no other way than to begin with these sections and to cut what is left
abbrev pub OnlyBeginsWith : List ℕ → List SectionText → List ℕ → Type 0
OnlyBeginsWith bytes found rest = (all : List SectionText) → IsCutInto bytes all → (others : List SectionText) × (all ≡ found ++ others) × IsCutInto rest others
