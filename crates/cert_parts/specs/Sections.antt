-- Sections: how a text is cut into the certificates of several parts, each after the line that names its part.
use Rattle.std.specs.Prelude.{◌≡◌, ◌⊎◌, ℕ, ◌<◌, ◌^◌, List, [], ◌∷◌, ◌++◌, codes}
use Rattle.std.specs.Fmt.{decimal}

-- a section: the number of a part, and the bytes after the line that names it
pub record SectionText : Type 0 where
  pub part : ℕ
  pub body : List ℕ

abbrev pub section_of : ℕ → List ℕ → SectionText
section_of part body = record { part = part; body = body }

-- how the line that names a part begins
abbrev pub part_word : List ℕ
part_word = codes "part "

-- that line, without its newline
unfoldable pub part_line : ℕ → List ℕ
part_line part = part_word ++ decimal part

-- the text of a section: that line, and the section's bytes
unfoldable pub section_text : SectionText → List ℕ
section_text s = part_line s.part ++ (codes "\n" ++ s.body)

-- the text is empty or ends with a newline
abbrev pub AreWholeLines : List ℕ → Type 0
AreWholeLines text = (text ≡ []) ⊎ ((front : List ℕ) × (text ≡ front ++ codes "\n"))

-- a line of the text begins as one that names a part
pub record HasPartLine (text : List ℕ) : Type 0 where
  pub before : List ℕ
  pub after : List ℕ
  pub starts_line : AreWholeLines before
  pub text_is : text ≡ before ++ (part_word ++ after)

-- the bytes are the line that names a part, and lack its newline: such a section is empty, and the last
pub record IsUnended (bytes : List ℕ) (s : SectionText) (rest : List ℕ) : Type 0 where
  pub text : bytes ≡ part_line s.part
  pub empty : s.body ≡ []
  pub last : rest ≡ []

-- the bytes begin with this section, and these are left
pub record IsFirst (bytes : List ℕ) (s : SectionText) (rest : List ℕ) : Type 0 where
  pub number : s.part < 2 ^ 64
  pub no_part_line : ¬ HasPartLine s.body
  pub text : (bytes ≡ section_text s ++ rest) ⊎ IsUnended bytes s rest
  -- only the last section may lack the newline at its end
  pub lines : (rest ≡ []) ⊎ AreWholeLines s.body

-- the bytes are cut into these sections: they begin with the first, and what is left is cut into the others
abbrev pub IsCutInto : List ℕ → List SectionText → Type 0
IsCutInto bytes [] = bytes ≡ []
IsCutInto bytes (s ∷ others) = (rest : List ℕ) × IsFirst bytes s rest × IsCutInto rest others
