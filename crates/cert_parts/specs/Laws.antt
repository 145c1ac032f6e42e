-- What is proved of sections.
use Rattle.std.specs.Prelude.{◌≡◌, ℕ, ◌<◌, ◌^◌, List}
use Rattle.std.specs.List.{All, flat_map}
use Rattle.catalogue.specs.Instance.{Instance, IsInstance}
use Rattle.cert_text.specs.Spelling.{certificate_text, HasStep}
use Rattle.cert_text.specs.Texts.{IsGoal}
use Rattle.trees.specs.declared.steps.Goal.{Goal}
use Rattle.trees.specs.declared.steps.Step.{Step}
use Rattle.cert_parts.specs.Sections.{AreWholeLines, HasPartLine, IsCutInto, section_text, SectionText}

-- a text is cut into sections in one way at most
abbrev pub TextsAreCutOneWay : Type 0
TextsAreCutOneWay = (bytes : List ℕ) (one other : List SectionText) → IsCutInto bytes one → IsCutInto bytes other → one ≡ other

-- the text is whole lines, and none of them names a part
pub record IsBody (text : List ℕ) : Type 0 where
  pub no_part_line : ¬ HasPartLine text
  pub lines : AreWholeLines text

-- the number of the section is one of 64 bits, and its bytes are such lines
pub record IsWritten (s : SectionText) : Type 0 where
  pub number : s.part < 2 ^ 64
  pub body : IsBody s.body

-- the texts of such sections, one after the other, are cut into them again
abbrev pub WrittenIsCut : Type 0
WrittenIsCut = (sections : List SectionText) → All IsWritten sections → IsCutInto (flat_map section_text sections) sections

-- the text of a certificate, whose steps and goal can be written, is whole lines, and none of them names a part
abbrev pub CertificatesAreBodies : Type 0
CertificatesAreBodies = (p : Instance) → IsInstance p → (steps : List Step) → All (HasStep p) steps → (goal : Goal) → IsGoal goal → IsBody (certificate_text p steps goal)
