-- What is proved of a certificate that is written from a tree: the check accepts it.
use Rattle.std.specs.Prelude.{◌≡◌, ℕ, ◌<◌, ◌^◌, Bool, true, List, Option, Result, Ok, Err}
use Rattle.std.specs.List.{All}
use Rattle.cert_read.specs.Prelude.{certificate_text, Choices, decisions, HasPart, Instance, IsCertificate, IsHandedIn, IsInstance, IsLean, IsOutside, least_of, start_sets, steps_of, Tree}
use Rattle.trees.specs.declared.steps.{Goal.Goal, Step.Step, Step.TheVariants.Decide, Step.TheVariants.Cut, Step.TheVariants.Fail, Step.TheVariants.Plan, Step.TheVariants.Left}
use Rattle.cert_check.specs.{declared.verdict.CheckFault.CheckFault, declared.verdict.CheckFault.TheVariants.Line, declared.verdict.CheckFault.TheVariants.Memory, declared.verdict.Verdict.Verdict, declared.verdict.Verdict.TheVariants.Yes, declared.verdict.Verdict.TheVariants.No, Verdicts.CheckGives}

-- ---- which trees can be written

-- the part of a step, if the step has one, can be written; so can all else that a step says, where the step holds
abbrev pub HasWritablePart : Instance → Step → Type 0
HasWritablePart p (Decide x part) = HasPart p part
HasWritablePart p (Cut x part reason) = HasPart p part
HasWritablePart p (Fail reason) = Unit {0}
HasWritablePart p (Plan cost) = Unit {0}
HasWritablePart p Left = Unit {0}

-- so it is at each step of a tree, and its decisions can be counted in 64 bits
pub record IsWritable (p : Instance) (t : Tree) : Type 0 where
  pub parts : All (HasWritablePart p) (steps_of t)
  pub counted : decisions (steps_of t) < 2 ^ 64

-- ---- accepted

-- the answer is yes with this goal and this least, or says nothing of the file: a failed read, or want of memory
abbrev pub IsYesUnlessOutside : Goal → Option ℕ → Result Verdict CheckFault → Type 0
IsYesUnlessOutside goal least (Ok (Yes shown low)) = (shown ≡ goal) × (low ≡ least)
IsYesUnlessOutside goal least (Ok (No line why)) = ⊥
IsYesUnlessOutside goal least (Err (Line fault)) = IsOutside fault
IsYesUnlessOutside goal least (Err Memory) = Unit {0}

-- the verdict on a file is yes with this goal and this least, and there is no other
pub record IsAccepted (p : Instance) (plan : Option Choices) (strict : Bool) (file : List ℕ) (goal : Goal) (least : Option ℕ) : Type 0 where
  pub yes : CheckGives p plan strict file (Ok (Yes goal least))
  pub alone : (answer : Result Verdict CheckFault) → CheckGives p plan strict file answer → IsYesUnlessOutside goal least answer

-- the text of a tree that is a certificate for the plan, which is valid, or for none, is accepted; also strictly, where the tree is lean
abbrev pub CertificateIsAccepted : Type 0
CertificateIsAccepted =
    (p : Instance) → IsInstance p → (plan : Option Choices) → IsHandedIn p plan → (goal : Goal) (t : Tree) → IsCertificate p plan goal t → IsWritable p t →
    (strict : Bool) → (strict ≡ true → IsLean p (start_sets p) t) → IsAccepted p plan strict (certificate_text p (steps_of t) goal) goal (least_of p plan t)
