-- What a search leaves in the file of its certificate.
use Rattle.std.specs.Prelude.{All, ◌≡◌, ℕ, ◌+◌, List, [], ◌∷◌, ◌++◌, Option, Result, Bool, true, false, IsTrue}
use Rattle.std.specs.{Io.StartsWith, List.flat_map}
use Rattle.plan_io.specs.Prelude.{bytes_of, CountsWrites}
use Rattle.plan_io.specs.declared.faults.OutFault.{OutFault}
use Rattle.cert_write.specs.Prelude.{end_line, Files, HasStep, Instance, OthersStay, step_line}
use Rattle.cert_text.specs.Prelude.{IsGoal}
use Rattle.cluster.specs.declared.ids.Element.{Element}
use Rattle.domains.specs.declared.parts.Part.{Part}
use Rattle.reasons.specs.declared.reason.Reason.{Reason}
use Rattle.reasons.specs.declared.reason.Reason.TheVariants.{Empty, Bound, Load, Pair, Place, Group, SetLoad, Power, Usable, Hall}
use Rattle.trees.specs.declared.steps.{Goal.Goal, Step.Step}
use Rattle.trees.specs.declared.steps.Step.TheVariants.{Decide, Cut, Fail, Plan, Left}

-- the lines of steps
abbrev pub lines : Instance → List Step → List ℕ
lines p steps = flat_map (step_line p) steps

-- of a desk that tells: the other files stay; of each: the file that was created last, and how many reads failed
pub record IsKept (tells : Bool) (name : List ℕ) (old new : Files) (current_old current_new : Option (List ℕ)) (reads_old reads_new : ℕ) : Type 0 where
  pub others : IsTrue tells → OthersStay name old new
  pub current : current_new ≡ current_old
  pub reads : reads_new ≡ reads_old

-- What a call does that writes on the certificate. Its file is the same after as before, and nothing else changes on the desk but the count of
-- failed writes, which rises only where `Failed` is answered. From the old bytes of the file to the new ones it is as `leaves` says.
-- D has the desks; the four functions are what is seen of one: its files, which was created last, and how many reads and writes failed
pub record WritesOn {D T : Type 0} (tells : Bool) (files : D → Files) (current : D → Option (List ℕ)) (read_faults write_faults : D → ℕ) (old new : D) (file file_new : List ℕ) (leaves : List ℕ → List ℕ → Type 0) (result : Result T OutFault) : Type 0 where
  pub name : file_new ≡ file
  pub kept : IsKept tells file (files old) (files new) (current old) (current new) (read_faults old) (read_faults new)
  pub cause : CountsWrites (write_faults old) (write_faults new) result
  pub front : leaves (bytes_of (files old file)) (bytes_of (files new file))

-- the file has its old bytes, and then a front of the lines of some steps of the instance
pub record LeavesLines (p : Instance) (tells : Bool) (old new : List ℕ) : Type 0 where
  pub some : List Step
  pub named : All (HasStep p) some
  pub front : IsTrue tells → StartsWith (old ++ lines p some) new
  pub stays : IsTrue tells → StartsWith new old

-- and of an end line after them, whose goal can be written
pub record LeavesText (p : Instance) (tells : Bool) (old new : List ℕ) : Type 0 where
  pub some : List Step
  pub named : All (HasStep p) some
  pub goal : Goal
  pub goal_is : IsGoal goal
  pub front : IsTrue tells → StartsWith (old ++ lines p some ++ end_line goal) new
  pub stays : IsTrue tells → StartsWith new old

-- ---- steps that propagators answer

-- all reasons but that an element is empty, and the bound
abbrev pub by_rule : Reason → ℕ
by_rule (Empty e) = 0
by_rule Bound = 0
by_rule (Load t r set) = 1
by_rule (Pair c t v w n) = 1
by_rule (Place c t v n) = 1
by_rule (Group c t) = 1
by_rule (SetLoad c t) = 1
by_rule (Power c t) = 1
by_rule (Usable t v n) = 1
by_rule (Hall c t set) = 1

-- how many steps are cuts, or fails by another reason than empty and bound
abbrev pub answered : List Step → ℕ
answered [] = 0
answered (Decide x part ∷ steps) = answered steps
answered (Cut x part reason ∷ steps) = 1 + answered steps
answered (Fail reason ∷ steps) = by_rule reason + answered steps
answered (Plan cost ∷ steps) = answered steps
answered (Left ∷ steps) = answered steps

-- ---- a cut, with the failure after it where it leaves no choice

abbrev pub cut_steps : Bool → Element → Part → Reason → List Step
cut_steps true x part reason = Cut x part reason ∷ []
cut_steps false x part reason = Cut x part reason ∷ Fail (Empty x) ∷ []
