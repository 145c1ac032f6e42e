-- Helping only: the machines of lists that are read one after the other, and their marks.
use Rattle.std.specs.Prelude.{◌≡◌, ℕ, true, List, ◌++◌}
use Rattle.catalogue.specs.Prelude.{all_of, differ, has_machine, is_member}
use Rattle.cluster.specs.declared.ids.VmId.{VmId}
use Rattle.cluster.specs.declared.sets.MachineSet.{MachineSet}

-- the lists before, and the one that is being read
pub record Listed : Type 0 where
  pub before : List (List VmId)
  pub current : List VmId

-- the machines so far
abbrev pub listed_machines : Listed → List VmId
listed_machines l = all_of l.before ++ l.current

-- the set has these machines alone, and they differ
pub record AreMarked (marks : MachineSet) (vs : List VmId) : Type 0 where
  pub same : (m : ℕ) → has_machine marks m ≡ is_member vs m
  pub apart : differ vs ≡ true
