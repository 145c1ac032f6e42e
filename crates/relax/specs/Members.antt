-- Members of a list that are somewhere.
use Rattle.std.specs.Prelude.{◌≡◌, ℕ, false, List, IsTrue}
use Rattle.reasons.specs.Prelude.{IsMember, Nodes, Snapshot}
use Rattle.cluster.specs.declared.ids.VmId.{VmId}

-- a machine of the list is present on nodes of a set
abbrev pub IsOneIn : Snapshot → List VmId → Nodes → Type 0
IsOneIn s vs set = (v : ℕ) × IsMember vs v × IsTrue (s.present v set)

-- none of them is
abbrev pub AreAllOut : Snapshot → List VmId → Nodes → Type 0
AreAllOut s vs set = (v : ℕ) → IsMember vs v → s.present v set ≡ false
