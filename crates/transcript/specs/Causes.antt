-- Which faults the counts of a source and a sink show.
use Rattle.std.specs.Prelude.{◌≡◌, ◌⊎◌, ℕ, Result, IsErrOf}
use Rattle.plan_io.specs.Causes.{Rose}
use Rattle.transcript.specs.declared.conclusion.ExecuteFault.{ExecuteFault}

-- a failed read comes only where the source's count rose, and elsewhere the count is as before
pub record ReadCauses {T : Type 0} (before after : ℕ) (result : Result T ExecuteFault) : Type 0 where
  pub failed : IsErrOf result ExecuteFault.ReadFault → Rose before after
  pub kept : (after ≡ before) ⊎ IsErrOf result ExecuteFault.ReadFault

-- a failed write alike, by the sink's
pub record WriteCauses {T : Type 0} (before after : ℕ) (result : Result T ExecuteFault) : Type 0 where
  pub failed : IsErrOf result ExecuteFault.WriteFault → Rose before after
  pub kept : (after ≡ before) ⊎ IsErrOf result ExecuteFault.WriteFault
