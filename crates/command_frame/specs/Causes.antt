-- The counts of faults, and the statuses that they give.
use Rattle.std.specs.Prelude.{◌≡◌, ◌⊎◌, Bool, ℕ, Result, Err, IfErr, IsTrue}
use Rattle.plan_io.specs.Prelude.{Files, Rose}
use Rattle.command_frame.specs.{Endings.IsOfReading, declared.status.Status.Status, declared.fault.Fault.Fault}

-- The counts of failed reads of a desk and a source, and of failed writes of a desk and a sink.
pub record Counts : Type 0 where
  pub reads : ℕ
  pub source : ℕ
  pub writes : ℕ
  pub sink : ℕ

abbrev pub counts : ℕ → ℕ → ℕ → ℕ → Counts
counts reads source writes sink = record { reads = reads; source = source; writes = writes; sink = sink }

-- No count has risen, and none stands at its end.
pub record NothingFailed (before after : Counts) : Type 0 where
  pub reads : ¬ Rose before.reads after.reads
  pub source : ¬ Rose before.source after.source
  pub writes : ¬ Rose before.writes after.writes
  pub sink : ¬ Rose before.sink after.sink

-- A failed read is answered only where a count of reads has risen, and such a count is as before unless a
-- failed read is answered; a failed write alike.
pub record Causes (before after : Counts) (result : Status) : Type 0 where
  pub read : result ≡ Status.ReadFault → Rose before.reads after.reads ⊎ Rose before.source after.source
  pub write : result ≡ Status.WriteFault → Rose before.writes after.writes ⊎ Rose before.sink after.sink
  pub reads : (after.reads ≡ before.reads) ⊎ (result ≡ Status.ReadFault)
  pub source : (after.source ≡ before.source) ⊎ (result ≡ Status.ReadFault)
  pub writes : (after.writes ≡ before.writes) ⊎ (result ≡ Status.WriteFault)
  pub sink : (after.sink ≡ before.sink) ⊎ (result ≡ Status.WriteFault)

-- The same of a command whose last line may still have to be printed.
pub record CommandCauses {T : Type 0} (before after : Counts) (result : Result T Fault) : Type 0 where
  pub read : result ≡ Err Fault.ReadFault → Rose before.reads after.reads ⊎ Rose before.source after.source
  pub write : result ≡ Err Fault.WriteFault → Rose before.writes after.writes ⊎ Rose before.sink after.sink
  pub reads : (after.reads ≡ before.reads) ⊎ (result ≡ Err Fault.ReadFault)
  pub source : (after.source ≡ before.source) ⊎ (result ≡ Err Fault.ReadFault)
  pub writes : (after.writes ≡ before.writes) ⊎ (result ≡ Err Fault.WriteFault)
  pub sink : (after.sink ≡ before.sink) ⊎ (result ≡ Err Fault.WriteFault)

-- A part of a command that only reads: a failed read comes only where the count rose, and elsewhere it is as before.
pub record ReadCauses {T : Type 0} (before after : ℕ) (result : Result T Fault) : Type 0 where
  pub failed : result ≡ Err Fault.ReadFault → Rose before after
  pub kept : (after ≡ before) ⊎ (result ≡ Err Fault.ReadFault)

-- A part of a command that only writes, alike.
pub record WriteCauses {T : Type 0} (before after : ℕ) (result : Result T Fault) : Type 0 where
  pub failed : result ≡ Err Fault.WriteFault → Rose before after
  pub kept : (after ≡ before) ⊎ (result ≡ Err Fault.WriteFault)

-- A part of a command that raises one count of failed reads and one of failed writes at most.
pub record PartCauses {T : Type 0} (reads_before reads_after writes_before writes_after : ℕ) (result : Result T Fault) : Type 0 where
  pub read : result ≡ Err Fault.ReadFault → Rose reads_before reads_after
  pub write : result ≡ Err Fault.WriteFault → Rose writes_before writes_after
  pub reads : (reads_after ≡ reads_before) ⊎ (result ≡ Err Fault.ReadFault)
  pub writes : (writes_after ≡ writes_before) ⊎ (result ≡ Err Fault.WriteFault)

-- A part that only reads, and may fail by its input, by a failed read or by want of memory. Of a desk that tells, all files stay; of each, the count of
-- failed writes, and a failed read comes only where the count of failed reads rose. D has the desks; the three functions are what is seen of one: its files,
-- and how many reads and writes failed.
pub record OnlyReads {D T : Type 0} (tells : Bool) (files : D → Files) (read_faults write_faults : D → ℕ) (old new : D) (result : Result T Fault) : Type 0 where
  pub files_stay : IsTrue tells → files new ≡ files old
  pub causes : ReadCauses (read_faults old) (read_faults new) result
  pub writes_kept : write_faults new ≡ write_faults old
  pub kind : IfErr result IsOfReading
