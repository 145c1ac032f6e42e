-- What is cited together of this crate and of those below it, passed on from one place. Declares nothing.
pub use Rattle.base.specs.Least.{lower, lowest}
pub use Rattle.base.specs.Sums.{sum_to}
pub use Rattle.plan_io.specs.Calls.{calls_after, IsListed, new_calls, Numbered}
pub use Rattle.plan_io.specs.Causes.{count_after, CountsReads, CountsWhole, CountsWrites, Rose}
pub use Rattle.plan_io.specs.DeskMem.{CountsNothing, desk_calls, desk_current, desk_files, desk_read_faults, desk_write_faults}
unfoldable pub use Rattle.plan_io.specs.DeskSure.{sure_current, sure_files}
pub use Rattle.plan_io.specs.Files.{bytes_of, Files, IsCut, IsLeft, OthersStay, ReadsAt}
pub use Rattle.plan_io.specs.Fits.{sure_fits}
pub use Rattle.plan_io.specs.SinkMem.{SinkState}
pub use Rattle.plan_io.specs.SourceMem.{SourceState}
pub use Rattle.plan_io.specs.declared.faults.OutFault.{OutFault}
