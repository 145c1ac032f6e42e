-- What crates above may cite: the laws, by the names of their statements in specs/Laws.
pub use Rattle.executor.proofs.{StepLemmas.begins_well, StepLemmas.steps_keep, SafeLemmas.every_run_is_safe, SafeLemmas.executions_are_safe, GoingOn.ends_as_planned, GoingOn.never_stands_still, RestLemmas.rest_keeps}
-- ---- elements: the first of a kind by its number, and what an action waits for is listed
pub use Rattle.executor.proofs.TableLemmas.{first_element, waited_is_listed}
-- ---- actions of plans, and what has ended
pub use Rattle.executor.proofs.SafeLemmas.{Acts, acts, Lasts, lasts_in, some_action}
pub use Rattle.executor.proofs.RestLemmas.{ended_acts, ended_is}
-- ---- what may start is not hindered; how many steps are left at most, and that each event leaves fewer
pub use Rattle.executor.proofs.StepLemmas.{not_hindered}
unfoldable pub use Rattle.executor.proofs.Measure.{steps_left}
pub use Rattle.executor.proofs.Measure.{end_left, fail_left, few_steps, start_left}
