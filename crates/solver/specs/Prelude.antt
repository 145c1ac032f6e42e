-- What is cited together of this crate and of those below it, passed on from one place. Declares nothing.
pub use Rattle.plan_io.specs.{Prelude.bytes_of, Prelude.CountsWrites, Prelude.IsCut, declared.faults.OutFault.OutFault}
pub use Rattle.search.specs.Prelude.{choices_in, choices_of, Covered, goal_in, Instance, IsPlanOf, IsShown, IsStayed, IsTrueOf, least_in, least_of, LeavesText, machine_count, MayStay, Meaning, node, node_count, plan_in, PlanChoices, steps_of, sum_to, vm}
unfoldable pub use Rattle.search.specs.Prelude.{end_line, end_of, step_line}
pub use Rattle.search.specs.declared.found.Found.{Found, TheVariants.Infeasible, TheVariants.Optimal, TheVariants.Undecided}
pub use Rattle.cluster.specs.declared.{choices.Choice.TheVariants.Idle, ids.Element.Element}
pub use Rattle.cert_write.specs.Prelude.{IsCertificate}
pub use Rattle.cert_check.specs.Prelude.{CheckGives, choices_handed, CountsCheck, IsHandedIn, IsSound}
pub use Rattle.cert_check.specs.declared.verdict.{CheckFault.CheckFault, Verdict.Verdict}
unfoldable pub use Rattle.cert_text.specs.Spelling.{certificate_text, header_line}
pub use Rattle.solver.specs.Certifying.{Certifies, IsCertificateCut, IsCertified, IsCertifiedText, IsToStay, plan_cost}
pub use Rattle.solver.specs.Laws.{CertifiedIsAccepted}
