-- Public has what crates above may cite; the rest is for this crate alone.
pub mod Public
mod PartLemmas
mod SureLemmas
mod RuleLemmas
mod LoadLemmas
mod PlanLemmas
mod HallLemmas
mod ValidLemmas
mod FreeLemmas
mod LawLemmas
mod ClosedLemmas
mod MemberLemmas
mod MeasureLemmas
mod TurnLemmas
mod SettingLemmas
mod RowLemmas
mod StartLemmas
mod StandardLemmas
mod WithinLemmas
