pub mod Public
mod PieceLemmas
mod RangeLemmas
mod SetLemmas
mod ReadingLemmas
mod CursorLemmas
mod LawLemmas
mod BindingLemmas
mod ElementLemmas
mod DigitLemmas
mod PassLemmas
mod CallLemmas
mod ScriptLemmas
mod AddLemmas
mod WordLemmas
mod StatementLemmas
