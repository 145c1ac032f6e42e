-- what a reader must believe: what each line is spelled as, and which line a step of a problem is
pub mod Kinds
pub mod Texts
pub mod Spelling
-- what the contracts say beside it: the reading of a line, which the laws show to be exact
pub mod Faults
pub mod Reading
pub mod Spaced
pub mod Laws
pub mod Prelude
