-- what a reader must believe
pub mod Verdicts
-- what the contracts of helping functions say
pub mod Judging
pub mod Prelude
