-- what a reader must believe
pub mod Sections
pub mod Laws
-- what the contracts of helping functions say
pub mod Cuts
