-- what a reader must believe: the answers, and the tree that shows them
pub mod Answers
-- what is left in the file
pub mod Written
-- where staying is a valid plan
pub mod Staying
-- what follows of the tree
pub mod Laws
-- what holds from step to step
pub mod Underway
-- and of the parts of the search
pub mod Works
pub mod Prelude
