-- what a reader must believe of the law
pub mod Laws
