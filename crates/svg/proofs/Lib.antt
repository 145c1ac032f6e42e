pub mod Lists
pub mod Public
