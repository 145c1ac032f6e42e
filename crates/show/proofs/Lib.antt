mod Listings
mod NameLemmas
mod Texts
