mod Prelude
mod PowerLemmas
