pub mod Public
mod LineLemmas
mod SectionLemmas
mod FoundLemmas
mod CertificateLemmas
