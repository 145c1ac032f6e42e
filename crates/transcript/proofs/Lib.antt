pub mod Steps
pub mod Deciding
pub mod EventLines
pub mod Endings
pub mod OneTranscript
pub mod Public
