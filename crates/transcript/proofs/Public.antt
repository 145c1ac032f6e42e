-- What crates above may cite: the laws, by the names of their statements in specs/Laws.
pub use Rattle.transcript.proofs.{Endings.always_ends, Endings.every_point_is_safe, Endings.faults_leave_a_beginning, OneTranscript.transcript_is_one}
