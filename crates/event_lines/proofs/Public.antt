-- What crates above may cite: of all bytes one line is taken, and one alone.
pub use Rattle.event_lines.proofs.LineLemmas.{begins_more, line_is_one, SameLine, takes_line, TakesLine}
