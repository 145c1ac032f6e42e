-- What crates above may cite. All else under proofs/ is private.

-- ---- demands and capacities: how great they are
pub use Rattle.catalogue.proofs.Bounds.{use_of_le, demand_of_le, written_of_le, capacity_of_le}
-- ---- sets of nodes that are listed
pub use Rattle.catalogue.proofs.NodeLemmas.{are_nodes-within, IsWithin-are_nodes}
-- ---- parts of machines
pub use Rattle.catalogue.proofs.TwiceLemmas.{below_parts}
-- ---- words
pub use Rattle.catalogue.proofs.WordLemmas.{constraint_words-CONSTRAINT_WORDS, place-constraint_word}
