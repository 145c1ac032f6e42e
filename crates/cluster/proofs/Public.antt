-- What crates above may cite. All else under proofs/ is private.

-- ---- names: what is listed is found by its name, and what is found is listed and has the name
pub use Rattle.cluster.proofs.Finding.{element_named-name_of, listed-element_named, resource_named-listed, listed-resource_named, is_name-name_of, length-name_of}
-- ---- elements by number
pub use Rattle.cluster.proofs.Elements.{element_number-lt, element_at-element_number, IsListed-element_at, element_number-element_at}
-- ---- hosts are in range
pub use Rattle.cluster.proofs.Hosts.{is_online-lt}
-- ---- durations and amounts are in range
pub use Rattle.cluster.proofs.Fitting.{IsDuration, IsDuration-fits, duration_at, fits-own, node_own_at, machine_own_at, amount_le, amount_zero}
-- ---- sets: which nodes they have, and when they are equal
pub use Rattle.cluster.proofs.SetLemmas.{has_node-no_nodes, has_node-past, has_node-with_node, same_set}
-- ---- words
pub use Rattle.cluster.proofs.WordLemmas.{kinds-KINDS, kind_number-lt, kinds-kind_number, kind_of_word-kind_word, kind_word-kind_of_word, place-state_word, word-at_place}
