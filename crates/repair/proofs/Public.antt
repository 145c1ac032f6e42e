-- What crates above may cite: the laws, by the names of their statements in specs/Laws.
pub use Rattle.repair.proofs.{CostLemmas.rest_costs, HostLemmas.rest_hosts, LegalLemmas.rest_is_plan, OneEnding.ending_is_one, PartLemmas.rest_is_valid, SoundLemmas.rest_is_sound}
