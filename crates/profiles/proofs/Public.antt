-- What crates above may cite: sums over the numbers of a list in place of all below a bound, and lists that grow; and of where machines
-- stand what the crate below passes on.
pub use Rattle.profiles.proofs.SumLemmas.{all_over, few_once, over_once, sum_but_for, sum_whole}
pub use Rattle.profiles.proofs.NearLemmas.{near_put}
pub use Rattle.profiles.proofs.MoverLemmas.{movers_grown, movers_told}
pub use Rattle.profiles.proofs.FirstLemmas.{firsts_fewer}
pub use Rattle.standings.proofs.Public.{before_law, each_push, fewer_law, kept_law, level_below, level_top, load_law}
