-- What crates above may cite.

-- calls one after the other: what holds of each before and after, and how counts rise
pub use Rattle.prop_core.proofs.PairLemmas.{All-after, Pairs-same, Pairs-trans, Pairs-weaker, Rise-from_same, Rise-trans}
-- which kinds are covered
pub use Rattle.prop_core.proofs.CoverLemmas.{covered_after, covers_asked, covers_same}
-- propagators that follow a trail, after each call; and what they are then ready for
pub use Rattle.prop_core.proofs.LevelLemmas.{all_asked, all_back, all_marked, all_posted, all_told, backable, markable, tops}
-- from what a trail says of a change to what `tell_all` requires
pub use Rattle.prop_core.proofs.ChangeLemmas.{narrowed_by, narrowed_is_fewer, region_stays, tops_before}
-- the regions of a trail stay regions of the instance; a cut takes a choice away
pub use Rattle.prop_core.proofs.TrailLemmas.{cut_falls, trail_back, trail_changed, trail_marked, trail_started}
-- where all are quiet the sets are closed
pub use Rattle.prop_core.proofs.QuietLemmas.{closed_when_quiet}
