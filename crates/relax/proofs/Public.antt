-- What crates above may cite.
use Rattle.std.proofs.Common.{IsTrue}
use Rattle.base.proofs.Public.{Bool, true, false, cond, Contains, filter}
use Rattle.relax.specs.Prelude.{is_legal, LegalStays, same_element}
use Rattle.domains.proofs.Public.{filter_is_fewer}
pub use Rattle.relax.proofs.{AwayLemmas.away, AwayLemmas.away_least, AwayLemmas.idle_in, AwayLemmas.start_in, FloorLemmas.least_from, LeastLemmas.end_small, LeastLemmas.none_is_empty, MoveLemmas.goes_same, OneNodeLemmas.room_of_one}

pub legal_stays : LegalStays
legal_stays p s x test legal e there c h = at (same_element e x) h
  where
    at : (b : Bool) → Contains (cond b (filter test (s e)) (s e)) c → IsTrue (is_legal p e c)
    at true k = legal e there c (filter_is_fewer test (s e) c k)
    at false k = legal e there c k
