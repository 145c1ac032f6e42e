-- What a domain was before a cut: what it has, and what it has lost.
use Rattle.base.proofs.Public.{◌⊎◌, inl, inr, nat_lt, Bool, true, false, cond, List, [], ◌∷◌, Contains, flat_map, Contains-append_cases, Contains-append_left, Contains-append_right}
use Rattle.domains.specs.Prelude.{Choice, LostIsRestored, Nothing, place_index, put_row, RestoredIsBoth, Row, row_choices, same_place}
use Rattle.cluster.specs.declared.choices.Choice.TheVariants.{Idle as Stay}
use Rattle.domains.specs.declared.undo.Lost.TheVariants.{Idle, Row as LostRow}
use Rattle.domains.proofs.SplitLemmas.{contains_cases, contains_here, contains_none}

put_is_both : (r : Row) (rows : List Row) (c : Choice) → Contains (flat_map row_choices (put_row r rows)) c → Contains (flat_map row_choices rows) c ⊎ Contains (row_choices r) c
put_is_both r [] c h = elim (Contains-append_cases (row_choices r) [] c h) [ inl here ↦ inr here | inr none ↦ absurd (contains_none c none) ]
put_is_both r (q ∷ qs) c h = by (same_place q.place r.place) (nat_lt (place_index q.place) (place_index r.place)) h (λ k. put_is_both r qs c k)
  where
    by : (same less : Bool) → Contains (flat_map row_choices (cond same (r ∷ qs) (cond less (q ∷ put_row r qs) (r ∷ q ∷ qs)))) c → (Contains (flat_map row_choices (put_row r qs)) c → Contains (flat_map row_choices qs) c ⊎ Contains (row_choices r) c) → Contains (flat_map row_choices (q ∷ qs)) c ⊎ Contains (row_choices r) c
    by true less k rest = elim (Contains-append_cases (row_choices r) (flat_map row_choices qs) c k) [ inl here ↦ inr here | inr later ↦ inl (Contains-append_right (row_choices q) (flat_map row_choices qs) c later) ]
    by false true k rest =
        elim (Contains-append_cases (row_choices q) (flat_map row_choices (put_row r qs)) c k) [
          | inl here ↦ inl (Contains-append_left (row_choices q) (flat_map row_choices qs) c here)
          | inr later ↦ elim (rest later) [ inl there ↦ inl (Contains-append_right (row_choices q) (flat_map row_choices qs) c there) | inr here ↦ inr here ]
        ]
    by false false k rest = elim (Contains-append_cases (row_choices r) (flat_map row_choices (q ∷ qs)) c k) [ inl here ↦ inr here | inr later ↦ inl later ]

put_has : (r : Row) (rows : List Row) (c : Choice) → Contains (row_choices r) c → Contains (flat_map row_choices (put_row r rows)) c
put_has r [] c h = Contains-append_left (row_choices r) [] c h
put_has r (q ∷ qs) c h = by (same_place q.place r.place) (nat_lt (place_index q.place) (place_index r.place)) (put_has r qs c h)
  where
    by : (same less : Bool) → Contains (flat_map row_choices (put_row r qs)) c → Contains (flat_map row_choices (cond same (r ∷ qs) (cond less (q ∷ put_row r qs) (r ∷ q ∷ qs)))) c
    by true less rest = Contains-append_left (row_choices r) (flat_map row_choices qs) c h
    by false true rest = Contains-append_right (row_choices q) (flat_map row_choices (put_row r qs)) c rest
    by false false rest = Contains-append_left (row_choices r) (flat_map row_choices (q ∷ qs)) c h

pub restored_is_both : RestoredIsBoth
restored_is_both Nothing d c h = inl h
restored_is_both Idle d c h =
    elim (contains_cases Stay (flat_map row_choices d.rows) c h) [
      | inl same ↦ inr (rw (← same) (contains_here Stay []))
      | inr later ↦ inl (Contains-append_right (cond d.idle (Stay ∷ []) []) (flat_map row_choices d.rows) c later)
    ]
restored_is_both (LostRow r) d c h =
    elim (Contains-append_cases (cond d.idle (Stay ∷ []) []) (flat_map row_choices (put_row r d.rows)) c h) [
      | inl idle ↦ inl (Contains-append_left (cond d.idle (Stay ∷ []) []) (flat_map row_choices d.rows) c idle)
      | inr rows ↦ elim (put_is_both r d.rows c rows) [ inl there ↦ inl (Contains-append_right (cond d.idle (Stay ∷ []) []) (flat_map row_choices d.rows) c there) | inr here ↦ inr here ]
    ]

pub lost_is_restored : LostIsRestored
lost_is_restored Nothing d c h = absurd (contains_none c h)
lost_is_restored Idle d c h = Contains-append_left (Stay ∷ []) (flat_map row_choices d.rows) c h
lost_is_restored (LostRow r) d c h = Contains-append_right (cond d.idle (Stay ∷ []) []) (flat_map row_choices (put_row r d.rows)) c (put_has r d.rows c h)
