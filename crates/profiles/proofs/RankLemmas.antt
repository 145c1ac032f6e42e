-- A list whose numbers have ranks, and which goes back to marks.
use Rattle.profiles.proofs.Prelude.{◌≡◌, ◌≢◌, inl, inr, ◌⊎◌, ℕ, zero, suc, ◌<◌, ◌≤◌, ◌↔◌, ◌==◌, IsTrue, false, false≢true, Decides-eqb, List, [], ◌∷◌, ◌++◌, length, get_or, set, map, take, refl, sym, ap, subst, ◌∙◌, arith, Contains, cases_eq, get_or-append_seam, get_or-set_other, get_or-set_same, get_or-take, get_or_append_left, get_or_default, length-append, length-set, length-take, map-append, take_all, AreMarks, AreRanks, IsRanked}
use Rattle.std.proofs.lemmas.List.{take-take}
use Rattle.base.proofs.Public.{take-append-le}

-- ---- ranks

-- who has a rank that says so is in the list
pub rank_tells : (xs : List ℕ) (v rank d : ℕ) → rank < length xs → get_or xs rank d ≡ v → Contains xs v
rank_tells xs v rank d low is = (rank, low, get_or_default xs rank v d low ∙ is)

-- and who is in the list has one
pub has_rank : (xs ranks : List ℕ) (v : ℕ) → AreRanks xs ranks → Contains xs v → (v < length ranks) × (get_or ranks v 0 < length xs) × (get_or xs (get_or ranks v 0) 0 ≡ v)
has_rank xs ranks v are h =
    let is : get_or xs h.0 0 ≡ v = get_or_default xs h.0 0 v h.1 ∙ h.2 in
    let rank : get_or ranks v 0 ≡ h.0 = subst (λ k. get_or ranks k 0 ≡ h.0) is (are.each h.0 h.1) in
    (subst (λ k. k < length ranks) is (are.room h.0 h.1), subst (λ k. k < length xs) (sym rank) h.1, ap (λ k. get_or xs k 0) rank ∙ is)

-- so the test tells who is in the list
pub past_tells : (xs ranks marks : List ℕ) (v : ℕ) → IsRanked xs ranks marks → length ranks ≤ v → IsTrue false ↔ Contains xs v
past_tells xs ranks marks v is past = (λ h. absurd (false≢true h), λ h. absurd (omega (arith, past, (has_rank xs ranks v is.ranked h).0)))

pub high_tells : (xs ranks marks : List ℕ) (v rank : ℕ) → IsRanked xs ranks marks → rank ≡ get_or ranks v 0 → length xs ≤ rank → IsTrue false ↔ Contains xs v
high_tells xs ranks marks v rank is of high = (λ h. absurd (false≢true h), λ h. absurd (omega (arith, high, of, (has_rank xs ranks v is.ranked h).1)))

pub low_tells : (xs ranks marks : List ℕ) (v rank got : ℕ) → IsRanked xs ranks marks → rank ≡ get_or ranks v 0 → rank < length xs → got ≡ get_or xs rank 0 → IsTrue (got == v) ↔ Contains xs v
low_tells xs ranks marks v rank got is of low there =
    (λ h. rank_tells xs v rank 0 low (sym there ∙ (Decides-eqb got v).0 h), λ h. (Decides-eqb got v).1 (there ∙ ap (λ k. get_or xs k 0) of ∙ (has_rank xs ranks v is.ranked h).2))

-- the ranks may be of more numbers
pub ranked_wider : (xs ranks now marks : List ℕ) → ((v : ℕ) → get_or now v 0 ≡ get_or ranks v 0) → length ranks ≤ length now → IsRanked xs ranks marks → IsRanked xs now marks
ranked_wider xs ranks now marks same more is = record {
  ranked = record {
    room = λ i l. omega (arith, is.ranked.room i l, more);
    each = λ i l. same (get_or xs i 0) ∙ is.ranked.each i l;
  };
  marked = is.marked;
}

-- one more that is nought reads as none
pub nought_push : (ranks : List ℕ) (v : ℕ) → get_or (ranks ++ 0 ∷ []) v 0 ≡ get_or ranks v 0
nought_push [] zero = refl
nought_push [] (suc v) = refl
nought_push (r ∷ rs) zero = refl
nought_push (r ∷ rs) (suc v) = nought_push rs v

-- ---- one number more

-- where it stands
at-end : (xs : List ℕ) (v i : ℕ) → i < length (xs ++ v ∷ []) → ((i < length xs) × (get_or (xs ++ v ∷ []) i 0 ≡ get_or xs i 0)) ⊎ ((i ≡ length xs) × (get_or (xs ++ v ∷ []) i 0 ≡ v))
at-end xs v i l =
    elim (cases_eq i (length xs)) [
      | inl last ↦ inr (last, ap (λ k. get_or (xs ++ v ∷ []) k 0) last ∙ get_or-append_seam xs v [] 0)
      | inr other ↦ let low : i < length xs = omega (arith, l, length-append xs (v ∷ []), other) in inl (low, get_or_append_left xs (v ∷ []) 0 i low)
    ]

marks-more : (marks : List ℕ) (many more : ℕ) → many ≤ more → AreMarks marks many → AreMarks marks more
marks-more marks many more l are = record { within = λ j h. omega (arith, are.within j h, l); climbs = are.climbs }

pub ranked_push : (xs ranks marks : List ℕ) (v : ℕ) → v < length ranks → ¬ Contains xs v → IsRanked xs ranks marks → IsRanked (xs ++ v ∷ []) (set ranks v (length xs)) marks
ranked_push xs ranks marks v low out is = record {
  ranked = record {
    room = λ i l. elim (at-end xs v i l) [
      | inl old ↦ omega (arith, old.1, is.ranked.room i old.0, length-set ranks v (length xs))
      | inr new ↦ omega (arith, new.1, low, length-set ranks v (length xs))
    ];
    each = λ i l. elim (at-end xs v i l) [
      | inl old ↦ ap (λ k. get_or (set ranks v (length xs)) k 0) old.1 ∙ get_or-set_other ranks v (get_or xs i 0) (length xs) 0 (apart i old.0) ∙ is.ranked.each i old.0
      | inr new ↦ ap (λ k. get_or (set ranks v (length xs)) k 0) new.1 ∙ get_or-set_same ranks v (length xs) 0 low ∙ sym new.0
    ];
  };
  marked = marks-more marks (length xs) (length (xs ++ v ∷ [])) (omega (arith, length-append xs (v ∷ []))) is.marked;
}
  where
    apart : (i : ℕ) → i < length xs → get_or xs i 0 ≢ v
    apart i l same = out (rank_tells xs v i 0 l same)

-- ---- the lists of the marks

same-lists : (xs ys : List ℕ) (marks : List ℕ) → ((j : ℕ) → j < length marks → take (get_or marks j 0) ys ≡ take (get_or marks j 0) xs) → map (λ k. take k ys) marks ≡ map (λ k. take k xs) marks
same-lists xs ys [] same = refl
same-lists xs ys (m ∷ ms) same = rw (same 0 (omega arith)) (ap (λ rest. take m xs ∷ rest) (same-lists xs ys ms (λ j l. same (suc j) (omega (arith, l)))))

-- they are as they were after one number more
pub older_push : (xs ranks marks : List ℕ) (v : ℕ) → IsRanked xs ranks marks → map (λ k. take k (xs ++ v ∷ [])) marks ≡ map (λ k. take k xs) marks
older_push xs ranks marks v is = same-lists xs (xs ++ v ∷ []) marks (λ j l. take-append-le (get_or marks j 0) xs (v ∷ []) (is.marked.within j l))

-- a mark more has the whole list
pub older_mark : (xs marks : List ℕ) → map (λ k. take k xs) (marks ++ length xs ∷ []) ≡ map (λ k. take k xs) marks ++ xs ∷ []
older_mark xs marks = map-append (λ k. take k xs) marks (length xs ∷ []) ∙ ap (λ top. map (λ k. take k xs) marks ++ top ∷ []) (take_all (length xs) xs (omega arith))

pub ranked_mark : (xs ranks marks : List ℕ) → IsRanked xs ranks marks → IsRanked xs ranks (marks ++ length xs ∷ [])
ranked_mark xs ranks marks is = record {
  ranked = is.ranked;
  marked = record {
    within = λ j l. elim (at-end marks (length xs) j l) [ inl old ↦ omega (arith, old.1, is.marked.within j old.0) | inr new ↦ omega (arith, new.1) ];
    climbs = λ i j le l. elim (at-end marks (length xs) j l) [
      | inl old ↦
          let first : i < length marks = omega (arith, le, old.0) in
          omega (arith, old.1, get_or_append_left marks (length xs ∷ []) 0 i first, is.marked.climbs i j le old.0)
      | inr new ↦
          elim (at-end marks (length xs) i (omega (arith, le, l))) [
            | inl first ↦ omega (arith, new.1, first.1, is.marked.within i first.0)
            | inr last ↦ omega (arith, new.1, last.1)
          ]
    ];
  };
}

-- ---- back at the last mark

-- no earlier mark is past it
below-last : (marks : List ℕ) (k many j : ℕ) → AreMarks (marks ++ k ∷ []) many → j < length marks → get_or marks j 0 ≤ k
below-last marks k many j are l =
    let last : length marks < length (marks ++ k ∷ []) = omega (arith, length-append marks (k ∷ [])) in
    omega (arith, get_or_append_left marks (k ∷ []) 0 j l, get_or-append_seam marks k [] 0, are.climbs j (length marks) (omega (arith, l)) last)

pub ranked_back : (xs ranks marks : List ℕ) (k : ℕ) → IsRanked xs ranks (marks ++ k ∷ []) → IsRanked (take k xs) ranks marks
ranked_back xs ranks marks k is = record {
  ranked = record {
    room = λ i l. let first : i < k = omega (arith, l, length-take k xs) in omega (arith, get_or-take k xs i 0 first, is.ranked.room i (omega (arith, l, length-take k xs)));
    each = λ i l. let first : i < k = omega (arith, l, length-take k xs) in ap (λ v. get_or ranks v 0) (get_or-take k xs i 0 first) ∙ is.ranked.each i (omega (arith, l, length-take k xs));
  };
  marked = record {
    within = λ j l. omega (arith, length-take k xs, below-last marks k (length xs) j is.marked l, get_or_append_left marks (k ∷ []) 0 j l, is.marked.within j (omega (arith, l, length-append marks (k ∷ []))));
    climbs = λ i j le l.
        omega (arith, get_or_append_left marks (k ∷ []) 0 i (omega (arith, le, l)), get_or_append_left marks (k ∷ []) 0 j l, is.marked.climbs i j le (omega (arith, l, length-append marks (k ∷ []))));
  };
}

pub older_back : (xs ranks marks : List ℕ) (k : ℕ) → IsRanked xs ranks (marks ++ k ∷ []) → map (λ j. take j xs) (marks ++ k ∷ []) ≡ map (λ j. take j (take k xs)) marks ++ take k xs ∷ []
older_back xs ranks marks k is =
    map-append (λ j. take j xs) marks (k ∷ [])
    ∙ ap (λ older. older ++ take k xs ∷ []) (sym (same-lists xs (take k xs) marks (λ j l. take-take (get_or marks j 0) k xs (below-last marks k (length xs) j is.marked l))))
