-- What a log tells after one entry more.
use Rattle.standings.proofs.Prelude.{reverse, ◌≡◌, ◌≢◌, ℕ, zero, suc, ◌-◌, ◌<◌, ◌≤◌, List, [], ◌∷◌, ◌++◌, length, refl, sym, ap, ◌∙◌, arith, slice_set, slice_index_or, get_or_append_left, get_or-append_right, length-append, length-reverse, reverse-append, Entry, IsLog, level_at, Levels, Mark, olders, Undo}

module _ {T : Type 0} where
  -- what was there before is there again
  set-back : (top : List T) (i : ℕ) (x d : T) → slice_set (slice_set top i x) i (slice_index_or top i d) ≡ top
  set-back [] zero x d = refl
  set-back [] (suc i) x d = refl
  set-back (e ∷ es) zero x d = refl
  set-back (e ∷ es) (suc i) x d = ap (λ t. e ∷ t) (set-back es i x d)

  -- what one entry means
  pub olders_put : (top : List T) (log more : List (Entry T)) (i : ℕ) (x old d : T) → more ≡ log ++ Undo i old ∷ [] → old ≡ slice_index_or top i d → olders (slice_set top i x) (reverse more) ≡ olders top (reverse log)
  olders_put top log more i x old d push was = rw (push, reverse-append log (Undo i old ∷ []), was) (ap (λ t. olders t (reverse log)) (set-back top i x d))

  pub log_put : (top : List T) (log more : List (Entry T)) (i : ℕ) (x old d : T) (marks : ℕ) → more ≡ log ++ Undo i old ∷ [] → old ≡ slice_index_or top i d → marks ≢ 0 → IsLog top (reverse log) marks → IsLog (slice_set top i x) (reverse more) marks
  log_put top log more i x old d marks push was some l = record {
    count = l.count ∙ ap (λ os. length os) (sym (olders_put top log more i x old d push was));
    empty = λ none. absurd (some none);
  }

  marks-few : (top : List T) (es : List (Entry T)) → length (olders top es) ≤ length es
  marks-few top [] = omega arith
  marks-few top (Mark ∷ es) = omega (arith, marks-few top es, length-append (olders top es) (top ∷ []))
  marks-few top (Undo i x ∷ es) = omega (arith, marks-few (slice_set top i x) es)

  -- there are no more marks than entries
  pub few_marks : (top : List T) (log : List (Entry T)) (marks : ℕ) → IsLog top (reverse log) marks → marks ≤ length log
  few_marks top log marks l = omega (arith, l.count, marks-few top (reverse log), length-reverse log)

  -- ---- what a level has

  pub level_top : (m : Levels T) → level_at m (length m.older) ≡ m.top
  level_top m = get_or-append_right m.older (m.top ∷ []) (length m.older) (length m.older) [] refl (omega arith) ∙ rw (let none : length m.older - length m.older ≡ 0 = omega arith in none) refl

  -- a level below the top has what it had, whatever the top has now
  pub level_below : (m now : Levels T) (k : ℕ) → now.older ≡ m.older → k < length m.older → level_at now k ≡ level_at m k
  level_below m now k same low =
      get_or_append_left now.older (now.top ∷ []) [] k (rw same low) ∙ rw same (sym (get_or_append_left m.older (m.top ∷ []) [] k low))
