-- Machines that keep others off the nodes where they stand.
use Rattle.closing.proofs.Prelude.{IsTrue, slice_index_or, ◌≡◌, ◌≢◌, inl, inr, ℕ, ◌<◌, Bool, true, false, List, [], length, refl, sym, ◌∙◌, cases_eq, AreApart, FailAtEnds, has_node_of, Instance, IsAnyOf, IsFreeOf, IsMember, IsOn, MeetsOtherPart, node_count, one, present_at, Sets, ShareNode, Stands, StaysClear, sure, surely, vm, VmId, surely_each, end_is_choice}
use Rattle.closing.proofs.{MemberLemmas.any_free, PairLemmas.others_free, PairLemmas.parts_free, FoundLemmas.never_met, SettingLemmas.shared_free}

module _ (p : Instance) (s : Sets) (t : ℕ) where
  -- where a machine stands is told by the nodes where it surely is
  pub clear_by : (v w : ℕ) (a : Stands) → ((n : ℕ) → has_node_of a n ≡ (sure p s t).present v (one n)) → FailAtEnds (IsOn p w (has_node_of a) t) (s (vm w)) → FailAtEnds (IsOn p w (λ n. (sure p s t).present v (one n)) t) (s (vm w))
  clear_by v w a stands fail = record { ends = λ c end h. fail.ends c end (h.0, h.1, stands h.0 ∙ h.2, h.3) }

  -- one that has a choice is not surely where it is under no end of its choices
  off-node : (v w : ℕ) → StaysClear p s t v w → (n : ℕ) → n < node_count p → IsTrue ((sure p s t).present v (one n)) → (sure p s t).present w (one n) ≡ false
  unfolding sure
  off-node v w clear n low there = by (surely (present_at p w (one n) t) (s (vm w))) refl
    where
      by : (b : Bool) → surely (present_at p w (one n) t) (s (vm w)) ≡ b → b ≡ false
      by false e = refl
      by true e = absurd (clear.ends.ends clear.some.0 clear.some.1 (n, low, there, surely_each (present_at p w (one n) t) (s (vm w)) clear.some.0 (end_is_choice (s (vm w)) clear.some.0 clear.some.1) e))

  clear_free : (v w : ℕ) → StaysClear p s t v w → StaysClear p s t w v → IsFreeOf (ShareNode p v w) p s t
  clear_free v w first second = shared_free p s t v w (λ n. (sure p s t).present v (one n)) (λ n. (sure p s t).present w (one n)) (λ n. refl) (λ n. refl) (off-node v w first) first.ends second.ends

  pair_free : (vs ws : List VmId) → AreApart p s t vs ws → AreApart p s t ws vs → (v w : ℕ) → IsMember vs v → IsMember ws w → IsFreeOf (ShareNode p v w) p s t
  pair_free vs ws first second v w here there =
      elim (cases_eq v w) [
        | inl same ↦ never_met (ShareNode p v w) p s t (λ b x. x.0 same)
        | inr other ↦ clear_free v w (first.each v w here there other) (second.each w v there here (λ e. other (sym e)))
      ]

  pub spread_free : (vs : List VmId) → AreApart p s t vs vs → IsFreeOf (IsAnyOf vs (λ v. IsAnyOf vs (ShareNode p v))) p s t
  spread_free vs apart = any_free (λ v. IsAnyOf vs (ShareNode p v)) p s t vs (λ v here. any_free (ShareNode p v) p s t vs (λ w there. pair_free vs vs apart apart v w here there))

  pub split_free : (parts : List (List VmId)) → ((i j : ℕ) → i < length parts → j < length parts → i ≢ j → AreApart p s t (slice_index_or parts i []) (slice_index_or parts j [])) → IsFreeOf (λ b. (i : ℕ) × (i < length parts) × IsAnyOf (slice_index_or parts i []) (MeetsOtherPart p parts i) b) p s t
  split_free parts apart =
      parts_free p s t parts (λ i l. any_free (MeetsOtherPart p parts i) p s t (slice_index_or parts i []) (λ v here. others_free p s t parts i v (λ j k ne. any_free (ShareNode p v) p s t (slice_index_or parts j []) (λ w there.
      pair_free (slice_index_or parts i []) (slice_index_or parts j []) (apart i j l k ne) (apart j i k l (λ e. ne (sym e))) v w here there))))
