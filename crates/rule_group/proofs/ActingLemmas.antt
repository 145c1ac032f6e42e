-- When machines surely act, and who keeps off then.
use Rattle.rule_group.proofs.Prelude.{and_parts, arith, Bool, end_is_choice, ends_of_rows, false, false≢true, inl, inr, IsTrue, length, List, max, min, nat_le, nat_tests, not, other-vm, refl, setting_sets, slice_index_or, Some, some_end, surely_each, sym, true, vm_or, ◌+◌, ◌<◌, ◌∙◌, ◌∷◌, ◌⊎◌, ◌≡◌, ◌≢◌, ◌≤◌, ℕ, []}
use Rattle.rule_group.specs.Prelude.{Act, Acting, action_at, action_duration, AnyPlace, AreEndedBy, AreStartedFrom, AvoidsSpan, Choice, choices, Climbs, Constraint, DomainView, Element, end_of, EndsBy, form_of, Group, HasSpan, Idle, Instance, InTurn, IsClean, IsClearOf, IsEnd, IsMember, KeepsOff, never, no_row, of_kind, Ordered, reason_kind, Row, row_at, rule_watch, Sets, setting, Span, stage_at, Started, StartsFrom, sure, surely, Unended, vm, VmId}
use Rattle.rule_group.proofs.TogetherLemmas.{each_end}

-- ---- one choice

pub starts : (p : Instance) (v t s : ℕ) (q : AnyPlace) → IsTrue (action_at p v Started t (Act q s)) → s ≤ t
unfolding action_at stage_at
starts p v t s q h = let e : nat_le s t ≡ true = h in grind (arith, nat_tests, e)

pub unends : (p : Instance) (v t s : ℕ) (q : AnyPlace) → IsTrue (action_at p v Unended t (Act q s)) → t < end_of p (vm v) (Act q s)
unfolding action_at stage_at end_of
unends p v t s q h = let e : not (nat_le (s + action_duration p (vm v) q) t) ≡ true = h in let late : t < s + action_duration p (vm v) q = grind (arith, nat_tests, e) in late

acts-started : (p : Instance) (v t : ℕ) (c : Choice) → IsTrue (action_at p v Acting t c) → IsTrue (action_at p v Started t c)
unfolding action_at
acts-started p v t Idle h = h
acts-started p v t (Act q s) h = (and_parts (stage_at p (vm v) (Act q s) t).started (not (stage_at p (vm v) (Act q s) t).ended) h).0

acts-unended : (p : Instance) (v t : ℕ) (c : Choice) → IsTrue (action_at p v Acting t c) → IsTrue (action_at p v Unended t c)
unfolding action_at
acts-unended p v t Idle h = h
acts-unended p v t (Act q s) h = (and_parts (stage_at p (vm v) (Act q s) t).started (not (stage_at p (vm v) (Act q s) t).ended) h).1

idle-starts : (p : Instance) (v t : ℕ) → action_at p v Started t Idle ≡ false
unfolding action_at
idle-starts p v t = refl

idle-unended : (p : Instance) (v t : ℕ) → action_at p v Unended t Idle ≡ false
unfolding action_at
idle-unended p v t = refl

-- ---- all choices

pub surely-more : (f g : Choice → Bool) (cs : List Choice) → ((c : Choice) → IsTrue (f c) → IsTrue (g c)) → IsTrue (surely f cs) → IsTrue (surely g cs)
surely-more f g [] more h = refl
surely-more f g (c ∷ cs) more h =
    let parts = and_parts (f c) (surely f cs) h in
    let first : g c ≡ true = more c parts.0 in
    rw first (surely-more f g cs more parts.1)

-- ---- spans

module _ (p : Instance) (v : ℕ) (d : DomainView) where
  pub idle_span : (x : Span) → d.idle ≡ true → Climbs 0 d.rows → HasSpan p v (choices d) x
  idle_span x idle climbs =
      let there = end_is_choice (choices d) Idle ((ends_of_rows d climbs Idle).1 idle) in
      record {
        from = λ t h. absurd (false≢true (sym (idle-starts p v t) ∙ surely_each (action_at p v Started t) (choices d) Idle there h));
        until = λ t l h. absurd (false≢true (sym (idle-unended p v t) ∙ surely_each (action_at p v Unended t) (choices d) Idle there h));
      }

  pub any_span : HasSpan p v (choices d) (record { from = 0; until = never })
  any_span = record { from = λ t h. omega arith; until = λ t l h. l }

  pub row_span : (x : Span) (i : ℕ) → Climbs 0 d.rows → i < length d.rows → HasSpan p v (choices d) x → HasSpan p v (choices d) (record { from = max x.from (row_at d i).hi; until = min x.until (end_of p (vm v) (Act (row_at d i).place (row_at d i).lo)) })
  row_span x i climbs low has =
      let first = end_is_choice (choices d) (Act (row_at d i).place (row_at d i).lo) ((ends_of_rows d climbs (Act (row_at d i).place (row_at d i).lo)).1 (i, low, refl, inl refl)) in
      let last = end_is_choice (choices d) (Act (row_at d i).place (row_at d i).hi) ((ends_of_rows d climbs (Act (row_at d i).place (row_at d i).hi)).1 (i, low, refl, inr refl)) in
      record {
        from = λ t h. omega (arith, has.from t h, starts p v t (row_at d i).hi (row_at d i).place (surely_each (action_at p v Started t) (choices d) _ last h));
        until = λ t l h. omega (arith, has.until t l h, unends p v t (row_at d i).lo (row_at d i).place (surely_each (action_at p v Unended t) (choices d) _ first h));
      }

pub more_span : (p : Instance) (v : ℕ) (d : DomainView) (rows : List Row) (x : Span) (i from until : ℕ) → rows ≡ d.rows → Climbs 0 rows → i < length d.rows → HasSpan p v (choices d) x → from ≡ max x.from (slice_index_or rows i no_row).hi → until ≡ min x.until (end_of p (vm v) (Act (slice_index_or rows i no_row).place (slice_index_or rows i no_row).lo)) → HasSpan p v (choices d) (record { from = from; until = until })
more_span p v d rows x i from until same climbs low has first last = rw (first, last, same) (row_span p v d x i (rw same at climbs) low has)

-- ---- the ends of choices

module _ (p : Instance) (s : Sets) (v : ℕ) (d : DomainView) (rows : List Row) (is : s (vm v) ≡ choices d) (same : rows ≡ d.rows) (climbs : Climbs 0 rows) where
  pub started_from : (from : ℕ) → choices d ≢ [] → ((i : ℕ) → i < length rows → from ≤ (slice_index_or rows i no_row).lo) → ((i : ℕ) → i < length rows → from ≤ (slice_index_or rows i no_row).hi) → AreStartedFrom (s (vm v)) from
  started_from from some low high = record { some = rw is some; ends = λ c end. each_end (StartsFrom from) d rows same climbs (λ idle. tt) low high c (rw is at end) }

  pub ended_by : (by : ℕ) → ((i : ℕ) → i < length rows → end_of p (vm v) (Act (slice_index_or rows i no_row).place (slice_index_or rows i no_row).lo) ≤ by) → ((i : ℕ) → i < length rows → end_of p (vm v) (Act (slice_index_or rows i no_row).place (slice_index_or rows i no_row).hi) ≤ by) → AreEndedBy p v (s (vm v)) by
  ended_by by low high = record { ends = λ c end. each_end (EndsBy p v by) d rows same climbs (λ idle. tt) low high c (rw is at end) }

  pub keeps_off_by : (x : Span) → choices d ≢ [] → ((i : ℕ) → i < length rows → AvoidsSpan p v x (Act (slice_index_or rows i no_row).place (slice_index_or rows i no_row).lo)) → ((i : ℕ) → i < length rows → AvoidsSpan p v x (Act (slice_index_or rows i no_row).place (slice_index_or rows i no_row).hi)) → KeepsOff p s v x
  keeps_off_by x some low high = record { some = rw is some; ends = λ c end. each_end (AvoidsSpan p v x) d rows same climbs (λ idle. tt) low high c (rw is at end) }

-- ---- one after the other

module _ (p : Instance) (s : Sets) where
  -- what is surely so far
  sure-starts : (v t : ℕ) (x : Span) → HasSpan p v (s (vm v)) x → IsTrue ((sure p s t).action v Started) → x.from ≤ t
  unfolding sure
  sure-starts v t x has h = has.from t h

  sure-unended : (v t : ℕ) (x : Span) → t < never → HasSpan p v (s (vm v)) x → IsTrue ((sure p s t).action v Unended) → t < x.until
  unfolding sure
  sure-unended v t x l has h = has.until t l h

  sure-acts : (v t : ℕ) (x : Span) → t < never → HasSpan p v (s (vm v)) x → IsTrue ((sure p s t).action v Acting) → (x.from ≤ t) × (t < x.until)
  unfolding sure
  sure-acts v t x l has h = (
    has.from t (surely-more (action_at p v Acting t) (action_at p v Started t) (s (vm v)) (acts-started p v t) h),
    has.until t l (surely-more (action_at p v Acting t) (action_at p v Unended t) (s (vm v)) (acts-unended p v t) h),
  )

  under-end : (v t : ℕ) (c : Choice) → IsEnd (s (vm v)) c → IsTrue ((sure p s t).action v Started) → IsTrue (action_at p v Started t c)
  unfolding sure
  under-end v t c end h = surely_each (action_at p v Started t) (s (vm v)) c (end_is_choice (s (vm v)) c end) h

  acts-under : (v t : ℕ) (c : Choice) → IsEnd (s (vm v)) c → IsTrue ((sure p s t).action v Acting) → IsTrue (action_at p v Acting t c)
  unfolding sure
  acts-under v t c end h = surely_each (action_at p v Acting t) (s (vm v)) c (end_is_choice (s (vm v)) c end) h

  -- no end that has started by then
  late : (a t from : ℕ) (c : Choice) → StartsFrom from c → t < from → IsTrue (action_at p a Started t c) → ⊥
  late a t from Idle h l started = false≢true (sym (idle-starts p a t) ∙ started)
  late a t from (Act q u) h l started = omega (arith, h, l, starts p a t u q started)

  -- none that has not ended
  over : (b t by : ℕ) (c : Choice) → EndsBy p b by c → by ≤ t → IsTrue (action_at p b Unended t c) → ⊥
  over b t by Idle h l unended = false≢true (sym (idle-unended p b t) ∙ unended)
  over b t by (Act q u) h l unended = omega (arith, h, l, unends p b t u q unended)

  module _ (before after : VmId) (x y : Span) (short : p.horizon < never) (differ : before.0 ≢ after.0) (has : HasSpan p before.0 (s (vm before.0)) x) (had : HasSpan p after.0 (s (vm after.0)) y) (start : AreStartedFrom (s (vm after.0)) x.until) (ended : AreEndedBy p before.0 (s (vm before.0)) y.from) where
    both-sure : (t : ℕ) → t ≤ p.horizon → IsTrue ((sure p s t).action after.0 Started) → IsTrue ((sure p s t).action before.0 Unended) → ⊥
    both-sure t l started unended =
        let end = some_end (s (vm after.0)) start.some in
        late after.0 t x.until end.0 (start.ends end.0 end.1) (sure-unended before.0 t x (omega (arith, l, short)) has unended) (under-end after.0 t end.0 end.1 started)

    both-with : (e : Element) (c : Choice) (t : ℕ) → t ≤ p.horizon → IsEnd (s e) c → IsTrue ((sure p (setting e c s) t).action after.0 Started) → IsTrue ((sure p (setting e c s) t).action before.0 Unended) → (e ≡ vm after.0) ⊎ (vm after.0 ≢ e) → (e ≡ vm before.0) ⊎ (vm before.0 ≢ e) → ⊥
    both-with e c t l end started unended (inl same) one =
        let own = ((setting_sets p s (vm after.0) c t).set_machine after.0 refl).action Started in
        let stays = ((setting_sets p s (vm after.0) c t).other_machines before.0 (other-vm before.0 after.0 differ)).action Unended in
        late after.0 t x.until c (start.ends c (rw same at end)) (sure-unended before.0 t x (omega (arith, l, short)) has (sym stays ∙ (rw same at unended))) (sym own ∙ (rw same at started))
    both-with e c t l end started unended (inr other) (inl same) =
        let own = ((setting_sets p s (vm before.0) c t).set_machine before.0 refl).action Unended in
        let stays = ((setting_sets p s e c t).other_machines after.0 other).action Started in
        over before.0 t y.from c (ended.ends c (rw same at end)) (sure-starts after.0 t y had (sym stays ∙ started)) (sym own ∙ (rw same at unended))
    both-with e c t l end started unended (inr other) (inr another) =
        let stays = ((setting_sets p s e c t).other_machines after.0 other).action Started in
        let also = ((setting_sets p s e c t).other_machines before.0 another).action Unended in
        both-sure t l (sym stays ∙ started) (sym also ∙ unended)

    pub ordered_clean : (k : Constraint) → form_of k ≡ Ordered before after → IsClean (rule_watch p k) p s
    ordered_clean k is t l = record {
      base = λ z. let h = rw is at (of_kind p (sure p s t) Group k kind z.1) in both-sure t l h.0 h.1;
      ends = λ e c there end z.
          let h = rw is at (of_kind p (sure p (setting e c s) t) Group k kind z.1) in
          both-with e c t l end h.0 h.1 (vm_or e after.0) (vm_or e before.0);
    }
      where
        kind : reason_kind k ≡ Some Group
        kind = rw is refl

  -- ---- in turn

  avoids : (w t : ℕ) (x : Span) (c : Choice) → AvoidsSpan p w x c → x.from ≤ t → t < x.until → (b : Bool) → action_at p w Acting t c ≡ b → b ≡ false
  avoids w t x c off l u false e = refl
  avoids w t x Idle off l u true e = absurd (false≢true (sym (idle-starts p w t) ∙ acts-started p w t Idle e))
  avoids w t x (Act q v) (inl after) l u true e = absurd (omega (arith, after, u, starts p w t v q (acts-started p w t (Act q v) e)))
  avoids w t x (Act q v) (inr before) l u true e = absurd (omega (arith, before, l, unends p w t v q (acts-unended p w t (Act q v) e)))

  pub clear_of : (v w : ℕ) (x : Span) → p.horizon < never → HasSpan p v (s (vm v)) x → KeepsOff p s w x → IsClearOf p s v w
  clear_of v w x short has off = record {
    some = λ t l h. off.some;
    ends = λ t c l h end. let in-span = sure-acts v t x (omega (arith, l, short)) has h in avoids w t x c (off.ends c end) in-span.0 in-span.1 (action_at p w Acting t c) refl;
  }

  -- where one never surely acts
  pub never_acts : (v w : ℕ) (x : Span) → p.horizon < never → HasSpan p v (s (vm v)) x → x.until ≤ x.from → IsClearOf p s v w
  never_acts v w x short has none = record {
    some = λ t l h. let in-span = sure-acts v t x (omega (arith, l, short)) has h in absurd (omega (arith, in-span.0, in-span.1, none));
    ends = λ t c l h end. let in-span = sure-acts v t x (omega (arith, l, short)) has h in absurd (omega (arith, in-span.0, in-span.1, none));
  }

  module _ (vs : List VmId) (clear : (v : ℕ) → IsMember vs v → (w : ℕ) → IsMember vs w → w ≢ v → IsClearOf p s v w) where
    none-sure : (t v w : ℕ) → t ≤ p.horizon → v ≢ w → IsMember vs v → IsMember vs w → IsTrue ((sure p s t).action v Acting) → IsTrue ((sure p s t).action w Acting) → ⊥
    none-sure t v w l differ m n first second =
        let off = clear v m w n (λ e. differ (sym e)) in
        let end = some_end (s (vm w)) (off.some t l first) in
        false≢true (sym (off.ends t end.0 l first end.1) ∙ acts-under w t end.0 end.1 second)

    -- one is set to an end, and the other one acts surely
    with-one : (t v w : ℕ) (c : Choice) → t ≤ p.horizon → v ≢ w → IsMember vs v → IsMember vs w → IsEnd (s (vm w)) c → IsTrue ((sure p (setting (vm w) c s) t).action v Acting) → IsTrue ((sure p (setting (vm w) c s) t).action w Acting) → ⊥
    with-one t v w c l differ m n end first second =
        let off = clear v m w n (λ e. differ (sym e)) in
        let own = ((setting_sets p s (vm w) c t).set_machine w refl).action Acting in
        let stays = ((setting_sets p s (vm w) c t).other_machines v (other-vm v w differ)).action Acting in
        false≢true (sym (off.ends t c l (sym stays ∙ first) end) ∙ (sym own ∙ second))

    none-with : (e : Element) (c : Choice) (t v w : ℕ) → t ≤ p.horizon → IsEnd (s e) c → v ≢ w → IsMember vs v → IsMember vs w → IsTrue ((sure p (setting e c s) t).action v Acting) → IsTrue ((sure p (setting e c s) t).action w Acting) → (e ≡ vm v) ⊎ (vm v ≢ e) → (e ≡ vm w) ⊎ (vm w ≢ e) → ⊥
    none-with e c t v w l end differ m n first second (inl same) two = with-one t w v c l (λ e. differ (sym e)) n m (rw same at end) (rw same at second) (rw same at first)
    none-with e c t v w l end differ m n first second (inr other) (inl same) = with-one t v w c l differ m n (rw same at end) (rw same at first) (rw same at second)
    none-with e c t v w l end differ m n first second (inr other) (inr another) =
        let stays = ((setting_sets p s e c t).other_machines v other).action Acting in
        let also = ((setting_sets p s e c t).other_machines w another).action Acting in
        none-sure t v w l differ m n (sym stays ∙ first) (sym also ∙ second)

    pub in_turn_clean : (k : Constraint) → form_of k ≡ InTurn vs → IsClean (rule_watch p k) p s
    in_turn_clean k is t l = record {
      base = λ z. let h = rw is at (of_kind p (sure p s t) Group k kind z.1) in none-sure t h.v h.w l h.differ h.first_member h.second_member h.first h.second;
      ends = λ e c there end z.
          let h = rw is at (of_kind p (sure p (setting e c s) t) Group k kind z.1) in
          none-with e c t h.v h.w l end h.differ h.first_member h.second_member h.first h.second (vm_or e h.v) (vm_or e h.w);
    }
      where
        kind : reason_kind k ≡ Some Group
        kind = rw is refl
