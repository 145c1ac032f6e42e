-- Two transcripts of one text are the same.
use Rattle.base.proofs.Public.{◌≡◌, ◌≢◌, ◌⊎◌, inl, inr, ℕ, zero, suc, ◌+◌, List, [], ◌++◌, Option, Some, None, refl, sym, ap, subst, ◌∙◌, cases_order}
use Rattle.transcript.specs.Prelude.{AllEnded, Choices, Conclusion, Done, Element, element_at, element_named, element_number, End, Ended, EndsAt, EventFault, EventKind, Fail, Instance, inventory_of, IsDue, IsEndTurn, IsEvent, IsFirst, IsRefused, IsStartTurn, IsTurn, Line, MayStart, Moves, None as NoAction, Nothing, Phase, Phases, Point, ReadsLine, Refused, Running, Short, start_line, StoppedEnd, StoppedFail, TakesEvent, TooLong, TranscriptIsOne, Turns, Waiting, Whole}
use Rattle.cluster.proofs.Public.{element_at-element_number}
use Rattle.event_lines.proofs.Public.{line_is_one}
use Rattle.transcript.proofs.{Deciding.is_or_not, Deciding.same_or_not, EventLines.event_or_not, EventLines.same_event}

-- ---- a line has one meaning at a point: a conclusion, or none where the execution goes on

module _ (p : Instance) (a : Point) where
  abbrev next_line : ℕ
  next_line = a.lines + 1

  abbrev by_running : (kind : EventKind) (e : Element) → (a.phases e ≡ Running) ⊎ (a.phases e ≢ Running) → Option Conclusion
  by_running End e (inl runs) = None
  by_running Fail e (inl runs) = Some (StoppedFail e)
  by_running kind e (inr not_so) = Some (Refused next_line EventFault.NotRunning)

  abbrev by_name : (kind : EventKind) → Option Element → Option Conclusion
  by_name kind None = Some (Refused next_line EventFault.NoSuchName)
  by_name kind (Some e) = by_running kind e (is_or_not (a.phases e) Running)

  abbrev by_event : (text : List ℕ) → ((kind : EventKind) × (name : List ℕ) × IsEvent text kind name) ⊎ ((kind : EventKind) (name : List ℕ) → ¬ IsEvent text kind name) → Option Conclusion
  by_event text (inl f) = by_name f.0 (element_named (inventory_of p) f.1)
  by_event text (inr none) = Some (Refused next_line EventFault.NotALine)

  abbrev by_line : Line → List ℕ → Option Conclusion
  by_line Whole text = by_event text (event_or_not text)
  by_line TooLong text = Some (Refused next_line EventFault.TooLong)
  by_line Short text = Some (Refused next_line EventFault.NotALine)
  by_line Nothing text = Some StoppedEnd

  -- the line that is read at a point means this
  record Means (meaning : Option Conclusion) (rest : List ℕ) : Type 0 where
    found : Line
    text : List ℕ
    reads : ReadsLine a.rest found text rest
    is : by_line found text ≡ meaning

  means_one : (m n : Option Conclusion) (r s : List ℕ) → Means m r → Means n s → (m ≡ n) × (r ≡ s)
  means_one m n r s f g =
      let same = line_is_one a.rest f.found g.found f.text g.text r s f.reads g.reads in
      (sym f.is ∙ (λ i. by_line (same.kind i) (same.taken i)) ∙ g.is, same.left)

  running_is : (kind : EventKind) (e : Element) (o : (a.phases e ≡ Running) ⊎ (a.phases e ≢ Running)) → a.phases e ≢ Running → by_running kind e o ≡ Some (Refused next_line EventFault.NotRunning)
  running_is kind e (inl runs) n = absurd (n runs)
  running_is End e (inr not_so) n = refl
  running_is Fail e (inr not_so) n = refl

  end_goes_on : (e : Element) (o : (a.phases e ≡ Running) ⊎ (a.phases e ≢ Running)) → a.phases e ≡ Running → by_running End e o ≡ None
  end_goes_on e (inl runs) h = refl
  end_goes_on e (inr not_so) h = absurd (not_so h)

  fail_stops : (e : Element) (o : (a.phases e ≡ Running) ⊎ (a.phases e ≢ Running)) → a.phases e ≡ Running → by_running Fail e o ≡ Some (StoppedFail e)
  fail_stops e (inl runs) h = refl
  fail_stops e (inr not_so) h = absurd (not_so h)

  event_is : (text : List ℕ) (kind : EventKind) (name : List ℕ) → IsEvent text kind name →
      (o : ((kind : EventKind) × (name : List ℕ) × IsEvent text kind name) ⊎ ((kind : EventKind) (name : List ℕ) → ¬ IsEvent text kind name)) →
      by_event text o ≡ by_name kind (element_named (inventory_of p) name)
  event_is text kind name event (inl f) =
      let same = same_event text f.0 kind f.1 name f.2.says event.says in
      λ i. by_name (same.0 i) (element_named (inventory_of p) (same.1 i))
  event_is text kind name event (inr none) = absurd (none kind name event)

  no_event_is : (text : List ℕ) → ((kind : EventKind) (name : List ℕ) → ¬ IsEvent text kind name) →
      (o : ((kind : EventKind) × (name : List ℕ) × IsEvent text kind name) ⊎ ((kind : EventKind) (name : List ℕ) → ¬ IsEvent text kind name)) →
      by_event text o ≡ Some (Refused next_line EventFault.NotALine)
  no_event_is text none (inl f) = absurd (none f.0 f.1 f.2)
  no_event_is text none (inr h) = refl

  means_event : (plan : Choices) (kind : EventKind) (e : Element) (rest : List ℕ) → TakesEvent p plan a kind e rest → Means (by_running kind e (is_or_not (a.phases e) Running)) rest
  means_event plan kind e rest event = record {
    found = Whole;
    text = event.text;
    reads = event.line;
    is = event_is event.text kind event.name event.event (event_or_not event.text) ∙ ap (by_name kind) event.named;
  }

  means_end : (plan : Choices) (e : Element) (rest : List ℕ) → TakesEvent p plan a End e rest → a.phases e ≡ Running → Means None rest
  means_end plan e rest event runs = subst (λ m. Means m rest) (end_goes_on e (is_or_not (a.phases e) Running) runs) (means_event plan End e rest event)

  -- what is refused means that it is
  means_refused : (plan : Choices) (f : EventFault) (rest : List ℕ) → IsRefused p plan a f rest → Means (Some (Refused next_line f)) rest
  means_refused plan EventFault.NotALine rest h = by h.1
    where
      by : (ReadsLine a.rest Short h.0 rest) ⊎ (ReadsLine a.rest Whole h.0 rest × ((kind : EventKind) (name : List ℕ) → ¬ IsEvent h.0 kind name)) → Means (Some (Refused next_line EventFault.NotALine)) rest
      by (inl short) = record { found = Short; text = h.0; reads = short; is = refl }
      by (inr whole) = record { found = Whole; text = h.0; reads = whole.0; is = no_event_is h.0 whole.1 (event_or_not h.0) }
  means_refused plan EventFault.TooLong rest h = record { found = TooLong; text = h.0; reads = h.1; is = refl }
  means_refused plan EventFault.NoSuchName rest h = record {
    found = Whole;
    text = h.0;
    reads = h.3;
    is = event_is h.0 h.1 h.2 h.4 (event_or_not h.0) ∙ ap (by_name h.1) h.5;
  }
  means_refused plan EventFault.NotReady rest h = absurd h
  means_refused plan EventFault.NotRunning rest h =
      subst (λ m. Means m rest) (running_is h.0 h.1 (is_or_not (a.phases h.1) Running) h.3) (means_event plan h.0 h.1 rest h.2)

  -- how it ends: all have ended, or the line that is due says so
  ends_so : (plan : Choices) (c : Conclusion) (rest : List ℕ) → EndsAt p plan a c rest →
      (AllEnded a.phases × (c ≡ Done) × (rest ≡ a.rest)) ⊎ (IsDue p plan a.phases × Means (Some c) rest)
  ends_so plan Done rest h = inl (h.0, refl, h.1)
  ends_so plan (StoppedFail e) rest h =
      inr (h.0.due, subst (λ m. Means m rest) (fail_stops e (is_or_not (a.phases e) Running) h.1) (means_event plan Fail e rest h.0))
  ends_so plan StoppedEnd rest h = inr (h.0, record { found = Nothing; text = []; reads = h.1; is = refl })
  ends_so plan (Refused n f) rest h = inr (h.0, subst (λ k. Means (Some (Refused k f)) rest) (sym h.1) (means_refused plan f rest h.2))

  end_is_one : (plan : Choices) (c d : Conclusion) (r s : List ℕ) → EndsAt p plan a c r → EndsAt p plan a d s → (c ≡ d) × (r ≡ s)
  end_is_one plan c d r s f g = by (ends_so plan c r f) (ends_so plan d s g)
    where
      by : (AllEnded a.phases × (c ≡ Done) × (r ≡ a.rest)) ⊎ (IsDue p plan a.phases × Means (Some c) r) →
          (AllEnded a.phases × (d ≡ Done) × (s ≡ a.rest)) ⊎ (IsDue p plan a.phases × Means (Some d) s) → (c ≡ d) × (r ≡ s)
      by (inl x) (inl y) = (x.1 ∙ sym y.1, x.2 ∙ sym y.2)
      by (inl x) (inr y) = absurd (y.0.unended x.0)
      by (inr x) (inl y) = absurd (x.0.unended y.0)
      by (inr x) (inr y) = let same = means_one (Some c) (Some d) r s x.1 y.1 in (cc, same.1)

  -- where it ends there is no turn
  no_turn : (plan : Choices) (c : Conclusion) (rest : List ℕ) (b : Point) → EndsAt p plan a c rest → ¬ IsTurn p plan a b
  no_turn plan c rest b ends turn = by (ends_so plan c rest ends) turn
    where
      not_over : (f : Phase) → f ≡ Waiting → ¬ ((f ≡ NoAction) ⊎ (f ≡ Ended))
      not_over f waiting (inl none) = cc
      not_over f waiting (inr ended) = cc

      by : (AllEnded a.phases × (c ≡ Done) × (rest ≡ a.rest)) ⊎ (IsDue p plan a.phases × Means (Some c) rest) → ¬ IsTurn p plan a b
      by (inl over) (inl start) = not_over (a.phases start.element) start.ready.here.waiting (over.0 start.element)
      by (inl over) (inr end) = end.event.due.unended over.0
      by (inr due) (inl start) = due.0.quiet start.element start.ready.here
      by (inr due) (inr end) = let same = means_one (Some c) None rest b.rest due.1 (means_end plan end.element b.rest end.event end.step.0) in cc

-- ---- turns

ready_is_one : (p : Instance) (kind : Element → Type 0) (x y : Element) → IsFirst p kind x → IsFirst p kind y → x ≡ y
ready_is_one p kind x y f g =
    elim (cases_order (element_number (inventory_of p) x) (element_number (inventory_of p) y)) [
      | inl e ↦
          sym (element_at-element_number (inventory_of p) x f.listed) ∙ ap (element_at (inventory_of p)) e ∙ element_at-element_number (inventory_of p) y g.listed
      | inr o ↦ elim o [ inl below ↦ absurd (g.earlier x f.listed below f.here) | inr above ↦ absurd (f.earlier y g.listed above g.here) ]
    ]

moves_are_one : (before a b : Phases) (e : Element) (f : Phase) → Moves before e f a → Moves before e f b → a ≡ b
moves_are_one before a b e f g h = λ i x. at x (same_or_not x e) i
  where
    at : (x : Element) → (x ≡ e) ⊎ (x ≢ e) → a x ≡ b x
    at x (inl same) = ap a same ∙ g.here ∙ sym h.here ∙ ap b (sym same)
    at x (inr other) = g.others x other ∙ sym (h.others x other)

same_point : (b c : Point) → b.phases ≡ c.phases → b.lines ≡ c.lines → b.rest ≡ c.rest → b.written ≡ c.written → b ≡ c
same_point b c f l r w = λ i. record { phases = f i; lines = l i; rest = r i; written = w i }

module _ (p : Instance) (plan : Choices) where
  start_is_one : (a b c : Point) → IsStartTurn p plan a b → IsStartTurn p plan a c → b ≡ c
  start_is_one a b c f g =
      let same : f.element ≡ g.element = ready_is_one p (MayStart p plan a.phases) f.element g.element f.ready g.ready in
      let moves : Moves a.phases g.element Running b.phases = subst (λ x. Moves a.phases x Running b.phases) same f.step.1 in
      same_point b c (moves_are_one a.phases b.phases c.phases g.element Running moves g.step.1) (f.lines ∙ sym g.lines) (f.rest ∙ sym g.rest)
      (f.written ∙ ap (λ x. a.written ++ start_line p x) same ∙ sym g.written)

  end_is_one_turn : (a b c : Point) → IsEndTurn p plan a b → IsEndTurn p plan a c → b ≡ c
  end_is_one_turn a b c f g =
      let line = line_is_one a.rest Whole Whole f.event.text g.event.text b.rest c.rest f.event.line g.event.line in
      let event : IsEvent g.event.text End f.event.name = subst (λ t. IsEvent t End f.event.name) line.taken f.event.event in
      let names = same_event g.event.text End End f.event.name g.event.name event.says g.event.event.says in
      let named : Some f.element ≡ Some g.element = sym f.event.named ∙ ap (element_named (inventory_of p)) names.1 ∙ g.event.named in
      let same : f.element ≡ g.element = cc in
      let moves : Moves a.phases g.element Ended b.phases = subst (λ x. Moves a.phases x Ended b.phases) same f.step.1 in
      same_point b c (moves_are_one a.phases b.phases c.phases g.element Ended moves g.step.1) (f.lines ∙ sym g.lines) line.left (f.written ∙ sym g.written)

  turn_is_one : (a b c : Point) → IsTurn p plan a b → IsTurn p plan a c → b ≡ c
  turn_is_one a b c (inl f) (inl g) = start_is_one a b c f g
  turn_is_one a b c (inl f) (inr g) = absurd (g.event.due.quiet f.element f.ready.here)
  turn_is_one a b c (inr f) (inl g) = absurd (f.event.due.quiet g.element g.ready.here)
  turn_is_one a b c (inr f) (inr g) = end_is_one_turn a b c f g

  -- the first of some turns
  first_turn : (k : ℕ) (a c : Point) → Turns p plan (suc k) a c → (b : Point) × IsTurn p plan a b × Turns p plan k b c
  first_turn zero a c turns = (c, subst (λ (x : Point). IsTurn p plan x c) turns.1 turns.2, refl)
  first_turn (suc k) a c turns =
      let first = first_turn k a turns.0 turns.1 in
      (first.0, first.1, (turns.0, first.2, turns.2))

  last_is_one : (k n : ℕ) (a b c : Point) (f g : Conclusion) (r s : List ℕ) → Turns p plan k a b → Turns p plan n a c → EndsAt p plan b f r → EndsAt p plan c g s → b ≡ c
  last_is_one zero zero a b c f g r s x y ends ends' = x ∙ sym y
  last_is_one zero (suc n) a b c f g r s x y ends ends' =
      let first = first_turn n a c y in
      absurd (no_turn p a plan f r first.0 (subst (λ (z : Point). EndsAt p plan z f r) x ends) first.1)
  last_is_one (suc k) zero a b c f g r s x y ends ends' =
      let first = first_turn k a b x in
      absurd (no_turn p a plan g s first.0 (subst (λ (z : Point). EndsAt p plan z g s) y ends') first.1)
  last_is_one (suc k) (suc n) a b c f g r s x y ends ends' =
      let one = first_turn k a b x in
      let other = first_turn n a c y in
      let same : other.0 ≡ one.0 = turn_is_one a other.0 one.0 other.1 one.1 in
      last_is_one k n one.0 b c f g r s one.2 (subst (λ (z : Point). Turns p plan n z c) same other.2) ends ends'

pub transcript_is_one : TranscriptIsOne
transcript_is_one p plan first a b rest rest' written written' f g =
    let last : f.last ≡ g.last = last_is_one p plan f.reached.0 g.reached.0 first f.last g.last a b rest rest' f.reached.1 g.reached.1 f.ends g.ends in
    let same = end_is_one p g.last plan a b rest rest' (subst (λ (z : Point). EndsAt p plan z a rest) last f.ends) g.ends in
    (same.0, same.1, f.all ∙ ap (λ (z : Point). z.written) last ∙ sym g.all)
