-- Every text has a transcript, of which all that was written before a fault is a beginning.
use Rattle.base.proofs.Public.{◌≡◌, inl, inr, ℕ, zero, suc, ◌+◌, ◌<◌, ◌≤◌, List, ◌++◌, Option, Some, None, refl, sym, subst, arith, StartsWith, further, longer, whole as all_of_it}
use Rattle.transcript.specs.Prelude.{AlwaysEnds, Choices, choices_of, Conclusion, Done, Element, element_named, End, Ended, EndsAt, EventKind, EveryPointIsSafe, Fail, FaultsLeaveABeginning, first_point, Instance, inventory_of, IsBegun, IsDue, IsEvent, IsExecution, IsFirst, IsPlanOf, IsStep, IsTurn, Line, MayStart, Memory, Nothing, NotValid, PlanChoices, Point, point, Reaches, ReadFault, ReadsLine, Refused, Running, Short, Start, start_line, StoppedEnd, StoppedFail, StopsInStart, TakesEvent, TooLong, Turns, Whole, WriteFault}
use Rattle.executor.specs.Steps.{End as AnEnd}
use Rattle.cluster.proofs.Public.{listed-element_named}
use Rattle.executor.proofs.Public.{begins_well, end_left, executions_are_safe, start_left, steps_keep, steps_left}
use Rattle.event_lines.specs.declared.faults.EventFault.{EventFault}
use Rattle.event_lines.proofs.Public.{takes_line}
use Rattle.transcript.proofs.Deciding.{ended_or_not, is_or_not, moved_to, moves, ready_or_quiet}
use Rattle.transcript.proofs.EventLines.{event_or_not}

-- ---- turns

module _ (p : Instance) (plan : Choices) where
  -- a turn before others
  turn_before : (k : ℕ) (a b c : Point) → IsTurn p plan a b → Turns p plan k b c → Turns p plan (suc k) a c
  turn_before zero a b c turn turns = (a, refl, subst (λ (x : Point). IsTurn p plan a x) (sym turns) turn)
  turn_before (suc k) a b c turn turns = (turns.0, turn_before k a b turns.0 turn turns.1, turns.2)

  -- turns after others
  turns_after : (k : ℕ) (a b c : Point) → Reaches p plan a b → Turns p plan k b c → Reaches p plan a c
  turns_after zero a b c reached turns = subst (λ (x : Point). Reaches p plan a x) (sym turns) reached
  turns_after (suc k) a b c reached turns =
      let before : Reaches p plan a turns.0 = turns_after k a b turns.0 reached turns.1 in
      (suc before.0, (turns.0, before.1, turns.2))

  -- nothing that was written is lost
  turn_writes : (a b : Point) → IsTurn p plan a b → StartsWith b.written a.written
  turn_writes a b (inl turn) = subst (λ (x : List ℕ). StartsWith x a.written) (sym turn.written) (longer a.written (start_line p turn.element))
  turn_writes a b (inr turn) = subst (λ (x : List ℕ). StartsWith x a.written) (sym turn.written) (all_of_it a.written)

  turns_write : (k : ℕ) (a b : Point) → Turns p plan k a b → StartsWith b.written a.written
  turns_write zero a b turns = subst (λ (x : Point). StartsWith x.written a.written) (sym turns) (all_of_it a.written)
  turns_write (suc k) a b turns = further a.written turns.0.written b.written (turns_write k a turns.0 turns.1) (turn_writes turns.0 b turns.2)

  -- a turn is a step of the execution
  turn_keeps : (a b : Point) → IsTurn p plan a b → IsExecution p plan a.phases → IsExecution p plan b.phases
  turn_keeps a b (inl turn) ex = steps_keep p plan a.phases b.phases (Start turn.element) ex turn.step
  turn_keeps a b (inr turn) ex = steps_keep p plan a.phases b.phases (AnEnd turn.element) ex turn.step

  turns_keep : (k : ℕ) (a b : Point) → Turns p plan k a b → IsExecution p plan a.phases → IsExecution p plan b.phases
  turns_keep zero a b turns ex = subst (λ (x : Point). IsExecution p plan x.phases) (sym turns) ex
  turns_keep (suc k) a b turns ex = turn_keeps turns.0 b turns.2 (turns_keep k a turns.0 turns.1 ex)

  -- an conclusion at a point
  ends_here : (a : Point) (conclusion : Conclusion) (rest : List ℕ) → EndsAt p plan a conclusion rest → IsBegun p plan a a.written
  ends_here a conclusion rest ends = record {
    conclusion = conclusion;
    rest = rest;
    whole = a.written;
    ends = record { last = a; reached = (0, refl); ends = ends; all = refl };
    prefix = all_of_it a.written;
  }

  -- an conclusion after a turn
  ends_after_turn : (a b : Point) → IsTurn p plan a b → IsBegun p plan b b.written → IsBegun p plan a a.written
  ends_after_turn a b turn begun = record {
    conclusion = begun.conclusion;
    rest = begun.rest;
    whole = begun.whole;
    ends = record {
      last = begun.ends.last;
      reached = (suc begun.ends.reached.0, turn_before begun.ends.reached.0 a b begun.ends.last turn begun.ends.reached.1);
      ends = begun.ends.ends;
      all = begun.ends.all;
    };
    prefix = further a.written b.written begun.whole (turn_writes a b turn) begun.prefix;
  }

  -- an conclusion after what was reached
  ends_after : (first a : Point) (written : List ℕ) → Reaches p plan first a → StartsWith a.written written → IsBegun p plan a a.written → IsBegun p plan first written
  ends_after first a written reached prefix begun = record {
    conclusion = begun.conclusion;
    rest = begun.rest;
    whole = begun.whole;
    ends = record {
      last = begun.ends.last;
      reached = turns_after begun.ends.reached.0 first a begun.ends.last reached begun.ends.reached.1;
      ends = begun.ends.ends;
      all = begun.ends.all;
    };
    prefix = further written a.written begun.whole prefix begun.prefix;
  }

-- ---- every text has a transcript

module _ (p : Instance) (plan : PlanChoices) (is : IsPlanOf p plan) where
  abbrev Begun : Point → Type 0
  Begun a = IsBegun p (choices_of plan) a a.written

  -- so it is of each point with fewer steps
  abbrev Next : Point → Type 0
  Next a = (b : Point) → steps_left p b.phases < steps_left p a.phases → IsExecution p (choices_of plan) b.phases → Begun b

  abbrev started : Point → Element → Point
  started a e = point (moved_to a.phases e Running) a.lines a.rest (a.written ++ start_line p e)

  by_start : (a : Point) (e : Element) → Next a → IsExecution p (choices_of plan) a.phases → IsFirst p (MayStart p (choices_of plan) a.phases) e → Begun a
  by_start a e next ex first =
      let step : IsStep p (choices_of plan) a.phases (Start e) (moved_to a.phases e Running) = (first.here, moves a.phases e Running) in
      let less = start_left p (choices_of plan) a.phases (moved_to a.phases e Running) e first.listed step in
      ends_after_turn p (choices_of plan) a (started a e)
      (inl (record { element = e; ready = first; step = step; lines = refl; rest = refl; written = refl }))
      (next (started a e) (omega (arith, less)) (steps_keep p (choices_of plan) a.phases (moved_to a.phases e Running) (Start e) ex step))

  abbrev stopped : Point → Element → List ℕ → Point
  stopped a e rest = point (moved_to a.phases e Ended) (a.lines + 1) rest a.written

  by_end : (a : Point) (e : Element) (rest : List ℕ) → Next a → IsExecution p (choices_of plan) a.phases → TakesEvent p (choices_of plan) a End e rest → a.phases e ≡ Running → Begun a
  by_end a e rest next ex event runs =
      let step : IsStep p (choices_of plan) a.phases (AnEnd e) (moved_to a.phases e Ended) = (runs, moves a.phases e Ended) in
      let listed = (listed-element_named (inventory_of p) event.name e event.named).0 in
      let less = end_left p (choices_of plan) a.phases (moved_to a.phases e Ended) e listed step in
      ends_after_turn p (choices_of plan) a (stopped a e rest)
      (inr (record { element = e; event = event; step = step; lines = refl; written = refl }))
      (next (stopped a e rest) (omega (arith, less)) (steps_keep p (choices_of plan) a.phases (moved_to a.phases e Ended) (AnEnd e) ex step))

  by_event : (a : Point) (kind : EventKind) (e : Element) (rest : List ℕ) → Next a → IsExecution p (choices_of plan) a.phases → TakesEvent p (choices_of plan) a kind e rest → Begun a
  by_event a kind e rest next ex event =
      elim (is_or_not (a.phases e) Running) [
        | inl runs ↦ running kind event runs
        | inr n ↦ ends_here p (choices_of plan) a (Refused (a.lines + 1) EventFault.NotRunning) rest (event.due, refl, (kind, e, event, n))
      ]
    where
      running : (kind : EventKind) → TakesEvent p (choices_of plan) a kind e rest → a.phases e ≡ Running → Begun a
      running End event runs = by_end a e rest next ex event runs
      running Fail event runs = ends_here p (choices_of plan) a (StoppedFail e) rest (event, runs)

  by_name : (a : Point) (text rest : List ℕ) (kind : EventKind) (name : List ℕ) → Next a → IsExecution p (choices_of plan) a.phases → IsDue p (choices_of plan) a.phases →
      ReadsLine a.rest Whole text rest → IsEvent text kind name → (o : Option Element) → element_named (inventory_of p) name ≡ o → Begun a
  by_name a text rest kind name next ex due line event None named =
      ends_here p (choices_of plan) a (Refused (a.lines + 1) EventFault.NoSuchName) rest (due, refl, (text, kind, name, line, event, named))
  by_name a text rest kind name next ex due line event (Some e) named =
      by_event a kind e rest next ex (record { due = due; text = text; name = name; line = line; event = event; named = named })

  by_line : (a : Point) (found : Line) (text rest : List ℕ) → Next a → IsExecution p (choices_of plan) a.phases → IsDue p (choices_of plan) a.phases → ReadsLine a.rest found text rest → Begun a
  by_line a Whole text rest next ex due line =
      elim (event_or_not text) [
        | inl f ↦ by_name a text rest f.0 f.1 next ex due line f.2 (element_named (inventory_of p) f.1) refl
        | inr none ↦ ends_here p (choices_of plan) a (Refused (a.lines + 1) EventFault.NotALine) rest (due, refl, (text, inr (line, none)))
      ]
  by_line a TooLong text rest next ex due line = ends_here p (choices_of plan) a (Refused (a.lines + 1) EventFault.TooLong) rest (due, refl, (text, line))
  by_line a Short text rest next ex due line = ends_here p (choices_of plan) a (Refused (a.lines + 1) EventFault.NotALine) rest (due, refl, (text, inl line))
  by_line a Nothing text rest next ex due line = ends_here p (choices_of plan) a StoppedEnd rest (due, (line.0, line.1, refl))

  at_point : (a : Point) → Next a → IsExecution p (choices_of plan) a.phases → Begun a
  at_point a next ex =
      elim (ready_or_quiet p plan is a.phases ex) [
        | inl f ↦ by_start a f.0 next ex f.1
        | inr quiet ↦
            elim (ended_or_not p plan is a.phases ex) [
              | inl all ↦ ends_here p (choices_of plan) a Done a.rest (all, refl)
              | inr unended ↦
                  let l = takes_line a.rest in
                  by_line a l.found l.text l.rest next ex (record { quiet = quiet; unended = unended }) l.reads
            ]
      ]

  within : (n : ℕ) (a : Point) → steps_left p a.phases ≤ n → IsExecution p (choices_of plan) a.phases → Begun a
  within zero a few ex = at_point a (λ b less. absurd (omega (arith, less, few))) ex
  within (suc n) a few ex = at_point a (λ b less. within n b (omega (arith, less, few))) ex

pub always_ends : AlwaysEnds
always_ends p plan is first ex = within p plan is (steps_left p first.phases) first (omega arith) ex

-- ---- faults

at_turn : (p : Instance) (plan : PlanChoices) → IsPlanOf p plan → (first : Point) → IsExecution p (choices_of plan) first.phases → (last : Point) (written : List ℕ) →
    Reaches p (choices_of plan) first last → written ≡ last.written → IsBegun p (choices_of plan) first written
at_turn p plan is first ex last written reached same =
    ends_after p (choices_of plan) first last written reached (subst (λ (x : List ℕ). StartsWith last.written x) (sym same) (all_of_it last.written))
    (always_ends p plan is last (turns_keep p (choices_of plan) reached.0 first last reached.1 ex))

in_start : (p : Instance) (plan : PlanChoices) → IsPlanOf p plan → (first : Point) → IsExecution p (choices_of plan) first.phases → (rest written : List ℕ) →
    StopsInStart p (choices_of plan) first rest written → IsBegun p (choices_of plan) first written
in_start p plan is first ex rest written stops =
    let last = stops.last in
    let e = stops.element in
    let step : IsStep p (choices_of plan) last.phases (Start e) (moved_to last.phases e Running) = (stops.ready.here, moves last.phases e Running) in
    let then : Point = point (moved_to last.phases e Running) last.lines last.rest (last.written ++ start_line p e) in
    let turn : IsTurn p (choices_of plan) last then = inl (record { element = e; ready = stops.ready; step = step; lines = refl; rest = refl; written = refl }) in
    let reached : Reaches p (choices_of plan) first then = (suc stops.reached.0, (last, stops.reached.1, turn)) in
    ends_after p (choices_of plan) first then written reached stops.cut (always_ends p plan is then (turns_keep p (choices_of plan) reached.0 first then reached.1 ex))

pub faults_leave_a_beginning : FaultsLeaveABeginning
faults_leave_a_beginning p plan is first ex (NotValid broken) rest written gives = absurd gives
faults_leave_a_beginning p plan is first ex ReadFault rest written gives = at_turn p plan is first ex gives.last written gives.reached gives.all
faults_leave_a_beginning p plan is first ex WriteFault rest written gives = in_start p plan is first ex rest written gives
faults_leave_a_beginning p plan is first ex Memory rest written (inl gives) = at_turn p plan is first ex gives.last written gives.reached gives.all
faults_leave_a_beginning p plan is first ex Memory rest written (inr (inl gives)) = at_turn p plan is first ex gives.last written gives.reached gives.all
faults_leave_a_beginning p plan is first ex Memory rest written (inr (inr gives)) = in_start p plan is first ex rest written gives

-- ---- safety

pub every_point_is_safe : EveryPointIsSafe
every_point_is_safe p sound plan is valid bytes written a reached =
    executions_are_safe p sound plan is valid a.phases
    (turns_keep p (choices_of plan) reached.0 (first_point (choices_of plan) bytes written) a reached.1 (begins_well p (choices_of plan)))
