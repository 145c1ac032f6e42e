-- One more line.
use Rattle.cert_check.proofs.Prelude.{map, Result, Err, MatchOption, if◌then◌else◌, ◌≡◌, inl, inr, ℕ, ◌<◌, ◌==◌, Bool, true, false, List, [], ◌∷◌, ◌++◌, drop, Option, Some, None, Ok, IsErrAnd, refl, sym, ap, subst, ◌∙◌, arith, length-append, map-append, AreSteps, bytes_of, Concludes, End, end_at, end_of, Ends, Faults, first_line_at, Instance, IsEndWhy, IsLeast, IsMoved, IsProof, IsShown, IsTaken, IsTextWhy, IsUnderway, Kept, least_along, Line, line_at, LineFault, named_step, No, Over, Position, shown, start, StepText, TextAnswers, turn, Why, Yes, Goal, Step}
use Rattle.cert_check.specs.Prelude.{Step as StepLine}
use Rattle.cert_read.specs.declared.line.Line.{Line as ALine}
use Rattle.cert_check.specs.declared.lines.Going.{Going}
use Rattle.cert_check.specs.declared.lines.Going.TheVariants.{GoesOn, Ends as Decides}
use Rattle.cert_check.specs.declared.verdict.Verdict.{Verdict}
use Rattle.std.proofs.Common.{◌≢◌}
use Rattle.cert_check.specs.Prelude.{TurnGives}

-- ---- one more step that was read

steps_more : (file : List ℕ) (at : Position) (texts : List StepText) (mid : Position) (text : StepText) (next : Position) → AreSteps file at texts mid → turn file mid ≡ Ok (StepLine text, next) → AreSteps file at (texts ++ text ∷ []) next
steps_more file at [] mid text next same read = (next, subst (λ k. turn file k ≡ Ok (StepLine text, next)) same read, refl)
steps_more file at (first ∷ texts) mid text next (after, first_read, rest) read = (after, first_read, steps_more file after texts mid text next rest read)

named_more : (p : Instance) (texts : List StepText) (steps : List Step) (text : StepText) (step : Step) → map (named_step p) texts ≡ map (λ s. Some s) steps → named_step p text ≡ Some step →
    map (named_step p) (texts ++ text ∷ []) ≡ map (λ s. Some s) (steps ++ step ∷ [])
named_more p texts steps text step all one =
    map-append (named_step p) texts (text ∷ [])
    ∙ ap (λ k. k ++ named_step p text ∷ []) all
    ∙ ap (λ k. map (λ s. Some s) steps ++ k ∷ []) one
    ∙ sym (map-append (λ s. Some s) steps (step ∷ []))

module _ (p : Instance) (bound : Option ℕ) (strict : Bool) (tells : Type 0) (file : List ℕ) (at : Position) (w : Kept) (u : IsUnderway p bound strict tells file at w) where
  pub underway_next : (next : Position) (text : StepText) (new : Kept) (answer : Option Why) → (tells → turn file at ≡ Ok (StepLine text, next)) → at.place < next.place → next.ended ≡ false → TextAnswers p w new text answer → answer ≡ None → IsUnderway p bound strict tells file next new
  underway_next next text new answer read later going answers none =
      let t : IsTaken p bound strict u.steps text new = subst (λ o. MatchOption o (IsTaken p bound strict u.steps text new) (IsTextWhy p bound strict u.steps text)) none (answers bound strict u.steps u.stands) in
      record {
        steps = u.steps ++ t.step ∷ [];
        stands = t.stands;
        few = omega (arith, u.few, later, length-append u.steps (t.step ∷ []));
        going_on = going;
        taken = λ told. let k = u.taken told in record {
          texts = k.texts ++ text ∷ [];
          read = steps_more file start k.texts at text next k.read (read told);
          named = named_more p k.texts u.steps text t.step k.named t.named;
          open_sets = _;
          leads = t.stands.leads;
        };
      }

  -- a step that is refused
  pub step_refused : (next : Position) (text : StepText) (new : Kept) (answer : Option Why) (why : Why) (line : ℕ) → (tells → turn file at ≡ Ok (StepLine text, next)) → TextAnswers p w new text answer → answer ≡ Some why → line ≡ next.lines → Concludes p bound strict tells file (Ok (No line why))
  step_refused next text new answer why line read answers is number =
      let refused : IsTextWhy p bound strict u.steps text why = subst (λ o. MatchOption o (IsTaken p bound strict u.steps text new) (IsTextWhy p bound strict u.steps text)) is (answers bound strict u.steps u.stands) in
      (λ told. inl (record { steps = u.steps; at = at; taken = u.taken told; text = text; next = next; read = read told; number = number; refused = refused }), tt)

  -- ---- the end

  shown_here : (next : Position) (goal : Goal) (answer : Option Why) → (tells → turn file at ≡ Ok (End goal, next)) → Ends p w goal answer → answer ≡ None → tells → IsShown p bound strict file goal (least_along p bound u.steps) next
  shown_here next goal answer read ends none told =
      let both : IsProof p bound strict u.steps × (goal ≡ shown bound u.steps) = subst (λ o. MatchOption o (IsProof p bound strict u.steps × (goal ≡ shown bound u.steps)) (IsEndWhy p bound strict u.steps goal)) none (ends bound strict u.steps u.stands) in
      record { steps = u.steps; at = at; taken = u.taken told; read = read told; proof = both.0; shows = both.1; least_is = refl }

  -- something that cannot be read follows the goal
  pub fault_after : (next : Position) (goal : Goal) (answer : Option Why) (fault : LineFault) → (tells → turn file at ≡ Ok (End goal, next)) → Ends p w goal answer → answer ≡ None → (tells → Faults fault (turn file next)) → Concludes p bound strict tells file (Err (Line fault))
  fault_after next goal answer fault read ends none after told =
      inr (record { goal = goal; least = least_along p bound u.steps; next = next; shown_there = shown_here next goal answer read ends none told; read = after told })

  pub yes_here : (next : Position) (goal : Goal) (answer : Option Why) (least : Option ℕ) → (tells → turn file at ≡ Ok (End goal, next)) → Ends p w goal answer → answer ≡ None → IsLeast p w least → (tells → turn file next ≡ Ok (Over, next)) → Concludes p bound strict tells file (Ok (Yes goal least))
  yes_here next goal answer least read ends none is_least over =
      let both : IsProof p bound strict u.steps × (goal ≡ shown bound u.steps) = subst (λ o. MatchOption o (IsProof p bound strict u.steps × (goal ≡ shown bound u.steps)) (IsEndWhy p bound strict u.steps goal)) none (ends bound strict u.steps u.stands) in
      let same = is_least bound strict u.steps u.stands in (
        λ told. record {
          next = next;
          shown_there = subst (λ o. IsShown p bound strict file goal o next) (sym same) (shown_here next goal answer read ends none told);
          over = over told;
        },
        record { steps = u.steps; proof = both.0; shows = both.1; least_is = same },
      )

-- after the end line nothing but the end of the file is read
nothing_at_end : (file : List ℕ) (at : Position) (line : ALine) (now : Position) → end_at file at ≡ Ok (line, now) → end_at file at ≡ Ok (Over, at)
unfolding end_at
nothing_at_end file at line now read = by (drop at.place file) read
  where
    by : (rest : List ℕ) → end_of at rest ≡ Ok (line, now) → end_of at rest ≡ Ok (Over, at)
    by [] h = refl
    by (b ∷ rest) h = absurd (cc)

turn_at_end : (file : List ℕ) (at : Position) → at.ended ≡ true → turn file at ≡ end_at file at
unfolding turn
turn_at_end file at ended = ap (λ b. if b then end_at file at else if at.lines == 0 then first_line_at file at else line_at file at) ended

pub nothing_follows : (tells : Type 0) (file there : List ℕ) (at : Position) (line : ALine) (now : Position) → (tells → file ≡ there) → at.ended ≡ true → (tells → turn there at ≡ Ok (line, now)) → tells → turn file at ≡ Ok (Over, at)
nothing_follows tells file there at line now same ended read told =
    let here : turn file at ≡ Ok (line, now) = ap (λ f. turn f at) (same told) ∙ read told in
    turn_at_end file at ended ∙ nothing_at_end file at line now (sym (turn_at_end file at ended) ∙ here)

-- ---- what a call read, of the file as it was at first

pub line_as : (tells : Type 0) (file there : List ℕ) (at : Position) (line known : ALine) (now : Position) → (tells → file ≡ there) → (tells → turn there at ≡ Ok (line, now)) → line ≡ known → tells → turn file at ≡ Ok (known, now)
line_as tells file there at line known now same read is told = ap (λ f. turn f at) (same told) ∙ read told ∙ ap (λ l. Ok (l, now)) is

pub faults_as : (tells : Type 0) (file there : List ℕ) (at : Position) (fault : LineFault) → (tells → file ≡ there) → (tells → Faults fault (turn there at)) → tells → Faults fault (turn file at)
faults_as tells file there at fault same read told = subst (λ f. Faults fault (turn f at)) (sym (same told)) (read told)

pub file_kept : (tells : Type 0) (file : List ℕ) (old new : List ℕ → Option (List ℕ)) (name known : List ℕ) → (tells → file ≡ bytes_of (old name)) → (tells → new ≡ old) → known ≡ name → tells → file ≡ bytes_of (new known)
file_kept tells file old new name known same files named told = same told ∙ sym (ap (λ k. bytes_of (k name)) (files told)) ∙ sym (ap (λ k. bytes_of (new k)) named)

pub moved_step : (old new : Position) (line : ALine) (text : StepText) → line ≡ StepLine text → IsMoved old new line → (old.place < new.place) × (new.ended ≡ false)
moved_step old new line text is moved = let m = subst (IsMoved old new) is moved in (m.0, m.2)

-- an error that is handed on
pub error_is : {A E : Type 0} (r : Result A E) (e : E) → IsErrAnd r (λ x. x ≡ e) → r ≡ Err e
error_is (Ok a) e h = absurd h
error_is (Err x) e h = ap (λ k. Err k) h

-- ---- a line that does not decide

pub goes_on : (p : Instance) (bound : Option ℕ) (strict : Bool) (tells : Type 0) (file : List ℕ) (at : Position) (w : Kept) (t : Going) → ((verdict : Verdict) → t ≢ Decides verdict) → TurnGives p bound strict tells file at w (Ok t) → IsUnderway p bound strict tells file at w
goes_on p bound strict tells file at w GoesOn stays said = said
goes_on p bound strict tells file at w (Decides verdict) stays said = absurd (stays verdict refl)
