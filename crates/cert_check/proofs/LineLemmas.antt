-- The lines of a text that was written are the steps and the goal of its tree, and nothing else is read of it.
use Rattle.cert_check.proofs.Prelude.{◌≡◌, ◌∙◌, ℕ, ◌==◌, Bool, true, false, List, [], ◌∷◌, ◌++◌, drop, length, map, Some, Result, Ok, Err, refl, sym, ap, subst, if◌then◌else◌, AreSteps, as_line, End, end_at, end_of, Faults, first_line_at, header_bytes, Instance, is_end, IsInstance, IsOutside, line_at, LineFault, lines_of, LineText, named_step, NotALine, Over, Position, position_after, ReadFault, ReadsOn, Short, step_text, StepText, text_at, TooLong, turn, Goal, Step}
use Rattle.cert_check.proofs.WrittenLemmas.{AreNamedSteps, all_here, first_named}
use Rattle.cert_check.specs.Prelude.{Step as StepLine}
use Rattle.cert_text.specs.declared.text.LineText.TheVariants.{Step as StepLineText, End as EndText}
use Rattle.cert_read.specs.declared.line.{Line.Line, LineFault.TheVariants.Memory}

-- ---- where the file is over, the position stays

abbrev Read : Type 0
Read = Result (Line × Position) LineFault

-- the line and the position, or others where there is a fault
abbrev line_in : Line → Read → Line
line_in other (Ok read) = read.0
line_in other (Err fault) = other

abbrev place_in : Position → Read → Position
place_in other (Ok read) = read.1
place_in other (Err fault) = other

one_read : (a b : Line) (at now : Position) (read : Read) → read ≡ Ok (a, at) → read ≡ Ok (b, now) → (a ≡ b) × (at ≡ now)
one_read a b at now read here there =
    let same : Path Read (Ok (a, at)) (Ok (b, now)) = sym here ∙ there in
    (ap (line_in a) same, ap (place_in at) same)

no_over : (at now : Position) (text : Result (LineText × ℕ) LineFault) (read : Read) → ((found : LineText × ℕ) → text ≡ Ok found → read ≡ Ok (as_line found.0, position_after at found.1 (is_end found.0))) → ((fault : LineFault) → text ≡ Err fault → read ≡ Err fault) →
    read ≡ Ok (Over, now) → ⊥
no_over at now (Ok (StepLineText step, count)) read some none over =
    let same = (one_read (StepLine step) Over (position_after at count false) now read (some (StepLineText step, count) refl) over).0 in absurd (cc)
no_over at now (Ok (EndText goal, count)) read some none over =
    let same = (one_read (End goal) Over (position_after at count true) now read (some (EndText goal, count) refl) over).0 in absurd (cc)
no_over at now (Err fault) read some none over = let same : Path Read (Err fault) (Ok (Over, now)) = sym (none fault refl) ∙ over in absurd (cc)

line_is_not_over : (file : List ℕ) (at now : Position) → line_at file at ≡ Ok (Over, now) → ⊥
unfolding line_at
line_is_not_over file at now over = no_over at now (text_at file at) (line_at file at) (λ found is. rw is refl) (λ fault is. rw is refl) over

first_is_not_over : (file : List ℕ) (at now : Position) → first_line_at file at ≡ Ok (Over, now) → ⊥
unfolding first_line_at
first_is_not_over file at now over = by (header_bytes (drop at.place file)) refl
  where
    by : (bytes : Result (List ℕ) LineFault) → header_bytes (drop at.place file) ≡ bytes → ⊥
    by (Ok bytes) is = line_is_not_over file (position_after at (length bytes) false) now (rw is at over)
    by (Err fault) is = let same = rw is at over in absurd (cc)

end_stays : (at now : Position) (rest : List ℕ) → end_of at rest ≡ Ok (Over, now) → now ≡ at
end_stays at now [] over = sym (ap (place_in at) over)
end_stays at now (b ∷ rest) over = absurd (cc)

pub over_stays : (file : List ℕ) (at now : Position) → turn file at ≡ Ok (Over, now) → now ≡ at
unfolding turn end_at
over_stays file at now over = by at.ended (at.lines == 0) over
  where
    by : (ended first : Bool) → (if ended then end_at file at else if first then first_line_at file at else line_at file at) ≡ Ok (Over, now) → now ≡ at
    by true first h = end_stays at now (drop at.place file) h
    by false true h = absurd (first_is_not_over file at now h)
    by false false h = absurd (line_is_not_over file at now h)

-- ---- the lines that were written are read

-- all steps, then the goal, and then nothing
pub record AreReadUp (p : Instance) (file : List ℕ) (goal : Goal) (at : Position) (steps : List Step) : Type 0 where
  pub last : Position
  pub next : Position
  pub read : AreSteps file at (map (step_text p) steps) last
  pub ends : turn file last ≡ Ok (End goal, next)
  pub over : turn file next ≡ Ok (Over, next)

pub read_up : (p : Instance) (file : List ℕ) (goal : Goal) (at : Position) (steps : List Step) → ReadsOn file at (lines_of p steps goal) → AreReadUp p file goal at steps
read_up p file goal at [] (next, ends, (after, over, done)) =
    record { last = at; next = next; read = refl; ends = ends; over = over ∙ ap (λ k. Ok (Over, k)) (over_stays file next after over) }
read_up p file goal at (step ∷ steps) (next, first, others) =
    let rest = read_up p file goal next steps others in
    record { last = rest.last; next = rest.next; read = (next, first, rest.read); ends = rest.ends; over = rest.over }

-- ---- and nothing else

-- what was read are the first of the steps, and the others are still to be read
pub record IsFront (p : Instance) (file : List ℕ) (goal : Goal) (steps : List Step) (texts : List StepText) (now : Position) : Type 0 where
  pub front : List Step
  pub rest : List Step
  pub whole : steps ≡ front ++ rest
  pub texts_are : texts ≡ map (step_text p) front
  pub reads : ReadsOn file now (lines_of p rest goal)

pub front_read : (p : Instance) (file : List ℕ) (goal : Goal) (texts : List StepText) (steps : List Step) (at now : Position) → ReadsOn file at (lines_of p steps goal) → AreSteps file at texts now → IsFront p file goal steps texts now
front_read p file goal [] steps at now reads same = record { front = []; rest = steps; whole = refl; texts_are = refl; reads = subst (λ k. ReadsOn file k (lines_of p steps goal)) (sym same) reads }
front_read p file goal (text ∷ texts) [] at now (next, ends, after) (there, step, others) =
    let same = (one_read (StepLine text) (End goal) there next (turn file at) step ends).0 in absurd (cc)
front_read p file goal (text ∷ texts) (first ∷ steps) at now (next, line, reads) (there, step, others) =
    let same = one_read (StepLine text) (StepLine (step_text p first)) there next (turn file at) step line in
    let line_same : StepLine text ≡ StepLine (step_text p first) = same.0 in
    let one : text ≡ step_text p first = cc in
    let rest = front_read p file goal texts steps next now reads (subst (λ k. AreSteps file k texts now) same.1 others) in
    record {
      front = first ∷ rest.front;
      rest = rest.rest;
      whole = ap (λ k. first ∷ k) rest.whole;
      texts_are = ap (λ k. k ∷ texts) one ∙ ap (λ k. step_text p first ∷ k) rest.texts_are;
      reads = rest.reads;
    }

-- a step that is read next is the next one, and the goal is read after the last
pub step_next : (p : Instance) (file : List ℕ) (goal : Goal) (rest : List Step) (at : Position) (text : StepText) (next : Position) → ReadsOn file at (lines_of p rest goal) → turn file at ≡ Ok (StepLine text, next) →
    (step : Step) × (more : List Step) × (rest ≡ step ∷ more) × (text ≡ step_text p step)
step_next p file goal [] at text next (there, ends, after) read = let same = (one_read (StepLine text) (End goal) next there (turn file at) read ends).0 in absurd (cc)
step_next p file goal (step ∷ more) at text next (there, line, reads) read =
    let same = (one_read (StepLine text) (StepLine (step_text p step)) next there (turn file at) read line).0 in
    (step, more, refl, cc)

pub goal_next : (p : Instance) (file : List ℕ) (goal : Goal) (rest : List Step) (at : Position) (said : Goal) (next : Position) → ReadsOn file at (lines_of p rest goal) → turn file at ≡ Ok (End said, next) →
    (rest ≡ []) × (said ≡ goal) × (turn file next ≡ Ok (Over, next))
goal_next p file goal [] at said next (there, ends, (after, over, done)) read =
    let same = one_read (End said) (End goal) next there (turn file at) read ends in
    let here : turn file next ≡ Ok (Over, after) = subst (λ k. turn file k ≡ Ok (Over, after)) (sym same.1) over in
    let goals : End said ≡ End goal = same.0 in
    (refl, cc, here ∙ ap (λ k. Ok (Over, k)) (over_stays file next after here))
goal_next p file goal (step ∷ more) at said next (there, line, reads) read = let same = (one_read (End said) (StepLine (step_text p step)) next there (turn file at) read line).0 in absurd (cc)

-- ---- no fault

pub no_fault : (fault : LineFault) (read : Read) (line : Line) (now : Position) → read ≡ Ok (line, now) → Faults fault read → IsOutside fault
no_fault (NotALine n) read line now is faults = let same : Path Read (Ok (line, now)) (Err (NotALine n)) = sym is ∙ faults in absurd (cc)
no_fault (TooLong n) read line now is faults = let same : Path Read (Ok (line, now)) (Err (TooLong n)) = sym is ∙ faults in absurd (cc)
no_fault Short read line now is faults = let same : Path Read (Ok (line, now)) (Err Short) = sym is ∙ faults in absurd (cc)
no_fault ReadFault read line now is faults = tt
no_fault Memory read line now is faults = tt

-- each line that is still to be read can be read
pub no_fault_here : (p : Instance) (file : List ℕ) (goal : Goal) (rest : List Step) (at : Position) (fault : LineFault) → ReadsOn file at (lines_of p rest goal) → Faults fault (turn file at) → IsOutside fault
no_fault_here p file goal [] at fault (there, ends, after) faults = no_fault fault (turn file at) (End goal) there ends faults
no_fault_here p file goal (step ∷ more) at fault (there, line, reads) faults = no_fault fault (turn file at) (StepLine (step_text p step)) there line faults

-- ---- the steps that are named are those that were written

some_same : {A : Type 0} (xs ys : List A) → map (λ x. Some x) xs ≡ map (λ y. Some y) ys → xs ≡ ys
some_same [] [] same = refl
some_same [] (y ∷ ys) same = absurd (cc)
some_same (x ∷ xs) [] same = absurd (cc)
some_same (x ∷ xs) (y ∷ ys) same =
    let first : x ≡ y = cc in
    let rest : map (λ k. Some k) xs ≡ map (λ k. Some k) ys = cc in
    ap (λ k. k ∷ xs) first ∙ ap (λ k. y ∷ k) (some_same xs ys rest)

pub front_named : (p : Instance) (is : IsInstance p) (steps front rest named : List Step) (texts : List StepText) → AreNamedSteps p steps → steps ≡ front ++ rest → texts ≡ map (step_text p) front →
    map (named_step p) texts ≡ map (λ step. Some step) named → named ≡ front
front_named p is steps front rest named texts all whole texts_are named_are =
    let here = first_named p front rest (subst (AreNamedSteps p) whole all) in
    some_same named front (sym named_are ∙ ap (map (named_step p)) texts_are ∙ all_here p is front here)
