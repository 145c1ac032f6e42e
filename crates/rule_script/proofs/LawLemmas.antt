-- A set that is written is read, and what is read is spelled.
use Rattle.base.proofs.Public.{◌≡◌, ◌∙◌, ℕ, ◌+◌, ◌<◌, ◌≤◌, nat_lt, List, [], ◌∷◌, ◌++◌, length, Option, Some, None, refl, sym, ap, append_assoc, arith, inl, inr, cases_Bool, lt-ltb, ltb-true}
use Rattle.cluster.specs.Prelude.{is_name}
use Rattle.rule_script.specs.Laws.{IsWritten, SetsAreExact, Stops}
use Rattle.rule_script.specs.Sets.{Set, named, span, bound, bracket, joined, Due, term_due, more_due, IsSet, IsTerm, Waiting, combined, max_open, open_in, reading, set_at, set_or, spelled}
use Rattle.rule_script.specs.declared.tokens.Operator.{Operator}
use Rattle.rule_script.specs.declared.tokens.Token.{Token}
use Rattle.rule_script.specs.declared.tokens.Token.TheVariants.{Word, Variable, Span, Sign, Opens, Closes, From, Upto, Colon, Comma, Bar, Equals, Other}

-- ---- what is written is read

operator_reads : (l : Set) (op : Operator) (k : List Waiting) (rest : List Token) → reading (more_due l) k (Sign op ∷ rest) ≡ reading (term_due (Some (l, op))) k rest
unfolding reading
operator_reads l op [] rest = refl
operator_reads l op (c ∷ k) rest = refl

-- a joined set only where nothing waits
abbrev Fits : Waiting → Set → Type 0
Fits None s = Unit {0}
Fits (Some x) s = IsTerm s

reads : (s : Set) → IsSet s → (c : Waiting) → Fits c s → (k : List Waiting) (rest : List Token) → length k + open_in s ≤ 64 → reading (term_due c) k (spelled s ++ rest) ≡ reading (more_due (combined c s)) k rest
unfolding reading
reads (named x) is c fits k rest few = rw is refl
reads (span x a b) is c fits k rest few = refl
reads (bound x) is c fits k rest few = refl
reads (bracket s) is c fits k rest few =
    let front : (spelled s ++ Closes ∷ []) ++ rest ≡ spelled s ++ (Closes ∷ rest) = append_assoc (spelled s) (Closes ∷ []) rest in
    rw (lt-ltb (length k) 64 (omega (arith, few)))
    (ap (reading (term_due None) (c ∷ k)) front ∙ reads s is None tt (c ∷ k) (Closes ∷ rest) (omega (arith, few)))
reads (joined l op r) is None fits k rest few =
    let front : (spelled l ++ Sign op ∷ spelled r) ++ rest ≡ spelled l ++ (Sign op ∷ (spelled r ++ rest)) = append_assoc (spelled l) (Sign op ∷ spelled r) rest in
    ap (reading (term_due None) k) front
    ∙ reads l is.0 None tt k (Sign op ∷ (spelled r ++ rest)) (omega (arith, few))
    ∙ operator_reads l op k (spelled r ++ rest)
    ∙ reads r is.1 (Some (l, op)) is.2 k rest (omega (arith, few))
reads (joined l op r) is (Some x) fits k rest few = absurd fits

stops_there : (s : Set) (rest : List Token) → Stops rest → reading (more_due s) [] rest ≡ Some (s, rest)
unfolding reading
stops_there s [] n = refl
stops_there s (Sign op ∷ rest) n = absurd n
stops_there s (Word x ∷ rest) n = refl
stops_there s (Variable x ∷ rest) n = refl
stops_there s (Span x a b ∷ rest) n = refl
stops_there s (Opens ∷ rest) n = refl
stops_there s (Closes ∷ rest) n = refl
stops_there s (From ∷ rest) n = refl
stops_there s (Upto ∷ rest) n = refl
stops_there s (Colon ∷ rest) n = refl
stops_there s (Comma ∷ rest) n = refl
stops_there s (Bar ∷ rest) n = refl
stops_there s (Equals ∷ rest) n = refl
stops_there s (Other ∷ rest) n = refl

written_is_read : (s : Set) (rest : List Token) → IsWritten s → Stops rest → set_at (spelled s ++ rest) ≡ Some (s, rest)
unfolding set_at
written_is_read s rest is stops = reads s is.parts None tt [] rest (omega (arith, is.few)) ∙ stops_there s rest stops

-- ---- what is read is spelled

-- the tokens of what waits, and of all that stands before what is due
abbrev of_waiting : Waiting → List Token
of_waiting None = []
of_waiting (Some x) = spelled x.0 ++ Sign x.1 ∷ []

abbrev of_stack : List Waiting → List Token
of_stack [] = []
of_stack (c ∷ k) = of_stack k ++ (of_waiting c ++ Opens ∷ [])

abbrev before : Due → List Waiting → List Token
before (term_due c) k = of_stack k ++ of_waiting c
before (more_due s) k = of_stack k ++ spelled s

-- sets that are written, with so many brackets around them
record Held (n : ℕ) (s : Set) : Type 0 where
  parts : IsSet s
  few : n + open_in s ≤ 64

abbrev WaitingHeld : ℕ → Waiting → Type 0
WaitingHeld n None = Unit {0}
WaitingHeld n (Some x) = Held n x.0

abbrev StackHeld : List Waiting → Type 0
StackHeld [] = Unit {0}
StackHeld (c ∷ k) = WaitingHeld (length k) c × StackHeld k × (length k < 64)

abbrev DueHeld : ℕ → Due → Type 0
DueHeld n (term_due c) = WaitingHeld n c
DueHeld n (more_due s) = Held n s

held_with : (n : ℕ) (c : Waiting) (t : Set) → WaitingHeld n c → Held n t → IsTerm t → Held n (combined c t)
held_with n None t waits is term = is
held_with n (Some x) t waits is term = record { parts = (waits.parts, is.parts, term); few = omega (arith, waits.few, is.few) }

spelled_with : (c : Waiting) (t : Set) → spelled (combined c t) ≡ of_waiting c ++ spelled t
spelled_with None t = refl
spelled_with (Some x) t = sym (append_assoc (spelled x.0) (Sign x.1 ∷ []) (spelled t))

-- a term after what waits
after_term : (k : List Waiting) (c : Waiting) (t : Set) (ts : List Token) → (of_stack k ++ spelled (combined c t)) ++ ts ≡ (of_stack k ++ of_waiting c) ++ (spelled t ++ ts)
after_term k c t ts =
    let text = spelled_with c t in
    rw text (ap (λ (l : List Token). l ++ ts) (sym (append_assoc (of_stack k) (of_waiting c) (spelled t))) ∙ append_assoc (of_stack k ++ of_waiting c) (spelled t) ts)

record Read (ts : List Token) (s : Set) (rest : List Token) : Type 0 where
  parts : IsSet s
  few : open_in s ≤ 64
  stops : Stops rest
  text : ts ≡ spelled s ++ rest

again : (ts same : List Token) (s : Set) (rest : List Token) → same ≡ ts → Read same s rest → Read ts s rest
again ts same s rest is read = record { parts = read.parts; few = read.few; stops = read.stops; text = sym is ∙ read.text }

stack_few : (k : List Waiting) → StackHeld k → length k ≤ 64
stack_few [] held = omega arith
stack_few (c ∷ k) held = let few = held.2 in omega arith

glued : (a b ts : List Token) (t : Token) → (a ++ (b ++ t ∷ [])) ++ ts ≡ (a ++ b) ++ (t ∷ ts)
glued a b ts t = simp append_assoc

opened : (a b ts : List Token) (t : Token) → ((a ++ (b ++ t ∷ [])) ++ []) ++ ts ≡ (a ++ b) ++ (t ∷ ts)
opened a b ts t = simp append_assoc

closed : (a w b ts : List Token) (o c : Token) → (a ++ w) ++ ((o ∷ (b ++ c ∷ [])) ++ ts) ≡ ((a ++ (w ++ o ∷ [])) ++ b) ++ (c ∷ ts)
closed a w b ts o c = simp append_assoc

abbrev rest_or : Option (Set × List Token) → List Token
rest_or None = []
rest_or (Some found) = found.1

ended : (s t : Set) (ts rest : List Token) → Held 0 s → Stops ts → ◌≡◌ {A = Option (Set × List Token)} (Some (s, ts)) (Some (t, rest)) → Read (spelled s ++ ts) t rest
ended s t ts rest held stops is =
    let set : s ≡ t = ap set_or is in
    let left : ts ≡ rest = ap rest_or is in
    let few : open_in s ≤ 64 = omega (arith, held.few) in
    record {
      parts = rw set at held.parts;
      few = rw set at few;
      stops = rw left at stops;
      text = ap (λ (x : Set). spelled x ++ ts) set ∙ ap (λ (l : List Token). spelled t ++ l) left;
    }

spells : (d : Due) (k : List Waiting) (ts rest : List Token) (s : Set) → StackHeld k → DueHeld (length k) d → reading d k ts ≡ Some (s, rest) → Read (before d k ++ ts) s rest
unfolding reading
spells (term_due c) k [] rest s held due is = absurd (cc)
spells (term_due c) k (Word x ∷ ts) rest s held due is = elim (cases_Bool (is_name x)) [
  | inl good ↦
      let on : reading (more_due (combined c (named x))) k ts ≡ Some (s, rest) = rw good at is in
      let few = stack_few k held in
      again _ _ s rest (after_term k c (named x) ts)
      (spells (more_due (combined c (named x))) k ts rest s held (held_with (length k) c (named x) due (record { parts = good; few = omega arith }) tt) on)
  | inr bad ↦ let none : ◌≡◌ {A = Option (Set × List Token)} None (Some (s, rest)) = rw bad at is in absurd (cc)
]
spells (term_due c) k (Span x a b ∷ ts) rest s held due is =
    let few = stack_few k held in
    again _ _ s rest (after_term k c (span x a b) ts)
    (spells (more_due (combined c (span x a b))) k ts rest s held (held_with (length k) c (span x a b) due (record { parts = tt; few = omega arith }) tt) is)
spells (term_due c) k (Variable x ∷ ts) rest s held due is =
    let few = stack_few k held in
    again _ _ s rest (after_term k c (bound x) ts)
    (spells (more_due (combined c (bound x))) k ts rest s held (held_with (length k) c (bound x) due (record { parts = tt; few = omega arith }) tt) is)
spells (term_due c) k (Opens ∷ ts) rest s held due is = elim (cases_Bool (nat_lt (length k) max_open)) [
  | inl few ↦
      let on : reading (term_due None) (c ∷ k) ts ≡ Some (s, rest) = rw few at is in
      again _ _ s rest (opened (of_stack k) (of_waiting c) ts Opens)
      (spells (term_due None) (c ∷ k) ts rest s (due, held, ltb-true (length k) 64 few) tt on)
  | inr many ↦ let none : ◌≡◌ {A = Option (Set × List Token)} None (Some (s, rest)) = rw many at is in absurd (cc)
]
spells (term_due c) k (Sign op ∷ ts) rest s held due is = absurd (cc)
spells (term_due c) k (Closes ∷ ts) rest s held due is = absurd (cc)
spells (term_due c) k (From ∷ ts) rest s held due is = absurd (cc)
spells (term_due c) k (Upto ∷ ts) rest s held due is = absurd (cc)
spells (term_due c) k (Colon ∷ ts) rest s held due is = absurd (cc)
spells (term_due c) k (Comma ∷ ts) rest s held due is = absurd (cc)
spells (term_due c) k (Bar ∷ ts) rest s held due is = absurd (cc)
spells (term_due c) k (Equals ∷ ts) rest s held due is = absurd (cc)
spells (term_due c) k (Other ∷ ts) rest s held due is = absurd (cc)
spells (more_due t) [] [] rest s held due is = ended t s [] rest due tt is
spells (more_due t) [] (Sign op ∷ ts) rest s held due is = again _ _ s rest (glued [] (spelled t) ts (Sign op)) (spells (term_due (Some (t, op))) [] ts rest s held due is)
spells (more_due t) [] (Word x ∷ ts) rest s held due is = ended t s (Word x ∷ ts) rest due tt is
spells (more_due t) [] (Variable x ∷ ts) rest s held due is = ended t s (Variable x ∷ ts) rest due tt is
spells (more_due t) [] (Span x a b ∷ ts) rest s held due is = ended t s (Span x a b ∷ ts) rest due tt is
spells (more_due t) [] (Opens ∷ ts) rest s held due is = ended t s (Opens ∷ ts) rest due tt is
spells (more_due t) [] (Closes ∷ ts) rest s held due is = ended t s (Closes ∷ ts) rest due tt is
spells (more_due t) [] (From ∷ ts) rest s held due is = ended t s (From ∷ ts) rest due tt is
spells (more_due t) [] (Upto ∷ ts) rest s held due is = ended t s (Upto ∷ ts) rest due tt is
spells (more_due t) [] (Colon ∷ ts) rest s held due is = ended t s (Colon ∷ ts) rest due tt is
spells (more_due t) [] (Comma ∷ ts) rest s held due is = ended t s (Comma ∷ ts) rest due tt is
spells (more_due t) [] (Bar ∷ ts) rest s held due is = ended t s (Bar ∷ ts) rest due tt is
spells (more_due t) [] (Equals ∷ ts) rest s held due is = ended t s (Equals ∷ ts) rest due tt is
spells (more_due t) [] (Other ∷ ts) rest s held due is = ended t s (Other ∷ ts) rest due tt is
spells (more_due t) (c ∷ k) [] rest s held due is = absurd (cc)
spells (more_due t) (c ∷ k) (Sign op ∷ ts) rest s held due is = again _ _ s rest (glued (of_stack (c ∷ k)) (spelled t) ts (Sign op)) (spells (term_due (Some (t, op))) (c ∷ k) ts rest s held due is)
spells (more_due t) (c ∷ k) (Closes ∷ ts) rest s held due is =
    again _ _ s rest (after_term k c (bracket t) ts ∙ closed (of_stack k) (of_waiting c) (spelled t) ts Opens Closes)
    (spells (more_due (combined c (bracket t))) k ts rest s held.1 (held_with (length k) c (bracket t) held.0 (record { parts = due.parts; few = omega (arith, due.few) }) tt) is)
spells (more_due t) (c ∷ k) (Word x ∷ ts) rest s held due is = absurd (cc)
spells (more_due t) (c ∷ k) (Variable x ∷ ts) rest s held due is = absurd (cc)
spells (more_due t) (c ∷ k) (Span x a b ∷ ts) rest s held due is = absurd (cc)
spells (more_due t) (c ∷ k) (Opens ∷ ts) rest s held due is = absurd (cc)
spells (more_due t) (c ∷ k) (From ∷ ts) rest s held due is = absurd (cc)
spells (more_due t) (c ∷ k) (Upto ∷ ts) rest s held due is = absurd (cc)
spells (more_due t) (c ∷ k) (Colon ∷ ts) rest s held due is = absurd (cc)
spells (more_due t) (c ∷ k) (Comma ∷ ts) rest s held due is = absurd (cc)
spells (more_due t) (c ∷ k) (Bar ∷ ts) rest s held due is = absurd (cc)
spells (more_due t) (c ∷ k) (Equals ∷ ts) rest s held due is = absurd (cc)
spells (more_due t) (c ∷ k) (Other ∷ ts) rest s held due is = absurd (cc)

read_is_written : (ts rest : List Token) (s : Set) → set_at ts ≡ Some (s, rest) → IsWritten s × Stops rest × (ts ≡ spelled s ++ rest)
unfolding set_at
read_is_written ts rest s is =
    let read = spells (term_due None) [] ts rest s tt tt is in
    (record { parts = read.parts; few = read.few }, read.stops, read.text)

pub sets_are_exact : SetsAreExact
sets_are_exact = record { read = written_is_read; spelled = read_is_written }
