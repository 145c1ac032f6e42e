-- Two endings of one text of event lines are the same.
use Rattle.base.proofs.Public.{◌≡◌, ◌≢◌, ◌⊎◌, inl, inr, ℕ, zero, suc, ◌+◌, List, [], ◌∷◌, ◌++◌, Some, None, refl, sym, ap, subst, ◌∙◌, arith, cases_eq}
use Rattle.cluster.specs.declared.ids.Element.{Element, TheVariants.Node as TheNode, TheVariants.Vm}
use Rattle.event_lines.specs.Lines.{ReadsLine}
use Rattle.event_lines.specs.declared.{faults.EventFault.EventFault, lines.Line.Line, lines.Line.TheVariants.Nothing, lines.Line.TheVariants.Short, lines.Line.TheVariants.TooLong, lines.Line.TheVariants.Whole}
use Rattle.event_lines.proofs.Public.{line_is_one}
use Rattle.slices.specs.Prelude.{Choices, element_named, Instance, inventory_of}
use Rattle.executor.specs.Prelude.{IsStep, MayStart, Moves, Phases}
use Rattle.executor.specs.declared.phase.Phase.{Phase, TheVariants.Ended, TheVariants.Failed, TheVariants.Running}
use Rattle.repair.specs.Events.{EndsAt, event_of, IsEvent, IsRefused, IsTurn, IsWrong, Point, Tells, Turns, word_text}
use Rattle.repair.specs.Laws.{EndingIsOne}
use Rattle.repair.specs.declared.following.Ending.{Ending, TheVariants.AllRead, TheVariants.Refused}
use Rattle.repair.specs.declared.words.Word.{Word, TheVariants.Start, TheVariants.End, TheVariants.Fail}

-- ---- a text says one event

first_byte : (a b : ℕ) (xs ys : List ℕ) → (a ∷ xs) ≡ (b ∷ ys) → a ≡ b
first_byte a b xs ys q = cc

after_start : (xs ys : List ℕ) → (115 ∷ 116 ∷ 97 ∷ 114 ∷ 116 ∷ 32 ∷ xs) ≡ (115 ∷ 116 ∷ 97 ∷ 114 ∷ 116 ∷ 32 ∷ ys) → xs ≡ ys
after_start xs ys q = cc

after_end : (xs ys : List ℕ) → (101 ∷ 110 ∷ 100 ∷ 32 ∷ xs) ≡ (101 ∷ 110 ∷ 100 ∷ 32 ∷ ys) → xs ≡ ys
after_end xs ys q = cc

after_fail : (xs ys : List ℕ) → (102 ∷ 97 ∷ 105 ∷ 108 ∷ 32 ∷ xs) ≡ (102 ∷ 97 ∷ 105 ∷ 108 ∷ 32 ∷ ys) → xs ≡ ys
after_fail xs ys q = cc

words_differ : {X : Type 0} (a b : ℕ) (xs ys : List ℕ) → a ≢ b → (a ∷ xs) ≡ (b ∷ ys) → X
words_differ a b xs ys other q = absurd (other (first_byte a b xs ys q))

same_words : (word other : Word) (name name' : List ℕ) → word_text word ++ name ≡ word_text other ++ name' → (word ≡ other) × (name ≡ name')
same_words Start Start name name' q = (refl, after_start name name' q)
same_words Start End name name' q = words_differ 115 101 _ _ (λ h. omega (arith, h)) q
same_words Start Fail name name' q = words_differ 115 102 _ _ (λ h. omega (arith, h)) q
same_words End Start name name' q = words_differ 101 115 _ _ (λ h. omega (arith, h)) q
same_words End End name name' q = (refl, after_end name name' q)
same_words End Fail name name' q = words_differ 101 102 _ _ (λ h. omega (arith, h)) q
same_words Fail Start name name' q = words_differ 102 115 _ _ (λ h. omega (arith, h)) q
same_words Fail End name name' q = words_differ 102 101 _ _ (λ h. omega (arith, h)) q
same_words Fail Fail name name' q = (refl, after_fail name name' q)

same_event : (text : List ℕ) (word other : Word) (name name' : List ℕ) → IsEvent text word name → IsEvent text other name' → (word ≡ other) × (name ≡ name')
same_event text word other name name' a b = same_words word other name name' (sym a.says ∙ b.says)

tells_one : (p : Instance) (text : List ℕ) (word other : Word) (e e' : Element) → Tells p text word e → Tells p text other e' → (word ≡ other) × (e ≡ e')
tells_one p text word other e e' a b =
    let same = same_event text word other a.name b.name a.event b.event in
    let named : Some e ≡ Some e' = sym a.named ∙ ap (element_named (inventory_of p)) same.1 ∙ b.named in
    (same.0, cc)

-- ---- a line that is wrong has one fault, and does nothing

-- what is wrong with an event that cannot be
abbrev fault_of : Word → EventFault
fault_of Start = EventFault.NotReady
fault_of End = EventFault.NotRunning
fault_of Fail = EventFault.NotRunning

-- an action may not start, or does not run
abbrev Cannot : Instance → Choices → Phases → Word → Element → Type 0
Cannot p plan phases Start e = ¬ MayStart p plan phases e
Cannot p plan phases End e = phases e ≢ Running
Cannot p plan phases Fail e = phases e ≢ Running

module _ (p : Instance) (plan : Choices) (phases : Phases) (text : List ℕ) where
  data Wrong (f : EventFault) : Type 0 where
    NoEvent : f ≡ EventFault.NotALine → ((word : Word) (name : List ℕ) → ¬ IsEvent text word name) → Wrong f
    NoName : f ≡ EventFault.NoSuchName → (word : Word) (name : List ℕ) → IsEvent text word name → element_named (inventory_of p) name ≡ None → Wrong f
    NoStep : (word : Word) (e : Element) → f ≡ fault_of word → Tells p text word e → Cannot p plan phases word e → Wrong f

  wrong : (f : EventFault) → IsWrong p plan phases text f → Wrong f
  wrong EventFault.NotALine h = NoEvent refl h
  wrong EventFault.TooLong h = absurd h
  wrong EventFault.NoSuchName h = NoName refl h.0 h.1 h.2 h.3
  wrong EventFault.NotReady h = NoStep Start h.0 refl h.1 h.2
  wrong EventFault.NotRunning (e, inl tells, still) = NoStep End e refl tells still
  wrong EventFault.NotRunning (e, inr tells, still) = NoStep Fail e refl tells still

  named_or_not : {X : Type 0} (word other : Word) (name : List ℕ) (e : Element) → IsEvent text word name → element_named (inventory_of p) name ≡ None → Tells p text other e → X
  named_or_not word other name e event none tells =
      let same = same_event text word other name tells.name event tells.event in
      let named : None ≡ Some e = sym none ∙ ap (element_named (inventory_of p)) same.1 ∙ tells.named in
      absurd (cc)

  one_fault : (f g : EventFault) → Wrong f → Wrong g → f ≡ g
  one_fault f g (NoEvent a none) (NoEvent b other) = a ∙ sym b
  one_fault f g (NoEvent a none) (NoName b word name event named) = absurd (none word name event)
  one_fault f g (NoEvent a none) (NoStep word e b tells cannot) = absurd (none word tells.name tells.event)
  one_fault f g (NoName a word name event named) (NoEvent b none) = absurd (none word name event)
  one_fault f g (NoName a word name event named) (NoName b word' name' event' named') = a ∙ sym b
  one_fault f g (NoName a word name event named) (NoStep other e b tells cannot) = named_or_not word other name e event named tells
  one_fault f g (NoStep word e a tells cannot) (NoEvent b none) = absurd (none word tells.name tells.event)
  one_fault f g (NoStep other e a tells cannot) (NoName b word name event named) = named_or_not word other name e event named tells
  one_fault f g (NoStep word e a tells cannot) (NoStep other e' b tells' cannot') = a ∙ ap fault_of (tells_one p text word other e e' tells tells').0 ∙ sym b

  cannot_be : (after : Phases) (word : Word) (e : Element) → Cannot p plan phases word e → ¬ IsStep p plan phases (event_of word e) after
  cannot_be after Start e cannot step = cannot step.0
  cannot_be after End e cannot step = cannot step.0
  cannot_be after Fail e cannot step = cannot step.0

  not_right : (f : EventFault) (after : Phases) (word : Word) (e : Element) → Wrong f → Tells p text word e → ¬ IsStep p plan phases (event_of word e) after
  not_right f after word e (NoEvent a none) tells step = none word tells.name tells.event
  not_right f after word e (NoName a word' name event named) tells step = named_or_not word' word name e event named tells
  not_right f after word e (NoStep other e' a tells' cannot) tells step =
      let same = tells_one p text other word e' e tells' tells in
      cannot_be after word e (subst (λ (x : Element). Cannot p plan phases word x) same.1 (subst (λ (w : Word). Cannot p plan phases w e') same.0 cannot)) step

-- ---- a point has one ending, or one turn

module _ (p : Instance) (plan : Choices) (a : Point) where
  -- what the line that is taken makes of the reading
  abbrev Meaning : Line → List ℕ → Ending → Type 0
  Meaning Whole text ending = (f : EventFault) × Wrong p plan a.phases text f × (ending ≡ Refused (a.lines + 1) f)
  Meaning TooLong text ending = ending ≡ Refused (a.lines + 1) EventFault.TooLong
  Meaning Short text ending = ending ≡ Refused (a.lines + 1) EventFault.NotALine
  Meaning Nothing text ending = ending ≡ AllRead

  record Means (ending : Ending) (rest : List ℕ) : Type 0 where
    found : Line
    text : List ℕ
    reads : ReadsLine a.rest found text rest
    is : Meaning found text ending

  whole_line : (f : EventFault) (text rest : List ℕ) → ReadsLine a.rest Whole text rest → IsWrong p plan a.phases text f → Means (Refused (a.lines + 1) f) rest
  whole_line f text rest line is = record { found = Whole; text = text; reads = line; is = (f, wrong p plan a.phases text f is, refl) }

  refused : (f : EventFault) (rest : List ℕ) → IsRefused p plan a f rest → Means (Refused (a.lines + 1) f) rest
  refused EventFault.NotALine rest (text, inl short) = record { found = Short; text = text; reads = short; is = refl }
  refused EventFault.NotALine rest (text, inr line) = whole_line EventFault.NotALine text rest line.0 line.1
  refused EventFault.TooLong rest h = record { found = TooLong; text = h.0; reads = h.1; is = refl }
  refused EventFault.NoSuchName rest h = whole_line EventFault.NoSuchName h.0 rest h.1 h.2
  refused EventFault.NotReady rest h = whole_line EventFault.NotReady h.0 rest h.1 h.2
  refused EventFault.NotRunning rest h = whole_line EventFault.NotRunning h.0 rest h.1 h.2

  means : (ending : Ending) (rest : List ℕ) → EndsAt p plan a ending rest → Means ending rest
  means AllRead rest h = record { found = Nothing; text = []; reads = h; is = refl }
  means (Refused n f) rest h = subst (λ (k : ℕ). Means (Refused k f) rest) (sym h.0) (refused f rest h.1)

  one_meaning : (found : Line) (text : List ℕ) (x y : Ending) → Meaning found text x → Meaning found text y → x ≡ y
  one_meaning Whole text x y f g = f.2 ∙ ap (Refused (a.lines + 1)) (one_fault p plan a.phases text f.0 g.0 f.1 g.1) ∙ sym g.2
  one_meaning TooLong text x y f g = f ∙ sym g
  one_meaning Short text x y f g = f ∙ sym g
  one_meaning Nothing text x y f g = f ∙ sym g

  end_is_one : (x y : Ending) (r s : List ℕ) → EndsAt p plan a x r → EndsAt p plan a y s → (x ≡ y) × (r ≡ s)
  end_is_one x y r s f g =
      let m = means x r f in
      let n = means y s g in
      let same = line_is_one a.rest m.found n.found m.text n.text r s m.reads n.reads in
      (one_meaning n.found n.text x y (subst (λ (t : List ℕ). Meaning n.found t x) same.taken (subst (λ (l : Line). Meaning l m.text x) same.kind m.is)) n.is, same.left)

  -- where it ends there is no turn
  no_turn : (ending : Ending) (rest : List ℕ) (b : Point) → EndsAt p plan a ending rest → ¬ IsTurn p plan a b
  no_turn ending rest b ends turn =
      let m = means ending rest ends in
      let same = line_is_one a.rest m.found Whole m.text turn.text rest b.rest m.reads turn.line in
      let is : Meaning Whole turn.text ending = subst (λ (t : List ℕ). Meaning Whole t ending) same.taken (subst (λ (l : Line). Meaning l m.text ending) same.kind m.is) in
      not_right p plan a.phases turn.text is.0 b.phases turn.word turn.element is.1 turn.tells turn.step

-- ---- a step leads to one place

same_or_not : (x y : Element) → (x ≡ y) ⊎ (x ≢ y)
same_or_not (Vm v) (Vm w) = elim (cases_eq v.0 w.0) [ inl e ↦ inl (λ i. Vm (record { 0 = e i })) | inr n ↦ inr (λ q. n (cc)) ]
same_or_not (Vm v) (TheNode n) = inr (λ q. cc)
same_or_not (TheNode n) (Vm v) = inr (λ q. cc)
same_or_not (TheNode n) (TheNode m) = elim (cases_eq n.0 m.0) [ inl e ↦ inl (λ i. TheNode (record { 0 = e i })) | inr n ↦ inr (λ q. n (cc)) ]

moves_are_one : (before a b : Phases) (e : Element) (f : Phase) → Moves before e f a → Moves before e f b → a ≡ b
moves_are_one before a b e f g h = λ i x. at x (same_or_not x e) i
  where
    at : (x : Element) → (x ≡ e) ⊎ (x ≢ e) → a x ≡ b x
    at x (inl same) = ap a same ∙ g.here ∙ sym h.here ∙ ap b (sym same)
    at x (inr other) = g.others x other ∙ sym (h.others x other)

steps_are_one : (p : Instance) (plan : Choices) (before a b : Phases) (word : Word) (e : Element) → IsStep p plan before (event_of word e) a → IsStep p plan before (event_of word e) b → a ≡ b
steps_are_one p plan before a b Start e f g = moves_are_one before a b e Running f.1 g.1
steps_are_one p plan before a b End e f g = moves_are_one before a b e Ended f.1 g.1
steps_are_one p plan before a b Fail e f g = moves_are_one before a b e Failed f.1 g.1

same_point : (b c : Point) → b.phases ≡ c.phases → b.lines ≡ c.lines → b.rest ≡ c.rest → b ≡ c
same_point b c f l r = λ i. record { phases = f i; lines = l i; rest = r i }

-- ---- turns

module _ (p : Instance) (plan : Choices) where
  turn_is_one : (a b c : Point) → IsTurn p plan a b → IsTurn p plan a c → b ≡ c
  turn_is_one a b c f g =
      let line = line_is_one a.rest Whole Whole f.text g.text b.rest c.rest f.line g.line in
      let same = tells_one p g.text f.word g.word f.element g.element (subst (λ (t : List ℕ). Tells p t f.word f.element) line.taken f.tells) g.tells in
      let step : IsStep p plan a.phases (event_of g.word g.element) b.phases =
      subst (λ (e : Element). IsStep p plan a.phases (event_of g.word e) b.phases) same.1 (subst (λ (w : Word). IsStep p plan a.phases (event_of w f.element) b.phases) same.0 f.step)
      in
      same_point b c (steps_are_one p plan a.phases b.phases c.phases g.word g.element step g.step) (f.lines ∙ sym g.lines) line.left

  -- the first of some turns
  first_turn : (k : ℕ) (a c : Point) → Turns p plan (suc k) a c → (b : Point) × IsTurn p plan a b × Turns p plan k b c
  first_turn zero a c turns = (c, subst (λ (x : Point). IsTurn p plan x c) turns.1 turns.2, refl)
  first_turn (suc k) a c turns =
      let first = first_turn k a turns.0 turns.1 in
      (first.0, first.1, (turns.0, first.2, turns.2))

  last_is_one : (k n : ℕ) (a b c : Point) (f g : Ending) (r s : List ℕ) → Turns p plan k a b → Turns p plan n a c → EndsAt p plan b f r → EndsAt p plan c g s → b ≡ c
  last_is_one zero zero a b c f g r s x y ends ends' = x ∙ sym y
  last_is_one zero (suc n) a b c f g r s x y ends ends' =
      let first = first_turn n a c y in
      absurd (no_turn p plan a f r first.0 (subst (λ (z : Point). EndsAt p plan z f r) x ends) first.1)
  last_is_one (suc k) zero a b c f g r s x y ends ends' =
      let first = first_turn k a b x in
      absurd (no_turn p plan a g s first.0 (subst (λ (z : Point). EndsAt p plan z g s) y ends') first.1)
  last_is_one (suc k) (suc n) a b c f g r s x y ends ends' =
      let one = first_turn k a b x in
      let other = first_turn n a c y in
      let same : other.0 ≡ one.0 = turn_is_one a other.0 one.0 other.1 one.1 in
      last_is_one k n one.0 b c f g r s one.2 (subst (λ (z : Point). Turns p plan n z c) same other.2) ends ends'

pub ending_is_one : EndingIsOne
ending_is_one p plan first a b phases phases' rest rest' f g =
    let last : f.last ≡ g.last = last_is_one p plan f.reached.0 g.reached.0 first f.last g.last a b rest rest' f.reached.1 g.reached.1 f.ends g.ends in
    let same = end_is_one p plan g.last a b rest rest' (subst (λ (z : Point). EndsAt p plan z a rest) last f.ends) g.ends in
    (same.0, f.kept ∙ ap (λ (z : Point). z.phases) last ∙ sym g.kept, same.1)
