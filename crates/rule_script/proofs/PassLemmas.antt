-- The pass over the tokens of a set gives the value of the set.
use Rattle.std.proofs.lemmas.List.{drop_all}
use Rattle.base.proofs.Public.{◌≡◌, ◌∙◌, ℕ, ◌+◌, ◌-◌, ◌<◌, ◌≤◌, ◌++◌, suc, nat_lt, List, [], ◌∷◌, length, drop, drop-cons, add-one, get_or, Option, Some, None, IsSome, Ok, Err, refl, sym, ap, arith, inl, inr, cases_Bool, append_assoc, append-nil, bytes_eq, decimal, true}
use Rattle.cluster.proofs.Public.{element_named-name_of}
use Rattle.cluster.specs.Prelude.{element_named, Inventory, IsInventory, IsListed, is_name, name_of}
use Rattle.cluster.specs.declared.ids.Element.{Element}
use Rattle.rule_script.proofs.BindingLemmas.{same_bytes}
use Rattle.rule_script.specs.Bindings.{Bindings}
use Rattle.rule_script.specs.Pass.{advance, goes, run, whole, with_term}
use Rattle.rule_script.specs.Sets.{Set, named, span, bound, bracket, Due, term_due, more_due, Waiting, combined, max_open, reading, set_at, set_or}
use Rattle.rule_script.specs.Values.{before, numbered, value_of, Worth}
use Rattle.rule_script.specs.declared.pass.Due.{Due as DueThere}
use Rattle.rule_script.specs.declared.pass.Due.TheVariants.{Term, More}
use Rattle.rule_script.specs.declared.pass.Next.{Next}
use Rattle.rule_script.specs.declared.pass.Next.TheVariants.{On, Done}
use Rattle.rule_script.specs.declared.pass.Waiting.{Waiting as WaitingThere}
use Rattle.rule_script.specs.declared.pass.Waiting.TheVariants.{Nothing, Left}
use Rattle.rule_script.specs.declared.faults.Mistake.TheVariants.{NoSuch}
use Rattle.rule_script.specs.declared.tokens.Token.{Token}
use Rattle.rule_script.specs.declared.tokens.Token.TheVariants.{Word, Variable, Span, Sign, Opens, Closes, From, Upto, Colon, Comma, Bar, Equals, Other}

abbrev set_else : Option (Set × List Token) → Set → Set
set_else None s = s
set_else (Some x) s = x.0

-- what is read is one set
same_read : (s t : Set) (ts rest : List Token) → ◌≡◌ {A = Option (Set × List Token)} (Some (s, ts)) (Some (t, rest)) → s ≡ t
same_read s t ts rest is = ap (λ (o : Option (Set × List Token)). set_else o s) is

module _ (k : Inventory) (env : Bindings) where
  abbrev waiting_of : Waiting → WaitingThere
  waiting_of None = Nothing
  waiting_of (Some x) = Left (value_of k env x.0) x.1

  abbrev due_of : Due → DueThere
  due_of (term_due c) = Term (waiting_of c)
  due_of (more_due s) = More (value_of k env s)

  abbrev open_of : List Waiting → List WaitingThere
  open_of [] = []
  open_of (c ∷ cs) = waiting_of c ∷ open_of cs

  term_worth : (c : Waiting) (t : Set) → with_term (waiting_of c) (value_of k env t) ≡ value_of k env (combined c t)
  unfolding value_of
  term_worth None t = refl
  term_worth (Some x) t = refl

  bracket_worth : (s : Set) → value_of k env s ≡ value_of k env (bracket s)
  unfolding value_of
  bracket_worth s = refl

  goes_on : (c : Waiting) (t : Set) (ws : List Waiting) (ts : List Token) → run k env (More (with_term (waiting_of c) (value_of k env t))) (open_of ws) ts ≡ run k env (due_of (more_due (combined c t))) (open_of ws) ts
  goes_on c t ws ts = ap (λ (w : Worth). run k env (More w) (open_of ws) ts) (term_worth c t)

  ended : (s t : Set) (ts rest : List Token) → ◌≡◌ {A = Option (Set × List Token)} (Some (s, ts)) (Some (t, rest)) → value_of k env s ≡ value_of k env t
  ended s t ts rest is = ap (value_of k env) (same_read s t ts rest is)

  pub runs : (d : Due) (ws : List Waiting) (ts rest : List Token) (s : Set) → reading d ws ts ≡ Some (s, rest) → run k env (due_of d) (open_of ws) ts ≡ value_of k env s
  unfolding reading run advance
  runs (term_due c) ws [] rest s is = absurd (cc)
  runs (term_due c) ws (Word x ∷ ts) rest s is = elim (cases_Bool (is_name x)) [
    | inl good ↦
        let on : reading (more_due (combined c (named x))) ws ts ≡ Some (s, rest) = rw good at is in
        goes_on c (named x) ws ts ∙ runs (more_due (combined c (named x))) ws ts rest s on
    | inr bad ↦ let none : ◌≡◌ {A = Option (Set × List Token)} None (Some (s, rest)) = rw bad at is in absurd (cc)
  ]
  runs (term_due c) ws (Span x a b ∷ ts) rest s is = goes_on c (span x a b) ws ts ∙ runs (more_due (combined c (span x a b))) ws ts rest s is
  runs (term_due c) ws (Variable x ∷ ts) rest s is = goes_on c (bound x) ws ts ∙ runs (more_due (combined c (bound x))) ws ts rest s is
  runs (term_due c) ws (Opens ∷ ts) rest s is = elim (cases_Bool (nat_lt (length ws) max_open)) [
    | inl few ↦
        let on : reading (term_due None) (c ∷ ws) ts ≡ Some (s, rest) = rw few at is in
        runs (term_due None) (c ∷ ws) ts rest s on
    | inr many ↦ let none : ◌≡◌ {A = Option (Set × List Token)} None (Some (s, rest)) = rw many at is in absurd (cc)
  ]
  runs (term_due c) ws (Sign op ∷ ts) rest s is = absurd (cc)
  runs (term_due c) ws (Closes ∷ ts) rest s is = absurd (cc)
  runs (term_due c) ws (From ∷ ts) rest s is = absurd (cc)
  runs (term_due c) ws (Upto ∷ ts) rest s is = absurd (cc)
  runs (term_due c) ws (Colon ∷ ts) rest s is = absurd (cc)
  runs (term_due c) ws (Comma ∷ ts) rest s is = absurd (cc)
  runs (term_due c) ws (Bar ∷ ts) rest s is = absurd (cc)
  runs (term_due c) ws (Equals ∷ ts) rest s is = absurd (cc)
  runs (term_due c) ws (Other ∷ ts) rest s is = absurd (cc)
  runs (more_due t) [] [] rest s is = ended t s [] rest is
  runs (more_due t) [] (Sign op ∷ ts) rest s is = runs (term_due (Some (t, op))) [] ts rest s is
  runs (more_due t) [] (Word x ∷ ts) rest s is = ended t s (Word x ∷ ts) rest is
  runs (more_due t) [] (Variable x ∷ ts) rest s is = ended t s (Variable x ∷ ts) rest is
  runs (more_due t) [] (Span x a b ∷ ts) rest s is = ended t s (Span x a b ∷ ts) rest is
  runs (more_due t) [] (Opens ∷ ts) rest s is = ended t s (Opens ∷ ts) rest is
  runs (more_due t) [] (Closes ∷ ts) rest s is = ended t s (Closes ∷ ts) rest is
  runs (more_due t) [] (From ∷ ts) rest s is = ended t s (From ∷ ts) rest is
  runs (more_due t) [] (Upto ∷ ts) rest s is = ended t s (Upto ∷ ts) rest is
  runs (more_due t) [] (Colon ∷ ts) rest s is = ended t s (Colon ∷ ts) rest is
  runs (more_due t) [] (Comma ∷ ts) rest s is = ended t s (Comma ∷ ts) rest is
  runs (more_due t) [] (Bar ∷ ts) rest s is = ended t s (Bar ∷ ts) rest is
  runs (more_due t) [] (Equals ∷ ts) rest s is = ended t s (Equals ∷ ts) rest is
  runs (more_due t) [] (Other ∷ ts) rest s is = ended t s (Other ∷ ts) rest is
  runs (more_due t) (c ∷ ws) [] rest s is = absurd (cc)
  runs (more_due t) (c ∷ ws) (Sign op ∷ ts) rest s is = runs (term_due (Some (t, op))) (c ∷ ws) ts rest s is
  runs (more_due t) (c ∷ ws) (Closes ∷ ts) rest s is =
      ap (λ (w : Worth). run k env (More (with_term (waiting_of c) w)) (open_of ws) ts) (bracket_worth t)
      ∙ goes_on c (bracket t) ws ts
      ∙ runs (more_due (combined c (bracket t))) ws ts rest s is
  runs (more_due t) (c ∷ ws) (Word x ∷ ts) rest s is = absurd (cc)
  runs (more_due t) (c ∷ ws) (Variable x ∷ ts) rest s is = absurd (cc)
  runs (more_due t) (c ∷ ws) (Span x a b ∷ ts) rest s is = absurd (cc)
  runs (more_due t) (c ∷ ws) (Opens ∷ ts) rest s is = absurd (cc)
  runs (more_due t) (c ∷ ws) (From ∷ ts) rest s is = absurd (cc)
  runs (more_due t) (c ∷ ws) (Upto ∷ ts) rest s is = absurd (cc)
  runs (more_due t) (c ∷ ws) (Colon ∷ ts) rest s is = absurd (cc)
  runs (more_due t) (c ∷ ws) (Comma ∷ ts) rest s is = absurd (cc)
  runs (more_due t) (c ∷ ws) (Bar ∷ ts) rest s is = absurd (cc)
  runs (more_due t) (c ∷ ws) (Equals ∷ ts) rest s is = absurd (cc)
  runs (more_due t) (c ∷ ws) (Other ∷ ts) rest s is = absurd (cc)

  found_worth : (o : Option (Set × List Token)) (ts : List Token) (s : Set) → set_at ts ≡ o → set_or o ≡ s → IsSome o → run k env (Term Nothing) [] ts ≡ value_of k env s
  unfolding set_at
  found_worth None ts s is same some = absurd (cc)
  found_worth (Some x) ts s is same some = runs (term_due None) [] ts x.1 x.0 is ∙ ap (value_of k env) same

  -- the set that tokens begin with
  pub set_worth : (ts : List Token) (s : Set) → IsSome (set_at ts) → set_or (set_at ts) ≡ s → run k env (Term Nothing) [] ts ≡ value_of k env s
  set_worth ts s some same = found_worth (set_at ts) ts s refl same some

  -- ---- the pass from a place on

  module _ (ts : List Token) (i : ℕ) (due : DueThere) (ws : List WaitingThere) (answer : Worth) (so_far : run k env due ws (drop i ts) ≡ answer) where
    token_at : (t : Token) → i < length ts → t ≡ get_or ts i t → drop i ts ≡ t ∷ drop (i + 1) ts
    token_at t within is = rw (add-one, drop-cons ts i t, ← is) refl

    pub token_goes : (t : Token) (n : Next) (more : DueThere) (after : List WaitingThere) → i < length ts → t ≡ get_or ts i t → advance k env due ws t ≡ (n, after) → n ≡ On more → run k env more after (drop (i + 1) ts) ≡ answer
    unfolding run
    token_goes t n more after within is step goes =
        let first : run k env due ws (t ∷ drop (i + 1) ts) ≡ run k env more after (drop (i + 1) ts) = rw (step, goes) refl in
        sym first ∙ ap (run k env due ws) (sym (token_at t within is)) ∙ so_far

    pub token_stops : (t : Token) (n : Next) (w : Worth) (after : List WaitingThere) → i < length ts → t ≡ get_or ts i t → advance k env due ws t ≡ (n, after) → n ≡ Done w → w ≡ answer
    unfolding run
    token_stops t n w after within is step stops =
        let first : run k env due ws (t ∷ drop (i + 1) ts) ≡ w = rw (step, stops) refl in
        sym first ∙ ap (run k env due ws) (sym (token_at t within is)) ∙ so_far

    pub tokens_over : (w : Worth) → length ts ≤ i → w ≡ whole due → w ≡ answer
    unfolding run
    tokens_over w past is =
        let last : run k env due ws (drop i ts) ≡ whole due = rw (drop_all i ts past) refl in
        is ∙ sym last ∙ so_far

-- ---- the elements of a range, found so far

abbrev pub after_these : List Element → Worth → Worth
after_these found (Ok es) = Ok (found ++ es)
after_these found (Err m) = Err m

longer_by : (found : List Element) (e : Element) (w : Worth) → after_these (found ++ e ∷ []) w ≡ after_these found (before (Some e) w)
longer_by found e (Ok es) = ap (λ (l : List Element). Ok l) (append_assoc found (e ∷ []) es)
longer_by found e (Err m) = refl

module _ (k : Inventory) (x : List ℕ) (first count step : ℕ) (found : List Element) (answer : Worth) (so_far : after_these found (numbered k x (first + step) (count - step)) ≡ answer) where
  pub one_more_number : (e : Element) → step < count → Some e ≡ element_named k (x ++ decimal (first + step)) → after_these (found ++ e ∷ []) (numbered k x (first + (step + 1)) (count - (step + 1))) ≡ answer
  unfolding numbered
  one_more_number e within is =
      let left : count - step ≡ suc (count - (step + 1)) = omega arith in
      let next : first + step + 1 ≡ first + (step + 1) = omega arith in
      let here : numbered k x (first + step) (count - step) ≡ before (Some e) (numbered k x (first + (step + 1)) (count - (step + 1))) = rw (left, ← is, next) refl in
      longer_by found e (numbered k x (first + (step + 1)) (count - (step + 1))) ∙ ap (after_these found) (sym here) ∙ so_far

  pub no_such_number : step < count → None ≡ element_named k (x ++ decimal (first + step)) → Err NoSuch ≡ answer
  unfolding numbered
  no_such_number within is =
      let left : count - step ≡ suc (count - (step + 1)) = omega arith in
      let here : numbered k x (first + step) (count - step) ≡ Err NoSuch = rw (left, ← is) refl in
      ap (after_these found) (sym here) ∙ so_far

  pub all_numbers : count ≤ step → Ok found ≡ answer
  unfolding numbered
  all_numbers past =
      let none : count - step ≡ 0 = omega arith in
      let here : numbered k x (first + step) (count - step) ≡ Ok [] = rw none refl in
      ap (λ (l : List Element). Ok l) (sym (append-nil found)) ∙ ap (after_these found) (sym here) ∙ so_far

pub ruleset number_rules = (one_more_number, no_such_number, all_numbers)

-- ---- the element of a name

-- what is cut into a name and a number is the two put together
pub joined_so : (text front rest name : List ℕ) (number : ℕ) → text ≡ front ++ rest → bytes_eq front name ≡ true → rest ≡ decimal number → text ≡ name ++ decimal number
joined_so text front rest name number cut first second = cut ∙ ap (λ (l : List ℕ). l ++ rest) (same_bytes front name first) ∙ ap (λ (l : List ℕ). name ++ l) second

pub ruleset joined_rules = (joined_so)

-- a listed element that has a name is found by it
pub named_so : (k : Inventory) (e : Element) (name digits : List ℕ) → IsInventory k → IsListed k e → name_of k e ≡ name ++ digits → element_named k (name ++ digits) ≡ Some e
named_so k e name digits sound listed same = ap (element_named k) (sym same) ∙ element_named-name_of k e sound listed
