-- The list of the machines that may not stay, with one machine more.
use Rattle.profiles.proofs.Prelude.{◌≡◌, inl, inr, ℕ, ◌+◌, ◌<◌, Bool, true, false, List, [], ◌∷◌, ◌++◌, sym, subst, ◌∙◌, arith, Contains, flat_map, cases_eq, ne_eqb, Contains-append_left, Contains-push, Contains-push_cases, AreMachines, AreMovers, Choice, choices, DomainView, Element, Instance, IsGrown, IsListedOrStays, IsToldOf, machine_count, Node, row_choices, same_element, Sets, Vm, vm, Idle, putting, contains_here}
use Rattle.profiles.proofs.SumLemmas.{once_more}

-- ---- whether Idle is a choice

pub idle_in : (d : DomainView) (idle : Bool) → idle ≡ d.idle → idle ≡ true → Contains (choices d) Idle
idle_in d idle is on = let flag : d.idle ≡ true = sym is ∙ on in rw flag (contains_here Idle (flat_map row_choices d.rows))

-- ---- one machine more

pub grown_not : (count : ℕ) (xs : List ℕ) → IsGrown count xs xs
grown_not count xs = record { kept = λ v h. h; machines = λ p same is. is }

pub grown_push : (count v : ℕ) (xs ys : List ℕ) → v < count → ¬ Contains xs v → ys ≡ xs ++ v ∷ [] → IsGrown count xs ys
grown_push count v xs ys low out is = rw is (record {
  kept = λ w h. Contains-append_left xs (v ∷ []) w h;
  machines = λ p same are. record {
    each = λ w h. elim (Contains-push_cases xs v w h) [ inl old ↦ are.each w old | inr new ↦ omega (arith, low, same, new) ];
    once = once_more xs v are.once out;
  };
})

pub stays : (s : Sets) (v : ℕ) (xs : List ℕ) → Contains (s (vm v)) Idle → IsListedOrStays s v xs
stays s v xs idle = record { stays = λ out. idle }

pub there : (s : Sets) (v : ℕ) (xs : List ℕ) → Contains xs v → IsListedOrStays s v xs
there s v xs h = record { stays = λ out. absurd (out h) }

pub pushed : (s : Sets) (v : ℕ) (xs ys : List ℕ) → ys ≡ xs ++ v ∷ [] → IsListedOrStays s v ys
pushed s v xs ys is = there s v ys (rw is (Contains-push xs v))

-- ---- all machines

pub none_once : (p : Instance) → AreMachines p []
none_once p = record { each = λ v h. absurd (omega (arith, h.1)); once = tt }

-- the first machines are told, and one more
pub next_told : (s : Sets) (i count : ℕ) (xs ys : List ℕ) → IsGrown count xs ys → ((v : ℕ) → v < i → IsListedOrStays s v xs) → IsListedOrStays s i ys → (v : ℕ) → v < i + 1 → IsListedOrStays s v ys
next_told s i count xs ys grown before here v h =
    elim (cases_eq v i) [
      | inl same ↦ rw same here
      | inr other ↦ record { stays = λ out. (before v (omega (arith, h, other))).stays (λ old. out (grown.kept v old)) }
    ]

pub all_told : (p : Instance) (s : Sets) (xs : List ℕ) → AreMachines p xs → ((v : ℕ) → v < machine_count p → IsListedOrStays s v xs) → AreMovers p s xs
all_told p s xs are told = record { machines = are; others = λ v low out. (told v low).stays out }

-- ---- what stays right

-- after a change of element x, which had other choices
pub movers_told : (p : Instance) (s : Sets) (x : Element) (cs : List Choice) (xs ys : List ℕ) (count : ℕ) → machine_count p ≡ count →
    AreMovers p (putting x cs s) xs → IsGrown count xs ys → IsToldOf s x ys → AreMovers p s ys
movers_told p s (Node n) cs xs ys count same was grown told = record {
  machines = grown.machines p same was.machines;
  others = λ v low out. was.others v low (λ old. out (grown.kept v old));
}
movers_told p s (Vm w) cs xs ys count same was grown told = record {
  machines = grown.machines p same was.machines;
  others = λ v low out. elim (cases_eq v w.0) [
    | inl is ↦ rw is (told.stays (subst (λ k. ¬ Contains ys k) is out))
    | inr other ↦ let off : same_element (vm v) (Vm w) ≡ false = ne_eqb v w.0 other in rw off at (was.others v low (λ old. out (grown.kept v old)))
  ];
}

-- in any region in which the list was right before it grew
pub movers_grown : (p : Instance) (s : Sets) (xs ys : List ℕ) (count : ℕ) → machine_count p ≡ count → AreMovers p s xs → IsGrown count xs ys → AreMovers p s ys
movers_grown p s xs ys count same was grown = record {
  machines = grown.machines p same was.machines;
  others = λ v low out. was.others v low (λ old. out (grown.kept v old));
}
