-- A walk that stands for steps: what is due, and one more step.
use Rattle.cert_model.proofs.Prelude.{◌^◌, map, ◌≡◌, ◌≤◌, ◌<◌, ◌+◌, ℕ, Bool, List, [], ◌∷◌, ◌++◌, length, refl, sym, ap, subst, ◌∙◌, arith, Option, Some, None, is_some, Contains, map-append, AreLegal, children, Cut, Decide, decisions, Due, due_sets, due_sums, Element, Fact, Fail, Frontier, gathered_along, goal_of, has_left, in_part, Instance, IsSized, Kept, later_sets, later_sums, Leads, LeadsTo, least_cost, Left, left_along, left_set, lowest, Nothing, open_of, open_sets, open_sums, out_of_part, outer_sets, Outside, outside, plan_costs, RegionView, Sets, sets, shown, Stands, start_sets, Step, sums_of, WalkAt, Whole, Plan, start_is_legal, decisions_append, gathered_push, leads_push, leads_same}
use Rattle.cert_model.proofs.EndLemmas.{narrow_legal}

-- ---- choices stay legal along steps

start_sets_legal : (p : Instance) → AreLegal p (start_sets p)
start_sets_legal p e i c has = (start_is_legal p e i c).0 has

pub start_legal : (p : Instance) (g : RegionView) → ((e : Element) → sets g e ≡ start_sets p e) → AreLegal p (sets g)
start_legal p g same e i c has = start_sets_legal p e i c (subst (λ cs. Contains cs c) (same e) has)

abbrev AreAllLegal : Instance → List Sets → Type 0
AreAllLegal p [] = Unit {0}
AreAllLegal p (s ∷ rest) = AreLegal p s × AreAllLegal p rest

children_legal : (p : Instance) (s : Sets) (rest : List Sets) (step : Step) → AreLegal p s → AreAllLegal p rest → AreAllLegal p (children s step ++ rest)
children_legal p s rest (Decide x part) legal all = (narrow_legal p s x (in_part part) legal, (narrow_legal p s x (out_of_part part) legal, all))
children_legal p s rest (Cut x part reason) legal all = (narrow_legal p s x (out_of_part part) legal, all)
children_legal p s rest (Fail reason) legal all = all
children_legal p s rest (Plan cost) legal all = all
children_legal p s rest Left legal all = all

legal_along : (p : Instance) (fact : Fact) (steps e : List Step) (from now : List Sets) → AreAllLegal p from → Leads fact e from steps now → AreAllLegal p now
legal_along p fact [] e from now all leads = subst (AreAllLegal p) (sym leads) all
legal_along p fact (step ∷ steps) e [] now all leads = absurd leads
legal_along p fact (step ∷ steps) e (s ∷ rest) now all leads =
    legal_along p fact steps (e ++ step ∷ []) (children s step ++ rest) now (children_legal p s rest step all.0 all.1) leads.1

-- ---- counts

decisions_few : (steps : List Step) → decisions steps ≤ length steps
decisions_few [] = omega arith
decisions_few (Decide x part ∷ steps) = omega (arith, decisions_few steps)
decisions_few (Cut x part reason ∷ steps) = omega (arith, decisions_few steps)
decisions_few (Fail reason ∷ steps) = omega (arith, decisions_few steps)
decisions_few (Plan cost ∷ steps) = omega (arith, decisions_few steps)
decisions_few (Left ∷ steps) = omega (arith, decisions_few steps)

first_of : {A : Type 0} (a b : A) (more rest : List A) → a ∷ more ≡ b ∷ rest → (a ≡ b) × (more ≡ rest)
first_of a b more rest same = (cc, cc)

-- ---- what is due

-- the frontier keeps what the walk shows
pub record IsHeld (w : Kept) (f : Frontier) : Type 0 where
  pub sets_kept : open_sets f ≡ open_of w
  pub sums_kept : open_sums f ≡ sums_of w
  pub machines : length f.trail.region.machines ≡ length w.region.machines
  pub nodes : length f.trail.region.nodes ≡ length w.region.nodes

module _ (p : Instance) (bound : Option ℕ) (strict : Bool) (steps : List Step) (w : Kept) (f : Frontier) (held : IsHeld w f) (stands : Stands p bound strict steps w) where
  leads_open : LeadsTo p bound strict steps (open_sets f)
  leads_open = subst (LeadsTo p bound strict steps) (sym held.sets_kept) stands.leads

  sums_open : open_sums f ≡ map (least_cost p) (open_sets f)
  sums_open = held.sums_kept ∙ stands.sums ∙ ap (map (least_cost p)) (sym held.sets_kept)

  pub sized_here : IsSized p f.trail.region
  sized_here = record { machines = held.machines ∙ stands.machines; nodes = held.nodes ∙ stands.nodes }

  pub few_decisions : length steps + 1 < 2 ^ 64 → w.decisions + 1 < 2 ^ 64
  few_decisions few = omega (arith, few, stands.decisions, decisions_few steps)

  module _ (due : f.due ≡ Whole) where
    pub leads_here : LeadsTo p bound strict steps (sets f.trail.region ∷ later_sets f)
    leads_here = subst (λ d. LeadsTo p bound strict steps (due_sets d (sets f.trail.region) ++ later_sets f)) due leads_open

    pub legal_here : AreLegal p (sets f.trail.region)
    legal_here = (legal_along p (WalkAt p bound strict) steps [] (start_sets p ∷ []) (sets f.trail.region ∷ later_sets f) (start_sets_legal p, tt) leads_here).0

    sums_here : f.sum ∷ later_sums f ≡ least_cost p (sets f.trail.region) ∷ map (least_cost p) (later_sets f)
    sums_here =
        subst (λ d. due_sums d f.sum ++ later_sums f ≡ map (least_cost p) (due_sets d (sets f.trail.region) ++ later_sets f)) due sums_open

    pub sum_here : f.sum ≡ least_cost p (sets f.trail.region)
    sum_here = (first_of f.sum (least_cost p (sets f.trail.region)) (later_sums f) (map (least_cost p) (later_sets f)) sums_here).0

    later_here : later_sums f ≡ map (least_cost p) (later_sets f)
    later_here = (first_of f.sum (least_cost p (sets f.trail.region)) (later_sums f) (map (least_cost p) (later_sets f)) sums_here).1

    -- one more step
    pub stands_next : (new : Kept) (step : Step) → WalkAt p w.bound w.strict steps (sets f.trail.region) step →
        open_of new ≡ children (sets f.trail.region) step ++ later_sets f → sums_of new ≡ map (least_cost p) (children (sets f.trail.region) step) ++ later_sums f →
        length new.region.machines ≡ length f.trail.region.machines → length new.region.nodes ≡ length f.trail.region.nodes →
        new.decisions ≡ w.decisions + decisions (step ∷ []) → new.cheapest ≡ lowest (λ cost. cost) (plan_costs (steps ++ step ∷ [])) →
        new.least_left ≡ lowest (least_cost p) (left_along p steps ++ left_set (sets f.trail.region) step) → new.bound ≡ w.bound → new.strict ≡ w.strict →
        Stands p bound strict (steps ++ step ∷ []) new
    stands_next new step holds opened sums machines nodes count cheapest least_left bound_kept strict_kept =
        let s = sets f.trail.region in
        let bounded = subst (λ b. WalkAt p b w.strict steps s step) stands.handed_in holds in
        let asked = subst (λ b. WalkAt p bound b steps s step) stands.mode bounded in
        record {
          leads = subst (LeadsTo p bound strict (steps ++ step ∷ [])) (sym opened) (leads_push (WalkAt p bound strict) steps (start_sets p ∷ []) s (later_sets f) step leads_here asked);
          sums = sums ∙ ap (λ k. map (least_cost p) (children s step) ++ k) later_here ∙ sym (map-append (least_cost p) (children s step) (later_sets f)) ∙ ap (map (least_cost p)) (sym opened);
          machines = machines ∙ held.machines ∙ stands.machines;
          nodes = nodes ∙ held.nodes ∙ stands.nodes;
          decisions = count ∙ ap (λ n. n + decisions (step ∷ [])) stands.decisions ∙ sym (decisions_append steps (step ∷ []));
          cheapest = cheapest;
          least_left = least_left ∙ ap (lowest (least_cost p)) (sym (gathered_push left_set (WalkAt p bound strict) steps [] (start_sets p ∷ []) s (later_sets f) step leads_here));
          handed_in = bound_kept ∙ stands.handed_in;
          mode = strict_kept ∙ stands.mode;
        }

-- ---- at the end

-- something is due, where not nothing is
pub due_or_none : (d : Due) (s : Sets) (later : List Sets) → (d ≡ Nothing → ⊥) → (first : Sets) × (due_sets d s ++ later ≡ first ∷ later)
due_or_none Nothing s later some = absurd (some refl)
due_or_none Whole s later some = (s, refl)
due_or_none (Outside x part) s later some = (outside x part s, refl)

-- and then the steps are no whole tree
pub open_when_due : (p : Instance) (bound : Option ℕ) (strict : Bool) (steps : List Step) (w : Kept) → Stands p bound strict steps w → (w.due ≡ Nothing → ⊥) → ¬ LeadsTo p bound strict steps []
open_when_due p bound strict steps w stands some whole =
    let first = due_or_none w.due (sets w.region) (outer_sets w.marks w.outers) some in
    let same = leads_same (WalkAt p bound strict) steps [] (start_sets p ∷ []) (open_of w) [] stands.leads whole in
    let none : first.0 ∷ outer_sets w.marks w.outers ≡ [] = sym first.1 ∙ same in
    cc

-- a least is kept exactly where something was left
left_is_some : (f : Sets → ℕ) (fact : Fact) (steps e : List Step) (from now : List Sets) → Leads fact e from steps now → is_some (lowest f (gathered_along left_set from steps)) ≡ has_left steps
left_is_some f fact [] e from now leads = refl
left_is_some f fact (step ∷ steps) e [] now leads = absurd leads
left_is_some f fact (Decide x part ∷ steps) e (s ∷ rest) now leads = left_is_some f fact steps (e ++ Decide x part ∷ []) (children s (Decide x part) ++ rest) now leads.1
left_is_some f fact (Cut x part reason ∷ steps) e (s ∷ rest) now leads = left_is_some f fact steps (e ++ Cut x part reason ∷ []) (children s (Cut x part reason) ++ rest) now leads.1
left_is_some f fact (Fail reason ∷ steps) e (s ∷ rest) now leads = left_is_some f fact steps (e ++ Fail reason ∷ []) (children s (Fail reason) ++ rest) now leads.1
left_is_some f fact (Plan cost ∷ steps) e (s ∷ rest) now leads = left_is_some f fact steps (e ++ Plan cost ∷ []) (children s (Plan cost) ++ rest) now leads.1
left_is_some f fact (Left ∷ steps) e (s ∷ rest) now leads = refl

-- so the goal that the tree shows is had from what is kept
pub goal_kept : (p : Instance) (bound : Option ℕ) (strict : Bool) (steps : List Step) (w : Kept) → Stands p bound strict steps w → goal_of (is_some w.least_left) w.decisions w.bound ≡ shown bound steps
goal_kept p bound strict steps w stands =
    let some = ap is_some stands.least_left ∙ left_is_some (least_cost p) (WalkAt p bound strict) steps [] (start_sets p ∷ []) (open_of w) stands.leads in
    ap (λ b. goal_of b w.decisions w.bound) some ∙ ap (λ n. goal_of (has_left steps) n w.bound) stands.decisions ∙ ap (goal_of (has_left steps) (decisions steps)) stands.handed_in

-- the same of what a walk is known to be
pub stands_as : (p : Instance) (bound : Option ℕ) (strict : Bool) (steps : List Step) (w known : Kept) → w ≡ known → Stands p bound strict steps known → Stands p bound strict steps w
stands_as p bound strict steps w known same stands = subst (Stands p bound strict steps) (sym same) stands

-- what is not some value is none
pub no_value : {A : Type 0} (o : Option A) → ((x : A) → o ≡ Some x → ⊥) → o ≡ None
no_value None h = refl
no_value (Some x) h = absurd (h x refl)
