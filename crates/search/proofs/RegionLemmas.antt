-- Regions of an instance, what one change makes of them, and the sums of their least ends.
use Rattle.base.proofs.Public.{◌≡◌, ◌≢◌, ℕ, ◌<◌, Bool, true, false, List, [], ◌∷◌, length, refl, sym, ap, subst, ◌∙◌, filter, eq-eqb, false_from_ne_true, map}
use Rattle.search.specs.Prelude.{AreFewer, AreFixed, Before, Change, Choice, choice_count, choices, CutHolds, domain_at, domain_before, DomainView, Element, HasElement, HaveChoices, in_part, inside, Instance, IsElement, IsFixed, IsNarrowed, IsRegionOf, IsSized, IsSplit, IsTrailOf, keeping, least_cost, machine_count, Marked, Node, node_count, on_side, out_of_part, outside, Part, Reason, RegionView, same_element, Sets, sets, Vm, with_domain}
use Rattle.domains.proofs.Public.{same_is}
use Rattle.bound.proofs.Public.{cost_put_back}
use Rattle.prop_core.proofs.Public.{cut_falls, narrowed_by, narrowed_is_fewer, region_stays, trail_changed}

-- ---- elements

pub has_element : (p : Instance) (g : RegionView) (x : Element) → IsSized p g → IsElement p x → HasElement g x
has_element p g (Vm v) sized i = subst (λ n. v.0 < n) (sym sized.machines) i
has_element p g (Node n) sized i = subst (λ k. n.0 < k) (sym sized.nodes) i

pub sets_fixed : (p : Instance) (g : RegionView) → IsSized p g → AreFixed p (sets g) → IsFixed g
sets_fixed p g sized fixed (Vm v) i = fixed (Vm v) (subst (λ n. v.0 < n) sized.machines i)
sets_fixed p g sized fixed (Node n) i = fixed (Node n) (subst (λ k. n.0 < k) sized.nodes i)

-- ---- one change

self : (x : Element) → same_element x x ≡ true
self (Vm v) = eq-eqb v.0 v.0 refl
self (Node n) = eq-eqb n.0 n.0 refl

kept_other : (x e : Element) (test : Choice → Bool) (s : Sets) → e ≢ x → keeping x test s e ≡ s e
kept_other x e test s ne = let other : same_element e x ≡ false = false_from_ne_true _ (λ t. ne (same_is e x t)) in rw other refl

kept_here : (x : Element) (test : Choice → Bool) (s : Sets) → keeping x test s x ≡ filter test (s x)
kept_here x test s = rw (self x) refl

-- with its old domain put back the region has the sum from before
pub put_back : (p : Instance) (g h : RegionView) (x : Element) (test : Choice → Bool) (d : DomainView) (sum : ℕ) → HasElement h x → ((e : Element) → sets h e ≡ keeping x test (sets g) e) → d ≡ domain_at g x → sum ≡ least_cost p (sets g) → sum ≡ least_cost p (sets (with_domain h x d))
put_back p g h x test d sum there kept was is =
    is ∙ sym (cost_put_back p g h x there (λ e ne. kept e ∙ kept_other x e test (sets g) ne)) ∙ ap (λ (v : DomainView). least_cost p (sets (with_domain h x v))) (sym was)

-- each element has a choice still, where the changed one has
pub still_some : (p : Instance) (s t : Sets) (x : Element) (test : Choice → Bool) → HaveChoices p s → ((e : Element) → t e ≡ keeping x test s e) → t x ≢ [] → HaveChoices p t
still_some p s t x test some kept here e i none = by (same_element e x) refl
  where
    by : (b : Bool) → same_element e x ≡ b → ⊥
    by true same = here (ap t (sym (same_is e x same)) ∙ none)
    by false other = some e i (sym (kept e ∙ rw other refl) ∙ none)

-- what is on a side of a part that splits
pub some_inside : (p : Instance) (s t : Sets) (x : Element) (part : Part) → HaveChoices p s → IsSplit p s x part → ((e : Element) → t e ≡ inside x part s e) → HaveChoices p t
some_inside p s t x part some split kept =
    still_some p s t x (in_part part) some kept (λ none. split.some_inside (sym (kept_here x (in_part part) s) ∙ sym (kept x) ∙ none))

pub some_outside : (p : Instance) (s t : Sets) (x : Element) (part : Part) → HaveChoices p s → IsSplit p s x part → ((e : Element) → t e ≡ outside x part s e) → HaveChoices p t
some_outside p s t x part some split kept =
    still_some p s t x (out_of_part part) some kept (λ none. split.some_outside (sym (kept_here x (out_of_part part) s) ∙ sym (kept x) ∙ none))

-- a cut leaves fewer choices
pub fewer_left : (p : Instance) (s t : Sets) (x : Element) (part : Part) (reason : Reason) → CutHolds p s x part reason → t ≡ outside x part s →
    choice_count (machine_count p) (node_count p) t < choice_count (machine_count p) (node_count p) s
fewer_left p s t x part reason holds is =
    subst (λ (r : Sets). choice_count (machine_count p) (node_count p) r < choice_count (machine_count p) (node_count p) s) (sym is) (cut_falls p s x part reason holds)

-- ---- marks

abbrev sum_at : Instance → RegionView → ℕ
sum_at p g = least_cost p (sets g)

first_of : (a b : ℕ) (more rest : List ℕ) → a ∷ more ≡ b ∷ rest → (a ≡ b) × (more ≡ rest)
first_of a b more rest same = (cc, cc)

-- the sums at the marks, the newest first
pub sums_back : (p : Instance) (t u : Marked) (older : List ℕ) (top : ℕ) (left : List ℕ) → older ≡ map (λ m. least_cost p (sets m)) t.marks → t.marks ≡ u.region ∷ u.marks → older ≡ top ∷ left →
    (top ≡ least_cost p (sets u.region)) × (left ≡ map (λ m. least_cost p (sets m)) u.marks)
sums_back p t u older top left are back is =
    first_of top (sum_at p u.region) left (map (sum_at p) u.marks) (sym is ∙ are ∙ ap (map (sum_at p)) back)

-- ---- a trail after one change

module _ (p : Instance) (t u : Marked) (change : Change) (before : Before) (kept : DomainView) (is : IsTrailOf p t) (there : IsElement p change.element) (machines : length u.region.machines ≡ length t.region.machines) (nodes : length u.region.nodes ≡ length t.region.nodes)
    (narrower : (e : Element) → sets u.region e ≡ keeping change.element (on_side change.side change.part) (sets t.region) e) where
  pub region_next : IsRegionOf p u.region
  region_next = region_stays p t.region u.region change.element (on_side change.side change.part) is.region machines nodes narrower

  pub trail_next : u.marks ≡ t.marks → IsTrailOf p u
  trail_next same = trail_changed p t u change.element (on_side change.side change.part) is machines nodes narrower same

  module _ (was : domain_before before kept (domain_at u.region change.element) ≡ domain_at t.region change.element) where
    pub narrowed_next : IsNarrowed p u.region change before kept
    narrowed_next = narrowed_by p t.region u.region change before kept there is.region.legal narrower was

    pub fewer_next : AreFewer (sets u.region change.element) (choices (domain_before before kept (domain_at u.region change.element)))
    fewer_next = narrowed_is_fewer p u.region change before kept narrowed_next

    pub agreed_next : (sum : ℕ) → sum ≡ least_cost p (sets t.region) → sum ≡ least_cost p (sets (with_domain u.region change.element (domain_before before kept (domain_at u.region change.element))))
    agreed_next sum sum_is = put_back p t.region u.region change.element (on_side change.side change.part) (domain_before before kept (domain_at u.region change.element)) sum (has_element p u.region change.element region_next.sized there) narrower was sum_is
