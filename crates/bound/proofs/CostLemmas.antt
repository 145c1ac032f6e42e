-- The sum of least ends: how great it is, and what one element has of it.
use Rattle.std.proofs.Common.{IsTrue}
use Rattle.base.proofs.Public.{◌≡◌, ◌≢◌, ℕ, ◌+◌, ◌≤◌, List, [], ◌∷◌, Bool, true, false, refl, sym, ap, ◌∙◌, arith, Contains, filter, Decides-eqb, get_or-set_same, get_or-set_other, sum_to-bound, sum_to-change, sum_to-same, sum_to-term}
use Rattle.relax.specs.Prelude.{AreLegal, choices, domain_at, DomainView, end_of, HasElement, Instance, is_legal, IsElement, IsInstance, IsSized, keeping, least, least_cost, machine_count, max_cost, node, node_count, RegionView, same_element, Sets, sets, staying, vm, with_domain}
use Rattle.cluster.specs.declared.choices.Choice.{Choice}
use Rattle.cluster.specs.declared.ids.Element.{Element}
use Rattle.cluster.specs.declared.ids.Element.TheVariants.{Vm, Node}
use Rattle.bound.specs.Laws.{CostIsSmall, CostPutBack, NarrowingTells, SameCost}
use Rattle.domains.proofs.Public.{contains_here, filter_is_fewer, least_of_each, same_is}
use Rattle.relax.proofs.Public.{end_small, legal_stays}

pub same_cost : SameCost
unfolding least_cost
same_cost p s t same =
    let machines = sum_to-same (machine_count p) (λ v. least (end_of p (vm v)) (s (vm v))) (λ v. least (end_of p (vm v)) (t (vm v))) (λ v l. ap (least (end_of p (vm v))) (same (vm v))) in
    let nodes = sum_to-same (node_count p) (λ n. least (end_of p (node n)) (s (node n))) (λ n. least (end_of p (node n)) (t (node n))) (λ n l. ap (least (end_of p (node n))) (same (node n))) in
    rw (machines, nodes) refl

-- ---- how great

-- legal choices end by the horizon, and so does the one that ends first
least-small : (p : Instance) → IsInstance p → (e : Element) (cs : List Choice) → ((c : Choice) → Contains cs c → IsTrue (is_legal p e c)) → least (end_of p e) cs ≤ p.horizon
least-small p sound e [] legal = omega arith
least-small p sound e (c ∷ cs) legal =
    let here = contains_here c cs in
    omega (arith, least_of_each (end_of p e) (c ∷ cs) c here, end_small p sound e c (legal c here))

pub cost_is_small : CostIsSmall
unfolding least_cost
cost_is_small p sound s legal =
    let machines = sum_to-bound (machine_count p) p.horizon (λ v. least (end_of p (vm v)) (s (vm v))) (λ v l. least-small p sound (vm v) (s (vm v)) (legal (vm v) l)) in
    let nodes = sum_to-bound (node_count p) p.horizon (λ n. least (end_of p (node n)) (s (node n))) (λ n l. least-small p sound (node n) (s (node n)) (legal (node n) l)) in
    grind (arith, machines, nodes, sound.horizon, sound.inventory.few_machines, sound.inventory.few_nodes)

-- ---- one element

-- the least end of an element is part of the sum
pub cost_term : (p : Instance) (s : Sets) (x : Element) → IsElement p x → least (end_of p x) (s x) ≤ least_cost p s
unfolding least_cost
cost_term p s (Vm v) there = omega (arith, sum_to-term (machine_count p) (λ k. least (end_of p (vm k)) (s (vm k))) v.0 there)
cost_term p s (Node n) there = omega (arith, sum_to-term (node_count p) (λ k. least (end_of p (node k)) (s (node k))) n.0 there)

-- the sets of the region with one domain changed
changed_here : (g : RegionView) (x : Element) (d : DomainView) → HasElement g x → sets (with_domain g x d) x ≡ choices d
changed_here g (Vm v) d there = ap choices (get_or-set_same g.machines v.0 d staying there)
changed_here g (Node n) d there = ap choices (get_or-set_same g.nodes n.0 d staying there)

changed_else : (g : RegionView) (x e : Element) (d : DomainView) → e ≢ x → sets (with_domain g x d) e ≡ sets g e
changed_else g (Vm v) (Vm w) d other = ap choices (get_or-set_other g.machines v.0 w.0 d staying (λ q. other (ap (λ (k : ℕ). let e : Element = Vm (record { 0 = k }) in e) q)))
changed_else g (Vm v) (Node n) d other = refl
changed_else g (Node m) (Vm w) d other = refl
changed_else g (Node m) (Node n) d other = ap choices (get_or-set_other g.nodes m.0 n.0 d staying (λ q. other (ap (λ (k : ℕ). let e : Element = Node (record { 0 = k }) in e) q)))

-- sets that differ in one element alone differ in its least end alone
pub cost_change : (p : Instance) (s t : Sets) (x : Element) → IsElement p x → ((e : Element) → e ≢ x → s e ≡ t e) → least_cost p s + least (end_of p x) (t x) ≡ least_cost p t + least (end_of p x) (s x)
unfolding least_cost
cost_change p s t (Vm v) there same =
    let machines = sum_to-change (machine_count p) (λ k. least (end_of p (vm k)) (s (vm k))) (λ k. least (end_of p (vm k)) (t (vm k))) v.0 there (λ k ne. ap (least (end_of p (vm k))) (same (vm k) (λ q. ne (ap (λ (e : Element). number e) q)))) in
    let nodes = sum_to-same (node_count p) (λ k. least (end_of p (node k)) (s (node k))) (λ k. least (end_of p (node k)) (t (node k))) (λ k l. ap (least (end_of p (node k))) (same (node k) (λ q. cc))) in
    omega (arith, machines, nodes)
  where
    number : Element → ℕ
    number (Vm w) = w.0
    number (Node n) = n.0
cost_change p s t (Node n) there same =
    let machines = sum_to-same (machine_count p) (λ k. least (end_of p (vm k)) (s (vm k))) (λ k. least (end_of p (vm k)) (t (vm k))) (λ k l. ap (least (end_of p (vm k))) (same (vm k) (λ q. cc))) in
    let nodes = sum_to-change (node_count p) (λ k. least (end_of p (node k)) (s (node k))) (λ k. least (end_of p (node k)) (t (node k))) n.0 there (λ k ne. ap (least (end_of p (node k))) (same (node k) (λ q. ne (ap (λ (e : Element). number e) q)))) in
    omega (arith, machines, nodes)
  where
    number : Element → ℕ
    number (Vm w) = w.0
    number (Node m) = m.0

-- an element of the instance is one of a region that is sized for it
pub has_element : (p : Instance) (g : RegionView) (x : Element) → IsSized p g → IsElement p x → HasElement g x
has_element p g (Vm v) sized there = rw sized.machines there
has_element p g (Node n) sized there = rw sized.nodes there

-- the sum of a region and that of the region with one domain changed
pub cost_with : (p : Instance) (g : RegionView) (x : Element) (d : DomainView) → IsSized p g → IsElement p x → least_cost p (sets (with_domain g x d)) + least (end_of p x) (sets g x) ≡ least_cost p (sets g) + least (end_of p x) (choices d)
cost_with p g x d sized there =
    rw (changed_here g x d (has_element p g x sized there)) at (cost_change p (sets (with_domain g x d)) (sets g) x there (λ e other. changed_else g x e d other))

-- what a sum is told: it has the least end of the old domain, and with that of the new one it is the sum of the region
pub record IsTold (p : Instance) (g : RegionView) (x : Element) (d : DomainView) (top : ℕ) : Type 0 where
  pub within : least (end_of p x) (choices d) ≤ top
  pub small : top + least (end_of p x) (sets g x) ≤ max_cost + least (end_of p x) (choices d)
  pub sum : (new : ℕ) → new + least (end_of p x) (choices d) ≡ top + least (end_of p x) (sets g x) → new ≡ least_cost p (sets g)

pub is_told : (p : Instance) → IsInstance p → (g : RegionView) (x : Element) (d : DomainView) (top : ℕ) → IsSized p g → AreLegal p (sets g) → IsElement p x → top ≡ least_cost p (sets (with_domain g x d)) → IsTold p g x d top
is_told p sound g x d top sized legal there agreed =
    let both = cost_with p g x d sized there in
    let term : least (end_of p x) (choices d) ≤ least_cost p (sets (with_domain g x d)) = rw (changed_here g x d (has_element p g x sized there)) at (cost_term p (sets (with_domain g x d)) x there) in
    record {
      within = omega (arith, agreed, term);
      small = omega (arith, agreed, both, cost_is_small p sound (sets g) legal);
      sum = λ new e. omega (arith, agreed, both, e);
    }

same_self : (x : Element) → same_element x x ≡ true
same_self (Vm v) = (Decides-eqb v.0 v.0).1 refl
same_self (Node n) = (Decides-eqb n.0 n.0).1 refl

pub cost_put_back : CostPutBack
cost_put_back p before after x there same = same_cost p (sets (with_domain after x (domain_at before x))) (sets before) (λ e. at e (same_element e x) refl)
  where
    at : (e : Element) (b : Bool) → same_element e x ≡ b → sets (with_domain after x (domain_at before x)) e ≡ sets before e
    at e true q = rw (same_is e x q) (changed_here after x (domain_at before x) there)
    at e false q =
        let other : e ≢ x = λ i. let bad : true ≡ false = sym (same_self x) ∙ rw i at q in cc in
        changed_else after x e (domain_at before x) other ∙ same e other

-- what a narrowing keeps of the element itself, and of the others
pub kept_here : (x : Element) (test : Choice → Bool) (s : Sets) → keeping x test s x ≡ filter test (s x)
kept_here x test s = rw (same_self x) refl

pub kept_else : (x e : Element) (test : Choice → Bool) (s : Sets) → e ≢ x → keeping x test s e ≡ s e
kept_else x e test s other = at (same_element e x) refl
  where
    at : (b : Bool) → same_element e x ≡ b → keeping x test s e ≡ s e
    at true q = absurd (other (same_is e x q))
    at false q = rw q refl

pub narrowing_tells : NarrowingTells
narrowing_tells p before after x test sized legal there machines nodes narrowed =
    let region : IsSized p after = record { machines = machines ∙ sized.machines; nodes = nodes ∙ sized.nodes } in
    record {
      region = region;
      legal = λ e element c h. legal_stays p (sets before) x test legal e element c (rw (narrowed e) at h);
      narrowed = λ c h. filter_is_fewer test (sets before x) c (rw (narrowed x ∙ kept_here x test (sets before)) at h);
      agreed = sym (cost_put_back p before after x (has_element p after x region there) (λ e other. narrowed e ∙ kept_else x e test (sets before) other));
    }
