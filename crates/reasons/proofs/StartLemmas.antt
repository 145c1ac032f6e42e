-- The start region has exactly the legal choices.
use Rattle.std.proofs.Common.{IsTrue}
use Rattle.base.proofs.Public.{◌≡◌, inl, inr, ◌+◌, ◌<◌, Bool, true, false, cond, nat_le, nat_lt, [], None, is_some, refl, arith, ap, ◌∷◌, Contains, range_with_len, filter, and_parts, cases_lt, false≢true, le-ltb, leb-true, lt-ltb, ltb-true, sum_to-same}
use Rattle.reasons.specs.Prelude.{Act, action_duration, At, Choice, Choices, Clash, CostWithin, Element, end_of, every_choice, Instance, is_element, is_legal, is_online, is_raised, IsElement, Keep, kind_of, machine_count, machine_kind, node, Node as TheNode, node_count, node_kind, NodeId, Nowhere, places, start_sets, StartHas, StartIsLegal, StartIsOf, StartIsPlan, starts_from, state_of, To, Vm, vm, wanted_of, wanted_state, Wish, within}
use Rattle.cluster.specs.declared.choices.Choice.TheVariants.{Idle}
use Rattle.cluster.specs.declared.choices.Place.{Place}
use Rattle.reasons.proofs.MemberLemmas.{filter-in, first-in, flat_map-in, in-filter, later-in, map-in, range-in}
use Rattle.reasons.proofs.RowLemmas.{starts-in}

-- ---- each legal choice is one of all

node_acts_nowhere : (online : Bool) (wish : Wish) (n : NodeId) → ¬ (is_some (node_kind online wish (At n)) ≡ true)
node_acts_nowhere true Keep n h = false≢true h
node_acts_nowhere true (To t) n h = false≢true h
node_acts_nowhere true Clash n h = false≢true h
node_acts_nowhere false Keep n h = false≢true h
node_acts_nowhere false (To t) n h = false≢true h
node_acts_nowhere false Clash n h = false≢true h

placed : (p : Instance) (e : Element) (n : NodeId) → is_some (kind_of p e (At n)) ≡ true → n.0 < node_count p
unfolding kind_of
placed p (Vm v) n h = at (nat_lt n.0 (node_count p)) refl h
  where
    at : (b : Bool) → nat_lt n.0 (node_count p) ≡ b → is_some (cond b (machine_kind (state_of p v.0) (wanted_state p v.0) (is_raised p v.0) (At n)) None) ≡ true → n.0 < node_count p
    at true e h = ltb-true n.0 (node_count p) e
    at false e h = absurd (false≢true h)
placed p (TheNode m) n h = absurd (node_acts_nowhere (is_online p.nodes m.0) (wanted_of p (TheNode m)) n h)

place-in : (p : Instance) (e : Element) (place : Place) → is_some (kind_of p e place) ≡ true → Contains (places p) place
place-in p e Nowhere h = first-in Nowhere _
place-in p e (At n) h =
    later-in Nowhere (At n) _ (map-in (λ k. At (record { 0 = k })) (range_with_len 0 (node_count p)) n.0 (range-in (node_count p) n.0 (placed p e n h)))

choice-in : (p : Instance) (e : Element) (c : Choice) → IsTrue (is_legal p e c) → Contains (every_choice p) c
unfolding is_legal end_of
choice-in p e Idle legal = first-in Idle _
choice-in p e (Act place s) legal =
    let parts = and_parts (is_some (kind_of p e place)) (nat_le (s + action_duration p e place) p.horizon) legal in
    let early = leb-true (s + action_duration p e place) p.horizon parts.1 in
    later-in Idle (Act place s) _
    (flat_map-in (λ q. starts_from q 0 (p.horizon + 1)) (places p) place (Act place s) (place-in p e place parts.0) (starts-in place 0 (p.horizon + 1) s (omega arith) (omega (arith, early))))

-- ---- the start region

element-true : (p : Instance) (e : Element) → IsElement p e → is_element p e ≡ true
element-true p (Vm v) h = lt-ltb v.0 (machine_count p) h
element-true p (TheNode n) h = lt-ltb n.0 (node_count p) h

pub start_is_of : StartIsOf
unfolding start_sets
start_is_of p (Vm v) =
    elim (cases_lt v.0 (machine_count p)) [ inl there ↦ inl there | inr past ↦ inr (rw (le-ltb v.0 (machine_count p) past) refl) ]
start_is_of p (TheNode n) =
    elim (cases_lt n.0 (node_count p)) [ inl there ↦ inl there | inr past ↦ inr (rw (le-ltb n.0 (node_count p) past) refl) ]

pub start_is_legal : StartIsLegal
unfolding start_sets
start_is_legal p e there c =
    let is = element-true p e there in
    rw is (λ h. in-filter (is_legal p e) (every_choice p) c h, λ legal. filter-in (is_legal p e) (every_choice p) c (choice-in p e c legal) legal)

pub start_is_plan : StartIsPlan
start_is_plan p plan i e there = (start_is_legal p e there (plan e)).0 (i e)

-- ---- a plan, with all else idle

true-element : (p : Instance) (e : Element) → is_element p e ≡ true → IsElement p e
true-element p (Vm v) h = ltb-true v.0 (machine_count p) h
true-element p (TheNode n) h = ltb-true n.0 (node_count p) h

pub start_has : StartHas
unfolding start_sets
start_has p plan legal e = at (is_element p e) refl
  where
    at : (b : Bool) → is_element p e ≡ b → Contains (cond b (filter (is_legal p e) (every_choice p)) (Idle ∷ [])) (cond b (plan e) Idle)
    at true h =
        let there = legal e (true-element p e h) in
        filter-in (is_legal p e) (every_choice p) (plan e) (choice-in p e (plan e) there) there
    at false h = first-in Idle []

pub within-same : (p : Instance) (plan : Choices) (e : Element) → IsElement p e → within p plan e ≡ plan e
within-same p plan e there = rw (element-true p e there) refl

pub cost_within : CostWithin
cost_within p plan =
    rw (
      sum_to-same (machine_count p) (λ v. end_of p (vm v) (within p plan (vm v))) (λ v. end_of p (vm v) (plan (vm v))) (λ v l. ap (end_of p (vm v)) (within-same p plan (vm v) l)),
      sum_to-same (node_count p) (λ n. end_of p (node n) (within p plan (node n))) (λ n. end_of p (node n) (plan (node n))) (λ n l. ap (end_of p (node n)) (within-same p plan (node n) l)),
    ) refl
