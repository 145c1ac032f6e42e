-- What setting one element changes in what is sure.
use Rattle.std.proofs.Common.{IsTrue}
use Rattle.base.proofs.Public.{◌≡◌, ◌==◌, ◌≢◌, inl, ℕ, ◌≤◌, Bool, true, false, cond, [], ◌∷◌, refl, sym, ap, subst, ◌∙◌, arith, Contains, eq-eqb, false_from_ne_true, or-false, sum_to-change, sum_to-same}
use Rattle.reasons.specs.Prelude.{Act, action_at, capacity_of, Choice, Element, EndIsChoice, held_at, Instance, IsMachineUnder, IsNodeUnder, IsSameMachine, IsSameNode, least, machine_count, MachineChange, may, node, Node as TheNode, node_count, NodeChange, powered_at, powered_in, present_at, QuietIsFree, room_at, same_element, SameSets, Sets, setting, SettingAgrees, SettingGrows, SettingPowered, SettingRoom, SettingSets, SettingTotal, SomeEnd, sure, surely, usable_at, Vm, vm}
use Rattle.cluster.specs.declared.choices.Choice.TheVariants.{Idle}
use Rattle.domains.proofs.Public.{least_of_each, may_each, same_is, surely_each}
use Rattle.reasons.proofs.ClosedLemmas.{and-true, end-contained}
use Rattle.reasons.proofs.FreeLemmas.{free_stays}
use Rattle.reasons.proofs.PartLemmas.{parts_are_in}
use Rattle.reasons.proofs.MemberLemmas.{first-in}
use Rattle.reasons.proofs.TurnLemmas.{low_of}

self : (x : Element) → same_element x x ≡ true
self (Vm v) = eq-eqb v.0 v.0 refl
self (TheNode n) = eq-eqb n.0 n.0 refl

pub setting-here : (x : Element) (c : Choice) (s : Sets) → setting x c s x ≡ c ∷ []
setting-here x c s = rw (self x) refl

pub setting-other : (x e : Element) (c : Choice) (s : Sets) → e ≢ x → setting x c s e ≡ s e
setting-other x e c s ne = let other : same_element e x ≡ false = false_from_ne_true _ (λ t. ne (same_is e x t)) in rw other refl

-- ---- element by element

-- sets that are the same at an element have the same of it
same-machine : (p : Instance) (s r : Sets) (t v : ℕ) → s (vm v) ≡ r (vm v) → IsSameMachine (sure p s t) (sure p r t) v
unfolding sure
same-machine p s r t v e = record {
  held = λ w set. ap (least (held_at p v w set t)) e;
  present = λ set. ap (surely (present_at p v set t)) e;
  action = λ far. ap (surely (action_at p v far t)) e;
}

same-node : (p : Instance) (s r : Sets) (t n : ℕ) → s (node n) ≡ r (node n) → IsSameNode (sure p s t) (sure p r t) n
unfolding sure
same-node p s r t n e = record { usable = ap (may (usable_at p n t)) e; powered = ap (surely (powered_at p n t)) e }

machine-under : (p : Instance) (s : Sets) (t v : ℕ) (c : Choice) → s (vm v) ≡ c ∷ [] → IsMachineUnder p (sure p s t) v t c
unfolding sure
machine-under p s t v c e = record {
  held = λ w set. ap (least (held_at p v w set t)) e;
  present = λ set. ap (surely (present_at p v set t)) e ∙ and-true (present_at p v set t c);
  action = λ far. ap (surely (action_at p v far t)) e ∙ and-true (action_at p v far t c);
}

node-under : (p : Instance) (s : Sets) (t n : ℕ) (c : Choice) → s (node n) ≡ c ∷ [] → IsNodeUnder p (sure p s t) n t c
unfolding sure
node-under p s t n c e = record {
  usable = ap (may (usable_at p n t)) e ∙ or-false (usable_at p n t c);
  powered = ap (surely (powered_at p n t)) e ∙ and-true (powered_at p n t c);
}

pub setting_sets : SettingSets
setting_sets p s x c t = record {
  set_machine = λ v e. machine-under p (setting x c s) t v c (ap (setting x c s) (sym e) ∙ setting-here x c s);
  set_node = λ n e. node-under p (setting x c s) t n c (ap (setting x c s) (sym e) ∙ setting-here x c s);
  other_machines = λ v ne. same-machine p (setting x c s) s t v (setting-other x (vm v) c s ne);
  other_nodes = λ n ne. same-node p (setting x c s) s t n (setting-other x (node n) c s ne);
}

pub setting_grows : SettingGrows
unfolding sure
setting_grows p s x c t i = record {
  held = λ v w set. at-least (held_at p v w set t) (vm v) (same_element (vm v) x) refl;
  present = λ v set. at-surely (present_at p v set t) (vm v) (same_element (vm v) x) refl;
  usable = λ n. at-may (usable_at p n t) (node n) (same_element (node n) x) refl;
  powered = λ n. at-surely (powered_at p n t) (node n) (same_element (node n) x) refl;
  action = λ v far. at-surely (action_at p v far t) (vm v) (same_element (vm v) x) refl;
}
  where
    in_set : (e : Element) → same_element e x ≡ true → Contains (s e) c
    in_set e h = subst (λ y. Contains (s y) c) (sym (same_is e x h)) i

    at-least : (f : Choice → ℕ) (e : Element) (b : Bool) → same_element e x ≡ b → least f (s e) ≤ least f (cond b (c ∷ []) (s e))
    at-least f e true h = least_of_each f (s e) c (in_set e h)
    at-least f e false h = omega arith

    at-surely : (test : Choice → Bool) (e : Element) (b : Bool) → same_element e x ≡ b → IsTrue (surely test (s e)) → IsTrue (surely test (cond b (c ∷ []) (s e)))
    at-surely test e true h sure_of = and-true (test c) ∙ surely_each test (s e) c (in_set e h) sure_of
    at-surely test e false h sure_of = sure_of

    at-may : (test : Choice → Bool) (e : Element) (b : Bool) → same_element e x ≡ b → IsTrue (may test (cond b (c ∷ []) (s e))) → IsTrue (may test (s e))
    at-may test e true h maybe = may_each test (s e) c (in_set e h) (sym (or-false (test c)) ∙ maybe)
    at-may test e false h maybe = maybe

pub end_is_choice : EndIsChoice
end_is_choice cs c end = end-contained cs c end

pub some_end : SomeEnd
some_end [] ne = absurd (ne refl)
some_end (Idle ∷ cs) ne = (Idle, first-in Idle cs)
some_end (Act place s ∷ cs) ne =
    let low = low_of (Act place s ∷ cs) place s (first-in (Act place s) cs) in
    (Act place low.0, (low.1.0, inl low.1.1))

pub quiet_is_free : QuietIsFree
quiet_is_free p s kind e there some quiet t l =
    let end = some_end (s e) (some e there) in
    free_stays p (sure p s t) (sure p (setting e end.0 s) t) (parts_are_in p _ _ (setting_grows p s e end.0 t (end-contained (s e) end.0 end.1))) (t == p.horizon) kind (quiet.quiet e end.0 there end.1 t l)

-- ---- sums

number : Element → ℕ
number (Vm v) = v.0
number (TheNode n) = n.0

abbrev is_vm : Element → Bool
is_vm (Vm v) = true
is_vm (TheNode n) = false

vm-differs : (k v : ℕ) → k ≢ v → vm k ≢ vm v
unfolding number
vm-differs k v ne e = ne (ap number e)

node-differs : (k n : ℕ) → k ≢ n → node k ≢ node n
unfolding number
node-differs k n ne e = ne (ap number e)

vm-node : (v n : ℕ) → vm v ≢ node n
vm-node v n e = let bad : true ≡ false = ap is_vm e in cc

pub setting_agrees : SettingAgrees
setting_agrees s x c e ne = setting-other x e c s ne

pub machine_change : MachineChange
machine_change p s old v t l agree = record {
  of_total = λ w set. sum_to-change (machine_count p) (λ k. (sure p s t).held k w set) (λ k. (sure p old t).held k w set) v l (λ k ne. (others k ne).held w set);
  of_room = λ r set. sum_to-same (node_count p) (room_at p (sure p s t) r set) (room_at p (sure p old t) r set) (λ n i. ap (λ b. cond (set n) (cond b (capacity_of p n r) 0) 0) (nodes n).usable);
  of_powered = λ set. sum_to-same (node_count p) (powered_in (sure p s t) set) (powered_in (sure p old t) set) (λ n i. ap (λ b. cond (set n) (cond b 1 0) 0) (nodes n).powered);
}
  where
    others : (k : ℕ) → k ≢ v → IsSameMachine (sure p s t) (sure p old t) k
    others k ne = same-machine p s old t k (agree (vm k) (vm-differs k v ne))

    nodes : (n : ℕ) → IsSameNode (sure p s t) (sure p old t) n
    nodes n = same-node p s old t n (agree (node n) (λ e. vm-node v n (sym e)))

pub node_change : NodeChange
node_change p s old n t l agree = record {
  of_total = λ w set. sum_to-same (machine_count p) (λ v. (sure p s t).held v w set) (λ v. (sure p old t).held v w set) (λ v i. (machines v).held w set);
  of_room = λ r set. sum_to-change (node_count p) (room_at p (sure p s t) r set) (room_at p (sure p old t) r set) n l (λ k ne. ap (λ b. cond (set k) (cond b (capacity_of p k r) 0) 0) (others k ne).usable);
  of_powered = λ set. sum_to-change (node_count p) (powered_in (sure p s t) set) (powered_in (sure p old t) set) n l (λ k ne. ap (λ b. cond (set k) (cond b 1 0) 0) (others k ne).powered);
}
  where
    others : (k : ℕ) → k ≢ n → IsSameNode (sure p s t) (sure p old t) k
    others k ne = same-node p s old t k (agree (node k) (node-differs k n ne))

    machines : (v : ℕ) → IsSameMachine (sure p s t) (sure p old t) v
    machines v = same-machine p s old t v (agree (vm v) (vm-node v n))

pub same_sets : SameSets
same_sets p s old t = record { of_machine = same-machine p s old t; of_node = same-node p s old t }

pub setting_total : SettingTotal
setting_total p s v c t w set l =
    let here = ((setting_sets p s (vm v) c t).set_machine v refl).held w set in
    omega (arith, here, (machine_change p (setting (vm v) c s) s v t l (setting_agrees s (vm v) c)).of_total w set)

pub setting_room : SettingRoom
setting_room p s n c t r set l =
    let here = ap (λ b. cond (set n) (cond b (capacity_of p n r) 0) 0) ((setting_sets p s (node n) c t).set_node n refl).usable in
    omega (arith, here, (node_change p (setting (node n) c s) s n t l (setting_agrees s (node n) c)).of_room r set)

pub setting_powered : SettingPowered
setting_powered p s n c t set l =
    let here : ◌≡◌ {A = ℕ} (powered_in (sure p (setting (node n) c s) t) set n) (cond (set n) (cond (powered_at p n t c) 1 0) 0) = ap (λ b. cond (set n) (cond b 1 0) 0) ((setting_sets p s (node n) c t).set_node n refl).powered in
    omega (arith, here, (node_change p (setting (node n) c s) s n t l (setting_agrees s (node n) c)).of_powered set)
