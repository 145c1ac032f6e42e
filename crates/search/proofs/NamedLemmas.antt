-- The steps of a search can be written.
use Rattle.base.proofs.Public.{◌≡◌, ◌≢◌, ℕ, ◌+◌, Bool, true, false, ◌&&◌, nat_lt, nat_le, List, [], ◌∷◌, Option, None, is_some, refl, subst, arith, Contains, filter, nat_tests, Decides-eqb, if◌then◌else◌}
use Rattle.search.specs.Prelude.{Act, AreLegal, At, Choice, Clash, Cut, CutHolds, Decide, Element, HasPart, HasPlace, HasStep, Idle, in_part, Instance, is_legal, is_online, is_raised, IsInstance, IsSplit, IsStart, Keep, Kind, kind_of, machine_kind, Node as TheNode, node_count, node_kind, NodeId, Nowhere, Part, Place, Reason, same_place, Sets, state_of, To, Vm, wanted_of, wanted_state, Wish}
use Rattle.domains.proofs.Public.{contains_here, filter_contains}
use Rattle.cert_text.proofs.Public.{named_reason}

-- ---- the place of a legal choice

both_true : (a b : Bool) → (a && b) ≡ true → (a ≡ true) × (b ≡ true)
both_true true b h = (refl, h)
both_true false b h = absurd (cc)

has_kind : (b : Bool) (o : Option Kind) → is_some (if b then o else None) ≡ true → b ≡ true
has_kind true o h = refl
has_kind false o h = absurd (cc)

no_kind : (online : Bool) (wish : Wish) (n : NodeId) → node_kind online wish (At n) ≡ None
no_kind online Keep n = refl
no_kind online (To target) n = refl
no_kind online Clash n = refl

legal_place : (p : Instance) (e : Element) (place : Place) (start : ℕ) → is_legal p e (Act place start) ≡ true → HasPlace p place
unfolding is_legal kind_of
legal_place p e Nowhere start legal = tt
legal_place p (Vm v) (At n) start legal =
    let both = both_true (is_some (if nat_lt n.0 (node_count p) then machine_kind (state_of p v.0) (wanted_state p v.0) (is_raised p v.0) (At n) else None)) _ legal in
    let there : nat_lt n.0 (node_count p) ≡ true = has_kind (nat_lt n.0 (node_count p)) (machine_kind (state_of p v.0) (wanted_state p v.0) (is_raised p v.0) (At n)) both.0 in
    grind (arith, nat_tests)
legal_place p (TheNode m) (At n) start legal =
    let both = both_true (is_some (node_kind (is_online p.nodes m.0) (wanted_of p (TheNode m)) (At n))) _ legal in
    let none : node_kind (is_online p.nodes m.0) (wanted_of p (TheNode m)) (At n) ≡ None = no_kind (is_online p.nodes m.0) (wanted_of p (TheNode m)) n in
    let some : is_some (node_kind (is_online p.nodes m.0) (wanted_of p (TheNode m)) (At n)) ≡ true = both.0 in
    let wrong : false ≡ true = subst (λ o. is_some o ≡ true) none some in
    absurd (cc)

same_has : (p : Instance) (q place : Place) → same_place q place ≡ true → HasPlace p q → HasPlace p place
same_has p q Nowhere same has = tt
same_has p Nowhere (At n) same has = let e : 0 ≡ n.0 + 1 = (Decides-eqb 0 (n.0 + 1)).0 same in absurd (omega arith)
same_has p (At m) (At n) same has = let e : m.0 + 1 ≡ n.0 + 1 = (Decides-eqb (m.0 + 1) (n.0 + 1)).0 same in omega (arith, has, e)

-- the start of a part, if it has one, is one that the code can hold
abbrev pub StartFits : Part → Type 0
StartFits Part.Idle = Unit {0}
StartFits (Part.Upto place start) = IsStart start
StartFits (Part.From place start) = IsStart start

-- a part that holds a legal choice names a place of the problem
has_part : (p : Instance) (e : Element) (part : Part) (c : Choice) → is_legal p e c ≡ true → in_part part c ≡ true → StartFits part → HasPart p part
has_part p e Part.Idle c legal held fits = tt
has_part p e (Part.Upto place start) Idle legal held fits = absurd (cc)
has_part p e (Part.Upto place start) (Act q s) legal held fits = (same_has p q place (both_true (same_place q place) (nat_le s start) held).0 (legal_place p e q s legal), fits)
has_part p e (Part.From place start) Idle legal held fits = absurd (cc)
has_part p e (Part.From place start) (Act q s) legal held fits = (same_has p q place (both_true (same_place q place) (nat_le start s) held).0 (legal_place p e q s legal), fits)

some_choice : (cs : List Choice) → cs ≢ [] → (c : Choice) × Contains cs c
some_choice [] some = absurd (some refl)
some_choice (c ∷ cs) some = (c, contains_here c cs)

pub split_named : (p : Instance) (s : Sets) (x : Element) (part : Part) → AreLegal p s → IsSplit p s x part → StartFits part → HasStep p (Decide x part)
split_named p s x part legal split fits =
    let one = some_choice (filter (in_part part) (s x)) split.some_inside in
    let held = filter_contains (in_part part) (s x) one.0 one.1 in
    (split.element, has_part p x part one.0 (legal x split.element one.0 held.0) held.1 fits)

pub cut_named : (p : Instance) → IsInstance p → (s : Sets) (x : Element) (part : Part) (reason : Reason) → AreLegal p s → CutHolds p s x part reason → StartFits part → HasStep p (Cut x part reason)
cut_named p sound s x part reason legal holds fits =
    (holds.exists, has_part p x part holds.held.0 (legal x holds.exists holds.held.0 holds.held.1) holds.held.2 fits, named_reason p sound reason holds.refuted.named)
