-- Few instants decide: what is sure grows at turns only.
use Rattle.base.proofs.Public.{◌≡◌, ◌⊎◌, inl, inr, ℕ, zero, suc, ◌<◌, ◌≤◌, Bool, true, false, ◌==◌, cond, List, [], ◌∷◌, Some, refl, sym, ap, subst, ◌∙◌, arith, Contains, cases_eq, cases_lt, ne_eqb}
use Rattle.reasons.specs.Prelude.{Act, AreOf, At, Choice, ClosedAtTurns, ClosedByKinds, Element, Instance, IsElement, IsEnd, IsEndStart, IsFree, IsPartOf, IsTurn, IsUnrefuted, machine_count, node, Node as TheNode, node_count, Nowhere, QuietAtTurns, same_element, Sets, setting, Snapshot, start_of, sure, TurnsDecide, UnrefutedAtTurns, Vm, vm}
use Rattle.cluster.specs.declared.choices.Choice.TheVariants.{Idle}
use Rattle.cluster.specs.declared.choices.Place.{Place}
use Rattle.domains.proofs.Public.{contains_one, same_is}
use Rattle.reasons.proofs.FreeLemmas.{free_stays}
use Rattle.reasons.proofs.ClosedLemmas.{end-contained}
use Rattle.reasons.proofs.MeasureLemmas.{IsFine, sure-next}
use Rattle.reasons.proofs.MemberLemmas.{cases-in, first-in, later-in, none-in}
use Rattle.reasons.proofs.PartLemmas.{parts_are_in}
use Rattle.reasons.proofs.PlanLemmas.{search_to}

-- ---- the ends of a set at a place

place_eq : (q r : Place) → (q ≡ r) ⊎ ¬ (q ≡ r)
place_eq Nowhere Nowhere = inl refl
place_eq Nowhere (At n) = inr (λ e. cc)
place_eq (At m) Nowhere = inr (λ e. cc)
place_eq (At m) (At n) =
    elim (cases_eq m.0 n.0) [
      | inl e ↦ inl (ap (λ (k : ℕ). let q : Place = At (record { 0 = k }) in q) e)
      | inr ne ↦ inr (λ e. ne (let same : m ≡ n = cc in ap (λ x. x.0) same))
    ]

act_at : (c : Choice) (place : Place) → ((s : ℕ) × (c ≡ Act place s)) ⊎ ((u : ℕ) → ¬ (c ≡ Act place u))
act_at Idle place = inr (λ u e. cc)
act_at (Act q s) place = elim (place_eq q place) [ inl e ↦ inl (s, ap (λ x. Act x s) e) | inr ne ↦ inr (λ u e. ne (let same : q ≡ place = cc in same)) ]

-- the least by a total order, of the starts at a place
module _ (R : ℕ → ℕ → Type 0) (total : (a b : ℕ) → R a b ⊎ R b a) (through : (a b c : ℕ) → R a b → R b c → R a c) (place : Place) where
  abbrev IsBest : List Choice → ℕ → Type 0
  IsBest cs b = Contains cs (Act place b) × ((u : ℕ) → Contains cs (Act place u) → R b u)

  itself : (a : ℕ) → R a a
  itself a = elim (total a a) [ inl x ↦ x | inr x ↦ x ]

  act_start : (s u : ℕ) → Act place s ≡ Act place u → s ≡ u
  act_start s u e = cc

  with_first : (c : Choice) (cs : List Choice) (s b : ℕ) → c ≡ Act place s → R b s → ((u : ℕ) → Contains cs (Act place u) → R b u) → (u : ℕ) → Contains (c ∷ cs) (Act place u) → R b u
  with_first c cs s b is first rest u h =
      elim (cases-in c (Act place u) cs h) [ inl here ↦ subst (R b) (act_start s u (sym is ∙ here)) first | inr later ↦ rest u later ]

  best : (cs : List Choice) → ((b : ℕ) × IsBest cs b) ⊎ ((u : ℕ) → ¬ Contains cs (Act place u))
  best [] = inr (λ u. none-in (Act place u))
  best (c ∷ cs) =
      elim (act_at c place) [
        | inl here ↦
            let first : Contains (c ∷ cs) (Act place here.0) = rw here.1 (first-in (Act place here.0) cs) in
            elim (best cs) [
              | inl rest ↦
                  elim (total here.0 rest.0) [
                    | inl x ↦ inl (here.0, (first, with_first c cs here.0 here.0 here.1 (itself here.0) (λ u h. through here.0 rest.0 u x (rest.1.1 u h))))
                    | inr x ↦ inl (rest.0, (later-in c (Act place rest.0) cs rest.1.0, with_first c cs here.0 rest.0 here.1 x rest.1.1))
                  ]
              | inr none ↦ inl (here.0, (first, with_first c cs here.0 here.0 here.1 (itself here.0) (λ u h. absurd (none u h))))
            ]
        | inr other ↦
            elim (best cs) [
              | inl rest ↦
                  inl
                  (rest.0, (later-in c (Act place rest.0) cs rest.1.0, λ u h. elim (cases-in c (Act place u) cs h) [ inl here ↦ absurd (other u here) | inr later ↦ rest.1.1 u later ]))
              | inr none ↦ inr (λ u h. elim (cases-in c (Act place u) cs h) [ inl here ↦ other u here | inr later ↦ none u later ])
            ]
      ]

  best_of : (cs : List Choice) (s : ℕ) → Contains cs (Act place s) → (b : ℕ) × IsBest cs b
  best_of cs s h = elim (best cs) [ inl x ↦ x | inr none ↦ absurd (none s h) ]

le_total : (a b : ℕ) → (a ≤ b) ⊎ (b ≤ a)
le_total a b = elim (cases_lt a b) [ inl l ↦ inl (omega arith) | inr l ↦ inr l ]

pub low_of : (cs : List Choice) (place : Place) (s : ℕ) → Contains cs (Act place s) → (b : ℕ) × (Contains cs (Act place b) × ((u : ℕ) → Contains cs (Act place u) → b ≤ u))
low_of cs place s h = best_of (λ a b. a ≤ b) le_total (λ a b c x y. omega arith) place cs s h

high_of : (cs : List Choice) (place : Place) (s : ℕ) → Contains cs (Act place s) → (b : ℕ) × (Contains cs (Act place b) × ((u : ℕ) → Contains cs (Act place u) → u ≤ b))
high_of cs place s h = best_of (λ a b. b ≤ a) (λ a b. le_total b a) (λ a b c x y. omega arith) place cs s h

-- ---- the next instant is the start of an end, or what is sure does not grow

abbrev EndAt : List Choice → ℕ → Type 0
EndAt cs t = (c : Choice) × IsEnd cs c × (start_of c ≡ Some t)

one_fine : (cs : List Choice) (u : ℕ) (c : Choice) → Contains cs c → EndAt cs (suc u) ⊎ IsFine cs u c
one_fine cs u Idle h = inr (inl (λ s e. cc))
one_fine cs u (Act place s) h =
    elim (cases_eq s (suc u)) [
      | inr ne ↦ inr (inl (λ x e. let same : s ≡ x = cc in elim (cases_lt u s) [ inl above ↦ inr (omega arith) | inr below ↦ inl (omega arith) ]))
      | inl is ↦
          let low = low_of cs place s h in
          let high = high_of cs place s h in
          elim (cases_eq low.0 (suc u)) [
            | inl e ↦ inl (Act place low.0, (low.1.0, inl low.1.1), ap Some e)
            | inr not_low ↦
                elim (cases_eq high.0 (suc u)) [
                  | inl e ↦ inl (Act place high.0, (high.1.0, inr high.1.1), ap Some e)
                  | inr not_high ↦
                      let below : low.0 ≤ s = low.1.1 s h in
                      let above : s ≤ high.0 = high.1.1 s h in
                      inr
                      (inr
                      (record {
                        place = place;
                        low = low.0;
                        start = s;
                        high = high.0;
                        is = refl;
                        below = below;
                        above = above;
                        low_in = low.1.0;
                        high_in = high.1.0;
                        early = omega arith;
                        late = omega arith;
                      }))
                ]
          ]
    ]

all_fine : (whole : List Choice) (u : ℕ) (cs : List Choice) → ((c : Choice) → Contains cs c → Contains whole c) → EndAt whole (suc u) ⊎ ((c : Choice) → Contains cs c → IsFine whole u c)
all_fine whole u [] sub = inr (λ c h. absurd (none-in c h))
all_fine whole u (x ∷ xs) sub =
    elim (one_fine whole u x (sub x (first-in x xs))) [
      | inl turn ↦ inl turn
      | inr here ↦
          elim (all_fine whole u xs (λ c h. sub c (later-in x c xs h))) [
            | inl turn ↦ inl turn
            | inr rest ↦ inr (λ c h. elim (cases-in x c xs h) [ inl same ↦ subst (IsFine whole u) same here | inr later ↦ rest c later ])
          ]
    ]

abbrev AreFine : List Choice → ℕ → Type 0
AreFine cs u = (c : Choice) → Contains cs c → IsFine cs u c

idle-fine : (cs : List Choice) (u : ℕ) → cs ≡ Idle ∷ [] → AreFine cs u
idle-fine cs u is c h =
    let same : c ≡ Idle = contains_one Idle c (rw is at h) in
    inl (rw same (λ s e. cc))

pub turn_or_fine : (p : Instance) (s : Sets) → AreOf p s → (u : ℕ) → IsEndStart s (suc u) ⊎ ((e : Element) → AreFine (s e) u)
turn_or_fine p s of u =
    elim (search_to (machine_count p) (λ v. EndAt (s (vm v)) (suc u)) (λ v. AreFine (s (vm v)) u) (λ v. all_fine (s (vm v)) u (s (vm v)) (λ c h. h))) [
      | inl x ↦ inl (record { element = vm x.0; choice = x.2.0; is_end = x.2.1; starts = x.2.2 })
      | inr machines ↦
          elim (search_to (node_count p) (λ n. EndAt (s (node n)) (suc u)) (λ n. AreFine (s (node n)) u) (λ n. all_fine (s (node n)) u (s (node n)) (λ c h. h))) [
            | inl x ↦ inl (record { element = node x.0; choice = x.2.0; is_end = x.2.1; starts = x.2.2 })
            | inr nodes ↦ inr (at machines nodes)
          ]
    ]
  where
    at : ((v : ℕ) → v < machine_count p → AreFine (s (vm v)) u) → ((n : ℕ) → n < node_count p → AreFine (s (node n)) u) → (e : Element) → AreFine (s e) u
    at machines nodes (Vm v) = elim (of (Vm v)) [ inl there ↦ machines v.0 there | inr idle ↦ idle-fine (s (Vm v)) u idle ]
    at machines nodes (TheNode n) = elim (of (TheNode n)) [ inl there ↦ nodes n.0 there | inr idle ↦ idle-fine (s (TheNode n)) u idle ]

-- ---- what each part keeps is so at each instant where it is so at each turn

pub turns_decide_for : (A : Snapshot → Bool → Type 0) → ((s big : Snapshot) (last : Bool) → IsPartOf s big → A big last → A s last) → (p : Instance) (s : Sets) → AreOf p s → ((t : ℕ) → t ≤ p.horizon → IsTurn p s t → A (sure p s t) (t == p.horizon)) → (t : ℕ) → t ≤ p.horizon → A (sure p s t) (t == p.horizon)
turns_decide_for A keeps p s of given zero l = given zero l (inl refl)
turns_decide_for A keeps p s of given (suc u) l =
    elim (cases_eq (suc u) p.horizon) [
      | inl e ↦ given (suc u) l (inr (inl e))
      | inr ne ↦
          elim (turn_or_fine p s of u) [
            | inl turn ↦ given (suc u) l (inr (inr turn))
            | inr fine ↦ step ne (sure-next p s u fine) (turns_decide_for A keeps p s of given u (omega arith))
          ]
    ]
  where
    step : ¬ (suc u ≡ p.horizon) → IsPartOf (sure p s (suc u)) (sure p s u) → A (sure p s u) (u == p.horizon) → A (sure p s (suc u)) (suc u == p.horizon)
    step ne part before =
        let late : (suc u == p.horizon) ≡ false = ne_eqb (suc u) p.horizon ne in
        let early : (u == p.horizon) ≡ false = ne_eqb u p.horizon (λ e. omega arith) in
        rw late (keeps (sure p s (suc u)) (sure p s u) false part (rw early at before))

pub turns_decide : TurnsDecide
turns_decide p s kind of given t l =
    turns_decide_for (λ b last. IsFree p b last kind) (λ b big last part free. free_stays p b big (parts_are_in p b big part) last kind free) p s of given t l

-- ---- an element set to an end

setting-of : (p : Instance) (s : Sets) (e : Element) (c : Choice) → IsElement p e → AreOf p s → AreOf p (setting e c s)
setting-of p s e c there of x = at (same_element x e) refl
  where
    at : (b : Bool) → same_element x e ≡ b → IsElement p x ⊎ (cond b (c ∷ []) (s x) ≡ Idle ∷ [])
    at true h = inl (rw (same_is x e h) there)
    at false h = of x

-- turns of sets of which one is set to an end are turns of the sets
pub setting-turn : (p : Instance) (s : Sets) (e : Element) (c : Choice) (t : ℕ) → IsEnd (s e) c → IsTurn p (setting e c s) t → IsTurn p s t
setting-turn p s e c t end (inl first) = inl first
setting-turn p s e c t end (inr (inl last)) = inr (inl last)
setting-turn p s e c t end (inr (inr x)) = inr (inr (at (same_element x.element e) x.is_end))
  where
    at : (b : Bool) → IsEnd (cond b (c ∷ []) (s x.element)) x.choice → IsEndStart s t
    at true h =
        let same : x.choice ≡ c = contains_one c x.choice (end-contained (c ∷ []) x.choice h) in
        record { element = e; choice = c; is_end = end; starts = ap start_of (sym same) ∙ x.starts }
    at false h = record { element = x.element; choice = x.choice; is_end = h; starts = x.starts }

pub quiet_at_turns_for : (A : Snapshot → Bool → Type 0) → ((s big : Snapshot) (last : Bool) → IsPartOf s big → A big last → A s last) → (p : Instance) (s : Sets) → AreOf p s → (e : Element) (c : Choice) → IsElement p e → IsEnd (s e) c → ((t : ℕ) → t ≤ p.horizon → IsTurn p s t → A (sure p (setting e c s) t) (t == p.horizon)) → (t : ℕ) → t ≤ p.horizon → A (sure p (setting e c s) t) (t == p.horizon)
quiet_at_turns_for A keeps p s of e c there end given =
    turns_decide_for A keeps p (setting e c s) (setting-of p s e c there of) (λ t l turn. given t l (setting-turn p s e c t end turn))

pub quiet_at_turns : QuietAtTurns
quiet_at_turns p s kind of given = record {
  quiet = λ e c there end.
      quiet_at_turns_for (λ b last. IsFree p b last kind) (λ b big last part free. free_stays p b big (parts_are_in p b big part) last kind free) p s of e c there end (λ t l turn. given t l turn e c there end);
}

-- ---- closed, by kinds and by turns

pub closed_by_kinds : ClosedByKinds
unfolding IsUnrefuted
closed_by_kinds p s = (
  λ closed. (closed.some, λ kind. record { quiet = λ e c there end. closed.ends e c there end kind }),
  λ kinds. record { some = kinds.0; ends = λ e c there end kind. (kinds.1 kind).quiet e c there end },
)

pub unrefuted_at_turns : UnrefutedAtTurns
unfolding IsUnrefuted
unrefuted_at_turns p s of given kind = turns_decide p s kind of (given kind)

pub closed_at_turns : ClosedAtTurns
closed_at_turns p s of some given = (closed_by_kinds p s).1 (some, λ kind. quiet_at_turns p s kind of (given kind))
