-- Durations fit, so each is at least 1.
use Rattle.std.proofs.Common.{slice_get, slice_index_or}
use Rattle.base.proofs.Public.{◌+◌, ◌&&◌, ◌≡◌, ℕ, zero, suc, ◌<◌, ◌≤◌, Bool, true, false, List, [], ◌∷◌, length, take, drop, Option, Some, None, is_none, is_some, nat_le, unwrap_or, get_or, inl, inr, refl, sym, true≢false, arith, list_all, option_map_or, and_parts, false≢true, le-leb, leb-true, slice_get_cases}
use Rattle.slices.specs.Prelude.{action_duration, amounts_fit, common_of, Duration, duration_fits, duration_of, DurationsLast, Element, end_of, EndsByDuration, Instance, inventory_of, is_legal, IsInstance, Kind, kind_duration, kind_number, kind_of, LegalActsLast, LegalEarlier, machine_fits, machine_own, machine_own_fits, Node as TheNode, node_fits, node_own, node_own_fits, own_fits, own_of, Vm}
use Rattle.cluster.proofs.Public.{IsDuration, IsDuration-fits, duration_at, kind_number-lt}

-- what is at a place of a list, from what holds where there is nothing, and of each item
pub of_get : {X : Type 0} (P : Option X → Type 0) (xs : List X) (i : ℕ) → P None → ((x : X) → i < length xs → get_or xs i x ≡ x → P (Some x)) → P (slice_get xs i)
of_get P xs i none some =
    elim (slice_get_cases xs i).1 [ inl w ↦ rw w.2 (some w.0 w.1 w.3) | inr w ↦ rw w.1 none ]

-- the first n places pass one test and the others another one, and both say that they fit
own_at : (f s t : Option Duration → Bool) → f None ≡ true → ((x : Option Duration) → s x ≡ true → f x ≡ true) → ((x : Option Duration) → t x ≡ true → f x ≡ true) → (n : ℕ) (xs : List (Option Duration)) (i : ℕ) → list_all s (take n xs) ≡ true → list_all t (drop n xs) ≡ true → f (slice_index_or xs i None) ≡ true
own_at f s t none first last n [] i a b = none
own_at f s t none first last zero (x ∷ xs) zero a b = last x (and_parts (t x) _ b).0
own_at f s t none first last zero (x ∷ xs) (suc i) a b = own_at f s t none first last zero xs i refl (and_parts (t x) _ b).1
own_at f s t none first last (suc n) (x ∷ xs) zero a b = first x (and_parts (s x) _ a).0
own_at f s t none first last (suc n) (x ∷ xs) (suc i) a b = own_at f s t none first last n xs i (and_parts (s x) _ a).1 b

none_fits : (count : ℕ) (x : Option Duration) → is_none x ≡ true → own_fits count x ≡ true
none_fits count None h = refl
none_fits count (Some d) h = absurd (true≢false (sym h))

own_of-fits : (p : Instance) → IsInstance p → (e : Element) (kind : Kind) → own_fits (length p.resources) (own_of p e kind) ≡ true
own_of-fits p s (Vm v) kind =
    let count = length p.resources in
    of_get (λ o. own_fits count (machine_own o (kind_number kind)) ≡ true) p.machines v.0 refl
    (λ m l e. let fits : machine_fits count m ≡ true = rw e at (s.inventory.machines_fit v.0 m l) in
    let own = and_parts _ _ (and_parts (amounts_fit count m.usage) (machine_own_fits count m.own) fits).1 in
    own_at (own_fits count) (own_fits count) is_none refl (λ x h. h) (none_fits count) 8 m.own (kind_number kind) own.0 own.1)
own_of-fits p s (TheNode n) kind =
    let count = length p.resources in
    of_get (λ o. own_fits count (node_own o (kind_number kind)) ≡ true) p.nodes n.0 refl
    (λ x l e. let fits : node_fits count x ≡ true = rw e at (s.inventory.nodes_fit n.0 x l) in
    let own = and_parts _ _ (and_parts (amounts_fit count x.capacity) (node_own_fits count x.own) fits).1 in
    own_at (own_fits count) is_none (own_fits count) refl (none_fits count) (λ x h. h) 8 x.own (kind_number kind) own.0 own.1)

chosen-fits : (count : ℕ) (o : Option Duration) (d : Duration) → own_fits count o ≡ true → duration_fits count d ≡ true → duration_fits count (unwrap_or o d) ≡ true
chosen-fits count None d a b = b
chosen-fits count (Some x) d a b = a

-- the duration that is taken fits
pub chosen : (p : Instance) → IsInstance p → (e : Element) (kind : Kind) → IsDuration (length p.resources) (unwrap_or (own_of p e kind) (common_of p kind))
chosen p s e kind =
    IsDuration-fits (length p.resources) (unwrap_or (own_of p e kind) (common_of p kind))
    (chosen-fits (length p.resources) (own_of p e kind) (common_of p kind) (own_of-fits p s e kind) (duration_at (inventory_of p) s.inventory (kind_number kind) _ (kind_number-lt kind)))

-- every duration is at least 1
pub durations_last : DurationsLast
unfolding duration_of
durations_last p s e kind = let d = chosen p s e kind in omega (arith, d.some)

-- the action of a legal choice has a kind, so it lasts, and it ends by the horizon
pub legal_acts_last : LegalActsLast
unfolding is_legal end_of action_duration kind_duration
legal_acts_last p s e place start legal = of (kind_of p e place) legal
  where
    of : (o : Option Kind) → (is_some o && nat_le (start + option_map_or (duration_of p e) o 0) p.horizon) ≡ true → (1 ≤ option_map_or (duration_of p e) o 0) × (start + option_map_or (duration_of p e) o 0 ≤ p.horizon)
    of None h = absurd (false≢true h)
    of (Some kind) h = (durations_last p s e kind, leb-true (start + duration_of p e kind) p.horizon h)

pub ends_by_duration : EndsByDuration
unfolding end_of
ends_by_duration p e place s = refl

pub legal_earlier : LegalEarlier
unfolding is_legal end_of
legal_earlier p e place u s l legal = of (is_some (kind_of p e place)) legal
  where
    of : (b : Bool) → (b && nat_le (s + action_duration p e place) p.horizon) ≡ true → (b && nat_le (u + action_duration p e place) p.horizon) ≡ true
    of true h = le-leb (u + action_duration p e place) p.horizon (omega (arith, leb-true (s + action_duration p e place) p.horizon h))
    of false h = h
