-- Tables of machines, which take in one constraint after the other.
use Rattle.std.specs.List.{filter_map}
use Rattle.base.proofs.Public.{◌≡◌, inl, inr, ℕ, zero, suc, ◌+◌, ◌<◌, Bool, true, false, not, ◌||◌, ◌&&◌, ◌==◌, List, [], ◌∷◌, ◌++◌, length, map, Option, Some, None, if◌then◌else◌, refl, sym, ap, ◌∙◌, arith, ap₂, cases_Bool, cases_eq, ◌≤◌, find, get_or, list_any, list_any_more, map-range_with_len_more, ne_eqb, option_or, range_with_len, slice_get, take, take_more}
use Rattle.cluster.specs.declared.ids.VmId.{VmId}
use Rattle.cluster.specs.declared.states.State.{State}
use Rattle.cluster.specs.declared.states.State.TheVariants.{Init, Ready, Running, Sleeping, Gone}
use Rattle.cluster.specs.States.{host_of}
use Rattle.catalogue.specs.Prelude.{Instance, is_member}
use Rattle.catalogue.specs.declared.targets.Wish.{Wish}
use Rattle.catalogue.specs.declared.targets.Wish.TheVariants.{Keep, To, Clash}
use Rattle.slices.specs.Actions.{end_wish, wanted_state}
use Rattle.slices.specs.Elements.{machine_count, state_of}
use Rattle.parts.specs.Groups.{is_to_run}
use Rattle.parts.specs.Splits.{is_running}
use Rattle.partition.specs.Division.{group_by, group_of_machine, is_free_by, is_kept_by, is_marked, tied_by, to_run_by}

-- ---- machines that are wanted running

pub to_run_at_end : (s : State) (w : Wish) → is_to_run (end_wish s w) ≡ to_run_by (is_running s) w
to_run_at_end Init Keep = refl
to_run_at_end Ready Keep = refl
to_run_at_end (Running h) Keep = refl
to_run_at_end (Sleeping h) Keep = refl
to_run_at_end Gone Keep = refl
to_run_at_end Init (To target) = refl
to_run_at_end Ready (To target) = refl
to_run_at_end (Running h) (To target) = refl
to_run_at_end (Sleeping h) (To target) = refl
to_run_at_end Gone (To target) = refl
to_run_at_end Init Clash = refl
to_run_at_end Ready Clash = refl
to_run_at_end (Running h) Clash = refl
to_run_at_end (Sleeping h) Clash = refl
to_run_at_end Gone Clash = refl

-- ---- one machine more

pub one_more : (f : ℕ → ℕ) (n : ℕ) (now : List ℕ) (x : ℕ) → now ≡ map f (range_with_len 0 n) → x ≡ f n → now ++ x ∷ [] ≡ map f (range_with_len 0 (n + 1))
one_more f n now x was is = rw (was, is) (sym (map-range_with_len_more f 0 n n (omega arith)))

pub group_more : (p : Instance) (nodes : List ℕ) (n : ℕ) (now : List ℕ) (tie : Option ℕ) (x : ℕ) → now ≡ map (group_by p nodes) (range_with_len 0 n) → tie ≡ tied_by nodes p.constraints n →
    x ≡ group_of_machine p nodes n tie (host_of (state_of p n)) → now ++ x ∷ [] ≡ map (group_by p nodes) (range_with_len 0 (n + 1))
group_more p nodes n now tie x was is_tied is =
    one_more (group_by p nodes) n now x was (is ∙ ap (λ (o : Option ℕ). group_of_machine p nodes n o (host_of (state_of p n))) is_tied)

-- the list has a machine, as far as one place further
member_more : (vs : List VmId) (k w : ℕ) (v : VmId) → k < length vs → v ≡ get_or vs k v → is_member (take (k + 1) vs) w ≡ (is_member (take k vs) w || (v.0 == w))
member_more vs k w v l here =
    list_any_more (λ (x : VmId). x.0 == w) vs k v l ∙ ap (λ (x : VmId). is_member (take k vs) w || (x.0 == w)) (sym here)

-- ---- the first tie stays

tied_also : (old : Option ℕ) (g : ℕ) (a b : Bool) → option_or (option_or old (if a then Some g else None)) (if b then Some g else None) ≡ option_or old (if a || b then Some g else None)
tied_also (Some x) g a b = refl
tied_also None g true b = refl
tied_also None g false b = refl

pub tied_more : (vs : List VmId) (k w g : ℕ) (v : VmId) (old now new : Option ℕ) → k < length vs → v ≡ get_or vs k v →
    now ≡ option_or old (if is_member (take k vs) w then Some g else None) → new ≡ option_or now (if v.0 == w then Some g else None) →
    new ≡ option_or old (if is_member (take (k + 1) vs) w then Some g else None)
tied_more vs k w g v old now new l here was step =
    step ∙ ap (λ (o : Option ℕ). option_or o (if v.0 == w then Some g else None)) was ∙ tied_also old g (is_member (take k vs) w) (v.0 == w) ∙
    ap (λ (b : Bool). option_or old (if b then Some g else None)) (sym (member_more vs k w v l here))

-- the first that a list gives, with one item more
module _ {A : Type 0} (f : A → Option ℕ) where
  abbrev first : List A → Option ℕ
  first xs = slice_get (filter_map f xs) 0

  first_alone : (x : A) (o : Option ℕ) → f x ≡ o → first (x ∷ []) ≡ o
  first_alone x None e = rw e refl
  first_alone x (Some i) e = rw e refl

  first_cons : (y : A) (xs : List A) (o : Option ℕ) → f y ≡ o → first (y ∷ xs) ≡ option_or o (first xs)
  first_cons y xs None e = rw e refl
  first_cons y xs (Some i) e = rw e refl

  option_or_assoc : (a b c : Option ℕ) → option_or a (option_or b c) ≡ option_or (option_or a b) c
  option_or_assoc None b c = refl
  option_or_assoc (Some i) b c = refl

  first_append : (xs : List A) (x : A) → first (xs ++ x ∷ []) ≡ option_or (first xs) (f x)
  first_append [] x = first_alone x (f x) refl
  first_append (y ∷ xs) x =
      first_cons y (xs ++ x ∷ []) (f y) refl ∙ ap (option_or (f y)) (first_append xs x) ∙ option_or_assoc (f y) (first xs) (f x) ∙
      ap (λ (o : Option ℕ). option_or o (f x)) (sym (first_cons y xs (f y) refl))

  pub first_more : (xs : List A) (k : ℕ) (x : A) → k < length xs → x ≡ get_or xs k x → first (take (k + 1) xs) ≡ option_or (first (take k xs)) (f x)
  first_more xs k x l here = ap first (take_more xs k x l) ∙ first_append (take k xs) (get_or xs k x) ∙ ap (λ (y : A). option_or (first (take k xs)) (f y)) (sym here)

  pub first_noted : (xs : List A) (k : ℕ) (x : A) (old now new : Option ℕ) → k < length xs → x ≡ get_or xs k x →
      now ≡ option_or old (first (take k xs)) → new ≡ option_or now (f x) → new ≡ option_or old (first (take (k + 1) xs))
  first_noted xs k x old now new l here was step =
      step ∙ ap (λ (o : Option ℕ). option_or o (f x)) was ∙ sym (option_or_assoc old (first (take k xs)) (f x)) ∙ ap (option_or old) (sym (first_more xs k x l here))

-- ---- marks stay

-- a mark is of the machine that it is set for
mark_is : (test : ℕ → Bool) (v w : ℕ) → ((v == w) && test v) ≡ ((v == w) && test w)
mark_is test v w =
    elim (cases_eq v w) [
      | inl same ↦ ap (λ (x : ℕ). (v == w) && test x) same
      | inr other ↦ ap (λ (b : Bool). b && test v) (ne_eqb v w other) ∙ ap (λ (b : Bool). b && test w) (sym (ne_eqb v w other))
    ]

marked_also : (old a b t : Bool) → ((old || (a && t)) || (b && t)) ≡ (old || ((a || b) && t))
marked_also true a b t = refl
marked_also false true b true = refl
marked_also false true true false = refl
marked_also false true false false = refl
marked_also false false b t = refl

pub marked_more : (vs : List VmId) (test : ℕ → Bool) (k w : ℕ) (v : VmId) (old now new : Bool) → k < length vs → v ≡ get_or vs k v →
    now ≡ (old || is_marked (take k vs) test w) → new ≡ (now || ((v.0 == w) && test v.0)) → new ≡ (old || is_marked (take (k + 1) vs) test w)
marked_more vs test k w v old now new l here was step =
    step ∙ ap (λ (b : Bool). now || b) (mark_is test v.0 w) ∙ ap (λ (b : Bool). b || ((v.0 == w) && test w)) was ∙
    marked_also old (is_member (take k vs) w) (v.0 == w) (test w) ∙ ap (λ (b : Bool). old || (b && test w)) (sym (member_more vs k w v l here))

-- ---- tests that agree below a bound

pub same_find : (a b : ℕ → Bool) (from n : ℕ) → ((k : ℕ) → from ≤ k → k < from + n → a k ≡ b k) → find a (range_with_len from n) ≡ find b (range_with_len from n)
same_find a b from zero same = refl
same_find a b from (suc n) same =
    elim (cases_Bool (b from)) [
      | inl pass ↦ rw (same from (omega arith) (omega arith), pass) refl
      | inr fail ↦ rw (same from (omega arith) (omega arith), fail) (same_find a b (from + 1) n (λ k low high. same k (omega (arith, low)) (omega (arith, high))))
    ]

pub same_any : (a b : ℕ → Bool) (from n : ℕ) → ((k : ℕ) → from ≤ k → k < from + n → a k ≡ b k) → list_any a (range_with_len from n) ≡ list_any b (range_with_len from n)
same_any a b from zero same = refl
same_any a b from (suc n) same =
    ap₂ ◌||◌ (same from (omega arith) (omega arith)) (same_any a b (from + 1) n (λ k low high. same k (omega (arith, low)) (omega (arith, high))))

-- the first machine that is wanted running and not marked
pub free_found : (p : Instance) (nodes machines : List ℕ) (kept : List Bool) (v : Option ℕ) → v ≡ find (λ w. is_to_run (wanted_state p w) && not (get_or kept w false)) (range_with_len 0 (machine_count p)) →
    ((w : ℕ) → w < machine_count p → get_or kept w false ≡ is_kept_by p nodes machines p.constraints w) → v ≡ find (is_free_by p nodes machines) (range_with_len 0 (machine_count p))
free_found p nodes machines kept v found same =
    found ∙ same_find (λ w. is_to_run (wanted_state p w) && not (get_or kept w false)) (is_free_by p nodes machines) 0 (machine_count p) (λ w low high. ap (λ (b : Bool). is_to_run (wanted_state p w) && not b) (same w (omega (arith, high))))
