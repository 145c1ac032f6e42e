-- The rules that the program hands in cover the seven standard kinds.
use Rattle.std.proofs.Common.{◌≡◌, ◌∙◌, ap, sym, refl, subst, List, [], ◌∷◌, ◌++◌, Bool, true, false, ◌||◌}
use Rattle.std.specs.declared.dyn_box.DynBox.{DynBox}
use Rattle.rule_solver.specs.Prelude.{Covered, forbidden_kinds, group_kinds, is_covered, is_load, IsStandard, Meaning, pair_kinds, needed_kinds, ReasonKind, set_kinds}

-- what a box covers, by the type behind it
covers_of : {V A : Type 0} {D : V → Type 0} (m : DynBox V A D → Meaning) (b : DynBox V A D) (a : V) (kinds : ReasonKind → Bool) → b.vtable ≡ a →
    ((y : D a) → (m (record { ptr = b.ptr; vtable = a; alloc = b.alloc; value = y })).covers ≡ kinds) → (m b).covers ≡ kinds
covers_of {V} {A} {D} m b a kinds is at = subst (λ (v : V). (y : D v) → (m (record { ptr = b.ptr; vtable = v; alloc = b.alloc; value = y })).covers ≡ kinds) (sym is) at b.value

-- the type behind a box covers these kinds
abbrev pub IsOfKinds : {V A : Type 0} {D : V → Type 0} → (DynBox V A D → Meaning) → (b : DynBox V A D) → V → (ReasonKind → Bool) → Type 0
IsOfKinds {V} {A} {D} m b a kinds = (b.vtable ≡ a) × ((y : D a) → (m (record { ptr = b.ptr; vtable = a; alloc = b.alloc; value = y })).covers ≡ kinds)

-- six that cover the kinds of the rules
six : {B : Type 0} (m : B → Meaning) (a b c d e f : B) →
    (m a).covers ≡ forbidden_kinds → (m b).covers ≡ is_load → (m c).covers ≡ needed_kinds → (m d).covers ≡ pair_kinds → (m e).covers ≡ set_kinds → (m f).covers ≡ group_kinds → Covered m (a ∷ b ∷ c ∷ d ∷ e ∷ f ∷ [])
six m a b c d e f forbidden load needed pair amount group = record { each = λ k is. whole k ∙ by k is }
  where
    any : ReasonKind → Bool
    any k = forbidden_kinds k || (is_load k || (needed_kinds k || (pair_kinds k || (set_kinds k || (group_kinds k || false)))))

    whole : (k : ReasonKind) → is_covered m (a ∷ b ∷ c ∷ d ∷ e ∷ f ∷ []) k ≡ any k
    whole k = rw (forbidden, load, needed, pair, amount, group) refl

    by : (k : ReasonKind) → IsStandard k → any k ≡ true
    by ReasonKind.Empty is = absurd is
    by ReasonKind.Bound is = absurd is
    by ReasonKind.Load is = refl
    by ReasonKind.Pair is = refl
    by ReasonKind.Place is = refl
    by ReasonKind.Group is = refl
    by ReasonKind.SetLoad is = refl
    by ReasonKind.Power is = refl
    by ReasonKind.Usable is = refl
    by ReasonKind.Hall is = absurd is

-- six boxes that are pushed one after another
pub six_boxes : {V A : Type 0} {D : V → Type 0} (m : DynBox V A D → Meaning) (a b c d e f : DynBox V A D) (i j k l n o : V) (none one two three four five all : List (DynBox V A D)) →
    none ≡ [] → one ≡ none ++ a ∷ [] → two ≡ one ++ b ∷ [] → three ≡ two ++ c ∷ [] → four ≡ three ++ d ∷ [] → five ≡ four ++ e ∷ [] → all ≡ five ++ f ∷ [] →
    IsOfKinds m a i forbidden_kinds → IsOfKinds m b j is_load → IsOfKinds m c k needed_kinds → IsOfKinds m d l pair_kinds → IsOfKinds m e n set_kinds → IsOfKinds m f o group_kinds → Covered m all
six_boxes m a b c d e f i j k l n o none one two three four five all empty first second third fourth fifth sixth forbidden load needed pair amount group =
    subst (Covered m) (sym whole)
    (six m a b c d e f (covers_of m a i forbidden_kinds forbidden.0 forbidden.1) (covers_of m b j is_load load.0 load.1) (covers_of m c k needed_kinds needed.0 needed.1) (covers_of m d l pair_kinds pair.0 pair.1) (covers_of m e n set_kinds amount.0 amount.1) (covers_of m f o group_kinds group.0 group.1))
  where
    whole : all ≡ a ∷ b ∷ c ∷ d ∷ e ∷ f ∷ []
    whole = sixth ∙ ap (λ xs. xs ++ f ∷ []) (fifth ∙ ap (λ xs. xs ++ e ∷ []) (fourth ∙ ap (λ xs. xs ++ d ∷ []) (third ∙ ap (λ xs. xs ++ c ∷ []) (second ∙ ap (λ xs. xs ++ b ∷ []) (first ∙ ap (λ xs. xs ++ a ∷ []) empty)))))
