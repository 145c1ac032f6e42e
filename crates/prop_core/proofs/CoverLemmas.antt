-- What a list covers, kind by kind, and after calls that leave the kinds.
use Rattle.prop_core.proofs.Prelude.{◌≡◌, ◌∙◌, ◌↔◌, ◌&&◌, Bool, IsTrue, refl, true, false, List, [], ◌∷◌, length, suc, arith, Covered, Instance, is_covered, IsAsked, IsStandard, Meaning, Pairs, ReasonKind, SameCover, SameRule, Sets}
use Rattle.reasons.specs.declared.reason.ReasonKind.TheVariants as kind

and_true : (a b : Bool) → (a && b) ≡ true → (a ≡ true) × (b ≡ true)
and_true true b e = (refl, e)
and_true false b e = cc

-- the seven kinds, one by one
pub covered_exactly : {B : Type 0} (m : B → Meaning) (xs : List B) → IsTrue (is_covered m xs kind.Load && (is_covered m xs kind.Pair && (is_covered m xs kind.Place && (is_covered m xs kind.Group && (is_covered m xs kind.SetLoad && (is_covered m xs kind.Power && is_covered m xs kind.Usable)))))) ↔ Covered m xs
covered_exactly m xs = (λ t. record { each = λ k is. at t k is }, together)
  where
    at : IsTrue (is_covered m xs kind.Load && (is_covered m xs kind.Pair && (is_covered m xs kind.Place && (is_covered m xs kind.Group && (is_covered m xs kind.SetLoad && (is_covered m xs kind.Power && is_covered m xs kind.Usable)))))) → (k : ReasonKind) → IsStandard k → IsTrue (is_covered m xs k)
    at t k is =
        let a = and_true _ _ t in
        let b = and_true _ _ a.1 in
        let c = and_true _ _ b.1 in
        let d = and_true _ _ c.1 in
        let e = and_true _ _ d.1 in
        let f = and_true _ _ e.1 in
        each a.0 b.0 c.0 d.0 e.0 f.0 f.1 k is
      where
        each : is_covered m xs kind.Load ≡ true → is_covered m xs kind.Pair ≡ true → is_covered m xs kind.Place ≡ true → is_covered m xs kind.Group ≡ true → is_covered m xs kind.SetLoad ≡ true → is_covered m xs kind.Power ≡ true → is_covered m xs kind.Usable ≡ true → (k : ReasonKind) → IsStandard k → is_covered m xs k ≡ true
        each load pair place group set power usable kind.Empty i = absurd i
        each load pair place group set power usable kind.Bound i = absurd i
        each load pair place group set power usable kind.Load i = load
        each load pair place group set power usable kind.Pair i = pair
        each load pair place group set power usable kind.Place i = place
        each load pair place group set power usable kind.Group i = group
        each load pair place group set power usable kind.SetLoad i = set
        each load pair place group set power usable kind.Power i = power
        each load pair place group set power usable kind.Usable i = usable
        each load pair place group set power usable kind.Hall i = absurd i

    together : Covered m xs → IsTrue (is_covered m xs kind.Load && (is_covered m xs kind.Pair && (is_covered m xs kind.Place && (is_covered m xs kind.Group && (is_covered m xs kind.SetLoad && (is_covered m xs kind.Power && is_covered m xs kind.Usable))))))
    together w = rw (w.each kind.Load tt, w.each kind.Pair tt, w.each kind.Place tt, w.each kind.Group tt, w.each kind.SetLoad tt, w.each kind.Power tt, w.each kind.Usable tt) refl

any-same : {B : Type 0} (m : B → Meaning) (k : ReasonKind) (xs ys : List B) → Pairs m SameCover xs ys → is_covered m ys k ≡ is_covered m xs k
any-same m k [] [] r = refl
any-same m k [] (y ∷ ys) r = let e : suc (length ys) ≡ 0 = r.count in absurd (omega arith)
any-same m k (x ∷ xs) [] r = let e : 0 ≡ suc (length xs) = r.count in absurd (omega arith)
any-same m k (x ∷ xs) (y ∷ ys) r =
    let e : suc (length ys) ≡ suc (length xs) = r.count in
    let here : (m y).covers k ≡ (m x).covers k = (r.each 0 x (omega arith)).covers k in
    let rest : is_covered m ys k ≡ is_covered m xs k = any-same m k xs ys (record { count = omega arith; each = λ j d h. r.each (suc j) d (omega arith) }) in
    rw (here, rest) refl

-- what is covered stays so where all cover the same kinds
pub covered_after : {B : Type 0} (m : B → Meaning) (xs ys : List B) → Pairs m SameCover xs ys → Covered m xs → Covered m ys
covered_after m xs ys r c = record { each = λ k is. any-same m k xs ys r ∙ c.each k is }

-- the calls leave the kinds
pub covers_same : (a b : Meaning) → SameRule a b → SameCover a b
covers_same a b r = record { covers = r.covers }

pub covers_asked : (p : Instance) (s : Sets) (a b : Meaning) → IsAsked p s a b → SameCover a b
covers_asked p s a b r = record { covers = r.covers }
