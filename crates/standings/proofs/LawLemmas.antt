-- The laws, by the names of their statements in specs/.
use Rattle.standings.proofs.Prelude.{slice_index_or, ◌≡◌, ◌≢◌, ℕ, ◌+◌, ◌<◌, Bool, true, false, ◌&&◌, nat_lt, cond, List, [], ◌∷◌, refl, sym, ap, subst, ◌∙◌, arith, Contains, false≢true, Decides-eqb, nat_tests, sum_to-same, Amount, AreFewer, base, BeforeLaw, Choice, choices, Element, FewerLaw, gain, GrowLaw, has_come, have_come, held_at, hosted_in, Instance, kept_use, KeptLaw, least, leave_of, LoadLaw, machine_count, never, no_standing, Node, one, Presence, PresencesLaw, PresentLaw, same_element, sets, state_of, sure, Vm, vm, Weight, sets_before, filter_is_fewer, least_grows, same_is, surely_stays}
use Rattle.standings.proofs.{ChoiceLemmas.apart, ChoiceLemmas.held_one, ListLemmas.in_parts, ListLemmas.least_in_parts, ListLemmas.least_same, ListLemmas.positive_each}

-- what is held at the least, by the set itself
by-set : (p : Instance) (v : ℕ) (w : Weight) (n t : ℕ) (cs : List Choice) → t < never → least (held_at p v w (one n) t) cs ≡ cond (hosted_in (state_of p v) (one n) && nat_lt t (least (leave_of p v) cs)) (base p v w) 0 + cond (have_come n t cs) (gain p v w n) 0
by-set p v w n t [] h = none (hosted_in (state_of p v) (one n)) (base p v w)
  where
    none : (b : Bool) (k : ℕ) → 0 ≡ cond (b && nat_lt t 0) k 0 + 0
    none b k = let never_before : nat_lt t 0 ≡ false = grind (arith, nat_tests) in rw never_before (at b)
      where
        at : (b : Bool) → 0 ≡ cond (b && false) k 0 + 0
        at true = refl
        at false = refl
by-set p v w n t (c ∷ cs) h =
    least_same (held_at p v w (one n) t) (in_parts (leave_of p v) (has_come n t) (hosted_in (state_of p v) (one n)) (base p v w) (gain p v w n) t) (λ d. held_one p v w n t d h) (c ∷ cs)
    ∙ least_in_parts (leave_of p v) (has_come n t) (hosted_in (state_of p v) (one n)) (base p v w) (gain p v w n) t (λ d there out come. apart p v w n t d h there out come) c cs

pub kept_law : KeptLaw
kept_law p v w n t cs k h is = by-set p v w n t cs h ∙ rw (is.leave, is.come n t) refl

pub present_law : PresentLaw
present_law p v n t cs k h some is = positive_each (held_at p v Presence (one n) t) cs some ∙ ap (nat_lt 0) (kept_law p v Presence n t cs k h is)

pub load_law : LoadLaw
unfolding sure
load_law p s ks r n t h are =
    sum_to-same (machine_count p) (λ v. least (held_at p v (Amount r) (one n) t) (s (vm v))) (λ v. kept_use p v (Amount r) n t (slice_index_or ks v no_standing))
    (λ v l. kept_law p v (Amount r) n t (s (vm v)) (slice_index_or ks v no_standing) h (are.each v l))

pub presences_law : PresencesLaw
unfolding sure
presences_law p s ks n t h are =
    sum_to-same (machine_count p) (λ v. least (held_at p v Presence (one n) t) (s (vm v))) (λ v. kept_use p v Presence n t (slice_index_or ks v no_standing))
    (λ v l. kept_law p v Presence n t (s (vm v)) (slice_index_or ks v no_standing) h (are.each v l))

-- ---- fewer choices

-- there are no more, and some, so all have come that had
come-stays : (n t : ℕ) (fewer cs : List Choice) → AreFewer fewer cs → fewer ≢ [] → have_come n t cs ≡ true → have_come n t fewer ≡ true
come-stays n t [] cs few some e = absurd (some refl)
come-stays n t (x ∷ xs) [] few some e = absurd (false≢true e)
come-stays n t (x ∷ xs) (c ∷ cs) few some e = surely_stays (has_come n t) (x ∷ xs) (c ∷ cs) few e

pub grow_law : GrowLaw
grow_law p v fewer cs k now few some was is = record {
  leave = rw (was.leave, is.leave) (least_grows (leave_of p v) fewer cs few some);
  come = λ n t e. is.come n t ∙ come-stays n t fewer cs few some (sym (was.come n t) ∙ e);
}

-- ---- what was told of a change

pub before_law : BeforeLaw
before_law g now x test before kept was left = λ i e. by (same_element e x) e refl i
  where
    other : (e : Element) → same_element e x ≡ false → sets now e ≡ sets g e
    other e off = left e ∙ rw off refl

    by : (same : Bool) (e : Element) → same_element e x ≡ same → sets_before now x before kept e ≡ sets g e
    by true e is = rw is (ap choices was ∙ ap (sets g) (sym (same_is e x is)))
    by false e off = rw off (other e off)

pub fewer_law : FewerLaw
fewer_law g now x test before kept was left c h =
    let same : same_element x x ≡ true = itself x in
    rw was (filter_is_fewer test (sets g x) c (subst (λ cs. Contains cs c) (left x ∙ rw same refl) h))
  where
    itself : (x : Element) → same_element x x ≡ true
    itself (Vm v) = (Decides-eqb v.0 v.0).1 refl
    itself (Node n) = (Decides-eqb n.0 n.0).1 refl
