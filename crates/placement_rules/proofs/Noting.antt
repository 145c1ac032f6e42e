-- Labels that are noted on nodes.
use Rattle.placement_rules.proofs.Prelude.{IsTrue, ◌≡◌, ◌≢◌, ◌⊎◌, inl, inr, ℕ, ◌<◌, true, false, List, Option, Some, None, refl, sym, ◌∙◌, arith, both_ways, cases_Bool, or_cases, eqb-true, false_from_ne_true, AreNoted, Held, Holding, Instance, is_in, is_on, IsClaim, IsHeldWithin, IsHoldingOf, label_on, Labels, node_count, one, Snapshot}

-- the labels of machines with one more
pub record IsOneMore (old new : Labels) (v l : ℕ) : Type 0 where
  pub split : (w m : ℕ) → IsTrue (new w m) → IsTrue (old w m) ⊎ ((w ≡ v) × (m ≡ l))
  pub kept : (w m : ℕ) → IsTrue (old w m) → IsTrue (new w m)
  pub here : IsTrue (new v l)

-- a machine with another label is present on a node where this one is present
pub record Meets (s : Snapshot) (labels : Labels) (nodes v l : ℕ) : Type 0 where
  pub at : ℕ
  pub within : at < nodes
  pub other : ℕ
  pub label : ℕ
  pub labelled : IsTrue (labels other label)
  pub apart : label ≢ l
  pub present : IsTrue (s.present other (one at))
  pub here : IsTrue (s.present v (one at))

-- what is held on a node is on one of so many
pub in_within : (k n : ℕ) (o : Option Held) → IsHeldWithin k o → IsTrue (is_in (one n) o) → n < k
in_within k n None w h = absurd (both_ways false refl h)
in_within k n (Some x) w h = let e : x.node.0 ≡ n = eqb-true x.node.0 n h in omega (arith, e, w)

-- what is held on a node is held on one of the instance
pub on_within : (p : Instance) (s : Snapshot) (v n : ℕ) (h : Holding) → IsHoldingOf p s v h → IsTrue (is_on h n) → n < node_count p
on_within p s v n h is on =
    elim (or_cases (is_in (one n) h.source) (is_in (one n) h.target) on) [ inl x ↦ in_within (node_count p) n h.source is.source x | inr x ↦ in_within (node_count p) n h.target is.target x ]

-- a machine more is noted
pub noted_more : (p : Instance) (s : Snapshot) (labels more : Labels) (v l : ℕ) (h : Holding) (old new : List (Option ℕ)) → IsHoldingOf p s v h → IsOneMore labels more v l → AreNoted s labels old → IsClaim h l old new true → AreNoted s more new
noted_more p s labels more v l h old new is step was claim = record {
  noted = λ w m n x y.
      let before : IsTrue (labels w m) → label_on old n ≡ Some m = λ k. was.noted w m n k y in
      elim (cases_Bool (is_on h n)) [
        | inl on ↦
            let now : label_on new n ≡ Some l = claim.taken refl n on in
            elim (step.split w m x) [
              | inl k ↦
                  let then : label_on old n ≡ Some m = before k in
                  elim (claim.free refl n on) [ inl none ↦ cc | inr same ↦ cc ]
              | inr here ↦ let same = here.1 in cc
            ]
        | inr off ↦
            let now : label_on new n ≡ label_on old n = claim.others refl n off in
            elim (step.split w m x) [
              | inl k ↦ now ∙ before k
              | inr here ↦ let seen : s.present w (one n) ≡ is_on h n = rw (here.0) (is.present (one n)) in absurd (both_ways (is_on h n) off (sym seen ∙ y))
            ]
      ];
  known = λ n m e.
      elim (cases_Bool (is_on h n)) [
        | inl on ↦
            let now : label_on new n ≡ Some l = claim.taken refl n on in
            let same : m ≡ l = cc in
            (v, rw same step.here, is.present (one n) ∙ on)
        | inr off ↦
            let w = was.known n m (sym (claim.others refl n off) ∙ e) in
            (w.0, step.kept w.0 m w.1, w.2)
      ];
}

-- where a label is refused a machine with another one is there
pub refused_meets : (p : Instance) (s : Snapshot) (labels : Labels) (v l : ℕ) (h : Holding) (old new : List (Option ℕ)) → IsHoldingOf p s v h → AreNoted s labels old → IsClaim h l old new false → Meets s labels (node_count p) v l
refused_meets p s labels v l h old new is was claim =
    let r = claim.refused refl in
    let w = was.known r.0 r.1 r.4 in
    record {
      at = r.0;
      within = on_within p s v r.0 h is r.3;
      other = w.0;
      label = r.1;
      labelled = w.1;
      apart = r.5;
      present = w.2;
      here = is.present (one r.0) ∙ r.3;
    }

-- two machines with different labels share no node
pub noted_apart : (s : Snapshot) (labels : Labels) (table : List (Option ℕ)) (v l w m n : ℕ) → AreNoted s labels table → IsTrue (labels v l) → IsTrue (labels w m) → l ≢ m → IsTrue (s.present v (one n)) → s.present w (one n) ≡ false
noted_apart s labels table v l w m n noted a b apart x =
    false_from_ne_true _ (λ y. let e = noted.noted v l n a x in let f = noted.noted w m n b y in apart (cc))

-- nothing is noted at first
pub none_noted : (s : Snapshot) (labels : Labels) (table : List (Option ℕ)) → ((v l : ℕ) → labels v l ≡ false) → ((n : ℕ) → label_on table n ≡ None) → AreNoted s labels table
none_noted s labels table none empty = record {
  noted = λ v l n x y. absurd (both_ways (labels v l) (none v l) x);
  known = λ n l e. absurd (let f = empty n in cc);
}

-- labels that are the same are noted alike
pub noted_same : (s : Snapshot) (labels others : Labels) (table : List (Option ℕ)) → ((v l : ℕ) → IsTrue (labels v l) → IsTrue (others v l)) → ((v l : ℕ) → IsTrue (others v l) → IsTrue (labels v l)) → AreNoted s labels table → AreNoted s others table
noted_same s labels others table there back noted = record {
  noted = λ v l n x. noted.noted v l n (back v l x);
  known = λ n l e. let w = noted.known n l e in (w.0, there w.0 l w.1, w.2);
}
