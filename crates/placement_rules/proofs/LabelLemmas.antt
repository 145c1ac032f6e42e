-- The labels that machines have where they are kept apart: which of them share no node.
use Rattle.placement_rules.proofs.Prelude.{if◌then◌else◌, IsTrue, slice_index_or, ◌≡◌, inl, inr, ℕ, ◌+◌, ◌<◌, ◌≤◌, true, false, ◌||◌, ◌&&◌, ◌==◌, List, [], length, take, Option, refl, ◌∙◌, arith, get_or, nat_lt, list_all, both_ways, or_cases, or_left, or_right, cases_eq, ltb-true, lt-ltb, cases_Bool, le-ltb, false_from_ne_true, true_from_ne_false, and_parts, and_from, eqb-true, eq-eqb, take_all, AreApart, AreNoted, Between, Each, FromOthers, Instance, is_member, Labels, machine_count, node_count, one, Snapshot, split_labels, VmId, part_listed}
use Rattle.placement_rules.proofs.Members.{member_split, member_kept, member_here, prefix_member, member_within, part_within}
use Rattle.placement_rules.proofs.Noting.{IsOneMore, Meets, noted_apart, noted_same}

-- each of the first i members has its number
abbrev pub spread_labels : List VmId → ℕ → Labels
spread_labels vs i v l = is_member (take i vs) v && (l == v)

pub spread_more : (vs : List VmId) (i : ℕ) (d : VmId) → i < length vs → IsOneMore (spread_labels vs i) (spread_labels vs (i + 1)) (get_or vs i d).0 (get_or vs i d).0
spread_more vs i d k = record {
  split = λ w m h.
      let parts = and_parts (is_member (take (i + 1) vs) w) (m == w) h in
      let same : m ≡ w = eqb-true m w parts.1 in
      elim (member_split vs i d w k parts.0) [ inl a ↦ inl (and_from (is_member (take i vs) w) (m == w) a parts.1) | inr b ↦ inr (b, same ∙ b) ];
  kept = λ w m h.
      let parts = and_parts (is_member (take i vs) w) (m == w) h in
      and_from (is_member (take (i + 1) vs) w) (m == w) (member_kept vs i d w k parts.0) parts.1;
  here = and_from (is_member (take (i + 1) vs) (get_or vs i d).0) _ (member_here vs i d k) (eq-eqb (get_or vs i d).0 (get_or vs i d).0 refl);
}

pub spread_apart : (p : Instance) (s : Snapshot) (vs : List VmId) (i : ℕ) (table : List (Option ℕ)) → length vs ≤ i → AreNoted s (spread_labels vs i) table → AreApart p s (Each vs)
spread_apart p s vs i table all noted = λ n v w a b c f x.
    let label : (u : ℕ) → IsTrue (is_member vs u) → IsTrue (spread_labels vs i u u) = λ u h. and_from (is_member (take i vs) u) (u == u) (rw (take_all i vs all) h) (eq-eqb u u refl) in
    noted_apart s (spread_labels vs i) table v v w w n noted (label v f.0) (label w f.1) f.2 x

pub spread_meets : (p : Instance) (s : Snapshot) (vs : List VmId) (i : ℕ) (d : VmId) → i < length vs → list_all (λ x. nat_lt x.0 (machine_count p)) vs ≡ true → Meets s (spread_labels vs i) (node_count p) (get_or vs i d).0 (get_or vs i d).0 → ¬ AreApart p s (Each vs)
spread_meets p s vs i d k all m apart =
    let parts = and_parts (is_member (take i vs) m.other) (m.label == m.other) m.labelled in
    let other = prefix_member vs i m.other parts.0 in
    let here = prefix_member vs (i + 1) (get_or vs i d).0 (member_here vs i d k) in
    both_ways (s.present (get_or vs i d).0 _) (apart m.at m.other (get_or vs i d).0 m.within (member_within vs (machine_count p) m.other all other) (member_within vs (machine_count p) _ all here) (other, here, λ e. m.apart (eqb-true m.label m.other parts.1 ∙ e)) m.present) m.here

-- ---- split

-- each member of the first i parts, and of the first k of the part vs, has the number of its part
abbrev pub part_labels : List (List VmId) → ℕ → List VmId → ℕ → Labels
part_labels parts i vs k v l = split_labels parts i v l || ((l == i) && is_member (take k vs) v)

pub part_more : (parts : List (List VmId)) (i : ℕ) (vs : List VmId) (k : ℕ) (d : VmId) → k < length vs → IsOneMore (part_labels parts i vs k) (part_labels parts i vs (k + 1)) (get_or vs k d).0 i
part_more parts i vs k d low = record {
  split = λ w m h. elim (or_cases (split_labels parts i w m) ((m == i) && is_member (take (k + 1) vs) w) h) [
    | inl a ↦ inl (or_left (split_labels parts i w m) ((m == i) && is_member (take k vs) w) a)
    | inr b ↦
        let both = and_parts (m == i) (is_member (take (k + 1) vs) w) b in
        elim (member_split vs k d w low both.1) [
          | inl c ↦ inl (or_right (split_labels parts i w m) ((m == i) && is_member (take k vs) w) (and_from (m == i) (is_member (take k vs) w) both.0 c))
          | inr c ↦ inr (c, eqb-true m i both.0)
        ]
  ];
  kept = λ w m h. elim (or_cases (split_labels parts i w m) ((m == i) && is_member (take k vs) w) h) [
    | inl a ↦ or_left (split_labels parts i w m) ((m == i) && is_member (take (k + 1) vs) w) a
    | inr b ↦
        let both = and_parts (m == i) (is_member (take k vs) w) b in
        or_right (split_labels parts i w m) ((m == i) && is_member (take (k + 1) vs) w) (and_from (m == i) (is_member (take (k + 1) vs) w) both.0 (member_kept vs k d w low both.1))
  ];
  here = or_right (split_labels parts i (get_or vs k d).0 i) ((i == i) && is_member (take (k + 1) vs) (get_or vs k d).0) (and_from (i == i) (is_member (take (k + 1) vs) (get_or vs k d).0) (eq-eqb i i refl) (member_here vs k d low));
}

-- before its first member
pub part_start : (s : Snapshot) (parts : List (List VmId)) (i : ℕ) (vs : List VmId) (table : List (Option ℕ)) → AreNoted s (split_labels parts i) table → AreNoted s (part_labels parts i vs 0) table
part_start s parts i vs table noted =
    noted_same s (split_labels parts i) (part_labels parts i vs 0) table (λ v l h. or_left (split_labels parts i v l) ((l == i) && false) h)
    (λ v l h. elim (or_cases (split_labels parts i v l) ((l == i) && false) h) [ inl a ↦ a | inr b ↦ absurd (both_ways false refl (and_parts (l == i) false b).1) ]) noted

-- after its last member
pub part_end : (s : Snapshot) (parts : List (List VmId)) (i : ℕ) (vs : List VmId) (k : ℕ) (table : List (Option ℕ)) → length vs ≤ k → vs ≡ slice_index_or parts i [] → AreNoted s (part_labels parts i vs k) table → AreNoted s (split_labels parts (i + 1)) table
part_end s parts i vs k table all is noted =
    noted_same s (part_labels parts i vs k) (split_labels parts (i + 1)) table
    (λ v l h. elim (or_cases (split_labels parts i v l) ((l == i) && is_member (take k vs) v) h) [
      | inl a ↦
          let both = and_parts (nat_lt l i) (is_member (slice_index_or parts l []) v) a in
          and_from (nat_lt l (i + 1)) (is_member (slice_index_or parts l []) v) (lt-ltb l (i + 1) (omega (arith, ltb-true l i both.0))) both.1
      | inr b ↦
          let both = and_parts (l == i) (is_member (take k vs) v) b in
          let same : l ≡ i = eqb-true l i both.0 in
          let whole : IsTrue (is_member vs v) = rw (take_all k vs all) at both.1 in
          and_from (nat_lt l (i + 1)) (is_member (slice_index_or parts l []) v) (lt-ltb l (i + 1) (omega arith)) (rw (same, ← is) whole)
    ])
    (λ v l h.
    let both = and_parts (nat_lt l (i + 1)) (is_member (slice_index_or parts l []) v) h in
    let low : l < i + 1 = ltb-true l (i + 1) both.0 in
    elim (cases_eq l i) [
      | inl e ↦
          let member : IsTrue (is_member vs v) = rw is (rw e at both.1) in
          or_right (split_labels parts i v l) ((l == i) && is_member (take k vs) v) (and_from (l == i) (is_member (take k vs) v) (eq-eqb l i e) (rw (take_all k vs all) member))
      | inr n ↦ or_left (split_labels parts i v l) ((l == i) && is_member (take k vs) v) (and_from (nat_lt l i) (is_member (slice_index_or parts l []) v) (lt-ltb l i (omega arith)) both.1)
    ])
    noted

pub split_none : (s : Snapshot) (parts : List (List VmId)) (v l : ℕ) → split_labels parts 0 v l ≡ false
split_none s parts v l = rw (le-ltb l 0 (omega arith)) refl

pub split_apart : (p : Instance) (s : Snapshot) (parts : List (List VmId)) (k : ℕ) (table : List (Option ℕ)) → length parts ≤ k → AreNoted s (split_labels parts k) table → AreApart p s (Between parts)
split_apart p s parts k table all noted = λ n v w a b c f x.
    let label : (i u : ℕ) → IsTrue (is_member (slice_index_or parts i []) u) → IsTrue (split_labels parts k u i) = λ i u h.
    and_from (nat_lt i k) (is_member (slice_index_or parts i []) u) (lt-ltb i k (omega (arith, part_listed parts i u h))) h in
    noted_apart s (split_labels parts k) table v f.0 w f.1 n noted (label f.0 v f.3) (label f.1 w f.4) f.2 x

pub split_meets : (p : Instance) (s : Snapshot) (parts : List (List VmId)) (i : ℕ) (vs : List VmId) (k : ℕ) (d : VmId) → k < length vs → vs ≡ slice_index_or parts i [] → list_all (list_all (λ x. nat_lt x.0 (machine_count p))) parts ≡ true → Meets s (part_labels parts i vs k) (node_count p) (get_or vs k d).0 i → ¬ AreApart p s (Between parts)
split_meets p s parts i vs k d low is all m apart =
    elim (or_cases (split_labels parts i m.other m.label) ((m.label == i) && is_member (take k vs) m.other) m.labelled) [
      | inl a ↦
          let other = (and_parts (nat_lt m.label i) (is_member (slice_index_or parts m.label []) m.other) a).1 in
          let here : IsTrue (is_member (slice_index_or parts i []) (get_or vs k d).0) = rw (← is) (prefix_member vs (k + 1) (get_or vs k d).0 (member_here vs k d low)) in
          both_ways (s.present (get_or vs k d).0 (one m.at)) (apart m.at m.other (get_or vs k d).0 m.within (part_within parts m.label m.other (machine_count p) all other) (part_within parts i (get_or vs k d).0 (machine_count p) all here) (m.label, i, m.apart, other, here) m.present) m.here
      | inr b ↦ absurd (m.apart (eqb-true m.label i (and_parts (m.label == i) (is_member (take k vs) m.other) b).0))
    ]

-- ---- lonely

-- each of the first i machines has 1 if it is in the list, and else 0
abbrev pub lonely_labels : List VmId → ℕ → Labels
lonely_labels vs i v l = nat_lt v i && (l == (if is_member vs v then 1 else 0))

pub lonely_more : (vs : List VmId) (i : ℕ) → IsOneMore (lonely_labels vs i) (lonely_labels vs (i + 1)) i (if is_member vs i then 1 else 0)
lonely_more vs i = record {
  split = λ w m h.
      let parts = and_parts (nat_lt w (i + 1)) (m == (if is_member vs w then 1 else 0)) h in
      let below : w < i + 1 = ltb-true w (i + 1) parts.0 in
      elim (cases_eq w i) [
        | inl e ↦ inr (e, eqb-true m _ parts.1 ∙ (rw e refl))
        | inr n ↦ inl (and_from (nat_lt w i) (m == (if is_member vs w then 1 else 0)) (lt-ltb w i (omega arith)) parts.1)
      ];
  kept = λ w m h.
      let parts = and_parts (nat_lt w i) (m == (if is_member vs w then 1 else 0)) h in
      let below : w < i = ltb-true w i parts.0 in
      and_from (nat_lt w (i + 1)) (m == (if is_member vs w then 1 else 0)) (lt-ltb w (i + 1) (omega arith)) parts.1;
  here = and_from (nat_lt i (i + 1)) _ (lt-ltb i (i + 1) (omega arith)) (eq-eqb (if is_member vs i then 1 else 0) (if is_member vs i then 1 else 0) refl);
}

pub lonely_none : (vs : List VmId) (v l : ℕ) → lonely_labels vs 0 v l ≡ false
lonely_none vs v l = rw (le-ltb v 0 (omega arith)) refl

pub lonely_apart : (p : Instance) (s : Snapshot) (vs : List VmId) (k : ℕ) (table : List (Option ℕ)) → machine_count p ≤ k → AreNoted s (lonely_labels vs k) table → AreApart p s (FromOthers vs)
lonely_apart p s vs k table all noted = λ n v w a b c f x.
    let one_there : IsTrue (lonely_labels vs k v 1) = rw (lt-ltb v k (omega arith), f.0) refl in
    let out : is_member vs w ≡ false = false_from_ne_true (is_member vs w) f.1 in
    let none_there : IsTrue (lonely_labels vs k w 0) = rw (lt-ltb w k (omega arith), out) refl in
    noted_apart s (lonely_labels vs k) table v 1 w 0 n noted one_there none_there (λ e. omega arith) x

pub lonely_meets : (p : Instance) (s : Snapshot) (vs : List VmId) (i : ℕ) → i < machine_count p → Meets s (lonely_labels vs i) (node_count p) i (if is_member vs i then 1 else 0) → ¬ AreApart p s (FromOthers vs)
lonely_meets p s vs i low m apart =
    let both = and_parts (nat_lt m.other i) (m.label == (if is_member vs m.other then 1 else 0)) m.labelled in
    let before : m.other < i = ltb-true m.other i both.0 in
    let label : m.label ≡ (if is_member vs m.other then 1 else 0) = eqb-true m.label _ both.1 in
    elim (cases_Bool (is_member vs i)) [
      | inl in_list ↦
          let out : is_member vs m.other ≡ false = false_from_ne_true (is_member vs m.other) (λ other. m.apart (rw in_list (rw other at label))) in
          both_ways (s.present m.other (one m.at)) (apart m.at i m.other m.within low (omega arith) (in_list, λ h. both_ways (is_member vs m.other) out h) m.here) m.present
      | inr outside ↦
          let other : IsTrue (is_member vs m.other) = true_from_ne_false (is_member vs m.other) (λ out. m.apart (rw outside (rw out at label))) in
          both_ways (s.present i (one m.at)) (apart m.at m.other i m.within (omega arith) low (other, λ h. both_ways (is_member vs i) outside h) m.present) m.here
    ]
