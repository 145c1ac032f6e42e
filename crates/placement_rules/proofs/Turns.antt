-- Which machines act, one at a time.
use Rattle.placement_rules.proofs.Prelude.{IfSome, IsTrue, ◌≡◌, inl, inr, ℕ, ◌+◌, ◌<◌, true, false, List, [], length, take, get_or, Option, Some, None, nat_lt, refl, sym, ap, list_all, both_ways, false_from_ne_true, Acting, Instance, IsMember, machine_count, Snapshot, TakeTurns, VmId}
use Rattle.placement_rules.proofs.Members.{prefix_member, member_here, member_kept, member_split, member_within}

-- what is noted is the one member that acts
pub record IsAlone (s : Snapshot) (vs : List VmId) (acting : Option VmId) : Type 0 where
  pub others : (v : ℕ) → IsMember vs v → IsTrue (s.action v Acting) → acting ≡ Some (record { 0 = v })
  pub there : (v : ℕ) → acting ≡ Some (record { 0 = v }) → IsMember vs v × IsTrue (s.action v Acting)

-- no member at first
pub none_acts : (s : Snapshot) → IsAlone s [] None
none_acts s = record { others = λ v m x. absurd (both_ways false refl m); there = λ v e. absurd (cc) }

-- one member more, which does not act
pub idle_more : (s : Snapshot) (vs : List VmId) (i : ℕ) (d : VmId) (acting : Option VmId) → i < length vs → s.action (get_or vs i d).0 Acting ≡ false → IsAlone s (take i vs) acting → IsAlone s (take (i + 1) vs) acting
idle_more s vs i d acting low idle alone = record {
  others = λ v m x. elim (member_split vs i d v low m) [ inl before ↦ alone.others v before x | inr here ↦ absurd (both_ways (s.action (get_or vs i d).0 Acting) idle (rw here at x)) ];
  there = λ v e. let w = alone.there v e in (member_kept vs i d v low w.0, w.1);
}

-- one member more, which acts, where no other does
pub acting_more : (s : Snapshot) (vs : List VmId) (i : ℕ) (d : VmId) (acting : Option VmId) → i < length vs → IsTrue (s.action (get_or vs i d).0 Acting) → IfSome acting (λ w. w.0 ≡ (get_or vs i d).0) → IsAlone s (take i vs) acting → IsAlone s (take (i + 1) vs) (Some (get_or vs i d))
acting_more s vs i d acting low acts same alone = record {
  others = λ v m x.
      let here : v ≡ (get_or vs i d).0 = elim (member_split vs i d v low m) [
        | inl before ↦ rw (alone.others v before x) at same
        | inr e ↦ e
      ] in
      ap (λ (k : ℕ). let x : VmId = record { 0 = k } in Some x) (sym here);
  there = λ v e.
      let both : get_or vs i d ≡ record { 0 = v } = cc in
      let here : (get_or vs i d).0 ≡ v = ap (λ (x : VmId). x.0) both in
      (rw here at (member_here vs i d low), rw here at acts);
}

-- two members that act do not take turns
pub meet : (p : Instance) (s : Snapshot) (vs : List VmId) (i : ℕ) (d : VmId) (acting : Option VmId) → i < length vs → list_all (λ x. nat_lt x.0 (machine_count p)) vs ≡ true → IsTrue (s.action (get_or vs i d).0 Acting) → ¬ IfSome acting (λ w. w.0 ≡ (get_or vs i d).0) → IsAlone s (take i vs) acting → ¬ TakeTurns p s vs
meet p s vs i d None low all acts other alone turns = other tt
meet p s vs i d (Some w) low all acts other alone turns =
    let there = alone.there w.0 refl in
    let before = prefix_member vs i w.0 there.0 in
    let here = prefix_member vs (i + 1) (get_or vs i d).0 (member_here vs i d low) in
    both_ways (s.action (get_or vs i d).0 Acting) (turns w.0 (get_or vs i d).0 (member_within vs (machine_count p) w.0 all before) (member_within vs (machine_count p) (get_or vs i d).0 all here) other before here there.1) acts

-- all members have been met
pub turns : (p : Instance) (s : Snapshot) (vs : List VmId) (acting : Option VmId) → IsAlone s vs acting → TakeTurns p s vs
turns p s vs acting alone v w i j apart m k x =
    false_from_ne_true (s.action w Acting) (λ y.
    let first : acting ≡ Some (record { 0 = v }) = alone.others v m x in
    let second : acting ≡ Some (record { 0 = w }) = alone.others w k y in
    let both : (let z : VmId = record { 0 = v } in z) ≡ record { 0 = w } = cc in
    apart (ap (λ (z : VmId). z.0) both))
