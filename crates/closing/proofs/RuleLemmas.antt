-- Looks at lists of machines are looks at forms.
use Rattle.closing.proofs.Prelude.{slice_index_or, ◌≡◌, ℕ, ◌<◌, List, [], length, true, sym, ◌∙◌, false≢true, false_from_ne_true, all_of, are_below, Between, Each, FromOthers, HasMisplaced, HasSeparated, Instance, is_member, IsAnyOf, IsFound, IsInPart, IsPlacedBadly, Look, machine_count, MeetsOtherPart, MeetsStranger, Places, Sets, ShareNode, Snapshot, VmId, joined_member, member_below, part_listed}
use Rattle.closing.proofs.FoundLemmas.{found_same}

module _ (p : Instance) (b : Snapshot) where
  abbrev HasTwo : List VmId → Type 0
  HasTwo vs = IsAnyOf vs (λ v. IsAnyOf vs (ShareNode p v)) b

  two-separated : (vs : List VmId) → are_below (machine_count p) vs ≡ true → HasTwo vs → HasSeparated p b (Each vs)
  two-separated vs all (v, m, (w, k, x)) = (v, w, member_below (machine_count p) vs v all m, member_below (machine_count p) vs w all k, (m, k, x.0), x)

  separated-two : (vs : List VmId) → HasSeparated p b (Each vs) → HasTwo vs
  separated-two vs (v, w, i, j, h, x) = (v, h.0, (w, h.1, x))

  abbrev HasParts : List (List VmId) → Type 0
  HasParts parts = (i : ℕ) × (i < length parts) × IsAnyOf (slice_index_or parts i []) (MeetsOtherPart p parts i) b

  parts-separated : (parts : List (List VmId)) → are_below (machine_count p) (all_of parts) ≡ true → HasParts parts → HasSeparated p b (Between parts)
  parts-separated parts all (i, k, (v, m, (j, apart, (w, o, x)))) = (v, w, below i v m, below j w o, (i, j, apart, m, o), x)
    where
      below : (i v : ℕ) → IsInPart parts i v → v < machine_count p
      below i v m = member_below (machine_count p) (all_of parts) v all (joined_member parts i v m)

  separated-parts : (parts : List (List VmId)) → HasSeparated p b (Between parts) → HasParts parts
  separated-parts parts (v, w, i, j, h, x) = (h.0, part_listed parts h.0 v h.3, (v, h.3, (h.1, h.2, (w, h.4, x))))

  abbrev HasStranger : List VmId → Type 0
  HasStranger vs = IsAnyOf vs (MeetsStranger p (is_member vs)) b

  stranger-separated : (vs : List VmId) → are_below (machine_count p) vs ≡ true → HasStranger vs → HasSeparated p b (FromOthers vs)
  stranger-separated vs all (v, m, (w, k, out, x)) = (v, w, member_below (machine_count p) vs v all m, k, (m, λ h. false≢true (sym out ∙ h)), x)

  separated-stranger : (vs : List VmId) → HasSeparated p b (FromOthers vs) → HasStranger vs
  separated-stranger vs (v, w, i, j, h, x) = (v, h.0, (w, j, false_from_ne_true _ h.1, x))

  member-misplaced : (vs : List VmId) (places : Places) → are_below (machine_count p) vs ≡ true → IsAnyOf vs (IsPlacedBadly p places) b → HasMisplaced p b vs places
  member-misplaced vs places all (v, m, x) = (v, member_below (machine_count p) vs v all m, m, x)

  misplaced-member : (vs : List VmId) (places : Places) → HasMisplaced p b vs places → IsAnyOf vs (IsPlacedBadly p places) b
  misplaced-member vs places (v, i, m, x) = (v, m, x)

module _ (p : Instance) (s : Sets) (t : ℕ) (look : Look) where
  pub each_found : (vs : List VmId) → are_below (machine_count p) vs ≡ true → IsFound (λ b. HasTwo p b vs) p s t look → IsFound (λ b. HasSeparated p b (Each vs)) p s t look
  each_found vs all h = found_same (λ b. HasTwo p b vs) (λ b. HasSeparated p b (Each vs)) p s t look (λ b. two-separated p b vs all) (λ b. separated-two p b vs) h

  pub between_found : (parts : List (List VmId)) → are_below (machine_count p) (all_of parts) ≡ true → IsFound (λ b. HasParts p b parts) p s t look → IsFound (λ b. HasSeparated p b (Between parts)) p s t look
  between_found parts all h = found_same (λ b. HasParts p b parts) (λ b. HasSeparated p b (Between parts)) p s t look (λ b. parts-separated p b parts all) (λ b. separated-parts p b parts) h

  pub from_others_found : (vs : List VmId) → are_below (machine_count p) vs ≡ true → IsFound (λ b. HasStranger p b vs) p s t look → IsFound (λ b. HasSeparated p b (FromOthers vs)) p s t look
  from_others_found vs all h = found_same (λ b. HasStranger p b vs) (λ b. HasSeparated p b (FromOthers vs)) p s t look (λ b. stranger-separated p b vs all) (λ b. separated-stranger p b vs) h

  pub misplaced_found : (vs : List VmId) (places : Places) → are_below (machine_count p) vs ≡ true → IsFound (IsAnyOf vs (IsPlacedBadly p places)) p s t look → IsFound (λ b. HasMisplaced p b vs places) p s t look
  misplaced_found vs places all h = found_same (IsAnyOf vs (IsPlacedBadly p places)) (λ b. HasMisplaced p b vs places) p s t look (λ b. member-misplaced p b vs places all) (λ b. misplaced-member p b vs places) h
