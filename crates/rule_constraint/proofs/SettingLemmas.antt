-- What a setting of one element leaves of presences.
use Rattle.rule_constraint.proofs.Prelude.{◌≡◌, ◌≢◌, ◌⊎◌, inl, inr, ℕ, refl, sym, ap, cases_eq, Choice, Element, Instance, TheNode, one, present_at, Sets, setting, sure, Vm, vm, VmId, setting_sets}

pub other-vm : (v w : ℕ) → v ≢ w → vm v ≢ vm w
other-vm v w ne e = ne (let same : record { 0 = v } ≡ (let x : VmId = record { 0 = w } in x) = cc in ap (λ (x : VmId). x.0) same)

pub vm_or : (e : Element) (v : ℕ) → (e ≡ vm v) ⊎ (vm v ≢ e)
vm_or (Vm w) v = elim (cases_eq v w.0) [ inl same ↦ inl (ap (λ (k : ℕ). vm k) (sym same)) | inr ne ↦ inr (other-vm v w.0 ne) ]
vm_or (TheNode n) v = inr (λ e. cc)

module _ (p : Instance) (s : Sets) where
  pub same_present : (e : Element) (c : Choice) (v n t : ℕ) → vm v ≢ e → (sure p (setting e c s) t).present v (one n) ≡ (sure p s t).present v (one n)
  same_present e c v n t ne = ((setting_sets p s e c t).other_machines v ne).present (one n)

  pub own_present : (v n t : ℕ) (c : Choice) → (sure p (setting (vm v) c s) t).present v (one n) ≡ present_at p v (one n) t c
  own_present v n t c = ((setting_sets p s (vm v) c t).set_machine v refl).present (one n)
