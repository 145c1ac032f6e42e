-- A condition on whole groups looks at the members of a form, and at no other machines.
use Rattle.closing.proofs.Prelude.{IsTrue, ◌≡◌, ◌≢◌, ◌⊎◌, inl, inr, ℕ, Bool, true, false, List, refl, sym, ◌∙◌, cases_eq, false≢true, Choice, Constraint, Element, FailAtEnds, form_of, Instance, is_member, IsElement, IsEnd, IsFreeOf, IsGroup, IsGroupWith, IsMember, IsSameMachine, members, Node as TheNode, Sets, setting, sure, Vm, vm, VmId, group_grows, setting_sets}
use Rattle.closing.proofs.SettingLemmas.{other_vm}

member-or : (vs : List VmId) (v : ℕ) → IsMember vs v ⊎ ¬ IsMember vs v
member-or vs v = at (is_member vs v)
  where
    at : (b : Bool) → IsTrue b ⊎ ¬ IsTrue b
    at true = inl refl
    at false = inr (λ e. false≢true e)

-- so the ends of the members decide
pub group_free : (p : Instance) (s : Sets) (t : ℕ) (k : Constraint) (vs : List VmId) → vs ≡ members (form_of k) → ¬ IsGroup p (sure p s t) k → ((v : ℕ) → IsMember vs v → FailAtEnds (IsGroupWith p s k t v) (s (vm v))) → IsFreeOf (λ b. IsGroup p b k) p s t
group_free p s t k vs is base fail = record { base = base; ends = at }
  where
    others : (e : Element) (c : Choice) → ((v : ℕ) → IsMember (members (form_of k)) v → vm v ≢ e) → ¬ IsGroup p (sure p (setting e c s) t) k
    others e c other x = base (group_grows p (sure p (setting e c s) t) (sure p s t) (form_of k) (λ v set m h. sym ((same v m).present set) ∙ h) (λ v far m h. sym ((same v m).action far) ∙ h) x)
      where
        same : (v : ℕ) → IsMember (members (form_of k)) v → IsSameMachine (sure p (setting e c s) t) (sure p s t) v
        same v m = (setting_sets p s e c t).other_machines v (other v m)

    at : (e : Element) (c : Choice) → IsElement p e → IsEnd (s e) c → ¬ IsGroup p (sure p (setting e c s) t) k
    at (Vm v) c h end =
        elim (member-or vs v.0) [
          | inl m ↦ (fail v.0 m).ends c end
          | inr out ↦ others (vm v.0) c (λ w m. elim (cases_eq w v.0) [ inl same ↦ absurd (out (rw (is, ← same) m)) | inr ne ↦ other_vm w v.0 ne ])
        ]
    at (TheNode n) c h end = others (TheNode n) c (λ w m e. cc)
