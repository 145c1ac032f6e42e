-- Which event a line says.
use Rattle.base.proofs.Public.{◌≡◌, ◌≢◌, ◌⊎◌, inl, inr, ℕ, List, [], ◌∷◌, ◌++◌, refl, sym, ap, ◌∙◌, arith, cases_Bool, cases_eq, false≢true}
use Rattle.transcript.specs.Prelude.{End, EventKind, Fail, is_name, IsEvent, kind_text}

split_prefix : (prefix text : List ℕ) → ((rest : List ℕ) × (text ≡ prefix ++ rest)) ⊎ ((rest : List ℕ) → text ≢ prefix ++ rest)
split_prefix [] text = inl (text, refl)
split_prefix (x ∷ prefix) [] = inr (λ rest q. cc)
split_prefix (x ∷ prefix) (y ∷ text) =
    elim (cases_eq y x) [
      | inr n ↦ inr (λ rest q. n (cc))
      | inl e ↦
          elim (split_prefix prefix text) [
            | inl f ↦ inl (f.0, λ i. e i ∷ f.1 i)
            | inr none ↦ inr (λ rest q. none rest (cc))
          ]
    ]

-- a text begins as one kind alone
ends_not : (a b : List ℕ) → (101 ∷ 110 ∷ 100 ∷ 32 ∷ a) ≢ (102 ∷ 97 ∷ 105 ∷ 108 ∷ 32 ∷ b)
ends_not a b q = let h : ◌≡◌ {A = ℕ} 101 102 = cc in omega (arith, h)

end_is : (a b : List ℕ) → (101 ∷ 110 ∷ 100 ∷ 32 ∷ a) ≡ (101 ∷ 110 ∷ 100 ∷ 32 ∷ b) → a ≡ b
end_is a b q = cc

fail_is : (a b : List ℕ) → (102 ∷ 97 ∷ 105 ∷ 108 ∷ 32 ∷ a) ≡ (102 ∷ 97 ∷ 105 ∷ 108 ∷ 32 ∷ b) → a ≡ b
fail_is a b q = cc

pub same_event : (text : List ℕ) (kind other : EventKind) (name name' : List ℕ) → text ≡ kind_text kind ++ name → text ≡ kind_text other ++ name' → (kind ≡ other) × (name ≡ name')
same_event text End End name name' q r = (refl, end_is name name' (sym q ∙ r))
same_event text End Fail name name' q r = absurd (ends_not name name' (sym q ∙ r))
same_event text Fail End name name' q r = absurd (ends_not name' name (sym r ∙ q))
same_event text Fail Fail name name' q r = (refl, fail_is name name' (sym q ∙ r))

-- by the kind with which it begins
event_with : (text : List ℕ) (kind : EventKind) (name : List ℕ) → text ≡ kind_text kind ++ name →
    ((kind : EventKind) × (name : List ℕ) × IsEvent text kind name) ⊎ ((kind : EventKind) (name : List ℕ) → ¬ IsEvent text kind name)
event_with text kind name is =
    elim (cases_Bool (is_name name)) [
      | inl good ↦ inl (kind, name, record { says = is; good = good })
      | inr bad ↦
          inr (λ other name' event.
          let same = same_event text kind other name name' is event.says in
          false≢true (sym bad ∙ ap is_name same.1 ∙ event.good))
    ]

-- each text says an event or none
pub event_or_not : (text : List ℕ) → ((kind : EventKind) × (name : List ℕ) × IsEvent text kind name) ⊎ ((kind : EventKind) (name : List ℕ) → ¬ IsEvent text kind name)
event_or_not text =
    elim (split_prefix (kind_text End) text) [
      | inl f ↦ event_with text End f.0 f.1
      | inr no_end ↦
          elim (split_prefix (kind_text Fail) text) [
            | inl f ↦ event_with text Fail f.0 f.1
            | inr no_fail ↦ inr (none no_end no_fail)
          ]
    ]
  where
    none : ((rest : List ℕ) → text ≢ kind_text End ++ rest) → ((rest : List ℕ) → text ≢ kind_text Fail ++ rest) → (kind : EventKind) (name : List ℕ) → ¬ IsEvent text kind name
    none no_end no_fail End name event = no_end name event.says
    none no_end no_fail Fail name event = no_fail name event.says
