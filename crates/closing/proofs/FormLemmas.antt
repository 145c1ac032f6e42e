-- A constraint is broken exactly where its form is.
use Rattle.closing.proofs.Prelude.{◌≡◌, ◌⊎◌, inl, inr, ℕ, ◌<◌, IsTrue, Allowed, Apart, Bounded, BreaksGroup, Constraint, ExceedsAmount, ExceedsPower, Form, form_of, FormForbidsPair, FormForbidsPlace, Instance, InTurn, IsBroken, IsFormBroken, IsFound, Look, machine_count, node_count, one, Ordered, Powered, Sets, Settled, ShareNode, Snapshot, Together}
use Rattle.closing.proofs.FoundLemmas.{found_same}

module _ (p : Instance) (s : Snapshot) where
  -- ---- each of the five ways is that of the form

  pair-breaks : (f : Form) (v w : ℕ) → v < machine_count p → w < machine_count p → FormForbidsPair f v w → ShareNode p v w s → IsFormBroken p s f
  pair-breaks (Apart separation) v w i j h x = (v, w, i, j, h, x)
  pair-breaks (Allowed vs places) v w i j h x = absurd h
  pair-breaks (Together vs groups) v w i j h x = absurd h
  pair-breaks (Ordered before after) v w i j h x = absurd h
  pair-breaks (InTurn vs) v w i j h x = absurd h
  pair-breaks (Bounded weight ns amount) v w i j h x = absurd h
  pair-breaks (Powered ns amount) v w i j h x = absurd h
  pair-breaks Settled v w i j h x = absurd h

  place-breaks : (f : Form) (v n : ℕ) → v < machine_count p → n < node_count p → FormForbidsPlace p f v n → IsTrue (s.present v (one n)) → IsFormBroken p s f
  place-breaks (Apart separation) v n i l h x = absurd h
  place-breaks (Allowed vs places) v n i l h x = (v, i, h.0, (n, l, h.1, x))
  place-breaks (Together vs groups) v n i l h x = absurd h
  place-breaks (Ordered before after) v n i l h x = absurd h
  place-breaks (InTurn vs) v n i l h x = absurd h
  place-breaks (Bounded weight ns amount) v n i l h x = absurd h
  place-breaks (Powered ns amount) v n i l h x = absurd h
  place-breaks Settled v n i l h x = absurd h

  group-breaks : (f : Form) → BreaksGroup p s f → IsFormBroken p s f
  group-breaks (Apart separation) h = absurd h
  group-breaks (Allowed vs places) h = absurd h
  group-breaks (Together vs groups) h = h
  group-breaks (Ordered before after) h = h
  group-breaks (InTurn vs) h = h
  group-breaks (Bounded weight ns amount) h = absurd h
  group-breaks (Powered ns amount) h = absurd h
  group-breaks Settled h = absurd h

  amount-breaks : (f : Form) → ExceedsAmount p s f → IsFormBroken p s f
  amount-breaks (Apart separation) h = absurd h
  amount-breaks (Allowed vs places) h = absurd h
  amount-breaks (Together vs groups) h = absurd h
  amount-breaks (Ordered before after) h = absurd h
  amount-breaks (InTurn vs) h = absurd h
  amount-breaks (Bounded weight ns amount) h = h
  amount-breaks (Powered ns amount) h = absurd h
  amount-breaks Settled h = absurd h

  power-breaks : (f : Form) → ExceedsPower p s f → IsFormBroken p s f
  power-breaks (Apart separation) h = absurd h
  power-breaks (Allowed vs places) h = absurd h
  power-breaks (Together vs groups) h = absurd h
  power-breaks (Ordered before after) h = absurd h
  power-breaks (InTurn vs) h = absurd h
  power-breaks (Bounded weight ns amount) h = absurd h
  power-breaks (Powered ns amount) h = h
  power-breaks Settled h = absurd h

  pub form_broken : (k : Constraint) → IsBroken p s k → IsFormBroken p s (form_of k)
  form_broken k (inl (v, w, n, i, j, l, h)) = pair-breaks (form_of k) v w i j h.forbidden (h.differ, n, l, h.first, h.second)
  form_broken k (inr (inl (v, n, i, l, h))) = place-breaks (form_of k) v n i l h.forbidden h.present
  form_broken k (inr (inr (inl x))) = group-breaks (form_of k) x
  form_broken k (inr (inr (inr (inl x)))) = amount-breaks (form_of k) x
  form_broken k (inr (inr (inr (inr x)))) = power-breaks (form_of k) x

  -- ---- and that of the form is one of the five

  abbrev IsOneOfFive : Form → Type 0
  IsOneOfFive f =
      ((v : ℕ) × (w : ℕ) × (v < machine_count p) × (w < machine_count p) × FormForbidsPair f v w × ShareNode p v w s)
      ⊎ (((v : ℕ) × (n : ℕ) × (v < machine_count p) × (n < node_count p) × FormForbidsPlace p f v n × IsTrue (s.present v (one n)))
      ⊎ (BreaksGroup p s f ⊎ (ExceedsAmount p s f ⊎ ExceedsPower p s f)))

  one-of-five : (f : Form) → IsFormBroken p s f → IsOneOfFive f
  one-of-five (Apart separation) x = inl x
  one-of-five (Allowed vs places) (v, i, m, (n, l, o, x)) = inr (inl (v, n, i, l, (m, o), x))
  one-of-five (Together vs groups) x = inr (inr (inl x))
  one-of-five (Ordered before after) x = inr (inr (inl x))
  one-of-five (InTurn vs) x = inr (inr (inl x))
  one-of-five (Bounded weight ns amount) x = inr (inr (inr (inl x)))
  one-of-five (Powered ns amount) x = inr (inr (inr (inr x)))
  one-of-five Settled x = absurd x

  pub broken_form : (k : Constraint) → IsFormBroken p s (form_of k) → IsBroken p s k
  broken_form k x = at (one-of-five (form_of k) x)
    where
      at : IsOneOfFive (form_of k) → IsBroken p s k
      at (inl (v, w, i, j, h, (ne, n, l, x, y))) = inl (v, w, n, i, j, l, record { forbidden = h; differ = ne; first = x; second = y })
      at (inr (inl (v, n, i, l, h, x))) = inr (inl (v, n, i, l, record { forbidden = h; present = x }))
      at (inr (inr x)) = inr (inr x)

-- so a look at the form is one at the constraint
pub rule_by_form : (p : Instance) (s : Sets) (t : ℕ) (look : Look) (k : Constraint) (f : Form) → form_of k ≡ f → IsFound (λ b. IsFormBroken p b f) p s t look → IsFound (λ b. IsBroken p b k) p s t look
rule_by_form p s t look k f is found =
    found_same (λ b. IsFormBroken p b f) (λ b. IsBroken p b k) p s t look (λ b x. broken_form p b k (rw is x)) (λ b x. rw is at (form_broken p b k x)) found
