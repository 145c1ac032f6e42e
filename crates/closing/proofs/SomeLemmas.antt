-- A watch that looks at some machines alone.
use Rattle.closing.proofs.Prelude.{IsTrue, ◌≡◌, ◌⊎◌, inl, inr, ℕ, ◌≤◌, ◌==◌, Bool, true, false, cond, List, [], ◌∷◌, refl, sym, ap, ◌∙◌, arith, false≢true, action_at, actions_of, AreOf, broken_at, Choice, Element, held_at, Instance, is_among, IsClean, IsElement, IsEnd, IsFreeOf, IsLocal, IsMember, IsPartWithin, IsTurn, IsUnseen, least, may, node, Node as TheNode, Nodes, Of, OfAll, only_of, powered_at, presences_of, present_at, Progress, same_element, Scope, SeesOnly, Sets, setting, Suffice, sure, surely, changing, ChangeInstants, ChangeInstantsOfSomeAreEnough, usable_at, Vm, vm, VmId, Watch, Weight, Idle, same_is}
use Rattle.closing.proofs.LocalLemmas.{change_instants_are_enough}

-- ---- scopes of members

pub presences_see : (vs : List VmId) → SeesOnly vs (presences_of (IsMember vs))
presences_see vs = record { unseen = unseen }
  where
    unseen : (e : Element) → is_among vs e ≡ false → IsUnseen (presences_of (IsMember vs)) e
    unseen (Vm v) out = record { held = λ w set x. x; present = λ set x. false≢true (sym out ∙ x); action = λ far x. x }
    unseen (TheNode n) out = record { usable = λ x. x; powered = λ x. x }

pub actions_see : (vs : List VmId) → SeesOnly vs (actions_of (IsMember vs))
actions_see vs = record { unseen = unseen }
  where
    unseen : (e : Element) → is_among vs e ≡ false → IsUnseen (actions_of (IsMember vs)) e
    unseen (Vm v) out = record { held = λ w set x. x; present = λ set x. x; action = λ far x. false≢true (sym out ∙ x) }
    unseen (TheNode n) out = record { usable = λ x. x; powered = λ x. x }

-- ---- sets that agree on the machines

abbrev Agree : List VmId → Sets → Sets → Type 0
Agree vs s u = (e : Element) → is_among vs e ≡ true → s e ≡ u e

agree-within : (vs : List VmId) (k : Scope) (p : Instance) (s u : Sets) (t : ℕ) → SeesOnly vs k → Agree vs s u → IsPartWithin k (sure p s t) (sure p u t)
unfolding sure
agree-within vs k p s u t sees agree = record { held = held; present = present; usable = usable; powered = powered; action = action }
  where
    held : (v : ℕ) (w : Weight) (set : Nodes) → k.held v w set → least (held_at p v w set t) (s (vm v)) ≤ least (held_at p v w set t) (u (vm v))
    held v w set h = by (is_among vs (vm v)) refl
      where
        by : (b : Bool) → is_among vs (vm v) ≡ b → least (held_at p v w set t) (s (vm v)) ≤ least (held_at p v w set t) (u (vm v))
        by true e = rw (agree (vm v) e) (omega arith)
        by false e = absurd ((sees.unseen (vm v) e).held w set h)

    present : (v : ℕ) (set : Nodes) → k.present v set → IsTrue (surely (present_at p v set t) (s (vm v))) → IsTrue (surely (present_at p v set t) (u (vm v)))
    present v set h x = by (is_among vs (vm v)) refl
      where
        by : (b : Bool) → is_among vs (vm v) ≡ b → IsTrue (surely (present_at p v set t) (u (vm v)))
        by true e = rw (agree (vm v) e) at x
        by false e = absurd ((sees.unseen (vm v) e).present set h)

    usable : (n : ℕ) → k.usable n → IsTrue (may (usable_at p n t) (u (node n))) → IsTrue (may (usable_at p n t) (s (node n)))
    usable n h x = absurd ((sees.unseen (node n) refl).usable h)

    powered : (n : ℕ) → k.powered n → IsTrue (surely (powered_at p n t) (s (node n))) → IsTrue (surely (powered_at p n t) (u (node n)))
    powered n h x = absurd ((sees.unseen (node n) refl).powered h)

    action : (v : ℕ) (far : Progress) → k.action v far → IsTrue (surely (action_at p v far t) (s (vm v))) → IsTrue (surely (action_at p v far t) (u (vm v)))
    action v far h x = by (is_among vs (vm v)) refl
      where
        by : (b : Bool) → is_among vs (vm v) ≡ b → IsTrue (surely (action_at p v far t) (u (vm v)))
        by true e = rw (agree (vm v) e) at x
        by false e = absurd ((sees.unseen (vm v) e).action far h)

agree-setting : (vs : List VmId) (s u : Sets) (x : Element) (c : Choice) → Agree vs s u → Agree vs (setting x c s) (setting x c u)
agree-setting vs s u x c agree e there = by (same_element e x)
  where
    by : (b : Bool) → cond b (c ∷ []) (s e) ≡ cond b (c ∷ []) (u e)
    by true = refl
    by false = agree e there

-- an element that is none of them may be set in one of the two
agree-unseen : (vs : List VmId) (s u : Sets) (x : Element) (c : Choice) → is_among vs x ≡ false → Agree vs s u → Agree vs s (setting x c u)
agree-unseen vs s u x c out agree e there = by (same_element e x) refl
  where
    by : (b : Bool) → same_element e x ≡ b → s e ≡ cond b (c ∷ []) (u e)
    by true same = absurd (false≢true (sym out ∙ ap (is_among vs) (sym (same_is e x same)) ∙ there))
    by false other = agree e there

agree-back : (vs : List VmId) (s u : Sets) → Agree vs s u → Agree vs u s
agree-back vs s u agree e there = sym (agree e there)

module _ (w : Watch) (p : Instance) (vs : List VmId) (t : ℕ) (local : IsLocal w) (sees : SeesOnly vs w.scope) where
  still : (s u : Sets) → Agree vs u s → ¬ broken_at w p t (sure p s t) → ¬ broken_at w p t (sure p u t)
  still s u agree free x = free (local.part (sure p u t) (sure p s t) (t == p.horizon) (agree-within vs w.scope p u s t sees agree) x)

  free-alike : (s u : Sets) → Agree vs u s → IsFreeOf (broken_at w p t) p s t → IsFreeOf (broken_at w p t) p u t
  free-alike s u agree free = record { base = still s u agree free.base; ends = λ e c there end. by e c there end (is_among vs e) refl }
    where
      by : (e : Element) (c : Choice) → IsElement p e → IsEnd (u e) c → (b : Bool) → is_among vs e ≡ b → ¬ broken_at w p t (sure p (setting e c u) t)
      by e c there end true seen = still (setting e c s) (setting e c u) (agree-setting vs u s e c agree) (free.ends e c there (rw (agree e seen) at end))
      by e c there end false out = still s (setting e c u) (agree-back vs s (setting e c u) (agree-unseen vs s u e c out (agree-back vs u s agree))) free.base

only-agrees : (vs : List VmId) (s : Sets) → Agree vs (only_of vs s) s
only-agrees vs s e there = rw there refl

only-of : (p : Instance) (vs : List VmId) (s : Sets) → AreOf p s → AreOf p (only_of vs s)
only-of p vs s of e = by (of e)
  where
    same : (b : Bool) → s e ≡ Idle ∷ [] → cond b (s e) (Idle ∷ []) ≡ Idle ∷ []
    same true h = h
    same false h = refl

    by : IsElement p e ⊎ (s e ≡ Idle ∷ []) → IsElement p e ⊎ (only_of vs s e ≡ Idle ∷ [])
    by (inl there) = inl there
    by (inr idle) = inr (same (is_among vs e) idle)

pub change_instants_of_some_are_enough : ChangeInstantsOfSomeAreEnough
change_instants_of_some_are_enough w p s vs local sees of clean t l =
    free-alike w p vs t local sees (only_of vs s) s (agree-back vs (only_of vs s) s (only-agrees vs s))
    (change_instants_are_enough w p (only_of vs s) local (only-of p vs s of) (λ u m change. free-alike w p vs u local sees s (only_of vs s) (only-agrees vs s) (clean u m change)) t l)

-- the change instants at which a look looks
pub change_instants_suffice : (change_instants : ChangeInstants) (w : Watch) (p : Instance) (s : Sets) → IsLocal w → Suffice change_instants w.scope → AreOf p s → ((t : ℕ) → t ≤ p.horizon → IsTurn p (changing change_instants s) t → IsFreeOf (broken_at w p t) p s t) → IsClean w p s
change_instants_suffice OfAll w p s local sees of clean = change_instants_are_enough w p s local of clean
change_instants_suffice (Of vs) w p s local sees of clean = change_instants_of_some_are_enough w p s vs.now local sees of clean
