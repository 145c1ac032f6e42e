-- Each step of an execution keeps what is so at every moment.
use Rattle.std.proofs.lemmas.Bool.{true≢false}
use Rattle.base.proofs.Public.{◌≡◌, ◌≢◌, ◌⊎◌, inl, inr, ℕ, false, refl, sym, ap, subst, ◌∙◌, option_map_or, cases_eq, false≢true, ◌↔◌, IsNone, IsTrue}
use Rattle.executor.specs.Prelude.{Act, BeginsWell, Choice, Choices, Element, End, Ended, Fail, Failed, first_phase, Idle, Instance, is_over_by, IsExecution, IsHindrance, MayStart, Moves, Node as TheNode, None as NoAction, Phase, Phases, Running, Start, start_of, StepsKeep, Vm, Waiting, waits}

-- ---- elements

abbrev number_in : Element → ℕ
number_in (Vm v) = v.0
number_in (TheNode n) = n.0

abbrev is_machine : Element → Type 0
is_machine (Vm v) = Unit {0}
is_machine (TheNode n) = ⊥

-- two elements are the same, or not
pub same_or_other : (x y : Element) → (x ≡ y) ⊎ (x ≢ y)
same_or_other (Vm a) (Vm b) =
    elim (cases_eq a.0 b.0) [
      | inl e ↦ inl (ap (λ k. Vm (record { 0 = k })) e)
      | inr n ↦ inr (λ q. n (ap number_in q))
    ]
same_or_other (Vm a) (TheNode b) = inr (λ q. subst is_machine q tt)
same_or_other (TheNode a) (Vm b) = inr (λ q. subst is_machine (sym q) tt)
same_or_other (TheNode a) (TheNode b) =
    elim (cases_eq a.0 b.0) [
      | inl e ↦ inl (ap (λ k. TheNode (record { 0 = k })) e)
      | inr n ↦ inr (λ q. n (ap number_in q))
    ]

-- ---- steps

-- an action goes on to another phase, once all that it waits for has ended
pub move_keeps : (p : Instance) (plan : Choices) (before after : Phases) (a : Element) (f : Phase) → IsExecution p plan before → Moves before a f after →
    before a ≢ NoAction → before a ≢ Ended → f ≢ NoAction → ((b : Element) → IsTrue (waits p plan a b) → before b ≡ Ended) →
    IsExecution p plan after
move_keeps p plan before after a f ex moves has unended some ended = record {
  idle = λ x.
      elim (same_or_other x a) [
        | inl e ↦
            let now : after x ≡ f = subst (λ y. after y ≡ f) (sym e) moves.here in
            ((λ h. absurd (some (sym now ∙ h))), (λ h. absurd (has (subst (λ y. before y ≡ NoAction) e ((ex.idle x).1 h)))))
        | inr n ↦ rw (moves.others x n) (ex.idle x)
      ];
  forerunners = λ x b out w.
      let was : before b ≡ Ended =
      elim (same_or_other x a) [
        | inl e ↦ ended b (subst (λ y. IsTrue (waits p plan y b)) e w)
        | inr n ↦ ex.forerunners x b (λ h. out (moves.others x n ∙ h)) w
      ]
      in
      moves.others b (λ q. unended (subst (λ y. before y ≡ Ended) q was)) ∙ was;
}

pub steps_keep : StepsKeep
steps_keep p plan before after (Start a) ex step =
    let waiting : before a ≡ Waiting = step.0.waiting in
    move_keeps p plan before after a Running ex step.1 (λ h. cc) (λ h. cc) (λ h. cc) step.0.ended
steps_keep p plan before after (End a) ex step =
    let running : before a ≡ Running = step.0 in
    move_keeps p plan before after a Ended ex step.1 (λ h. cc) (λ h. cc) (λ h. cc) (λ b w. ex.forerunners a b (λ h. cc) w)
steps_keep p plan before after (Fail a) ex step =
    let running : before a ≡ Running = step.0 in
    move_keeps p plan before after a Failed ex step.1 (λ h. cc) (λ h. cc) (λ h. cc) (λ b w. ex.forerunners a b (λ h. cc) w)

-- ---- the beginning

first_idle : (c : Choice) → (first_phase c ≡ NoAction) ↔ IsNone (start_of c)
first_idle Idle = ((λ h. refl), (λ h. refl))
first_idle (Act place start) = ((λ h. cc), (λ h. absurd (true≢false h)))

-- what does not wait at first waits for nothing
first_waits : (p : Instance) (b : Element) (c d : Choice) → first_phase c ≢ Waiting → IsTrue (option_map_or (is_over_by p b d) (start_of c) false) → ⊥
first_waits p b Idle d out w = false≢true w
first_waits p b (Act place start) d out w = out refl

pub begins_well : BeginsWell
begins_well p plan = record {
  idle = λ e. first_idle (plan e);
  forerunners = λ a b out w. absurd (first_waits p b (plan a) (plan b) out w);
}

-- ---- what is not ready

-- what may start is not hindered
pub not_hindered : (p : Instance) (plan : Choices) (phases : Phases) (a e : Element) → MayStart p plan phases a → ¬ IsHindrance p plan phases a e
not_hindered p plan phases a e may (inl failed) = may.none_failed e failed.here
not_hindered p plan phases a e may (inr still) = still.1.here.1 (may.ended e still.1.here.0)
