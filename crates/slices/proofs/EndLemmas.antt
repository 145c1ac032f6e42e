-- Over the starts at one place, what is held has a form, by which it is least at an end.
use Rattle.std.proofs.Common.{min}
use Rattle.base.proofs.Public.{◌≡◌, ℕ, ◌+◌, ◌≤◌, Bool, true, false, not, ◌&&◌, cond, Option, Some, None, refl, arith, nat_tests}
use Rattle.slices.specs.Prelude.{Act, Acting, action_at, action_duration, ActionAtEnds, Always, BeforeEnd, Choice, covers, FromStart, held_at, held_by, HeldAtEnds, HeldInSteps, Instance, is_online, IsPointwise, node, Nodes, powered_at, powered_of, PoweredAtEnds, Progress, progress_of, Slice, slices_of, snapshot, Span, Stage, stage_at, stage_of, stages_at, Started, step_value, Steps, Unended, UnusableAtEnds, usable_at, usable_of, vm, weigh, Weight, weight_of}

-- the snapshot at an instant is made of what each choice gives
pub is_pointwise : IsPointwise
unfolding snapshot stages_at held_at usable_at powered_at action_at
is_pointwise p plan t = refl

-- ---- over the starts at one place

-- the least over the starts of a row is at one of its ends
steps_at_ends : (x : Steps) (d t lo s hi : ℕ) → lo ≤ s → s ≤ hi → min (step_value x d t lo) (step_value x d t hi) ≤ step_value x d t s
steps_at_ends x d t lo s hi l h = grind (arith, nat_tests)

-- an amount over the stages of an action has the form of steps
record IsSteps (f : Stage → ℕ) : Type 0 where
  steps : Steps
  is : (g : Stage) → f g ≡ steps.always + (cond g.ended 0 steps.before + cond g.started steps.after 0)

-- a sum of steps is steps
add-steps : (f g : Stage → ℕ) → IsSteps f → IsSteps g → IsSteps (λ s. f s + g s)
add-steps f g x y = record {
  steps = record { always = x.steps.always + y.steps.always; before = x.steps.before + y.steps.before; after = x.steps.after + y.steps.after };
  is = λ s. rw (x.is s, y.is s) (at s.ended s.started);
}
  where
    at : (e b : Bool) → (x.steps.always + (cond e 0 x.steps.before + cond b x.steps.after 0)) + (y.steps.always + (cond e 0 y.steps.before + cond b y.steps.after 0)) ≡ (x.steps.always + y.steps.always) + (cond e 0 (x.steps.before + y.steps.before) + cond b (x.steps.after + y.steps.after) 0)
    at true true = omega arith
    at true false = omega arith
    at false true = omega arith
    at false false = omega arith

-- k for what covers a stage, by the span
span-steps : (k : ℕ) (span : Span) → IsSteps (λ g. cond (covers span g) k 0)
span-steps k Always = record { steps = record { always = k; before = 0; after = 0 }; is = λ g. at g.ended g.started }
  where
    at : (e b : Bool) → k ≡ k + (cond e 0 0 + cond b 0 0)
    at true true = omega arith
    at true false = omega arith
    at false true = omega arith
    at false false = omega arith
span-steps k FromStart = record { steps = record { always = 0; before = 0; after = k }; is = λ g. at g.ended g.started }
  where
    at : (e b : Bool) → cond b k 0 ≡ 0 + (cond e 0 0 + cond b k 0)
    at true true = omega arith
    at true false = omega arith
    at false true = omega arith
    at false false = omega arith
span-steps k BeforeEnd = record { steps = record { always = 0; before = k; after = 0 }; is = λ g. at g.ended g.started }
  where
    at : (e b : Bool) → cond (not e) k 0 ≡ 0 + (cond e 0 k + cond b 0 0)
    at true true = omega arith
    at true false = omega arith
    at false true = omega arith
    at false false = omega arith

none-steps : IsSteps (λ g. 0)
none-steps = record { steps = record { always = 0; before = 0; after = 0 }; is = λ g. at g.ended g.started }
  where
    at : (e b : Bool) → ◌≡◌ {A = ℕ} 0 (0 + (cond e 0 0 + cond b 0 0))
    at true true = refl
    at true false = refl
    at false true = refl
    at false false = refl

weigh-steps : (p : Instance) (v : ℕ) (w : Weight) (o : Option Slice) (set : Nodes) → IsSteps (λ g. weigh p v w o g set)
weigh-steps p v w None set = none-steps
weigh-steps p v w (Some o) set = at (set o.node.0)
  where
    at : (there : Bool) → IsSteps (λ g. cond (there && covers o.span g) (weight_of p v w o.what) 0)
    at true = span-steps (weight_of p v w o.what) o.span
    at false = none-steps

held-steps : (p : Instance) (v : ℕ) (w : Weight) (set : Nodes) (c : Choice) → IsSteps (held_by p v w set c)
unfolding held_by
held-steps p v w set c =
    let x = slices_of p v c in
    add-steps _ _ (add-steps _ _ (weigh-steps p v w x.source set) (weigh-steps p v w x.target set)) (weigh-steps p v w x.image set)

pub held_in_steps : HeldInSteps
unfolding held_at held_by stage_at slices_of
held_in_steps p v w set place =
    let x = held-steps p v w set (Act place 0) in
    (x.steps, λ t s. x.is (stage_of (action_duration p (vm v) place) (Act place s) t))

pub held_at_ends : HeldAtEnds
held_at_ends p v w set t place lo s hi l h =
    let x = held_in_steps p v w set place in
    rw (x.1 t lo, x.1 t hi, x.1 t s) (steps_at_ends x.0 (action_duration p (vm v) place) t lo s hi l h)

pub unusable_at_ends : UnusableAtEnds
unfolding usable_at stage_at
unusable_at_ends p n t place lo s hi l h = at (is_online p.nodes n) (action_duration p (node n) place)
  where
    at : (b : Bool) (d : ℕ) → min (cond (usable_of b (Act place lo) (stage_of d (Act place lo) t)) 0 1) (cond (usable_of b (Act place hi) (stage_of d (Act place hi) t)) 0 1) ≤ cond (usable_of b (Act place s) (stage_of d (Act place s) t)) 0 1
    at true d = grind (arith, nat_tests)
    at false d = grind (arith, nat_tests)

pub powered_at_ends : PoweredAtEnds
unfolding powered_at stage_at
powered_at_ends p n t place lo s hi l h = at (is_online p.nodes n) (action_duration p (node n) place)
  where
    at : (b : Bool) (d : ℕ) → min (cond (powered_of b (Act place lo) (stage_of d (Act place lo) t)) 1 0) (cond (powered_of b (Act place hi) (stage_of d (Act place hi) t)) 1 0) ≤ cond (powered_of b (Act place s) (stage_of d (Act place s) t)) 1 0
    at true d = grind (arith, nat_tests)
    at false d = grind (arith, nat_tests)

pub action_at_ends : ActionAtEnds
unfolding action_at stage_at
action_at_ends p v far t place lo s hi l h = at far (action_duration p (vm v) place)
  where
    at : (far : Progress) (d : ℕ) → min (cond (progress_of far (Act place lo) (stage_of d (Act place lo) t)) 1 0) (cond (progress_of far (Act place hi) (stage_of d (Act place hi) t)) 1 0) ≤ cond (progress_of far (Act place s) (stage_of d (Act place s) t)) 1 0
    at Started d = grind (arith, nat_tests)
    at Unended d = grind (arith, nat_tests)
    at Acting d = grind (arith, nat_tests)
