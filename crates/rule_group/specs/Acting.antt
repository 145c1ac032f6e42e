-- Helping only: when machines surely act, and who keeps off then.
use Rattle.std.specs.Prelude.{◌≡◌, ◌≢◌, ◌⊎◌, ℕ, ◌<◌, ◌≤◌, false, true, [], List, IsTrue}
use Rattle.relax.specs.Prelude.{Started, Unended, Acting, surely, action_at, end_of}
use Rattle.standings.specs.Prelude.{never}
use Rattle.rule_constraint.specs.Prelude.{Instance, IsEnd, Sets, sure, vm}
use Rattle.cluster.specs.declared.choices.Choice.{Choice}
use Rattle.cluster.specs.declared.choices.Choice.TheVariants.{Act, Idle}
use Rattle.rule_group.specs.declared.acting.Span.{Span}

-- where the action of machine v has started under each of these choices it is no sooner than the one instant, and where it
-- has not ended it is before the other one
pub record HasSpan (p : Instance) (v : ℕ) (cs : List Choice) (x : Span) : Type 0 where
  pub from : (t : ℕ) → surely (action_at p v Started t) cs ≡ true → x.from ≤ t
  pub until : (t : ℕ) → t < never → surely (action_at p v Unended t) cs ≡ true → t < x.until

-- the action of a choice, if it has one, starts from an instant on; it has ended by one
abbrev pub StartsFrom : ℕ → Choice → Type 0
StartsFrom from Idle = Unit {0}
StartsFrom from (Act place start) = from ≤ start

abbrev pub EndsBy : Instance → ℕ → ℕ → Choice → Type 0
EndsBy p v by Idle = Unit {0}
EndsBy p v by (Act place start) = end_of p (vm v) (Act place start) ≤ by

-- there is a choice, and so do all ends of these
pub record AreStartedFrom (cs : List Choice) (from : ℕ) : Type 0 where
  pub some : cs ≢ []
  pub ends : (c : Choice) → IsEnd cs c → StartsFrom from c

-- so have all ends
pub record AreEndedBy (p : Instance) (v : ℕ) (cs : List Choice) (by : ℕ) : Type 0 where
  pub ends : (c : Choice) → IsEnd cs c → EndsBy p v by c

-- the action of a choice starts after a span or ends before it
abbrev pub AvoidsSpan : Instance → ℕ → Span → Choice → Type 0
AvoidsSpan p v x Idle = Unit {0}
AvoidsSpan p v x (Act place start) = (x.until ≤ start) ⊎ (end_of p (vm v) (Act place start) ≤ x.from)

-- machine w has a choice, and so do all ends of its choices
pub record KeepsOff (p : Instance) (s : Sets) (w : ℕ) (x : Span) : Type 0 where
  pub some : s (vm w) ≢ []
  pub ends : (c : Choice) → IsEnd (s (vm w)) c → AvoidsSpan p w x c

-- whenever machine v surely acts, machine w has a choice, and acts under no end of its choices
pub record IsClearOf (p : Instance) (s : Sets) (v w : ℕ) : Type 0 where
  pub some : (t : ℕ) → t ≤ p.horizon → IsTrue ((sure p s t).action v Acting) → s (vm w) ≢ []
  pub ends : (t : ℕ) (c : Choice) → t ≤ p.horizon → IsTrue ((sure p s t).action v Acting) → IsEnd (s (vm w)) c → action_at p w Acting t c ≡ false
