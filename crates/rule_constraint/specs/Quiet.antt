-- Helping only: the watches of a rule over constraints look at nothing past their scopes, and where all are clean its kinds are quiet.
use Rattle.std.proofs.Common.{◌≡◌, ℕ, zero, suc, ◌<◌, ◌≤◌, Bool, true, false, ◌==◌, List, [], ◌∷◌, length, Option, Some, None, arith}
use Rattle.std.specs.Prelude.{slice_get}
use Rattle.rule_constraint.specs.Words.{AllClean, Instance, IsElement, IsEnd, IsFree, IsLocal, IsQuietKind, NoneBroken, Sets, setting, sure, Watch, watch_of, Choice, Element, Constraint, ReasonKind, Empty, Bound, Load, Pair, Place, Group, SetLoad, Power, Usable, Hall, constraint_is_local}
use Rattle.rule_constraint.specs.Given.{IsBrokenBy, reason_kind}
use Rattle.rule_constraint.specs.Broken.{breaks, by_kind}
use Rattle.rule_constraint.specs.Watches.{choose, kept_watch, no_watch, passes, watch_at, watch_count}

-- ---- scopes

chosen : (b : Bool) (u w : Watch) → IsLocal u → IsLocal w → IsLocal (choose b u w)
chosen true u w h k = h
chosen false u w h k = k

none : IsLocal no_watch
none = record { part = λ s big last part x. x }

kept : (kinds : ReasonKind → Bool) (p : Instance) (o : Option Constraint) → IsLocal (watch_of p o) → IsLocal (kept_watch kinds p o)
kept kinds p None h = none
kept kinds p (Some k) h = chosen (passes kinds (reason_kind k)) _ _ h none

pub watches_are_local : (kinds : ReasonKind → Bool) (p : Instance) (i : ℕ) → IsLocal (watch_at kinds p i)
watches_are_local kinds p i = kept kinds p (slice_get p.constraints i) (constraint_is_local p i)

-- ---- quiet

there : (ks : List Constraint) (c : ℕ) (k : Constraint) → slice_get ks c ≡ Some k → c < length ks
there [] c k is = cc
there (x ∷ ks) zero k is = omega arith
there (x ∷ ks) (suc c) k is = omega (arith, there ks c k is)

module _ (kinds : ReasonKind → Bool) (p : Instance) (s : Sets) (clean : AllClean (watch_at kinds p) p s (watch_count p)) (e : Element) (c : Choice) (x : IsElement p e) (end : IsEnd (s e) c) (t : ℕ) (l : t ≤ p.horizon) where
  -- no constraint is broken by a kind that passes
  none-broken : (kind : ReasonKind) → kinds kind ≡ true → NoneBroken p (t == p.horizon) (λ k. IsBrokenBy p (sure p (setting e c s) t) k kind)
  none-broken kind on i k is applies h =
      let within : i < length p.constraints = there p.constraints i k is in
      let free = (clean.clean i within t l).ends e c x end in
      free (rw (is, by_kind p (sure p (setting e c s) t) kind k h, on) (applies, breaks p (sure p (setting e c s) t) kind k h))

  free : kinds Load ≡ false → kinds Usable ≡ false → (kind : ReasonKind) → kinds kind ≡ true → IsFree p (sure p (setting e c s) t) (t == p.horizon) kind
  free loads nodes Empty on = tt
  free loads nodes Bound on = tt
  free loads nodes Load on = cc
  free loads nodes Pair on = none-broken Pair on
  free loads nodes Place on = none-broken Place on
  free loads nodes Group on = none-broken Group on
  free loads nodes SetLoad on = none-broken SetLoad on
  free loads nodes Power on = none-broken Power on
  free loads nodes Usable on = cc
  free loads nodes Hall on = tt

pub kinds_are_quiet : (kinds : ReasonKind → Bool) → kinds Load ≡ false → kinds Usable ≡ false → (p : Instance) (s : Sets) (kind : ReasonKind) → kinds kind ≡ true → AllClean (watch_at kinds p) p s (watch_count p) → IsQuietKind p s kind
kinds_are_quiet kinds loads nodes p s kind on clean = record { quiet = λ e c x end t l. free kinds p s clean e c x end t l loads nodes kind on }
