-- Why a constraint is broken that a rule watches.
use Rattle.rule_constraint.proofs.Prelude.{IsTrue, ◌≡◌, ℕ, Bool, true, false, ◌||◌, ◌==◌, Option, Some, None, refl, IsSomeAnd, broken_at, broken_by, choose, Constraint, Instance, is_continuous, IsBrokenBy, kept_watch, no_watch, passes, reason_kind, ReasonKind, rule_watch, Snapshot}

-- one that is broken as a watch of a rule applies, and is broken by what a kind that passes says
pub kept_applies : (kinds : ReasonKind → Bool) (p : Instance) (o : Option Constraint) (t : ℕ) (b : Snapshot) (P : Constraint → Type 0) → ((k : Constraint) (kind : ReasonKind) → reason_kind k ≡ Some kind → kinds kind ≡ true → IsBrokenBy p b k kind → P k) → broken_at (kept_watch kinds p o) p t b → IsSomeAnd o (λ k. IsTrue (is_continuous k || (t == p.horizon)) × P k)
kept_applies kinds p None t b P of h = absurd h
kept_applies kinds p (Some k) t b P of h = by (passes kinds (reason_kind k)) refl h
  where
    by : (on : Bool) → passes kinds (reason_kind k) ≡ on → broken_at (choose on (rule_watch p k) no_watch) p t b → IsTrue (is_continuous k || (t == p.horizon)) × P k
    by true is x = let y = broken_by p b k x.1 in (x.0, of k y.0 y.1 (rw y.1 at is) y.2)
    by false is x = absurd x
