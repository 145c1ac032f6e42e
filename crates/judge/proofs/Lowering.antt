-- Lesser suspects, and what has been tried before them.
use Rattle.base.proofs.Public.{◌≡◌, inl, inr, ℕ, ◌+◌, ◌<◌, ◌≤◌, ◌==◌, false, List, length, subst, sym, arith, both_ways, cases_eq, eqb-true, or_cases, IsTrue, slice_get}
use Rattle.judge.specs.Prelude.{applies, cell, Choices, Constraint as OfConstraint, ConstraintsHold, continuous_at, HoldsAt, InRange, Instance, IsFirstRule, IsFirstUnmet, IsLower, IsMetAt, IsMetBefore, IsSuspect, KeepsAllAt, KeepsAt, Load, loads_of, LoadsFit, Precedes, Rule, Snapshot, StandsAt, StandsBefore, Usable}

-- ---- suspects

pub lower_trans : (p : Instance) (plan : Choices) (a b c : ℕ) → IsLower p plan a b → IsLower p plan b c → IsLower p plan a c
lower_trans p plan a b c f g = record { suspect = g.suspect; lower = omega (arith, f.lower, g.lower) }

-- ---- all rules are loads, usable nodes and constraints

pub keeps_all : (p : Instance) (plan : Choices) (t : ℕ) → StandsAt p plan t → ConstraintsHold p plan t (length p.constraints) → KeepsAllAt p plan t
keeps_all p plan t stands met (Load n r) i = stands.loads n.0 i.0 r i.1
keeps_all p plan t stands met (Usable v n) i = stands.usables v.0 i.0 n.0 i.1
keeps_all p plan t stands met (OfConstraint c) i = met c i

pub keeps-stands : (p : Instance) (plan : Choices) (t : ℕ) → KeepsAllAt p plan t → StandsAt p plan t
keeps-stands p plan t keep = record {
  loads = λ n i r j. keep (Load (record { 0 = n }) r) (i, j);
  usables = λ v i n j. keep (Usable (record { 0 = v }) (record { 0 = n })) (i, j);
}

pub keeps-met : (p : Instance) (plan : Choices) (t : ℕ) → KeepsAllAt p plan t → ConstraintsHold p plan t (length p.constraints)
keeps-met p plan t keep = λ c i. keep (OfConstraint c) i

-- an instant at which one of them is not as it should be is a suspect
pub suspect_standing : (p : Instance) (plan : Choices) (t : ℕ) → t ≤ p.horizon → ¬ StandsAt p plan t → IsSuspect p plan t
suspect_standing p plan t low broken = record { bounded = omega arith; broken = λ _ keep. broken (keeps-stands p plan t keep) }

pub suspect_met : (p : Instance) (plan : Choices) (t c : ℕ) → t ≤ p.horizon → c < length p.constraints → IsTrue (applies p (t == p.horizon) c) → ¬ HoldsAt p plan t c → IsSuspect p plan t
suspect_met p plan t c low there applied broken = record { bounded = omega arith; broken = λ _ keep. broken (keeps-met p plan t keep c there applied) }

-- ---- all instants before one

pub met_lower : (p : Instance) (plan : Choices) (b d c : ℕ) → d ≤ b → IsMetBefore p plan b c → IsMetBefore p plan d c
unfolding IsMetBefore
met_lower p plan b d c l h = λ t low i. h t (omega arith) i

-- one constraint more
pub met_more : (p : Instance) (plan : Choices) (b d i : ℕ) → d ≤ b → ((c : ℕ) → c < i → IsMetBefore p plan b c) → IsMetBefore p plan d i → (c : ℕ) → c < i + 1 → IsMetBefore p plan d c
met_more p plan b d i l before here c k =
    elim (cases_eq c i) [ inl e ↦ rw e here | inr n ↦ met_lower p plan b d c l (before c (omega arith)) ]

-- a continuous constraint is met where it holds
pub continuous_met : (p : Instance) (plan : Choices) (b c : ℕ) → ((t : ℕ) → t < b → HoldsAt p plan t c) → IsMetBefore p plan b c
unfolding IsMetBefore
continuous_met p plan b c h = λ t low i applies. h t low

-- another one where it holds at the horizon
pub discrete_met : (p : Instance) (plan : Choices) (b c : ℕ) → continuous_at (slice_get p.constraints c) ≡ false → (p.horizon < b → HoldsAt p plan p.horizon c) → IsMetBefore p plan b c
unfolding IsMetBefore
discrete_met p plan b c off h = λ t low i applies.
    elim (or_cases (continuous_at (slice_get p.constraints c)) (t == p.horizon) applies) [
      | inl on ↦ absurd (both_ways (continuous_at (slice_get p.constraints c)) off on)
      | inr last ↦ let e : t ≡ p.horizon = eqb-true t p.horizon last in subst (λ u. HoldsAt p plan u c) (sym e) (h (omega arith))
    ]

-- where all loads fit, machines stand on usable nodes and constraints are met before an instant, all rules are kept
pub kept_before : (p : Instance) (plan : Choices) (b d : ℕ) → d ≤ b → StandsBefore p plan b → ((c : ℕ) → c < length p.constraints → IsMetBefore p plan d c) → (t : ℕ) → t < d → t ≤ p.horizon → KeepsAllAt p plan t
unfolding IsMetBefore
kept_before p plan b d l stands met t low i = keeps_all p plan t (stands t (omega arith)) (λ c k. met c k t low i)

-- ---- the first broken rule

-- a table that has the loads of a snapshot fits where those fit
pub table_fits : (p : Instance) (s : Snapshot) (table : List (List ℕ)) (k : ℕ) → ((n r : ℕ) → r < length p.resources → cell table n r ≡ loads_of p s n r) → LoadsFit p (cell table) k → LoadsFit p (loads_of p s) k
table_fits p s table k same fit n low r i = rw (← same n r i) (fit n low r i)

-- one constraint more
pub constraints_more : (p : Instance) (plan : Choices) (t i : ℕ) → ConstraintsHold p plan t i → IsMetAt p plan t i → ConstraintsHold p plan t (i + 1)
constraints_more p plan t i before here c low =
    elim (cases_eq c i) [ inl e ↦ rw e here | inr n ↦ before c (omega arith) ]

-- a constraint is the first broken rule where all loads fit, all machines stand on usable nodes and it is the first that is not met
pub unmet_first : (p : Instance) (plan : Choices) (t c : ℕ) → StandsAt p plan t → IsFirstUnmet p plan t c → IsFirstRule p plan t (OfConstraint c)
unmet_first p plan t c stands first = record {
  in_range = first.in_range;
  broken = λ keep. first.broken (keep first.applied);
  first = earlier;
}
  where
    earlier : (r : Rule) → InRange p r → Precedes r (OfConstraint c) → KeepsAt p plan t r
    earlier (Load n r) i x = stands.loads n.0 i.0 r i.1
    earlier (Usable v n) i x = stands.usables v.0 i.0 n.0 i.1
    earlier (OfConstraint d) i x = first.earlier d x
