use Rattle.rule_setload.proofs.Prelude.{◌≡◌, inl, inr, true, rules, arith, cases_eq, cases_lt}
use Rattle.rule_setload.proofs.concerned.go_there.Goals as goal

pub loop-i-preserved : goal.loop-i-preserved
loop-i-preserved c =
    let out : c.is_outside.result ≡ true = search rules in
    λ k low outer. elim outer [
      | inl before ↦ elim (cases_eq k c.loop-i.i) [ inl same ↦ rw same (c.is_outside.ensures out) | inr other ↦ c.loop-i.invariant k low (inl (omega (arith, before, other))) ]
      | inr past ↦ c.loop-i.invariant k low (inr past)
    ]

pub returns : goal.returns
returns c = λ _ k low. c.loop-i.invariant k low (elim (cases_lt k c.loop-i.i) [ inl before ↦ inl before | inr from ↦ inr (omega (arith, from, c.loop-i-test.false)) ])
