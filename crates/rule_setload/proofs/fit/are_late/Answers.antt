use Rattle.rule_setload.proofs.Prelude.{◌≡◌, inl, inr, true, rules, arith, cases_eq, cases_lt}
use Rattle.rule_setload.proofs.fit.are_late.Goals as goal

pub loop-i-init : goal.loop-i-init
loop-i-init c = λ k low outer. inl (c.rows_within-near.ensures.others k low outer)

pub loop-i-preserved : goal.loop-i-preserved
loop-i-preserved c =
    let on : c.is_late.result ≡ true = search rules in
    λ k low outer. elim outer [
      | inl before ↦ elim (cases_eq k c.loop-i.i) [ inl same ↦ rw same (c.is_late.ensures on) | inr other ↦ c.loop-i.invariant k low (inl (omega (arith, before, other))) ]
      | inr past ↦ c.loop-i.invariant k low (inr past)
    ]

pub returns : goal.returns
returns c = λ _ k low. c.loop-i.invariant k low (elim (cases_lt k c.loop-i.i) [ inl before ↦ inl before | inr from ↦ inr (omega (arith, from, c.loop-i-test.false)) ])
