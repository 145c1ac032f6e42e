-- What some machines use is no more than what all do.
use Rattle.quick_checks.proofs.Prelude.{IsTrue, ◌≡◌, inl, inr, ℕ, zero, suc, ◌+◌, ◌<◌, ◌≤◌, nat_lt, arith, cases_lt, nat_tests, Amount, Instance, IsOverload, IsWeighed, machine_count, max_held, Nodes, room, Snapshot, sum_to, total, Weighed, Weight}

-- a sum of more terms is no less
grows : (a b : ℕ) (f : ℕ → ℕ) → a ≤ b → sum_to a f ≤ sum_to b f
grows a zero f h = let none : a ≡ 0 = omega (arith, h) in rw none (omega arith)
grows a (suc b) f h =
    elim (cases_lt b a) [
      | inl past ↦ let same : a ≡ suc b = omega (arith, h, past) in rw same (omega arith)
      | inr before ↦ omega (arith, grows a b f (omega (arith, before)))
    ]

module _ (p : Instance) (s : Snapshot) (w : Weight) (set : Nodes) where
  pub weighed_none : IsWeighed p s w set (record { next = 0; total = 0 })
  weighed_none = record { within = omega arith; part = omega arith; small = omega arith }

  pub weighed_more : (x : Weighed) (i held : ℕ) → IsWeighed p s w set x → x.next ≤ i → i < machine_count p → held ≤ s.held i w set → held ≤ max_held → IsWeighed p s w set (record { next = i + 1; total = x.total + held })
  weighed_more x i held known later there is few = record {
    within = omega (arith, there);
    part = let next : i + 1 ≡ suc i = omega arith in rw next (omega (arith, known.part, is, grows x.next i (λ v. s.held v w set) later));
    small = omega (arith, known.small, few, later);
  }

  pub weighed_total : (x : Weighed) → IsWeighed p s w set x → x.total ≤ total p s w set
  weighed_total x known = omega (arith, known.part, grows x.next (machine_count p) (λ v. s.held v w set) known.within)

pub weighed_over : (p : Instance) (s : Snapshot) (r : ℕ) (set : Nodes) (x : Weighed) (free : ℕ) → IsWeighed p s (Amount r) set x → free ≡ room p s r set → IsTrue (nat_lt free x.total) → IsOverload p s r set
weighed_over p s r set x free known is over = grind (arith, nat_tests, is, over, weighed_total p s (Amount r) set x known)

pub weighed_exceeds : (p : Instance) (s : Snapshot) (w : Weight) (set : Nodes) (x : Weighed) (amount : ℕ) → IsWeighed p s w set x → IsTrue (nat_lt amount x.total) → amount < total p s w set
weighed_exceeds p s w set x amount known over = grind (arith, nat_tests, over, weighed_total p s w set x known)
