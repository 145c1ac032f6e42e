-- Parts that a reason takes away.
use Rattle.std.proofs.Math.Nat.{sub-zero}
use Rattle.rule_frame.proofs.Prelude.{IsTrue, ◌≡◌, ◌⊎◌, inl, inr, ℕ, ◌≤◌, ◌==◌, Bool, true, false, [], ◌∷◌, cond, List, None, refl, sym, subst, arith, add-zero, both_ways, eq-eqb, eqb-true, nat_tests, Contains, filter, Act, Choice, CutHolds, domain_at, Element, From, Idle, in_part, Instance, IsElement, IsEnd, keeping, Part, part_past, Reason, Refutes, RegionView, Row, Sets, sets, setting, Upto, Stay, Place, FailHolds, contains_here, filter_contains, end_is_choice}
use Rattle.rule_frame.proofs.EndLemmas.{idle_is_part, keeping_one}

-- what a test leaves alone passes it
passes : (test : Choice → Bool) (cs : List Choice) (c : Choice) (rest : List Choice) → filter test cs ≡ c ∷ rest → IsTrue (test c)
passes test [] c rest e = cc
passes test (d ∷ cs) c rest e = at (test d) refl (λ f. passes test cs c rest f) e
  where
    at : (b : Bool) → test d ≡ b → (filter test cs ≡ c ∷ rest → IsTrue (test c)) → cond b (d ∷ filter test cs) (filter test cs) ≡ c ∷ rest → IsTrue (test c)
    at true is later f = let same : d ≡ c = cc in subst (λ y. IsTrue (test y)) same is
    at false is later f = later f

-- where a test leaves some, one of them passes it
pub some_inside : (test : Choice → Bool) (cs : List Choice) → ¬ (filter test cs ≡ []) → (c : Choice) × Contains cs c × IsTrue (test c)
some_inside test cs some = at (filter test cs) refl
  where
    at : (xs : List Choice) → filter test cs ≡ xs → (c : Choice) × Contains cs c × IsTrue (test c)
    at [] e = absurd (some e)
    at (x ∷ xs) e = let held = filter_contains test cs x (subst (λ ys. Contains ys x) (sym e) (contains_here x xs)) in (x, held.0, held.1)

-- the part of one end alone
pub end_holds : (p : Instance) (s : Sets) (x : Element) (c : Choice) (part : Part) (r : Reason) → IsElement p x → IsEnd (s x) c → filter (in_part part) (s x) ≡ c ∷ [] → FailHolds p (setting x c s) r → CutHolds p s x part r
end_holds p s x c part r element end one fails = record {
  exists = element;
  held = (c, end_is_choice (s x) c end, passes (in_part part) (s x) c [] one);
  may = fails.may;
  refuted = subst (λ y. Refutes p None y r) (sym (keeping_one s x (in_part part) c one)) fails.refuted;
}

-- Idle, where it is held
pub idle_holds : (p : Instance) (g : RegionView) (x : Element) (c : Choice) (r : Reason) → c ≡ Stay → IsElement p x → IsEnd (sets g x) c → FailHolds p (setting x c (sets g)) r → CutHolds p (sets g) x Idle r
idle_holds p g x c r is element end fails =
    end_holds p (sets g) x Stay Idle r element (rw is at end) (idle_is_part (domain_at g x) (rw is at end)) (subst (λ y. FailHolds p (setting x y (sets g)) r) is fails)

-- ---- the starts of a row from an end of it on

-- what is near is in what reaches further
further : (row : Row) (b : Bool) (near far : ℕ) (c : Choice) → near ≤ far → IsTrue (in_part (part_past row b near) c) → IsTrue (in_part (part_past row b far) c)
further row true near far Stay l h = h
further row false near far Stay l h = h
further row true near far (Act q s) l h = grind (arith, nat_tests, l, h)
further row false near far (Act q s) l h = grind (arith, nat_tests, l, h)

pub further_holds : (p : Instance) (s : Sets) (x : Element) (row : Row) (b : Bool) (near far : ℕ) (r q : Reason) → near ≤ far → CutHolds p s x (part_past row b near) r → FailHolds p (keeping x (in_part (part_past row b far)) s) q → CutHolds p s x (part_past row b far) q
further_holds p s x row b near far r q l cut fails = record {
  exists = cut.exists;
  held = (cut.held.0, cut.held.1, further row b near far cut.held.0 l cut.held.2);
  may = fails.may;
  refuted = fails.refuted;
}

-- an end of a row, by the part that has it alone: the first start or the last
pub end_of_row_holds : (p : Instance) (g : RegionView) (x : Element) (q : Place) (s : ℕ) (row : Row) (b : Bool) (r : Reason) → b ≡ (row.lo == s) → row.place ≡ q → (row.lo ≡ s) ⊎ (row.hi ≡ s) → IsElement p x → IsEnd (sets g x) (Act q s) → (row.lo ≡ s → filter (in_part (Upto q s)) (sets g x) ≡ Act q s ∷ []) → (row.hi ≡ s → filter (in_part (From q s)) (sets g x) ≡ Act q s ∷ []) → FailHolds p (setting x (Act q s) (sets g)) r → CutHolds p (sets g) x (part_past row b 0) r
end_of_row_holds p g x q s row true r is at end element one first last fails =
    let low : row.lo ≡ s = eqb-true row.lo s (sym is) in
    rw (add-zero row.lo, at, low) (end_holds p (sets g) x (Act q s) (Upto q s) r element one (first low) fails)
end_of_row_holds p g x q s row false r is at end element one first last fails =
    elim end [
      | inl low ↦ absurd (both_ways (row.lo == s) (sym is) (eq-eqb row.lo s low))
      | inr high ↦ rw (sub-zero row.hi, at, high) (end_holds p (sets g) x (Act q s) (From q s) r element one (last high) fails)
    ]
