use Rattle.base.proofs.Public.{arith, slice_index_or, ◌≡◌, inl, inr, cases_lt}
use Rattle.std.proofs.Common.{◌*◌, ◌/◌, ◌%◌}
use Rattle.std.proofs.lemmas.Nat.Bits.{bit_at-zero}
use Rattle.machine_bounds.proofs.EndLemmas.{known_before}
use Rattle.machine_bounds.proofs.ends.first_unknown.Goals as goal

pub returns-then-unknown-ne0-clause-some : goal.returns-then-unknown-ne0-clause-some
returns-then-unknown-ne0-clause-some c = λ n early on. elim (cases_lt n (64 * c.loop-k.k)) [
  | inl before ↦ c.loop-k.invariant n before on
  | inr here ↦
      let word : n / 64 ≡ c.loop-k.k = omega (arith, here, early, c.first_bit.ensures.within) in
      known_before c.args.gone.now.words.top c.args.ends.now.enough c.args.w.0 c.loop-k.k n (slice_index_or c.args.ends.now.nodes c.loop-k.k 0) c.unknown_of-unknown.result (omega (arith, c.loop-k-test.true)) here (omega (arith, early, c.first_bit.ensures.within))
      (rw word at on) (c.first_bit.ensures.before (n % 64) (omega (arith, here, early, c.first_bit.ensures.within))) (rw c.words-words.ensures at c.unknown_of-unknown.ensures)
]

pub loop-k-preserved : goal.loop-k-preserved
loop-k-preserved c = λ n early on. elim (cases_lt n (64 * c.loop-k.k)) [
  | inl before ↦ c.loop-k.invariant n before on
  | inr here ↦
      let word : n / 64 ≡ c.loop-k.k = omega (arith, here, early) in
      known_before c.args.gone.now.words.top c.args.ends.now.enough c.args.w.0 c.loop-k.k n (slice_index_or c.args.ends.now.nodes c.loop-k.k 0) c.unknown_of-unknown.result (omega (arith, c.loop-k-test.true)) here (omega (arith, early))
      (rw word at on) (rw c.if-unknown-ne0.false (bit_at-zero (n % 64))) (rw c.words-words.ensures at c.unknown_of-unknown.ensures)
]
