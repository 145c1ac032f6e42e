use Rattle.closing.proofs.Prelude.{◌≢◌, sym, arith, sets, StaysClear, each_member, each_more}
use Rattle.closing.proofs.quick.apart.keeps_clear.Goals.{else-w-v-via-then-w-v+else-not-stays_clear, else-w-v-via-else-w-v}
use Rattle.closing.proofs.quick.apart.keeps_clear.Goals as goal

pub returns : goal.returns
returns c = λ yes. each_member (λ w. c.args.v.0 ≢ w → StaysClear c.args.p.now.given (sets c.args.g.now) c.args.t c.args.v.0 w) c.args.machines.now c.loop-i.i (omega arith) c.loop-i.invariant

pub loop-i-preserved : goal.loop-i-preserved
loop-i-preserved c =
    elim c.else-w-v.branch [
      | else-w-v-via-then-w-v+else-not-stays_clear w ↦
          each_more (λ w. c.args.v.0 ≢ w → StaysClear c.args.p.now.given (sets c.args.g.now) c.args.t c.args.v.0 w) c.args.machines.now c.loop-i.i _ c.loop-i-test.true c.loop-i.invariant
          (λ ne. w.stays_clear.ensures w.if-not-stays_clear.false)
      | else-w-v-via-else-w-v w ↦
          each_more (λ w. c.args.v.0 ≢ w → StaysClear c.args.p.now.given (sets c.args.g.now) c.args.t c.args.v.0 w) c.args.machines.now c.loop-i.i _ c.loop-i-test.true c.loop-i.invariant
          (λ ne. absurd (ne (sym w.if-w-v.false)))
    ]
