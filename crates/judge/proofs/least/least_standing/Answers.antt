use Rattle.base.proofs.Public.{◌+◌, arith, iff_false}
use Rattle.slices.specs.Plans.{choices_of}
use Rattle.judge.proofs.{Lowering.suspect_standing, Quiet.stands_until}
use Rattle.judge.proofs.least.least_standing.Goals as goal

pub returns-then-not-stands-clause-suspect : goal.returns-then-not-stands-clause-suspect
returns-then-not-stands-clause-suspect c = suspect_standing c.args.p.now.given (choices_of c.args.plan.now) c.loop-t.t (omega arith) (iff_false c.stands.ensures c.if-not-stands.true)

pub loop-t-preserved : goal.loop-t-preserved
loop-t-preserved c =
    let p = c.args.p.now.given in
    record {
      bounded = omega arith;
      stands = stands_until p c.args.plan.now c.requires.plan c.loop-t.t (p.horizon + 1) c.next_start-t.result c.loop-t.invariant.stands (c.stands.ensures.0 c.if-not-stands.false) c.next_start-t.ensures;
    }
