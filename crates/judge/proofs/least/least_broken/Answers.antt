use Rattle.slices.specs.Plans.{choices_of}
use Rattle.judge.proofs.Lowering.{kept_before}
use Rattle.judge.proofs.least.least_broken.Goals as goal

pub returns-clause-kept : goal.returns-clause-kept
returns-clause-kept c = kept_before c.args.p.now.given (choices_of c.args.plan.now) c.least_standing-standing.result c.least_of_all.result c.least_of_all.ensures.lower.lower c.least_standing-standing.ensures.stands c.least_of_all.ensures.met
