use Rattle.show.specs.Prelude.{choices_of}
use Rattle.show.proofs.Listings.{each_listed, few_listed}
use Rattle.show.proofs.actions.listing.Goals as goal

pub returns-clause-each : goal.returns-clause-each
returns-clause-each c =
    each_listed c.args.p.now.given (choices_of c.args.plan.now) c.sort_unstable.new.self.items (rw c.in_ok-actions.ensures at c.sort_unstable.ensures.permutation)

pub returns-clause-few : goal.returns-clause-few
returns-clause-few c =
    few_listed c.args.p.now.given (choices_of c.args.plan.now) c.sort_unstable.new.self.items (rw c.in_ok-actions.ensures at c.sort_unstable.ensures.permutation)
