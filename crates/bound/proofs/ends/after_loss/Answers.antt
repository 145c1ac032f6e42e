use Rattle.base.proofs.Public.{arith, sym, ◌∙◌, filter}
use Rattle.relax.specs.Prelude.{choices, end_of, stays}
use Rattle.bound.proofs.EndLemmas.{all_lost, some_kept}
use Rattle.bound.proofs.ends.after_loss.Goals as goal

pub overflow_sub-result : goal.overflow_sub-result
overflow_sub-result c =
    let all = all_lost (end_of c.args.p.now.given c.args.e) (filter (stays c.args.left_out) (choices c.args.domain.now)) c.in-Some.floor (sym c.in-None.is ∙ c.least_raised.ensures) in
    omega (arith, all.0, rw c.in-Some.is at c.requires.within)

pub overflow_sub-result-in-Some-least_raised : goal.overflow_sub-result-in-Some-least_raised
overflow_sub-result-in-Some-least_raised c =
    let some = some_kept (end_of c.args.p.now.given c.args.e) (filter (stays c.args.left_out) (choices c.args.domain.now)) c.in-Some.floor c.in-Some-least_raised.end (sym c.in-Some-least_raised.is ∙ c.least_raised.ensures) in
    some.up

pub overflow_add-result : goal.overflow_add-result
overflow_add-result c =
    let some = some_kept (end_of c.args.p.now.given c.args.e) (filter (stays c.args.left_out) (choices c.args.domain.now)) c.in-Some.floor c.in-Some-least_raised.end (sym c.in-Some-least_raised.is ∙ c.least_raised.ensures) in
    omega (arith, some.up, some.both, rw c.in-Some.is at c.requires.small)

pub returns-in-None : goal.returns-in-None
returns-in-None c =
    let all = all_lost (end_of c.args.p.now.given c.args.e) (filter (stays c.args.left_out) (choices c.args.domain.now)) c.in-Some.floor (sym c.in-None.is ∙ c.least_raised.ensures) in
    rw c.in-Some.is (omega (arith, all.0, all.1, rw c.in-Some.is at c.requires.within))

pub returns-in-Some-least_raised : goal.returns-in-Some-least_raised
returns-in-Some-least_raised c =
    let some = some_kept (end_of c.args.p.now.given c.args.e) (filter (stays c.args.left_out) (choices c.args.domain.now)) c.in-Some.floor c.in-Some-least_raised.end (sym c.in-Some-least_raised.is ∙ c.least_raised.ensures) in
    rw c.in-Some.is (omega (arith, some.up, some.both))
