use Rattle.load_bounds.proofs.Prelude.{seen, sets}
use Rattle.load_bounds.proofs.HoldOnLemmas.{all_beside, all_beside_one}
use Rattle.load_bounds.proofs.total_over.beside_seen.Goals as goal

pub returns-in-None-clause-all : goal.returns-in-None-clause-all
returns-in-None-clause-all c =
    let up = rw c.machines.ensures at c.beside_all-listed.ensures.more in
    let down = rw c.machines.ensures at c.beside_all-listed.ensures.less in
    all_beside c.args.p.now.given (sets c.args.view.now.region.now) (seen c.args.view.now.region.now c.args.view.now.lens) c.args.r c.args.t c.args.movers.now.top c.requires.movers c.requires.hold
    c.beside_all-listed.result.more c.beside_all-listed.result.less (λ v low out. c.in-None.ensures.none c.args.view.now.region.now v low out) up down

pub returns-in-Some-clause-all : goal.returns-in-Some-clause-all
returns-in-Some-clause-all c =
    let up = rw c.machines.ensures at c.beside_all-listed.ensures.more in
    let down = rw c.machines.ensures at c.beside_all-listed.ensures.less in
    all_beside_one c.args.p.now.given (sets c.args.view.now.region.now) (seen c.args.view.now.region.now c.args.view.now.lens) c.args.r c.args.t c.args.movers.now.top c.requires.movers c.requires.hold
    c.in-Some.v.0 c.beside_all-listed.result.more c.beside_all-listed.result.less c.beside_one-one.result.more c.beside_one-one.result.less c.in-Some.ensures.some.0 c.in-Some.ensures.some.1 (λ v other. c.in-Some.ensures.others c.args.view.now.region.now v other) up down
    c.beside_one-one.ensures.more c.beside_one-one.ensures.less
