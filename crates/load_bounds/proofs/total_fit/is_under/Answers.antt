use Rattle.load_bounds.proofs.Prelude.{◌≤◌, arith, nat_tests, Act, all_nodes, leave_of}
use Rattle.load_bounds.proofs.TotalLemmas.{left_under}
use Rattle.load_bounds.proofs.total_fit.is_under.Goals as goal

pub returns : goal.returns
returns c = λ on.
    let left : leave_of c.args.p.now.given c.args.v.0 (Act c.args.row.place c.args.start) ≤ c.args.x.from = grind (arith, nat_tests, on, c.left_at.ensures, c.from.ensures) in
    left_under c.args.p.now.given c.args.v.0 (Act c.args.row.place c.args.start) c.args.r (all_nodes c.args.p.now.given) c.args.x c.args.needs.demand c.args.bound (omega (arith, c.requires.period, c.args.p.now.sound.horizon)) c.requires.demand (omega (arith, c.if-needs-bound-3.false)) left
