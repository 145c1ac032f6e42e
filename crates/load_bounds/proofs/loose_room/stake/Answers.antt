use Rattle.load_bounds.proofs.Prelude.{sym, ◌∙◌, sets}
use Rattle.load_bounds.proofs.LooseLemmas.{steady_stakes}
use Rattle.load_bounds.proofs.loose_room.stake.Goals as goal

pub returns-then-is_steady-clause-stake : goal.returns-then-is_steady-clause-stake
returns-then-is_steady-clause-stake c =
    steady_stakes c.args.p.now.given (sets c.args.g.now) c.args.r c.args.n.0 c.args.x (sym c.is_steady.ensures ∙ c.if-is_steady.true)
