use Rattle.load_bounds.proofs.Prelude.{refl, sym, ◌∙◌, arith, sets}
use Rattle.load_bounds.proofs.RoomLemmas.{stays_steady}
use Rattle.load_bounds.proofs.room.stays_online.Goals as goal

pub returns-in-empty : goal.returns-in-empty
returns-in-empty c = λ _.
    stays_steady c.args.p.now.given (sets c.args.g.now) c.args.n.0 c.domain-domain.result.now c.rows.result.now (rw c.domain-domain.ensures.domain refl) (sym c.is_online.ensures ∙ c.if-not-is_online.false) (sym c.idle.ensures ∙ c.if-not-idle.false) c.rows.ensures.items (omega (arith, c.in-empty.len_below))
