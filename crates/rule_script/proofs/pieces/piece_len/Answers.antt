use Rattle.base.proofs.Public.{◌≡◌, ◌∙◌, ◌-◌, sym, arith, drop, length, length-drop, take, take_all}
use Rattle.rule_script.proofs.PieceLemmas.{piece_run}
use Rattle.rule_script.proofs.pieces.piece_len.Goals as goal

pub returns-then-leads-clause-piece : goal.returns-then-leads-clause-piece
returns-then-leads-clause-piece c =
    let bs = c.args.bytes.now in
    let tail : take (length bs - 1) (drop 1 bs) ≡ drop 1 bs = take_all (length bs - 1) (drop 1 bs) (omega (arith, length-drop 1 bs)) in
    let run = rw tail at c.run_len.ensures.run in
    rw run (piece_run bs c.requires (sym c.leads.ensures ∙ c.if-leads.true))
