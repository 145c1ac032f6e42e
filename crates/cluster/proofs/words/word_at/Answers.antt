use Rattle.std.proofs.Math.ListN.{get_or-map}
use Rattle.base.proofs.Public.{ℕ, List, [], Bor, sym}
use Rattle.cluster.proofs.words.word_at.Goals as goal

pub returns : goal.returns
returns c =
    let none : Bor (List ℕ) = record { ref_ptr = (0, 0); now = [] } in
    sym (get_or-map (λ (w : Bor (List ℕ)). w.now) c.args.words.now c.args.place none)
