use Rattle.profiles.proofs.Prelude.{◌≡◌, ◌++◌, ◌∷◌, [], length, map, take, ap, ◌∙◌, arith, List, ℕ}
use Rattle.profiles.proofs.RankLemmas.{older_mark}
use Rattle.profiles.proofs.movers.Movers.mark.Goals as goal

pub returns-clause-ok : goal.returns-clause-ok
returns-clause-ok c =
    let xs = c.self.inside.list.items in
    let end : c.len.result ≡ length xs = omega (arith, c.len.ensures) in
    let is : c.push.new.self.items ≡ c.self.inside.marks.items ++ length xs ∷ [] = c.in_ok-push.ensures.items ∙ ap (λ k. c.self.inside.marks.items ++ k ∷ []) end in
    let older = ap (map (λ k. take k xs)) is ∙ older_mark xs c.self.inside.marks.items in
    rw (← c.self.view_is) (ap (λ (older : List (List ℕ)). record { older = older; top = xs }) older)
