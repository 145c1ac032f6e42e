use Rattle.profiles.proofs.Prelude.{◌≡◌, ◌++◌, ◌∷◌, [], map, take, sym, ap, subst, ◌∙◌, IsRanked}
use Rattle.std.specs.Prelude.{option_to_list}
use Rattle.profiles.proofs.RankLemmas.{older_back}
use Rattle.profiles.proofs.movers.Movers.back.Goals as goal

pub returns-in-Some : goal.returns-in-Some
returns-in-Some c =
    let xs = c.self.inside.list.items in
    let marks = c.pop.new.self.items in
    let is : c.self.inside.marks.items ≡ marks ++ c.in-Some.many ∷ [] = c.pop.ensures.items ∙ ap (λ o. marks ++ option_to_list o) c.in-Some.is in
    let was = older_back xs c.self.inside.ranks.items marks c.in-Some.many (subst (λ ms. IsRanked xs c.self.inside.ranks.items ms) is c.self.invariant) in
    rw (← c.self.view_is) (subst (λ ys. map (λ k. take k xs) c.self.inside.marks.items ≡ map (λ k. take k ys) marks ++ ys ∷ []) (sym c.truncate.ensures.items) (ap (map (λ k. take k xs)) is ∙ was))
