use Rattle.profiles.proofs.{Prelude.rules, Prelude.IsNonDecreasingBy-from_sort_by_key, Prelude.MostUse, FixedLemmas.uses_ordered}
use Rattle.profiles.proofs.fixed.order_of.Goals as goal

pub returns : goal.returns
returns c =
    uses_ordered c.args.p.now.given c.args.r c.in_ok-order.order.items c.sort_unstable_by_key.new.self.items c.in_ok-order.ensures c.sort_unstable_by_key.ensures.permutation
    (IsNonDecreasingBy-from_sort_by_key (λ (x : MostUse). x.most) _ c.sort_unstable_by_key.ensures.sorted (λ a r q k. search rules))
