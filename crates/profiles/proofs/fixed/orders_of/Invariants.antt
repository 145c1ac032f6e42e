use Rattle.profiles.proofs.Prelude.{AreOrders, lists_of}
use Rattle.profiles.proofs.fixed.orders_of.Given as goal

abbrev pub invariant-loop-r : goal.invariant-loop-r
invariant-loop-r l = AreOrders l.p.given l.r (lists_of l.orders.items)
