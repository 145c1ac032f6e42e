use Rattle.rule_load.proofs.Prelude.{◌≡◌, ℕ, ◌<◌, slice_index_or, IsListedBy, IsNear, no_standing}
use Rattle.rule_load.proofs.keeper.LoadKeeper.put_all.Given as goal

abbrev pub invariant-loop-i : goal.invariant-loop-i
invariant-loop-i l = record {
  table : l.self.table ≡ l.initial.self.table;
  fixed : l.self.fixed ≡ l.initial.self.fixed;
  firsts : l.self.firsts ≡ l.initial.self.firsts;
  movers : l.self.movers ≡ l.initial.self.movers;
  rooms : l.self.rooms ≡ l.initial.self.rooms;
  hold_on : l.self.hold_on ≡ l.initial.self.hold_on;
  near : IsNear l.p.given l.self.near;
  there : (v : ℕ) → v < l.i → IsListedBy l.p.given v (slice_index_or l.self.table.top v no_standing) l.self.near;
}
