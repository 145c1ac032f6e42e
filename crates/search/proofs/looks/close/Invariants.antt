use Rattle.std.proofs.Common.{◌≡◌, ℕ, [], ◌∷◌}
use Rattle.search.specs.Prelude.{AllFollow, bytes_of, choice_count, HaveChoices, IsGround, IsKept, machine_count, node_count, Pairs, SameCover, sets, Works}
use Rattle.search.proofs.looks.close.Given as goal

abbrev pub invariant-looks : goal.invariant-looks
invariant-looks g l = record {
  name : l.out ≡ l.fn.out;
  kept : IsKept g.D.Desk.tells l.fn.out (g.D.Desk.files l.fn.desk) (g.D.Desk.files l.desk) (g.D.Desk.current l.fn.desk) (g.D.Desk.current l.desk) (g.D.Desk.read_faults l.fn.desk) (g.D.Desk.read_faults l.desk);
  faults : g.D.Desk.write_faults l.desk ≡ g.D.Desk.write_faults l.fn.desk;
  covers : Pairs (λ b. (goal.Propagator-dyn g (b.vtable, b.value)).meaning b.value) SameCover l.fn.rules.items l.rules.items;
  follow : AllFollow (λ b. (goal.Propagator-dyn g (b.vtable, b.value)).meaning b.value) l.p.given l.ground.trail l.rules.items;
  ground : IsGround l.p.given l.ground;
  some : HaveChoices l.p.given (sets l.ground.trail.region);
  marks : l.ground.trail.marks ≡ l.fn.ground.trail.marks;
  works : (budget : ℕ) → Works (λ b. (goal.Propagator-dyn g (b.vtable, b.value)).meaning b.value) l.p.given budget g.D.Desk.tells l.progress l.progress (bytes_of (g.D.Desk.files l.fn.desk l.fn.out)) (bytes_of (g.D.Desk.files l.desk l.fn.out)) l.fn.rules.items l.rules.items (sets l.fn.ground.trail.region) (sets l.ground.trail.region ∷ []);
}

abbrev pub decreases-looks : goal.decreases-looks
decreases-looks g l = choice_count (machine_count l.p.given) (node_count l.p.given) (sets l.ground.trail.region)
