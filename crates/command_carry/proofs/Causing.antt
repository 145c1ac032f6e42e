-- The causes of how a command ends that reads event lines, from those of what is left once its files were read.
use Rattle.std.proofs.Common.{◌≡◌, ◌⊎◌, ℕ, Result, Err, inl, inr, refl, subst}
use Rattle.command_carry.specs.Prelude.{CommandCauses, counts, Ending, Fault, PartCauses, Rose}

-- where the desk did not fail, and what is left only reads the source and writes to the sink
pub causes_of_rest : (before reads source sink kept source_now writes_now sink_now : ℕ) (ended : Result Ending Fault) → reads ≡ before → writes_now ≡ kept
    → PartCauses source source_now sink sink_now ended → CommandCauses (counts before source kept sink) (counts reads source_now writes_now sink_now) ended
causes_of_rest before reads source sink kept source_now writes_now sink_now ended same same_writes causes = record {
  read = λ h. inr (causes.read h);
  write = λ h. inr (causes.write h);
  reads = inl same;
  source = causes.reads;
  writes = inl same_writes;
  sink = causes.writes;
}

-- where the desk's reads did not fail, and what is left only reads the source and writes to the desk
pub causes_of_events : (reads reads_now source source_now writes between writes_now sink : ℕ) (ended : Result Ending Fault) → reads_now ≡ reads → between ≡ writes
    → PartCauses source source_now between writes_now ended → CommandCauses (counts reads source writes sink) (counts reads_now source_now writes_now sink) ended
causes_of_events reads reads_now source source_now writes between writes_now sink ended same same_writes causes = record {
  read = λ h. inr (causes.read h);
  write = λ h. inl (subst (λ n. Rose n writes_now) same_writes (causes.write h));
  reads = inl same;
  source = causes.reads;
  writes = subst (λ n. (writes_now ≡ n) ⊎ (ended ≡ Err Fault.WriteFault)) same_writes causes.writes;
  sink = inl refl;
}
