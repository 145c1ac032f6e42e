-- The causes of a status, from those of how the command ended.
use Rattle.std.proofs.Common.{◌≡◌, ◌⊎◌, ℕ, Result, Err, inl, inr, refl, subst}
use Rattle.commands.specs.Prelude.{Causes, CommandCauses, Counts, counts, Ending, Fault, IsAnswered, NothingFailed, Rose, Status}

-- where no read and no write failed before, and the last line is printed
pub causes_of_line : (before : Counts) (reads source writes sink now : ℕ) (ended : Result Ending Fault) (result : Status)
    → ¬ (ended ≡ Err Fault.ReadFault) → ¬ (ended ≡ Err Fault.WriteFault) → ¬ (result ≡ Status.ReadFault)
    → (result ≡ Status.WriteFault → Rose sink now) → (now ≡ sink) ⊎ (result ≡ Status.WriteFault)
    → CommandCauses before (counts reads source writes sink) ended → Causes before (counts reads source writes now) result
causes_of_line before reads source writes sink now ended result read write no_read failed kept causes = record {
  read = λ h. absurd (no_read h);
  write = λ h. inr (subst (λ n. Rose n now) (unless causes.sink) (failed h));
  reads = inl (elim causes.reads [ inl e ↦ e | inr e ↦ absurd (read e) ]);
  source = inl (elim causes.source [ inl e ↦ e | inr e ↦ absurd (read e) ]);
  writes = inl (unless causes.writes);
  sink = elim kept [ inl e ↦ inl (subst (λ n. now ≡ n) (unless causes.sink) e) | inr e ↦ inr e ];
}
  where
    unless : {a b : ℕ} → (a ≡ b) ⊎ (ended ≡ Err Fault.WriteFault) → a ≡ b
    unless (inl e) = e
    unless (inr e) = absurd (write e)

-- where nothing is printed any more
pub causes_as_they_were : (before after : Counts) (ended : Result Ending Fault) (result : Status)
    → (result ≡ Status.ReadFault → ended ≡ Err Fault.ReadFault) → (ended ≡ Err Fault.ReadFault → result ≡ Status.ReadFault)
    → (result ≡ Status.WriteFault → ended ≡ Err Fault.WriteFault) → (ended ≡ Err Fault.WriteFault → result ≡ Status.WriteFault)
    → CommandCauses before after ended → Causes before after result
causes_as_they_were before after ended result read read_told write write_told causes = record {
  read = λ h. causes.read (read h);
  write = λ h. causes.write (write h);
  reads = of_read causes.reads;
  source = of_read causes.source;
  writes = of_write causes.writes;
  sink = of_write causes.sink;
}
  where
    of_read : {P : Type 0} → P ⊎ (ended ≡ Err Fault.ReadFault) → P ⊎ (result ≡ Status.ReadFault)
    of_read (inl h) = inl h
    of_read (inr e) = inr (read_told e)

    of_write : {P : Type 0} → P ⊎ (ended ≡ Err Fault.WriteFault) → P ⊎ (result ≡ Status.WriteFault)
    of_write (inl h) = inl h
    of_write (inr e) = inr (write_told e)

-- where nothing failed and memory was there, the status stands for an answer
pub answered : (before after : Counts) (result : Status) → Causes before after result → NothingFailed before after → ¬ (result ≡ Status.Memory) → IsAnswered result
answered before after Status.Good causes nothing memory = tt
answered before after Status.Negative causes nothing memory = tt
answered before after Status.Undecided causes nothing memory = tt
answered before after Status.Words causes nothing memory = tt
answered before after Status.Input causes nothing memory = tt
answered before after Status.ReadFault causes nothing memory = elim (causes.read refl) [ inl h ↦ nothing.reads h | inr h ↦ nothing.source h ]
answered before after Status.WriteFault causes nothing memory = elim (causes.write refl) [ inl h ↦ nothing.writes h | inr h ↦ nothing.sink h ]
answered before after Status.Memory causes nothing memory = absurd (memory refl)
