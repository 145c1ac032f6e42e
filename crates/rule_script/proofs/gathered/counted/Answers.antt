use Rattle.base.proofs.Public.{◌≡◌, ◌∙◌, ◌+◌, ◌++◌, ◌∷◌, [], ap, ap₂, get_or, sym, ℕ, List}
use Rattle.cluster.specs.declared.ids.Element.{Element}
use Rattle.cluster.specs.declared.ids.Element.TheVariants.{Vm}
use Rattle.rule_script.specs.Elements.{counts, entry_of}
use Rattle.rule_script.proofs.ElementLemmas.{entry_counts, entry_gone}
use Rattle.rule_script.proofs.gathered.counted.Goals as goal
use Rattle.rule_script.proofs.gathered.counted.Goals.{then-counts+in_ok-push, else-counts}

pub loop-e-preserved : goal.loop-e-preserved
loop-e-preserved c =
    let d : Element = Vm (record { 0 = 0 }) in
    let x : Element = get_or c.args.list.now c.loop-e.e-index d in
    let is : c.counts.result ≡ counts (entry_of c.args.places.now x) (c.loop-e.e-index + 1) = c.counts.ensures ∙ ap₂ (λ (e n : ℕ). counts e (n + 1)) c.entry.ensures c.loop-e.invariant.0 in (
      ap (λ (n : ℕ). n + 1) c.loop-e.invariant.0,
      elim c.if-counts.branch [
        | then-counts+in_ok-push w ↦
            w.found-is
            ∙ w.in_ok-push.ensures
            ∙ ap (λ (l : List Element). l ++ x ∷ []) c.loop-e.invariant.1
            ∙ entry_counts (entry_of c.args.places.now) c.args.list.now c.loop-e.e-index d c.loop-e-test.true (sym is ∙ w.if-counts.true)
        | else-counts w ↦ w.found-is ∙ c.loop-e.invariant.1 ∙ entry_gone (entry_of c.args.places.now) c.args.list.now c.loop-e.e-index d c.loop-e-test.true (sym is ∙ w.if-counts.false)
      ],
    )
