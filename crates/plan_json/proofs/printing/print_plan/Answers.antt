use Rattle.base.proofs.Public.{◌≤◌, length, arith, option_copied}
use Rattle.plan_json.specs.Prelude.{IsPlanOf, max_text_bytes, plan_text}
use Rattle.serde_json.specs.View.{view}
use Rattle.plan_json.proofs.ReadBack.{lent, bytes_again}
use Rattle.plan_json.proofs.Sizes.{length-plan_text}
use Rattle.plan_json.proofs.printing.print_plan.Goals as goal

pub returns-clause-reads_back : goal.returns-clause-reads_back
unfolding plan_text
returns-clause-reads_back c =
    let p = c.args.p.now.given in
    let plan = option_copied c.args.plan in
    let is = lent (IsPlanOf p) c.args.plan c.requires in
    let small : length c.in_ok-print.field-0.items ≤ max_text_bytes =
    rw (c.in_ok-print.ensures.text, c.in_ok-value.ensures) (omega (arith, length-plan_text p plan c.args.p.now.sound is)) in
    bytes_again p plan (view c.in_ok-value.value) c.in_ok-print.field-0.items c.args.p.now.sound is c.in_ok-value.ensures c.in_ok-print.ensures.reads_back small
