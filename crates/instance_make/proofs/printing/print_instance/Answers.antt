use Rattle.serde_json.specs.View.{view}
use Rattle.instance_make.proofs.ReadBack.{bytes_again}
use Rattle.instance_make.proofs.printing.print_instance.Goals as goal

pub returns-clause-reads_back : goal.returns-clause-reads_back
returns-clause-reads_back c le =
    bytes_again c.args.p.now.given (view c.in_ok-value.value) c.in_ok-print.field-0.items c.args.p.now.sound c.in_ok-value.ensures c.in_ok-print.ensures.reads_back le
