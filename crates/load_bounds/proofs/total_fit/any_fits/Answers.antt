use Rattle.load_bounds.proofs.Prelude.{◌+◌, ◌≤◌, refl, arith, nat_tests, all_nodes, Amount, base, demand_of, vm}
use Rattle.load_bounds.proofs.TotalLemmas.{ever_most}
use Rattle.load_bounds.proofs.total_fit.any_fits.Goals as goal

pub returns : goal.returns
returns c = λ on s x most.
    let spare : c.most.result ≤ c.args.spare = grind (arith, nat_tests, on) in
    record {
      each = λ v low.
          ever_most c.args.p.now.given v (s (vm v)) c.args.r (all_nodes c.args.p.now.given) x (base c.args.p.now.given v (Amount c.args.r)) (demand_of c.args.p.now.given v c.args.r) (c.args.spare + most v) refl refl
          (omega (arith, c.most.ensures.each v low, spare));
    }
