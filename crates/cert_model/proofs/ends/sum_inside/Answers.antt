use Rattle.cert_model.proofs.Prelude.{◌≡◌, arith, ap, ◌∙◌, unwrap_or, filter, end_of, in_part, least, sets}
use Rattle.cert_model.proofs.EndLemmas.{end_inside, has_end, is_narrowed, small_with}
use Rattle.cert_model.proofs.ends.sum_inside.Goals as goal

pub overflow_sub-result : goal.overflow_sub-result
overflow_sub-result c =
    let old : c.unwrap_or-old.result ≡ least (end_of c.args.p.now.given c.args.x) (sets c.args.g.now c.args.x) = c.unwrap_or-old.ensures ∙ ap (λ o. unwrap_or o 0) c.end_seen.ensures in
    omega (arith, old, has_end c.args.p.now.given (sets c.args.g.now) c.args.x (in_part c.args.part) c.args.sum c.requires.element c.requires.sum)

pub overflow_add-result : goal.overflow_add-result
overflow_add-result c =
    let p = c.args.p.now in
    let s = sets c.args.g.now in
    let f = end_of p.given c.args.x in
    let old : c.unwrap_or-old.result ≡ least f (s c.args.x) = c.unwrap_or-old.ensures ∙ ap (λ o. unwrap_or o 0) c.end_seen.ensures in
    let new : c.unwrap_or-new.result ≡ least f (filter (in_part c.args.part) (s c.args.x)) = c.unwrap_or-new.ensures ∙ ap (λ o. unwrap_or o 0) c.end_seen-2.ensures ∙ end_inside p.given s c.args.x c.args.part in
    omega (arith, old, new, has_end p.given s c.args.x (in_part c.args.part) c.args.sum c.requires.element c.requires.sum, small_with p.given s c.args.x (in_part c.args.part) c.args.sum c.requires.element c.requires.sum p.sound c.requires.legal)

pub returns : goal.returns
returns c =
    let p = c.args.p.now in
    let s = sets c.args.g.now in
    let f = end_of p.given c.args.x in
    let old : c.unwrap_or-old.result ≡ least f (s c.args.x) = c.unwrap_or-old.ensures ∙ ap (λ o. unwrap_or o 0) c.end_seen.ensures in
    let new : c.unwrap_or-new.result ≡ least f (filter (in_part c.args.part) (s c.args.x)) = c.unwrap_or-new.ensures ∙ ap (λ o. unwrap_or o 0) c.end_seen-2.ensures ∙ end_inside p.given s c.args.x c.args.part in
    is_narrowed p.given s c.args.x (in_part c.args.part) c.args.sum c.requires.element c.requires.sum _
    (omega (arith, old, new, has_end p.given s c.args.x (in_part c.args.part) c.args.sum c.requires.element c.requires.sum))
