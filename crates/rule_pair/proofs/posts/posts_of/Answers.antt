use Rattle.rule_pair.proofs.Prelude.{arith, sets}
use Rattle.rule_pair.proofs.ApartLemmas.{has_posts}
use Rattle.rule_pair.proofs.posts.posts_of.Goals as goal

pub returns : goal.returns
returns c =
    has_posts c.args.p.now.given (sets c.args.g.now) c.args.from c.args.v.0 c.stand_as_kept-k.result _ (omega (arith, c.args.p.now.sound.horizon)) c.stand_as_kept-k.ensures c.host_post.ensures
    c.come_post.ensures
