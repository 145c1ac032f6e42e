use Rattle.cert_model.proofs.CountedLemmas.{counted_back, counted_level}
use Rattle.cert_model.proofs.followers.Followers.back.Goals as goal

pub table_back-requires : goal.table_back-requires
table_back-requires g c = λ yes. counted_level _ c.args.trail.now c.args.self.now.table (c.requires.follow.counting yes) c.requires.marked

pub returns-clause-follow : goal.returns-clause-follow
returns-clause-follow g c = record {
  following = λ yes. c.back_told.ensures.follow yes;
  counting = λ yes. counted_back _ c.args.trail.now c.back_told.new.trail c.args.self.now.table c.table_back.new.table c.back_told.ensures.marks (c.table_back.ensures yes) (c.requires.follow.counting yes);
  telling = tt;
}
