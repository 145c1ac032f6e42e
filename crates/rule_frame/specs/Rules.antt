-- What a rule of watches means.
use Rattle.std.specs.Prelude.{◌≡◌, ℕ, Bool, true, length}
use Rattle.rule_frame.specs.Words.{CutHolds, Instance, IsQuietKind, Meaning, Sets, ReasonKind, Watch, Answer, Quiet, Cut, Fail, FailHolds}
use Rattle.rule_frame.specs.Caches.{Cache}
use Rattle.rule_frame.specs.Changes.{AreClean}
use Rattle.rule_frame.specs.Levels.{Levels, level_at}

-- at a level there is a flag for each watch, each watch that is not dirty is clean, what is kept is right, and both have as many levels
pub record AreRight (watch : ℕ → Watch) (count : ℕ) (p : Instance) (s : Sets) (m : Levels) (c : Cache) (k : ℕ) : Type 0 where
  pub flags : length (level_at m k) ≡ count
  pub clean : AreClean watch p s (level_at m k)
  pub cache : c.right p k s
  pub level : c.level ≡ length m.older

abbrev pub meaning_of : (Instance → ℕ → Watch) → (Instance → ℕ) → (ReasonKind → Bool) → Levels → Cache → ℕ → Meaning
meaning_of watch count kinds m c given = record {
  agrees = λ p k s. AreRight (watch p) (count p) p s m c k;
  level = length m.older;
  given = given;
  covers = kinds;
}

-- what an answer says, where these kinds are covered
abbrev pub AnswerHolds : (ReasonKind → Bool) → Instance → Sets → Answer → Type 0
AnswerHolds kinds p s Quiet = (k : ReasonKind) → kinds k ≡ true → IsQuietKind p s k
AnswerHolds kinds p s (Cut x part r) = CutHolds p s x part r
AnswerHolds kinds p s (Fail r) = FailHolds p s r
