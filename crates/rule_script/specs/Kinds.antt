-- The kinds of constraints, by their words.
use Rattle.std.specs.Prelude.{ℕ, List, Option, codes, option_and_then, slice_get}
use Rattle.std.specs.List.{position}
use Rattle.std.specs.Str.{bytes_eq}
use Rattle.catalogue.specs.declared.constraint.TheConstants.{CONSTRAINT_WORDS}
use Rattle.rule_script.specs.declared.kinds.RuleKind.{RuleKind}
use Rattle.rule_script.specs.declared.kinds.RuleKind.TheVariants as kind
use Rattle.rule_script.specs.declared.kinds.TheConstants.{RULE_KINDS}

-- the kind whose word it is
unfoldable pub kind_of : List ℕ → Option RuleKind
kind_of word = option_and_then (slice_get RULE_KINDS) (position (λ w. bytes_eq word w.now) CONSTRAINT_WORDS)

-- the word of a kind, which no other kind has
abbrev pub kind_word : RuleKind → List ℕ
kind_word kind.Spread = codes "spread"
kind_word kind.Ban = codes "ban"
kind_word kind.Fence = codes "fence"
kind_word kind.Gather = codes "gather"
kind_word kind.Lonely = codes "lonely"
kind_word kind.Among = codes "among"
kind_word kind.Split = codes "split"
kind_word kind.Root = codes "root"
kind_word kind.Precedence = codes "precedence"
kind_word kind.Serialize = codes "serialize"
kind_word kind.Preserve = codes "preserve"
kind_word kind.ResourceCapacity = codes "resourceCapacity"
kind_word kind.RunningCapacity = codes "runningCapacity"
kind_word kind.MaxOnline = codes "maxOnline"
kind_word kind.Overbook = codes "overbook"
kind_word kind.Online = codes "online"
kind_word kind.Offline = codes "offline"
kind_word kind.Running = codes "running"
kind_word kind.Sleeping = codes "sleeping"
kind_word kind.Ready = codes "ready"
kind_word kind.Killed = codes "killed"
