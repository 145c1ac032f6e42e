-- What `replay` prints.
use Rattle.base.proofs.Public.{ℕ, List, ◌++◌, refl, inr, StartsWith}
use Rattle.command_report.specs.Prelude.{Choices, Files, Instance, IsPrefixOfReport, outside, PrintsPrefixOf, Replays, report_text, verdict_status}

-- a prefix of the report is one of an answer
pub prefix_of_report : (p : Instance) (plan : Choices) (files : Files) (printed now : List ℕ) → StartsWith now printed → IsPrefixOfReport p plan printed now →
    PrintsPrefixOf (Replays p plan (outside files printed)) (outside files printed) (outside files now)
unfolding PrintsPrefixOf
prefix_of_report p plan files printed now stays cut = (
  stays,
  inr (record {
    whole = printed ++ report_text p plan cut.answer;
    result = verdict_status cut.answer;
    answered = record { answer = cut.answer; verdict = cut.verdict; printed = refl; status = refl; files = refl };
    prefix = cut.prefix;
  }),
)
