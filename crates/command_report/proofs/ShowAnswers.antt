-- What `show` prints.
use Rattle.base.proofs.Public.{ℕ, List, ◌++◌, refl, inl, inr, StartsWith}
use Rattle.command_report.specs.Prelude.{Choices, Files, Instance, IsPartOfShown, listing_text, Lists, outside, PrintsPrefixOf, verdict_status}

-- what was written of the listing is a prefix of an answer
pub part_of_listing : (p : Instance) (plan : Choices) (files : Files) (printed now : List ℕ) → StartsWith now printed → IsPartOfShown p plan printed now →
    PrintsPrefixOf (Lists p plan (outside files printed)) (outside files printed) (outside files now)
unfolding PrintsPrefixOf
part_of_listing p plan files printed now stays (inl same) = (stays, inl same)
part_of_listing p plan files printed now stays (inr cut) = (
  stays,
  inr (record {
    whole = printed ++ listing_text p plan cut.actions cut.answer;
    result = verdict_status cut.answer;
    answered = record { answer = cut.answer; verdict = cut.verdict; listed = record { actions = cut.actions; listing = cut.listing; text = refl }; status = refl; files = refl };
    prefix = cut.prefix;
  }),
)
