-- The work that words ask for.
use Rattle.std.specs.Prelude.{ℕ, List, Option, Some, None}
use Rattle.asked_works.specs.declared.words.Work.{Work}
use Rattle.asked_works.specs.declared.words.Work.TheVariants as work
use Rattle.live_words.specs.LiveWords.{AsksLive}
use Rattle.asked_works.specs.Words.{AskReplay, AskCheck, AskAudit, AskDump, AskLab, AskWhy, AsksImport, AsksMake, AskWork}

abbrev pub AsksFor : List (List ℕ) → Option Work → Type 0
AsksFor words (Some work.Replay) = AskReplay words
AsksFor words (Some work.Check) = AskCheck words
AsksFor words (Some (work.Live specs)) = AsksLive words specs
AsksFor words (Some (work.Make rounds)) = AsksMake words rounds
AsksFor words (Some work.Dump) = AskDump words
AsksFor words (Some (work.Import on)) = AsksImport words on.name on.mac
AsksFor words (Some work.Lab) = AskLab words
AsksFor words (Some work.Audit) = AskAudit words
AsksFor words (Some work.Why) = AskWhy words
AsksFor words None = AskWork words → ⊥
