-- When a turn in which nothing comes and nothing is offered changes no choice but for the turn since which it stands.
use Rattle.std.specs.Prelude.{◌≡◌, ℕ, ◌<◌, ◌^◌, Bool, true, false, List, Option, Some, None}
use Rattle.std.specs.Option.{is_none}
use Rattle.net_types.specs.AddressText.{FitsIp4}
use Rattle.net_types.specs.declared.address.Ip4.{Ip4}
use Rattle.evidence_words.specs.Entries.{Entry}
use Rattle.evidence_words.specs.Inputs.{Site}
use Rattle.probe_table.specs.ProbeTimes.{is_past, times_in}
use Rattle.local_judge.specs.Choices.{choice_in, is_calm}
use Rattle.local_judge.specs.declared.choices.Choice.{Choice}

-- a choice stands, and no other host used the address since
abbrev pub is_unused : Option Choice → Bool
is_unused None = false
is_unused (Some choice) = is_none choice.used

-- So it is with each address that may be chosen at some moment, since its third probe is long enough ago.
abbrev pub IsSettled : Site → List Entry → Type 0
IsSettled site past = (addr : Ip4) → FitsIp4 addr → (now : ℕ) → now < 2 ^ 64
    → is_past 2000 (times_in (is_calm site) site addr past).third now ≡ true
    → is_unused (choice_in site addr past) ≡ true
