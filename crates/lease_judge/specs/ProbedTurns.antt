-- Whether an address is probed, kept turn by turn (RFC 5227, section 2.1.1). Moments are in milliseconds since 1970.
use Rattle.std.specs.Prelude.{◌≡◌, ℕ, ◌<◌, ◌^◌, Bool, true, false, ◌&&◌, ◌||◌, List, [], ◌∷◌}
use Rattle.net_types.specs.AddressText.{FitsIp4}
use Rattle.net_types.specs.declared.address.Ip4.{Ip4}
use Rattle.evidence_words.specs.Entries.{Entry}
use Rattle.evidence_words.specs.Inputs.{Site}
use Rattle.local_judge.specs.ProbeTables.ProbeTimes.{TurnTest, is_past, times_in}
use Rattle.lease_judge.specs.Judge.{is_calm, judge_in}

-- whether a turn ends no lease
abbrev pub calm_in : Site → TurnTest
calm_in site e past = is_calm site e (judge_in site past)

-- A turn two seconds or more after a third probe makes the address a probed one, and each turn that isn't calm ends it.
abbrev pub probed_in : (calm : TurnTest) → Site → Ip4 → List Entry → Bool
probed_in calm site addr [] = false
probed_in calm site addr (e ∷ past) =
    calm e past && (is_past 2000 (times_in calm site addr past).third e.moment || probed_in calm site addr past)

-- Each address whose third probe is two seconds ago at some moment is a probed one: a turn in which nothing comes and
-- nothing is offered makes none anew.
abbrev pub IsSettled : Site → List Entry → Type 0
IsSettled site past = (addr : Ip4) → FitsIp4 addr → (now : ℕ) → now < 2 ^ 64
    → is_past 2000 (times_in (calm_in site) site addr past).third now ≡ true
    → probed_in (calm_in site) site addr past ≡ true
