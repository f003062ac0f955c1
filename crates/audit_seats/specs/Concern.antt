-- Which interfaces a turn concerns.
use Rattle.std.specs.Prelude.{ℕ, Bool, true, false, ◌||◌, ◌==◌, List}
use Rattle.std.specs.List.{list_any}
use Rattle.world.specs.declared.wakes.Event.{Event}
use Rattle.world.specs.declared.wakes.Event.TheVariants.{Frame, Carrier, Duplicate, Release, Rebind, Stop, Quiet, End}
use Rattle.audit_words.specs.EvidenceWords.Entries.{Entry, Offer}

-- an input is one of the interface of a number, or of all
abbrev pub is_input : ℕ → Event → Bool
is_input index (Frame other len) = index == other
is_input index (Carrier other up) = index == other
is_input index (Duplicate other addr) = index == other
is_input index (Release other) = index == other
is_input index (Rebind other) = index == other
is_input index Stop = true
is_input index Quiet = false
is_input index End = false

-- a frame was offered there
abbrev pub is_offered : ℕ → List Offer → Bool
is_offered index offers = list_any (λ offer. offer.iface == index) offers

-- a turn has an input of the interface, or offers a frame there
abbrev pub concerns : ℕ → Entry → Bool
concerns index e = is_input index e.event || is_offered index e.offers
