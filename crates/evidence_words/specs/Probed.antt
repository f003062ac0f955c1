-- What it is that an address was probed (RFC 5227, section 2.1.1), from what was offered and heard. Moments are in
-- milliseconds.
use Rattle.std.specs.Prelude.{◌≡◌, ℕ, ◌+◌, ◌≤◌, zero, suc, Bool, true, false, ◌&&◌, List, [], ◌∷◌, ◌++◌, bytes_eq}
use Rattle.std.specs.List.{list_any, count_by}
use Rattle.turn_model.specs.Machine.Since.{Since}
use Rattle.net_types.specs.declared.address.Ip4.{Ip4}
use Rattle.turn_model.specs.FrameLink.Packets.{probe_text}
use Rattle.evidence_words.specs.Entries.{Entry, Offer}
use Rattle.evidence_words.specs.Inputs.{Site, offers_at, contests}

-- whether the link took a probe for the address
abbrev pub probe_taken : Site → Ip4 → List Offer → Bool
probe_taken site addr offers =
    list_any (λ o. o.taken && bytes_eq o.bytes (probe_text site.managed.spec.mac addr)) offers

-- what a turn is to be, seen the turns before it
abbrev pub TurnWord : Type 1
TurnWord = Entry → List Entry → Type 0

-- The first of some probes is as `First` says, each later one as C says.
abbrev pub AsProbe : (C First : TurnWord) → (before : ℕ) → TurnWord
AsProbe C First zero e past = First e past
AsProbe C First (suc n) e past = C e past

-- So many turns in which a probe was taken: the last of them `wait` or more before the moment `before`, each other one
-- a second or more before the next. From the first of them on nobody contested the address. The first is as `First`
-- says, and each turn after it as C says.
abbrev pub Probes : (C First : TurnWord) → Site → Ip4 → (count wait before : ℕ) → List Entry → Type 0
Probes C First site addr zero wait before past = Unit {0}
Probes C First site addr (suc count) wait before past =
    Since (λ e earlier. C e earlier × (contests site addr e ≡ false))
    (λ e earlier. AsProbe C First count e earlier × (contests site addr e ≡ false)
    × (probe_taken site addr (offers_at site e) ≡ true)
    × (e.moment + wait ≤ before) × Probes C First site addr count 1000 e.moment earlier)
    past

-- Each of some turns, which come after those of `earlier`, is as C says.
abbrev pub EachAfter : (C : TurnWord) → (turns earlier : List Entry) → Type 0
EachAfter C [] earlier = Unit {0}
EachAfter C (e ∷ turns) earlier = C e (turns ++ earlier) × EachAfter C turns earlier

-- Three probes, and a fourth turn two seconds or more after the third of them. From the first probe up to the turn
-- before the fourth nobody contested the address. The first of the three is as `First` says, and each turn after it as
-- C says.
pub record Probed (C First : TurnWord) (site : Site) (addr : Ip4) (past : List Entry) : Type 0 where
  pub later : List Entry
  pub fourth : Entry
  pub earlier : List Entry
  pub cut : past ≡ later ++ fourth ∷ earlier
  pub probes : Probes C First site addr 3 2000 fourth.moment earlier
  pub since : EachAfter C (later ++ fourth ∷ []) earlier

-- in how many turns a probe for the address was taken
abbrev pub probes_taken : Site → Ip4 → List Entry → ℕ
probes_taken site addr past = count_by (λ e. probe_taken site addr (offers_at site e)) past
