-- What stands in a table of the addresses that are probed.
use Rattle.std.specs.Prelude.{◌≡◌, ℕ, Bool, true, not, ◌&&◌, ◌||◌, ◌==◌, if◌then◌else◌, List, length, map, filter, vec_len, Option, Some, None}
use Rattle.std.specs.List.{list_any}
use Rattle.std.specs.Option.{is_some}
use Rattle.net_types.specs.AddressText.{FitsIp4}
use Rattle.net_types.specs.declared.address.Ip4.{Ip4}
use Rattle.audit_words.specs.EvidenceWords.Entries as told
use Rattle.audit_words.specs.EvidenceWords.Inputs as told_of
use Rattle.audit_words.specs.EvidenceWords.Inputs.{tells_contest}
use Rattle.audit_words.specs.Shown.{entry_shown, site_shown}
use Rattle.audit_words.specs.declared.shown.Entry.{Entry}
use Rattle.audit_words.specs.declared.shown.Site.{Site}
use Rattle.probe_table.specs.ByAddress.{IsEntered, is_addr, value_at}
use Rattle.probe_table.specs.ProbeTimes.{TurnTest, is_past, no_probes, times_after, times_in, turn_to}
use Rattle.probe_table.specs.declared.table.ProbeTable.{ProbeTable}
use Rattle.probe_table.specs.declared.table.Probing.{Probing}
use Rattle.probe_table.specs.declared.table.TableTurn.{TableTurn}
use Rattle.probe_table.specs.declared.times.ProbeTimes.{ProbeTimes}
use Rattle.probe_table.specs.declared.times.ProbeTurn.{ProbeTurn}

-- ---- what stands for an address

abbrev pub addr_of : Probing → Ip4
addr_of probing = probing.addr

abbrev pub own_times : Probing → ProbeTimes
own_times probing = probing.times

abbrev pub times_at : List Probing → Ip4 → ProbeTimes
times_at probings addr = value_at addr_of own_times no_probes probings addr

abbrev pub times_of : ProbeTable → Ip4 → ProbeTimes
times_of table addr = times_at table.probings.items addr

-- The table holds what is kept of each address after some turns.
abbrev pub Holds : (calm : TurnTest) → told_of.Site → (past : List told.Entry) → ProbeTable → Type 0
Holds calm site past table = (addr : Ip4) → FitsIp4 addr → times_of table addr ≡ times_in calm site addr past

-- In a turn what stands for each address becomes what is kept of it after that turn.
abbrev pub IsTurned : Site → Entry → (calm : Bool) → (old new : ProbeTable) → Type 0
IsTurned site entry calm old new = (addr : Ip4) → FitsIp4 addr
    → times_of new addr ≡ times_after (turn_to calm (site_shown site) addr (entry_shown entry)) (times_of old addr)

-- Some addresses have among them each one that was probed three times, the last of them so long ago.
abbrev pub AreProbed : (wait now : ℕ) → ProbeTable → List Ip4 → Type 0
AreProbed wait now table addrs =
    (addr : Ip4) → is_past wait (times_of table addr).third now ≡ true → list_any (is_addr addr) addrs ≡ true

-- those of the entries that tell so
abbrev pub thrice_in : (wait now : ℕ) → List Probing → List Ip4
thrice_in wait now probings = map addr_of (filter (λ p. is_past wait p.times.third now) probings)

-- ---- a turn of the table

abbrev pub turn_at : TableTurn → Ip4 → ProbeTurn
turn_at turn addr = record {
  moment = turn.moment;
  contested = tells_contest turn.own.now addr turn.arp;
  calm = turn.calm;
  probed = list_any (is_addr addr) turn.targets.now;
}

-- whether anything may be left of an address
abbrev pub remains : ProbeTurn → Bool
remains turn = not turn.contested && (turn.calm || turn.probed)

abbrev pub left_of : TableTurn → Probing → Option Probing
left_of turn p =
    if remains (turn_at turn p.addr)
    then Some (record { addr = p.addr; times = times_after (turn_at turn p.addr) p.times })
    else None

-- whether a turn changes nothing: no probe was taken, and there is nothing to change, or what was probed counts on and
-- no ARP packet came
abbrev pub rests_in : TableTurn → ProbeTable → Bool
rests_in turn table =
    (length turn.targets.now == 0) && ((vec_len table.probings == 0) || (turn.calm && not (is_some turn.arp)))

-- the targets stand in a list too
abbrev pub AreEntered : (old : List Probing) → (targets : List Ip4) → (new : List Probing) → Type 0
AreEntered old targets new = IsEntered addr_of own_times no_probes old targets new
