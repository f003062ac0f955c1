-- The lines `pool` and those after the start: what is read is spelled so, and what is spelled so is read.
use Rattle.std.proofs.Common.{◌≡◌, ℕ, ◌^◌, ◌<◌, ◌≤◌, Bool, true, false, List, ◌∷◌, ◌++◌, refl, sym, subst, arith, codes, leb}
use Rattle.std.specs.Fmt.{decimal}
use Rattle.std.specs.List.{AllByRecursion}
use Rattle.std.proofs.lemmas.Bool.{leb-true, le-leb}
use Rattle.std.proofs.lemmas.List.{append_assoc}
use Rattle.net_types.specs.declared.address.Ip4.{Ip4}
use Rattle.net_types.specs.declared.interface.IfIndex.{IfIndex}
use Rattle.net_types.specs.AddressText.{ip4_at, ip4_text, FitsIp4}
use Rattle.net_types.specs.Cutting.{pair_at}
use Rattle.net_types.specs.Marks.{Lacks, IsPrintable}
use Rattle.net_types.specs.Numbers.{number_at}
use Rattle.net_types.specs.Reads.{Reads}
use Rattle.net_types.proofs.AddressLaws.{ip4_reads}
use Rattle.net_types.proofs.ChoiceLaws.{ChoiceSound, Chosen, part_sound, part_chosen, choose_reads}
use Rattle.net_types.proofs.MarkLaws.{decimal_printable, ip4_lacks, ip4_printable, lacks-append}
use Rattle.net_types.proofs.NumberLaws.{number_reads}
use Rattle.net_types.proofs.ReadsLaws.{guard_reads, map_reads, pair_reads, same_range}
use Rattle.script_model.specs.Lines.{carrier_text}
use Rattle.row_texts.specs.RowReading.{iface_at}
use Rattle.row_texts.proofs.RowLaws.{FitsIface, iface_text, iface_reads, iface_lacks}
use Rattle.replay_text.specs.TurnReading.{moment_at, salt_at, switch_at}
use Rattle.replay_text.proofs.LineLaws.{moment_reads, moment_lacks, salt_reads, salt_lacks, switch_reads}
use Rattle.replay_text.proofs.Printables.{joined_printable, iface_printable, no_feed_in}
use Rattle.lab_peer.specs.declared.pool.Pool.{Pool}
use Rattle.lab_peer.specs.Pools.{is_pool}
use Rattle.lab_schedule.specs.declared.event.LabEvent.{LabEvent}
use Rattle.lab_schedule.specs.declared.event.LabEvent.TheVariants.{Tick, Carrier, Release, Give, Hear}
use Rattle.lab_schedule.specs.LineReading.{events, event_at, is_on, number64_at, pool_at}
use Rattle.lab_schedule.specs.Schedules.{FitsPool, FitsLabEvent, pool_text, event_text}

-- ---- the pool

abbrev Parts : Type 0
Parts = Ip4 × (Ip4 × ℕ)

abbrev pub pool_words : Pool → List ℕ
pool_words pool = ip4_text pool.low ++ 32 ∷ (ip4_text pool.high ++ 32 ∷ decimal pool.lease)

abbrev Ranged : Pool → Type 0
Ranged pool = FitsIp4 pool.low × (FitsIp4 pool.high × (pool.lease < 2 ^ 32))

parts_reads : Reads (λ (p : Parts). ip4_text p.0 ++ 32 ∷ (ip4_text p.1.0 ++ 32 ∷ decimal p.1.1)) (λ p. FitsIp4 p.0 × (FitsIp4 p.1.0 × (p.1.1 < 2 ^ 32)))
    (pair_at 32 ip4_at (pair_at 32 ip4_at (number_at (2 ^ 32))))
parts_reads =
    pair_reads 32 ip4_reads (pair_reads 32 ip4_reads (number_reads (2 ^ 32) (omega arith)) (λ ip fits. ip4_lacks ip 32 fits refl))
    (λ ip fits. ip4_lacks ip 32 fits refl)

pub pool_reads : Reads pool_words FitsPool pool_at
unfolding pool_at
pool_reads =
    same_range FitsPool (λ pool fits. ((fits.low, (fits.high, fits.lease)), fits.valid))
    (λ pool fits. record { low = fits.0.0; high = fits.0.1.0; lease = fits.0.1.1; valid = fits.1 })
    (guard_reads is_pool
    (map_reads {FitsX = Ranged} (λ (p : Parts). record { low = p.0; high = p.1.0; lease = p.1.1 }) (λ pool. (pool.low, (pool.high, pool.lease))) parts_reads
    (λ p fits. refl) (λ pool fits. refl) (λ p fits. fits) (λ pool fits. fits)))

pub pool_spelled : (pool : Pool) → pool_text pool ≡ codes "pool " ++ pool_words pool
pool_spelled pool = simp append_assoc

pub pool_lacks : (pool : Pool) → FitsPool pool → Lacks 10 (codes "pool " ++ pool_words pool)
pool_lacks pool fits =
    let small = fits.lease in
    lacks-append 10 (codes "pool ") (pool_words pool) refl
    (no_feed_in (pool_words pool)
    (joined_printable (ip4_text pool.low) (ip4_text pool.high ++ 32 ∷ decimal pool.lease) (ip4_printable pool.low fits.low)
    (joined_printable (ip4_text pool.high) (decimal pool.lease) (ip4_printable pool.high fits.high) (decimal_printable pool.lease (omega arith)))))

-- ---- what comes next

abbrev pub FitsAny : LabEvent → Type 0
FitsAny = FitsLabEvent 64

number_reads64 : Reads decimal (λ n. n < 2 ^ 64) number64_at
number_reads64 = number_reads (2 ^ 64) (omega arith)

-- a moment and a number
abbrev Two : Type 0
Two = ℕ × ℕ

abbrev two_words : Two → List ℕ
two_words p = decimal p.0 ++ 32 ∷ decimal p.1

two_reads : Reads two_words (λ p. (p.0 < 10 ^ 15) × (p.1 < 2 ^ 64)) (pair_at 32 moment_at number64_at)
two_reads = pair_reads 32 moment_reads number_reads64 moment_lacks

-- a turn on an interface
abbrev On : Type 0
On = ℕ × (ℕ × IfIndex)

abbrev on_words : On → List ℕ
on_words p = decimal p.0 ++ 32 ∷ (decimal p.1.0 ++ 32 ∷ iface_text p.1.1)

on_reads : Reads on_words (λ p. (p.0 < 10 ^ 15) × ((p.1.0 < 2 ^ 64) × FitsIface p.1.1)) (pair_at 32 moment_at (pair_at 32 salt_at iface_at))
on_reads = pair_reads 32 moment_reads (pair_reads 32 salt_reads iface_reads salt_lacks) moment_lacks

abbrev Given : Type 0
Given = ℕ × (ℕ × (IfIndex × ℕ))

abbrev given_words : Given → List ℕ
given_words p = decimal p.0 ++ 32 ∷ (decimal p.1.0 ++ 32 ∷ (iface_text p.1.1.0 ++ 32 ∷ decimal p.1.1.1))

given_reads : Reads given_words (λ p. (p.0 < 10 ^ 15) × ((p.1.0 < 2 ^ 64) × (FitsIface p.1.1.0 × (p.1.1.1 < 2 ^ 64))))
    (pair_at 32 moment_at (pair_at 32 salt_at (pair_at 32 iface_at number64_at)))
given_reads = pair_reads 32 moment_reads (pair_reads 32 salt_reads (pair_reads 32 iface_reads number_reads64 iface_lacks) salt_lacks) moment_lacks

abbrev Switched : Type 0
Switched = ℕ × (ℕ × (IfIndex × Bool))

abbrev switched_words : Switched → List ℕ
switched_words p = decimal p.0 ++ 32 ∷ (decimal p.1.0 ++ 32 ∷ (iface_text p.1.1.0 ++ 32 ∷ carrier_text p.1.1.1))

switched_reads : Reads switched_words (λ p. (p.0 < 10 ^ 15) × ((p.1.0 < 2 ^ 64) × (FitsIface p.1.1.0 × Unit {0})))
    (pair_at 32 moment_at (pair_at 32 salt_at (pair_at 32 iface_at switch_at)))
switched_reads = pair_reads 32 moment_reads (pair_reads 32 salt_reads (pair_reads 32 iface_reads switch_reads iface_lacks) salt_lacks) moment_lacks

-- ---- their events

abbrev ticks : Two → LabEvent
ticks p = Tick p.0 p.1

abbrev hears : Two → LabEvent
hears p = Hear p.0 p.1

abbrev releases : On → LabEvent
releases p = Release p.0 p.1.0 p.1.1

abbrev gives : Given → LabEvent
gives p = Give p.0 p.1.0 p.1.1.0 p.1.1.1

abbrev switches : Switched → LabEvent
switches p = Carrier p.0 p.1.0 p.1.1.0 p.1.1.1

tick_spelled : (p : Two) → event_text (ticks p) ≡ codes "tick " ++ two_words p
tick_spelled p = simp append_assoc

hear_spelled : (p : Two) → event_text (hears p) ≡ codes "peer " ++ two_words p
hear_spelled p = simp append_assoc

release_spelled : (p : On) → event_text (releases p) ≡ codes "release " ++ on_words p
release_spelled p = simp append_assoc

give_spelled : (p : Given) → event_text (gives p) ≡ codes "give " ++ given_words p
give_spelled p = simp append_assoc

carrier_spelled : (p : Switched) → event_text (switches p) ≡ codes "carrier " ++ switched_words p
carrier_spelled p = simp append_assoc

events_sound : AllByRecursion (ChoiceSound event_text FitsAny) events
events_sound = (
  part_sound event_text FitsAny (codes "tick ") ticks two_reads tick_spelled (λ p fits. fits),
  (
    part_sound event_text FitsAny (codes "give ") gives given_reads give_spelled (λ p fits. ((fits.0, fits.1.0), fits.1.1.0, fits.1.1.1)),
    (
      part_sound event_text FitsAny (codes "peer ") hears two_reads hear_spelled (λ p fits. fits),
      (
        part_sound event_text FitsAny (codes "carrier ") switches switched_reads carrier_spelled (λ p fits. ((fits.0, fits.1.0), fits.1.1.0)),
        (part_sound event_text FitsAny (codes "release ") releases on_reads release_spelled (λ p fits. ((fits.0, fits.1.0), fits.1.1)), tt),
      ),
    ),
  ),
)

event_chosen : (event : LabEvent) → FitsAny event → Chosen events event_text event
event_chosen (Tick at salt) fits = part_chosen events event_text 0 (codes "tick ") ticks (at, salt) two_reads refl (tick_spelled (at, salt)) fits
event_chosen (Give at salt iface frame) fits =
    let p : Given = (at, (salt, (iface, frame))) in
    part_chosen events event_text 1 (codes "give ") gives p given_reads refl (give_spelled p) (fits.0.0, (fits.0.1, (fits.1, fits.2)))
event_chosen (Hear at frame) fits = part_chosen events event_text 2 (codes "peer ") hears (at, frame) two_reads refl (hear_spelled (at, frame)) fits
event_chosen (Carrier at salt iface up) fits =
    let p : Switched = (at, (salt, (iface, up))) in
    part_chosen events event_text 3 (codes "carrier ") switches p switched_reads refl (carrier_spelled p) (fits.0.0, (fits.0.1, (fits.1, tt)))
event_chosen (Release at salt iface) fits =
    let p : On = (at, (salt, iface)) in
    part_chosen events event_text 4 (codes "release ") releases p on_reads refl (release_spelled p) (fits.0.0, (fits.0.1, fits.1))

pub event_reads : Reads event_text FitsAny event_at
unfolding event_at
event_reads = choose_reads events refl events_sound event_chosen

-- ---- on which interface

pub on_sound : (count : ℕ) (event : LabEvent) → FitsAny event → is_on count event ≡ true → FitsLabEvent count event
on_sound count (Tick at salt) fits e = fits
on_sound count (Carrier at salt iface up) fits e = (fits.0, (fits.1.0, leb-true _ _ e))
on_sound count (Release at salt iface) fits e = (fits.0, (fits.1.0, leb-true _ _ e))
on_sound count (Give at salt iface frame) fits e = (fits.0, (fits.1.0, leb-true _ _ e), fits.2)
on_sound count (Hear at frame) fits e = fits

within : (count iface : ℕ) → count ≤ 64 → (1 ≤ iface) × (iface ≤ count) → ((1 ≤ iface) × (iface ≤ 64)) × (leb iface count ≡ true)
within count iface few fits = let last = fits.1 in ((fits.0, omega arith), le-leb _ _ last)

pub on_whole : (count : ℕ) (event : LabEvent) → count ≤ 64 → FitsLabEvent count event → FitsAny event × (is_on count event ≡ true)
on_whole count (Tick at salt) few fits = (fits, refl)
on_whole count (Carrier at salt iface up) few fits = let is = within count iface.number few fits.1 in ((fits.0, is.0), is.1)
on_whole count (Release at salt iface) few fits = let is = within count iface.number few fits.1 in ((fits.0, is.0), is.1)
on_whole count (Give at salt iface frame) few fits = let is = within count iface.number few fits.1 in ((fits.0, is.0, fits.2), is.1)
on_whole count (Hear at frame) few fits = (fits, refl)

-- ---- no line feed

moment_printable : (at : ℕ) → at < 10 ^ 15 → IsPrintable (decimal at)
moment_printable at small = decimal_printable at (omega arith)

two_printable : (p : Two) → (p.0 < 10 ^ 15) × (p.1 < 2 ^ 64) → IsPrintable (two_words p)
two_printable p fits = joined_printable (decimal p.0) (decimal p.1) (moment_printable p.0 fits.0) (decimal_printable p.1 fits.1)

on_printable : (at salt : ℕ) (rest : List ℕ) → (at < 10 ^ 15) × (salt < 2 ^ 64) → IsPrintable rest
    → IsPrintable (decimal at ++ 32 ∷ (decimal salt ++ 32 ∷ rest))
on_printable at salt rest fits only =
    joined_printable (decimal at) (decimal salt ++ 32 ∷ rest) (moment_printable at fits.0)
    (joined_printable (decimal salt) rest (decimal_printable salt fits.1) only)

carrier_printable : (up : Bool) → IsPrintable (carrier_text up)
carrier_printable true = refl
carrier_printable false = refl

worded_lacks : (word words text : List ℕ) → text ≡ word ++ words → Lacks 10 word → IsPrintable words → Lacks 10 text
worded_lacks word words text spelled free only = subst (Lacks 10) (sym spelled) (lacks-append 10 word words free (no_feed_in words only))

pub event_lacks : (event : LabEvent) → FitsAny event → Lacks 10 (event_text event)
event_lacks (Tick at salt) fits = worded_lacks (codes "tick ") (two_words (at, salt)) _ (tick_spelled (at, salt)) refl (two_printable (at, salt) fits)
event_lacks (Hear at frame) fits = worded_lacks (codes "peer ") (two_words (at, frame)) _ (hear_spelled (at, frame)) refl (two_printable (at, frame) fits)
event_lacks (Release at salt iface) fits =
    worded_lacks (codes "release ") _ _ (release_spelled (at, (salt, iface))) refl
    (on_printable at salt (iface_text iface) fits.0 (iface_printable iface fits.1))
event_lacks (Give at salt iface frame) fits =
    worded_lacks (codes "give ") _ _ (give_spelled (at, (salt, (iface, frame)))) refl
    (on_printable at salt _ fits.0 (joined_printable (iface_text iface) (decimal frame) (iface_printable iface fits.1) (decimal_printable frame fits.2)))
event_lacks (Carrier at salt iface up) fits =
    worded_lacks (codes "carrier ") _ _ (carrier_spelled (at, (salt, (iface, up)))) refl
    (on_printable at salt _ fits.0 (joined_printable (iface_text iface) (carrier_text up) (iface_printable iface fits.1) (carrier_printable up)))
