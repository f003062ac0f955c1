-- How the words of the lines of a schedule are read.
use Rattle.std.specs.Prelude.{ℕ, ◌^◌, Bool, true, not, ◌==◌, nat_le, List, [], ◌∷◌, Option, codes, option_map}
use Rattle.std.specs.List.{list_all}
use Rattle.net_types.specs.AddressText.{ip4_at}
use Rattle.net_types.specs.Cutting.{Choices, choose_at, guarded, pair_at}
use Rattle.net_types.specs.Numbers.{number_at}
use Rattle.row_texts.specs.RowReading.{iface_at}
use Rattle.replay_text.specs.TurnReading.{moment_at, salt_at, switch_at}
use Rattle.lab_peer.specs.declared.pool.Pool.{Pool}
use Rattle.lab_peer.specs.Pools.{is_pool}
use Rattle.lab_schedule.specs.declared.event.LabEvent.{LabEvent}
use Rattle.lab_schedule.specs.declared.event.LabEvent.TheVariants.{Tick, Carrier, Release, Give, Hear}

abbrev pub lacks_feed : List ℕ → Bool
lacks_feed text = list_all (λ b. not (b == 10)) text

-- two addresses and the seconds of a lease, within the bounds of a pool
unfoldable pub pool_at : List ℕ → Option Pool
pool_at text =
    guarded is_pool
    (option_map (λ p. record { low = p.0; high = p.1.0; lease = p.1.1 })
    (pair_at 32 ip4_at (pair_at 32 ip4_at (number_at (2 ^ 32))) text))

abbrev pub number64_at : List ℕ → Option ℕ
number64_at text = number_at (2 ^ 64) text

abbrev pub tick_at : List ℕ → Option LabEvent
tick_at rest = option_map (λ p. Tick p.0 p.1) (pair_at 32 moment_at number64_at rest)

abbrev pub carrier_at : List ℕ → Option LabEvent
carrier_at rest =
    option_map (λ p. Carrier p.0 p.1.0 p.1.1.0 p.1.1.1)
    (pair_at 32 moment_at (pair_at 32 salt_at (pair_at 32 iface_at switch_at)) rest)

abbrev pub release_at : List ℕ → Option LabEvent
release_at rest = option_map (λ p. Release p.0 p.1.0 p.1.1) (pair_at 32 moment_at (pair_at 32 salt_at iface_at) rest)

abbrev pub give_at : List ℕ → Option LabEvent
give_at rest =
    option_map (λ p. Give p.0 p.1.0 p.1.1.0 p.1.1.1)
    (pair_at 32 moment_at (pair_at 32 salt_at (pair_at 32 iface_at number64_at)) rest)

abbrev pub hear_at : List ℕ → Option LabEvent
hear_at rest = option_map (λ p. Hear p.0 p.1) (pair_at 32 moment_at number64_at rest)

abbrev pub events : Choices LabEvent
events =
    (codes "tick ", tick_at)
    ∷ (codes "give ", give_at)
    ∷ (codes "peer ", hear_at)
    ∷ (codes "carrier ", carrier_at)
    ∷ (codes "release ", release_at)
    ∷ []

-- what comes next
unfoldable pub event_at : List ℕ → Option LabEvent
event_at line = choose_at events line

-- on one of so many interfaces, or on none
abbrev pub is_on : (count : ℕ) → LabEvent → Bool
is_on count (Tick at salt) = true
is_on count (Carrier at salt iface up) = nat_le iface.number count
is_on count (Release at salt iface) = nat_le iface.number count
is_on count (Give at salt iface frame) = nat_le iface.number count
is_on count (Hear at frame) = true
