-- When the machines of interfaces are due, by the places of the interfaces. Each machine has a number: by place, then
-- as machines tick.
use Rattle.std.specs.Prelude.{◌≡◌, ℕ, zero, suc, ◌+◌, ◌*◌, ◌/◌, ◌%◌, ◌==◌, ◌&&◌, nat_lt, if◌then◌else◌, Bool, List, take, slice_index_or, Option, None}
use Rattle.std.specs.List.{list_any}
use Rattle.std.specs.FinMap as map
use Rattle.client_model.specs.declared.machines.TimedMachine.{TimedMachine}
use Rattle.client_model.specs.declared.machines.TimedMachine.TheVariants.{Dhcp4, LinkLocal, Dhcp6}
use Rattle.timer_queue.specs.Moments.{Moments, due_by}
use Rattle.client_model.specs.declared.interfaces.Iface.{Iface}
use Rattle.client_model.specs.Interfaces.{machine_due}
use Rattle.iface_core.specs.Looks.{looked}

-- a machine's rank among those of its interface
abbrev pub rank_of : TimedMachine → ℕ
rank_of Dhcp4 = 0
rank_of LinkLocal = 1
rank_of Dhcp6 = 2

-- the machine of a rank
abbrev pub machine_ranked : ℕ → TimedMachine
machine_ranked zero = Dhcp4
machine_ranked (suc zero) = LinkLocal
machine_ranked (suc (suc rank)) = Dhcp6

-- the number of a machine of the interface at a place; the place and the machine of a number
abbrev pub number_of : (place : ℕ) → TimedMachine → ℕ
number_of place machine = place * 3 + rank_of machine

abbrev pub place_in : ℕ → ℕ
place_in key = key / 3

abbrev pub machine_in : ℕ → TimedMachine
machine_in key = machine_ranked (key % 3)

-- the moment of each machine of an interface
abbrev pub MachineDues : Type 0
MachineDues = TimedMachine → Option ℕ

abbrev pub dues_of : Iface → MachineDues
dues_of iface machine = machine_due machine iface

-- each machine of the interface at a place is asked once when its moments are kept
abbrev pub looks_after : (place : ℕ) → (looks : ℕ) → ℕ
looks_after place looks = if nat_lt place 64 then looked 3 looks else looks

-- no machine is ever due
abbrev pub never : MachineDues
never machine = None

-- the moment of a number, where these are the moments of the interfaces, of which the first 64 have numbers
abbrev pub key_due : List MachineDues → ℕ → Option ℕ
key_due dues key = slice_index_or (take 64 dues) (place_in key) never (machine_in key)

-- each number has the moment of its machine
abbrev pub AreMoments : List MachineDues → Moments → Type 0
AreMoments dues moments = (key : ℕ) → map.get moments key ≡ key_due dues key

-- the machines of the interface at a place have these moments now, where the place has numbers; all others have what
-- they had
abbrev pub PutsMoments : ℕ → MachineDues → (old new : Moments) → Type 0
PutsMoments place dues old new =
    (key : ℕ)
    → map.get new key
    ≡ (if nat_lt place 64 && place_in key == place then dues (machine_in key) else map.get old key)

-- whether a machine of the interface at a place is due
abbrev pub is_taken : ℕ → Moments → (place : ℕ) → Bool
is_taken at moments place = list_any (λ key. place_in key == place) (map.keys (due_by at moments))
