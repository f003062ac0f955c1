-- What stands for an address in a list of entries, each with an address and a value.
use Rattle.std.specs.Prelude.{◌≡◌, Bool, ◌||◌, ◌==◌, if◌then◌else◌, List, [], ◌∷◌}
use Rattle.std.specs.List.{list_any}
use Rattle.net_types.specs.declared.address.Ip4.{Ip4}

-- whether an address is this one
abbrev pub is_addr : Ip4 → Ip4 → Bool
is_addr addr other = other.number == addr.number

abbrev pub is_for : {P : Type 0} → (key : P → Ip4) → Ip4 → P → Bool
is_for key addr p = is_addr addr (key p)

-- the value of the address's first entry, and another one without an entry
abbrev pub value_at : {P V : Type 0} → (key : P → Ip4) → (value : P → V) → (nothing : V) → List P → Ip4 → V
value_at key value nothing [] addr = nothing
value_at key value nothing (p ∷ ps) addr =
    if is_for key addr p then value p else value_at key value nothing ps addr

-- Some addresses stand in a list too, and what stands for each address is what stood there before.
pub record IsEntered {P V : Type 0} (key : P → Ip4) (value : P → V) (nothing : V) (old : List P) (addrs : List Ip4)
    (new : List P) : Type 0 where
  pub same : (addr : Ip4) → value_at key value nothing new addr ≡ value_at key value nothing old addr
  pub has : (addr : Ip4)
      → list_any (is_for key addr) new ≡ (list_any (is_for key addr) old || list_any (is_addr addr) addrs)
