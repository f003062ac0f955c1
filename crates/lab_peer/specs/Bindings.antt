-- Which address is bound to which client, and until when (RFC 2131, section 2.2). Moments are in milliseconds since
-- 1970, and none is never.
use Rattle.std.specs.Prelude.{ℕ, ◌+◌, ◌*◌, max, Bool, true, false, not, ◌==◌, ◌&&◌, nat_le, if◌then◌else◌, List, [], ◌∷◌, ◌++◌, filter, find, reverse, Option, Some, None, option_map}
use Rattle.net_types.specs.declared.address.Ip4.{Ip4}
use Rattle.net_types.specs.declared.address.Mac.{Mac}
use Rattle.lease_text.specs.declared.lease.TheConstants.{INFINITE_LEASE}
use Rattle.v4_frames.specs.Heard.{same_mac}
use Rattle.lab_peer.specs.declared.binding.Bound4.{Bound4}
use Rattle.lab_peer.specs.declared.binding.TheConstants.{SECOND}

-- ---- ends

-- when a lease ends that is granted at a moment
abbrev pub lease_end : (lease at : ℕ) → Option ℕ
lease_end lease at = if lease == INFINITE_LEASE then None else Some (at + SECOND * lease)

abbrev pub later : Option ℕ → Option ℕ → Option ℕ
later None other = None
later (Some one) None = None
later (Some one) (Some other) = Some (max one other)

abbrev pub is_over : (until : Option ℕ) → (at : ℕ) → Bool
is_over None at = false
is_over (Some until) at = nat_le until at

-- ---- one binding

abbrev pub is_at : Ip4 → Bound4 → Bool
is_at addr bound = bound.addr.number == addr.number

abbrev pub is_of : Mac → Bound4 → Bool
is_of mac bound = same_mac bound.mac mac

abbrev pub is_bound : Ip4 → Mac → Bound4 → Bool
is_bound addr mac bound = is_at addr bound && is_of mac bound

-- it keeps an address from this client: it is another one's, and lasts
abbrev pub keeps_from : Ip4 → Mac → (at : ℕ) → Bound4 → Bool
keeps_from addr mac at bound = is_at addr bound && not (is_of mac bound) && not (is_over bound.until at)

-- ---- all bindings: one for each address, in the order in which they were made or renewed

abbrev pub binding_of : Ip4 → List Bound4 → Option Bound4
binding_of addr bindings = find (is_at addr) bindings

-- the address that was bound to a client last
abbrev pub last_address : Mac → List Bound4 → Option Ip4
last_address mac bindings = option_map (λ bound. bound.addr) (find (is_of mac) (reverse bindings))

-- A client's binding is renewed until the later of both ends.
abbrev pub end_with : Mac → (end : Option ℕ) → (before : Option Bound4) → Option ℕ
end_with mac end None = end
end_with mac end (Some before) = if is_of mac before then later before.until end else end

abbrev pub bind : Ip4 → Mac → (end : Option ℕ) → List Bound4 → List Bound4
bind addr mac end bindings =
    filter (λ bound. not (is_at addr bound)) bindings
    ++ record { addr = addr; mac = mac; until = end_with mac end (binding_of addr bindings) } ∷ []
