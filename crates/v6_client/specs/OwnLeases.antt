-- The items that a client holds are of IAs that it asks for.
use Rattle.std.specs.Prelude.{◌≡◌, ℕ, Bool, true, List, Option, Some, None}
use Rattle.std.specs.List.{AllByRecursion, list_any}
use Rattle.net_types.specs.declared.address.Ip6.{Ip6}
use Rattle.v6_message.specs.Replies.{Content6}
use Rattle.lease6_text.specs.Leases.{IaLeaseContent, Lease6Content}
use Rattle.lease6_text.specs.LineParts.{is_ia}
use Rattle.v6_items.specs.declared.asks.IaAsk.{IaAsk}
use Rattle.v6_client.specs.declared.states.Carrier6.{Carrier6}
use Rattle.v6_client.specs.declared.states.Tell6.{Tell6}
use Rattle.v6_items.specs.Bounds.{ask_key}
use Rattle.v6_client.specs.Calls.{Hears, IsCarried, IsContested, IsTicked, fresh_in, rebind_step, release_step}
use Rattle.v6_client.specs.Clients.{ClientContent, client_made, held_of, holds}
use Rattle.v6_items.specs.Items.{ias_of}
use Rattle.v6_client.specs.Moves.{IsStep6, OutContent}
use Rattle.v6_client.specs.Settings.{SettingsContent}

-- an IA of this kind and IAID is asked for
abbrev pub is_asked : List IaAsk → IaLeaseContent → Bool
is_asked asks ia = list_any (λ ask. is_ia (ask_key ask) ia) asks

abbrev pub AreAsked : List IaAsk → List IaLeaseContent → Type 0
AreAsked asks ias = AllByRecursion (λ ia. is_asked asks ia ≡ true) ias

-- A lease that was kept before the client began may have others. They are never held.
abbrev pub OwnIas : ClientContent → Type 0
OwnIas c = holds c.state ≡ true → AreAsked c.settings.asks (ias_of c.kept)

abbrev pub MadeOwn : Type 0
MadeOwn = (settings : SettingsContent) (kept : Option Lease6Content) → OwnIas (client_made settings kept)

-- the lease that a Reply grants
abbrev pub GrantsOwn : Type 0
GrantsOwn =
    (c : ClientContent) (message : Content6) (at : ℕ) (lease : Lease6Content) → fresh_in at c message ≡ Some lease
    → AreAsked c.settings.asks lease.ias

-- the lease that is held
abbrev pub HeldOwn : Type 0
HeldOwn =
    (c : ClientContent) (lease : Lease6Content) → OwnIas c → held_of c ≡ Some lease → AreAsked c.settings.asks lease.ias

-- ---- calls

abbrev pub TicksOwn : Type 0
TicksOwn = (c new : ClientContent) (at salt : ℕ) (out : OutContent) → OwnIas c → IsTicked at salt c new out → OwnIas new

abbrev pub MessagesOwn : Type 0
MessagesOwn =
    (c new : ClientContent) (message : Content6) (at salt : ℕ) (out : OutContent) → OwnIas c
    → Hears at salt message c new out
    → OwnIas new

abbrev pub DuplicatesOwn : Type 0
DuplicatesOwn = (c new : ClientContent) (address : Ip6) (at salt : ℕ) (out : OutContent) → OwnIas c
    → IsContested address at salt c new out → OwnIas new

abbrev pub CarriersOwn : Type 0
CarriersOwn = (c new : ClientContent) (carrier : Carrier6) (at salt : ℕ) (out : OutContent) → OwnIas c
    → IsCarried carrier at salt c new out → OwnIas new

abbrev pub ReleasesOwn : Type 0
ReleasesOwn = (c new : ClientContent) (tell : Tell6) (at salt : ℕ) (out : OutContent) → OwnIas c
    → IsStep6 (release_step tell at salt c) None c new out → OwnIas new

abbrev pub RebindsOwn : Type 0
RebindsOwn =
    (c new : ClientContent) (at salt : ℕ) (out : OutContent) → OwnIas c → IsStep6 (rebind_step at salt c) None c new out
    → OwnIas new
