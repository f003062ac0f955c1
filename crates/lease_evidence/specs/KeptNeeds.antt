-- What the basis of a kept lease can't do without, in other words than the basis has.
use Rattle.std.specs.Prelude.{◌≡◌, ◌≢◌, ℕ, ◌+◌, ◌*◌, ◌≤◌, false, List, ◌∷◌, ◌++◌, None, Some, IfSome}
use Rattle.machine.specs.Since.{Always}
use Rattle.net_types.specs.declared.address.Net.{Net}
use Rattle.net_types.specs.declared.address.Net.TheVariants.{V4}
use Rattle.lease_text.specs.declared.lease.TheConstants.{INFINITE_LEASE}
use Rattle.v4_client.specs.declared.moments.TheConstants.{SECOND}
use Rattle.v4_message.specs.declared.writing.Kind4.{Kind4}
use Rattle.v4_message.specs.declared.writing.Kind4.TheVariants.{Request}
use Rattle.evidence_words.specs.Entries.{Entry}
use Rattle.evidence_words.specs.Inputs.{Site}
use Rattle.lease_evidence.specs.Endings.{Says}
use Rattle.lease_evidence.specs.KeptBasis4.{KeptBasis4, speaks}

-- Where it is so, no address has its basis by a kept lease.
abbrev pub KeptGivesNothing : (Where : Site → Net → (now : ℕ) → List Entry → Type 0) → Type 0
KeptGivesNothing Where = (site : Site) (net : Net) (now : ℕ) (past : List Entry)
    → Where site net now past → KeptBasis4 site net now past → ⊥

-- ---- the settings and the lease

-- `persistent` isn't in force
abbrev pub NeedsFlag : Type 0
NeedsFlag = KeptGivesNothing (λ site net now past. site.managed.conf.flags.persistent ≡ false)

-- no lease was kept, or one that doesn't tell its origin
abbrev pub HasNoOrigin : Site → Type 0
HasNoOrigin site = IfSome site.kept4 (λ lease. lease.origin ≡ None)

abbrev pub NeedsOrigin : Type 0
NeedsOrigin = KeptGivesNothing (λ site net now past. HasNoOrigin site)

-- it gives another address
abbrev pub NeedsItsAddress : Type 0
NeedsItsAddress = KeptGivesNothing (λ site net now past. IfSome site.kept4 (λ lease. net ≢ V4 lease.net))

-- it is over, told from its first REQUEST
abbrev pub EndsWithKept : Type 0
EndsWithKept = KeptGivesNothing (λ site net now past. IfSome site.kept4 (λ lease.
    (lease.lease ≢ INFINITE_LEASE) × (lease.first + SECOND * lease.lease ≤ now)))

-- ---- the turns

-- Once a turn is as `Ends` says, no address has its basis by a kept lease, whatever comes then.
abbrev pub KeptEndsBy : (Ends : Site → Entry → List Entry → Type 0) → Type 0
KeptEndsBy Ends = (site : Site) (net : Net) (now : ℕ) (later : List Entry) (e : Entry) (earlier : List Entry)
    → Ends site e earlier → KeptBasis4 site net now (later ++ e ∷ earlier) → ⊥

-- the client says another DHCPv4 message than a REQUEST
pub record SaysElse (site : Site) (e : Entry) (earlier : List Entry) : Type 0 where
  pub kind : Kind4
  pub says : Says kind site e earlier
  pub other : kind ≢ Request

-- it says a REQUEST that names a server
pub record NamesServer (site : Site) (e : Entry) (earlier : List Entry) : Type 0 where
  pub request : Says Request site e earlier
  pub server : request.sent.said.server ≢ None

-- Two REQUESTs with unlike transaction ids give no basis.
abbrev pub NeedsOneExchange : Type 0
NeedsOneExchange = (site : Site) (net : Net) (now : ℕ) (later : List Entry) (e : Entry) (earlier : List Entry)
    → (last : Says Request site e earlier)
    → (before : List Entry) (f : Entry) (rest : List Entry) → earlier ≡ before ++ f ∷ rest
    → (first : Says Request site f rest) → first.sent.said.xid ≢ last.sent.said.xid
    → KeptBasis4 site net now (later ++ e ∷ earlier) → ⊥

-- Where no DHCPv4 message was said there is none.
abbrev pub NeedsAsking : Type 0
NeedsAsking = KeptGivesNothing (λ site net now past. Always (λ e earlier. speaks site e ≡ false) past)
