-- That each lease which an interface holds has its basis, in the life of that interface alone.
use Rattle.std.specs.Prelude.{◌≡◌, ◌⊎◌, ◌++◌, ℕ, Bool, false, List, [], None, Some, IfSome}
use Rattle.net_types.specs.declared.address.Mac.{Mac}
use Rattle.net_types.specs.declared.address.Net.{Net}
use Rattle.net_types.specs.declared.address.Net.TheVariants.{V4}
use Rattle.lease_text.specs.Bounds.{IsTyped}
use Rattle.lease_text.specs.Leases.{LeaseContent, terms_of}
use Rattle.v4_client.specs.Clients.{held_of}
use Rattle.world.specs.declared.rows.HostRow.{HostRow}
use Rattle.settings.specs.declared.interfaces.Managed.{Managed}
use Rattle.script_model.specs.IfaceSets.{is_up}
use Rattle.evidence_words.specs.ClientModel.Fitting.{FitsBeginning}
use Rattle.evidence_words.specs.ClientModel.KeptLeases.{Beginning}
use Rattle.evidence_words.specs.ClientModel.WantedRows.{outlet_of, static_rows, static6_rows, iface_rows}
use Rattle.evidence_words.specs.Entries.{Entry}
use Rattle.evidence_words.specs.IfaceLives.{Opening, Met, site_of, shown, opens, iface_after, IsLived, now_in}
use Rattle.evidence_words.specs.Inputs.{Site}
use Rattle.lease_evidence.specs.KeptBasis4.{KeptBasis4}
use Rattle.lease_evidence.specs.KeptNeeds.{HasNoOrigin}
use Rattle.lease_evidence.specs.LeaseBasis.{LeaseBasis}

-- An ACK of this life granted the address, or it is that of the kept lease, which is asked for again.
abbrev pub LeaseRests : Site → Net → (now : ℕ) → List Entry → Type 0
LeaseRests site net now past = LeaseBasis site net now past ⊎ KeptBasis4 site net now past

-- the kept lease is within the types that hold it, as each lease in memory is
abbrev pub KeepsTyped : Beginning → Type 0
KeepsTyped beginning = IfSome beginning.kept4 IsTyped

-- Each lease that an interface holds after an opening and some turns has its basis in them, whatever lease was kept
-- before.
abbrev pub HeldLeasesHaveBasis : Type 0
HeldLeasesHaveBasis = (own : List Mac) (beginning : Beginning) (opening : Opening) (mets : List Met)
    (lease : LeaseContent)
    → FitsBeginning beginning → KeepsTyped beginning → IsLived own beginning opening mets
    → held_of (iface_after own beginning opening mets).dhcp4 ≡ Some lease
    → LeaseRests (site_of own beginning opening) (V4 lease.net) (now_in (shown opening mets)) (shown opening mets)

-- Where `persistent` isn't in force, or the kept lease doesn't tell its origin, an ACK granted each.
abbrev pub IsPlain4 : Site → Type 0
IsPlain4 site = (site.managed.conf.flags.persistent ≡ false) ⊎ HasNoOrigin site

abbrev pub PlainLeasesAreGranted : Type 0
PlainLeasesAreGranted = (site : Site) (net : Net) (now : ℕ) (past : List Entry) → IsPlain4 site
    → LeaseRests site net now past → LeaseBasis site net now past

-- A held lease has its basis, and is as the ACK of that basis says: these are its terms, and its time counts from the
-- first REQUEST of that exchange.
pub record IsAsGranted (site : Site) (lease : LeaseContent) (now : ℕ) (past : List Entry) : Type 0 where
  pub basis : LeaseBasis site (V4 lease.net) now past
  pub terms : terms_of lease ≡ basis.terms
  pub first : lease.first ≡ basis.opened.exchange.first

-- So is each lease that such an interface holds.
abbrev pub PlainLeasesAreAsGranted : Type 0
PlainLeasesAreAsGranted = (own : List Mac) (beginning : Beginning) (opening : Opening) (mets : List Met)
    (lease : LeaseContent)
    → FitsBeginning beginning → KeepsTyped beginning → IsLived own beginning opening mets
    → IsPlain4 (site_of own beginning opening)
    → held_of (iface_after own beginning opening mets).dhcp4 ≡ Some lease
    → IsAsGranted (site_of own beginning opening) lease (now_in (shown opening mets)) (shown opening mets)

-- So after the opening such an interface holds no lease, whatever was kept.
abbrev pub BeginsWithoutLease : Type 0
BeginsWithoutLease = (own : List Mac) (beginning : Beginning) (opening : Opening)
    → IsPlain4 (site_of own beginning opening)
    → held_of (opens beginning opening).iface.dhcp4 ≡ None

-- The lease that another one holds then is the kept one.
abbrev pub BeginsWithKept : Type 0
BeginsWithKept = (own : List Mac) (beginning : Beginning) (opening : Opening) (lease : LeaseContent)
    → FitsBeginning beginning → KeepsTyped beginning → IsLived own beginning opening []
    → held_of (opens beginning opening).iface.dhcp4 ≡ Some lease
    → KeptBasis4 (site_of own beginning opening) (V4 lease.net) (now_in (shown opening [])) (shown opening [])

-- the rows of static addresses, of IPv4 and of IPv6
abbrev pub configured_rows : Managed → (in_force : Bool) → List HostRow
configured_rows managed in_force =
    static_rows (outlet_of managed) in_force managed.conf.address managed.conf.router
    ++ static6_rows (outlet_of managed) in_force managed.conf.address6

-- Without `persistent` the rows of an interface after the opening are those of static addresses alone, whatever was
-- kept.
abbrev pub BeginsWithStaticRows : Type 0
BeginsWithStaticRows = (beginning : Beginning) (opening : Opening) → beginning.managed.conf.flags.persistent ≡ false
    → iface_rows (opens beginning opening).iface
    ≡ configured_rows beginning.managed (is_up opening.up beginning.managed.spec.index.number)
