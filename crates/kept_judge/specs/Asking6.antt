-- What a judge keeps of an interface from turn to turn, to tell whether the items of its kept lease of DHCPv6 may be
-- held while servers are asked for them again (RFC 8415, section 18.2.12). It takes one turn after another, and looks
-- back at none. Moments are in milliseconds.
use Rattle.std.specs.Prelude.{◌≡◌, ℕ, ◌+◌, Bool, true, false, ◌&&◌, ◌==◌, nat_lt, if◌then◌else◌, List, [], ◌∷◌, Option, Some, None, is_some}
use Rattle.std.specs.List.{list_any}
use Rattle.net_types.specs.declared.address.Net.{Net}
use Rattle.net_types.specs.declared.address.Net.TheVariants.{V4, V6}
use Rattle.net_types.specs.declared.address.Net6.{Net6}
use Rattle.v6_options.specs.declared.ia.IaKind.TheVariants.{Na}
use Rattle.v6_message.specs.declared.kind.Kind6.{Kind6}
use Rattle.v6_message.specs.declared.kind.Kind6.TheVariants as kind
use Rattle.v6_message.specs.Replies.{Content6}
use Rattle.v6_frames.specs.Spelled.{Sent6}
use Rattle.lease6_text.specs.declared.lease.Item6.{Item6}
use Rattle.lease6_text.specs.Leases.{IaLeaseContent, Lease6Content}
use Rattle.lease6_text.specs.LineParts.{is_ia, is_same_kind}
use Rattle.v6_items.specs.declared.asks.IaAsk.{IaAsk}
use Rattle.v6_client.specs.declared.times.TheConstants.{RESTART_TIME}
use Rattle.v6_items.specs.Items.{is_live}
use Rattle.v6_items.specs.Reading.{serves}
use Rattle.world.specs.declared.wakes.Event.{Event}
use Rattle.audit_words.specs.EvidenceWords.Entries.{Entry}
use Rattle.audit_words.specs.EvidenceWords.Inputs.{Site, carrier_after, index_at}
use Rattle.lease6_evidence.specs.Exchanges6.{Numbered6, messages6_at, seen6_in}
use Rattle.lease6_evidence.specs.Replies6.{answers, asks_at, message6_at}
use Rattle.kept_judge.specs.Staying.{is_same_net, stays}
use Rattle.kept_judge.specs.declared.standing.Asked6.{Asked6}
use Rattle.kept_judge.specs.declared.standing.Asked6.TheVariants.{Nothing, Again, Over}
use Rattle.kept_judge.specs.declared.standing.Kept6.{Kept6}
use Rattle.kept_judge.specs.declared.standing.Spoken6.{Spoken6}

-- ---- what the interface says

abbrev pub is_rebind : Kind6 → Bool
is_rebind kind.Solicit = false
is_rebind kind.Request = false
is_rebind kind.Renew = false
is_rebind kind.Rebind = true
is_rebind kind.Release = false
is_rebind kind.Decline = false

-- The first REBIND begins the exchange. Another message, or one of another exchange, ends it all.
abbrev pub said6_one : (at : ℕ) → Kind6 → (xid : ℕ) → Asked6 → Asked6
said6_one at sort xid Nothing = if is_rebind sort then Again xid at else Over
said6_one at sort xid (Again known since) = if is_rebind sort && (xid == known) then Again known since else Over
said6_one at sort xid Over = Over

abbrev pub said6_maybe : (at : ℕ) → Option Sent6 → Asked6 → Asked6
said6_maybe at None asked = asked
said6_maybe at (Some sent) asked = said6_one at sent.said.kind sent.said.xid asked

-- the messages of a turn, in order
abbrev pub said6_all : (at : ℕ) → List (Option Sent6) → Asked6 → Asked6
said6_all at [] asked = asked
said6_all at (message ∷ messages) asked = said6_all at messages (said6_maybe at message asked)

-- of a message that is all that is looked at
abbrev pub spoken_of : Sent6 → Spoken6
spoken_of sent = record { kind = sent.said.kind; xid = sent.said.xid }

abbrev pub spoken_maybe : (at : ℕ) → Option Spoken6 → Asked6 → Asked6
spoken_maybe at None asked = asked
spoken_maybe at (Some spoken) asked = said6_one at spoken.kind spoken.xid asked

abbrev pub spoken_all : (at : ℕ) → List (Option Spoken6) → Asked6 → Asked6
spoken_all at [] asked = asked
spoken_all at (spoken ∷ more) asked = spoken_all at more (spoken_maybe at spoken asked)

-- ---- what it hears

abbrev pub is_good_in : Site → (current : Option Numbered6) → (came : Option Content6) → Bool
is_good_in site None came = false
is_good_in site (Some opened) None = false
is_good_in site (Some opened) (Some message) = answers site opened.exchange message && serves (asks_at site) message

-- whether a good Reply comes in the exchange that is open, the turn's own messages counted
abbrev pub has_reply : Site → Entry → List Entry → Bool
has_reply site e past = is_good_in site (seen6_in site (e ∷ past)).current (message6_at site e)

-- nothing that is said or heard matters any more
abbrev pub is_over6 : Asked6 → Bool
is_over6 Nothing = false
is_over6 (Again xid since) = false
is_over6 Over = true

-- ---- turn by turn

-- Where the carrier goes, the lease is given back or a stop comes, it is over.
abbrev pub if_stays6 : Bool → Asked6 → Asked6
if_stays6 true asked = asked
if_stays6 false asked = Over

-- So where a good Reply comes: what it gives has its own basis.
abbrev pub unless_replied : Bool → Asked6 → Asked6
unless_replied false asked = asked
unless_replied true asked = Over

abbrev pub turned6 : (index : ℕ) → Event → (says : Asked6 → Asked6) → (replied : Bool) → Kept6 → Kept6
turned6 index event says replied kept = record {
  up = carrier_after index event kept.up;
  asked = unless_replied replied (says (if_stays6 (stays kept.up index event) kept.asked));
}

-- what is kept of the interface after some turns
abbrev pub kept6_in : Site → List Entry → Kept6
kept6_in site [] = record { up = site.up; asked = Nothing }
kept6_in site (e ∷ past) =
    turned6 (index_at site) e.event (said6_all e.moment (messages6_at site e)) (has_reply site e past)
    (kept6_in site past)

abbrev pub Tells6 : Kept6 → Site → List Entry → Type 0
Tells6 kept site past = kept ≡ kept6_in site past

-- ---- what may be held

-- servers are asked, and the first REBIND is less than ten seconds ago
abbrev pub is_asking6 : (now : ℕ) → Asked6 → Bool
is_asking6 now Nothing = false
is_asking6 now (Again xid since) = nat_lt now (since + RESTART_TIME)
is_asking6 now Over = false

-- the item is this one, and its valid lifetime isn't over
abbrev pub is_live_item : Net6 → (now : ℕ) → Item6 → Bool
is_live_item net now item = is_same_net item.net net && is_live now item

-- an IA that is as the test says has such an item
abbrev pub has_live_item : (IaLeaseContent → Bool) → Net6 → (now : ℕ) → List IaLeaseContent → Bool
has_live_item test net now ias = list_any (λ ia. test ia && list_any (is_live_item net now) ia.items) ias

-- the lease tells its origin, has the item, and is asked for on an interface with carrier
abbrev pub gives6 : (IaLeaseContent → Bool) → Net6 → (now : ℕ) → Kept6 → Option Lease6Content → Bool
gives6 test net now kept None = false
gives6 test net now kept (Some lease) =
    is_some lease.origin && has_live_item test net now lease.ias && kept.up && is_asking6 now kept.asked

-- whether an item of an IA may be held as one of the kept lease
abbrev pub is_kept6 : Site → IaAsk → Net6 → (now : ℕ) → List Entry → Bool
is_kept6 site ask net now past =
    site.managed.conf.flags.persistent && gives6 (is_ia (ask.kind, ask.iaid)) net now (kept6_in site past) site.kept6

abbrev pub is_na : IaLeaseContent → Bool
is_na ia = is_same_kind ia.kind Na

abbrev pub gives_address6 : Net → (now : ℕ) → Kept6 → Option Lease6Content → Bool
gives_address6 (V4 net) now kept lease = false
gives_address6 (V6 net) now kept lease = gives6 is_na net now kept lease

-- whether an address may be held as one of the kept lease
abbrev pub is_kept_address6 : Site → Net → (now : ℕ) → List Entry → Bool
is_kept_address6 site net now past =
    site.managed.conf.flags.persistent && gives_address6 net now (kept6_in site past) site.kept6
