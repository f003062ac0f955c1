-- Of the messages of a turn their kinds and transaction ids tell all.
use Rattle.std.proofs.Common.{◌≡◌, ℕ, Bool, true, false, ◌&&◌, List, [], ◌∷◌, Option, Some, None, map, refl, sym, ap, ◌∙◌}
use Rattle.std.specs.Prelude.{option_map}
use Rattle.net_types.specs.declared.address.Net.{Net}
use Rattle.net_types.specs.declared.address.Net6.{Net6}
use Rattle.v6_frames.specs.Spelled.{Sent6}
use Rattle.lease6_text.specs.LineParts.{is_ia}
use Rattle.v6_items.specs.declared.asks.IaAsk.{IaAsk}
use Rattle.audit_words.specs.EvidenceWords.Entries.{Entry}
use Rattle.audit_words.specs.EvidenceWords.Inputs.{Site, carrier_after, index_at}
use Rattle.lease6_evidence.specs.Exchanges6.{messages6_at}
use Rattle.kept_judge.specs.Staying.{stays}
use Rattle.kept_judge.specs.declared.standing.Asked6.{Asked6}
use Rattle.kept_judge.specs.declared.standing.Asked6.TheVariants.{Nothing, Again, Over}
use Rattle.kept_judge.specs.declared.standing.Kept6.{Kept6}
use Rattle.kept_judge.specs.declared.standing.Spoken6.{Spoken6}
use Rattle.kept_judge.proofs.AskingTold6.{over_all}
use Rattle.kept_judge.specs.Asking6.{Tells6, gives6, gives_address6, has_reply, if_stays6, is_kept6, is_kept_address6, is_over6, kept6_in, said6_all, said6_maybe, spoken_all, spoken_of, turned6, unless_replied}

all_spoken : (at : ℕ) (messages : List (Option Sent6)) (asked : Asked6)
    → spoken_all at (map (option_map spoken_of) messages) asked ≡ said6_all at messages asked
all_spoken at [] asked = refl
all_spoken at (None ∷ messages) asked = all_spoken at messages asked
all_spoken at (Some sent ∷ messages) asked = all_spoken at messages (said6_maybe at (Some sent) asked)

abbrev spoken_at : Site → Entry → List (Option Spoken6)
spoken_at site e = map (option_map spoken_of) (messages6_at site e)

abbrev after_with : Site → Entry → List Entry → Asked6 → Kept6
after_with site e past asked =
    record { up = carrier_after (index_at site) e.event (kept6_in site past).up; asked = asked }

-- the turn of an interface, by what was read of it
pub turned_tells6 : (site : Site) (e : Entry) (past : List Entry) (index : ℕ) (spoken : List (Option Spoken6)) (replied : Bool) (before after : Kept6)
    → index ≡ index_at site → after ≡ turned6 index e.event (spoken_all e.moment spoken) replied before
    → spoken ≡ map (option_map spoken_of) (messages6_at site e) → replied ≡ has_reply site e past → Tells6 before site past
    → Tells6 after site (e ∷ past)
turned_tells6 site e past index spoken replied before after i is s r t =
    is
    ∙ ap (λ (n : ℕ). turned6 n e.event (spoken_all e.moment spoken) replied before) i
    ∙ ap (λ (all : List (Option Spoken6)). turned6 (index_at site) e.event (spoken_all e.moment all) replied before) s
    ∙ ap (λ (b : Bool). turned6 (index_at site) e.event (spoken_all e.moment (spoken_at site e)) b before) r
    ∙ ap (λ (k : Kept6). turned6 (index_at site) e.event (spoken_all e.moment (spoken_at site e)) (has_reply site e past) k) t
    ∙ ap (λ (a : Asked6). after_with site e past (unless_replied (has_reply site e past) a))
    (all_spoken e.moment (messages6_at site e) (if_stays6 (stays (kept6_in site past).up (index_at site) e.event) (kept6_in site past).asked))

-- a turn in which it is over
over_is : (asked : Asked6) → is_over6 asked ≡ true → asked ≡ Over
over_is Nothing h = absurd cc
over_is (Again xid since) h = absurd cc
over_is Over h = refl

abbrev pub kept_with : Bool → Asked6 → Kept6
kept_with up asked = record { up = up; asked = asked }

stays_over : (goes_on replied : Bool) (at : ℕ) (messages : List (Option Sent6))
    → unless_replied replied (said6_all at messages (if_stays6 goes_on Over)) ≡ Over
stays_over true false at messages = over_all at messages
stays_over false false at messages = over_all at messages
stays_over true true at messages = refl
stays_over false true at messages = refl

over_turned : (site : Site) (e : Entry) (past : List Entry) (up : Bool) → kept_with up Over ≡ kept6_in site past
    → kept_with (carrier_after (index_at site) e.event up) Over ≡ kept6_in site (e ∷ past)
over_turned site e past up is =
    ap (kept_with (carrier_after (index_at site) e.event up))
    (sym (stays_over (stays up (index_at site) e.event) (has_reply site e past) e.moment (messages6_at site e)))
    ∙ ap (turned6 (index_at site) e.event (said6_all e.moment (messages6_at site e)) (has_reply site e past)) is

pub rests_tells6 : (site : Site) (e : Entry) (past : List Entry) (index : ℕ) (before after : Kept6) → is_over6 before.asked ≡ true
    → index ≡ index_at site → after ≡ kept_with (carrier_after index e.event before.up) Over → Tells6 before site past
    → Tells6 after site (e ∷ past)
rests_tells6 site e past index before after over i is told =
    is
    ∙ ap (λ (n : ℕ). kept_with (carrier_after n e.event before.up) Over) i
    ∙ over_turned site e past before.up (sym (ap (kept_with before.up) (over_is before.asked over)) ∙ told)

-- what may be held, by what is kept
pub item_so : (site : Site) (ask : IaAsk) (net : Net6) (now : ℕ) (past : List Entry) (kept : Kept6) → Tells6 kept site past
    → (site.managed.conf.flags.persistent && gives6 (is_ia (ask.kind, ask.iaid)) net now kept site.kept6) ≡ is_kept6 site ask net now past
item_so site ask net now past kept t =
    ap (λ (k : Kept6). site.managed.conf.flags.persistent && gives6 (is_ia (ask.kind, ask.iaid)) net now k site.kept6) t

pub address_so : (site : Site) (net : Net) (now : ℕ) (past : List Entry) (kept : Kept6) → Tells6 kept site past
    → (site.managed.conf.flags.persistent && gives_address6 net now kept site.kept6) ≡ is_kept_address6 site net now past
address_so site net now past kept t =
    ap (λ (k : Kept6). site.managed.conf.flags.persistent && gives_address6 net now k site.kept6) t
