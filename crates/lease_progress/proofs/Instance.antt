-- Each premise of the life that is written out, by computing.
use Rattle.std.proofs.Common.{◌≡◌, ℕ, ◌+◌, ◌<◌, ◌==◌, Bool, true, false, ◌||◌, List, [], ◌∷◌, ◌++◌, map, Option, Some, None, IfSome, refl, sym, ap, subst, ◌∙◌, arith, lit<, if◌then◌else◌}
use Rattle.std.proofs.lemmas.Bool.Decides.{nat_tests}
use Rattle.std.specs.Prelude.{option_map}
use Rattle.std.specs.List.{list_any, AllByRecursion}
use Rattle.net_types.specs.declared.address.Ip4.{Ip4}
use Rattle.arp_acd.specs.declared.detection.ArpSay.{ArpSay}
use Rattle.arp_acd.specs.declared.detection.ArpSay.TheVariants.{Announce, Probe}
use Rattle.lease_text.specs.declared.lease.Terms4.{Terms4}
use Rattle.v4_message.specs.declared.kind.MessageKind.TheVariants as kind
use Rattle.v4_message.specs.Requests.{AskFits}
use Rattle.v4_frames.specs.declared.sent.Sent4.{Sent4}
use Rattle.v4_frames.specs.Heard.{HeardMessage}
use Rattle.v4_client.specs.declared.states.Answer4.{Answer4}
use Rattle.v4_client.specs.declared.states.Answer4.TheVariants as answer
use Rattle.v4_client.specs.declared.states.Exchange4.{Exchange4}
use Rattle.v4_client.specs.declared.states.Say4.{Say4}
use Rattle.v4_client.specs.Answers.{answering, is_chosen, is_good_ack, reply_by, reply_in, reply_of}
use Rattle.v4_client.specs.Granting.{terms_granted}
use Rattle.v4_client.specs.Messages.{Arrival}
use Rattle.v4_client.specs.Moments.{expiry}
use Rattle.v4_client.specs.Moves.{is_grant}
use Rattle.v4_client.specs.Saying.{discover, request, sent_of}
use Rattle.v4_client.specs.Settings.{SettingsContent}
use Rattle.client_model.specs.Messages.{Said, Arp, Dhcp4}
use Rattle.client_model.specs.ClientSettings.{ask_of, settings_of}
use Rattle.client_model.specs.ClientSettings as settings4
use Rattle.client_model.specs.Clients.{frame_of}
use Rattle.client_model.specs.Dhcp4Steps.{arrival_at}
use Rattle.client_model.proofs.AskFitting.{ask_fits}
use Rattle.evidence_words.specs.Entries.{Entry, Offer}
use Rattle.evidence_words.specs.Inputs.{Site, offers_at, tells_contest}
use Rattle.evidence_words.specs.IfaceLives.{opening_entry, site_of}
use Rattle.lease_evidence.specs.Exchanges.{Numbered, messages_at, seen_in, show}
use Rattle.lease_evidence.specs.PlainIface.{client_mac}
use Rattle.lease_evidence.specs.Replies as heard_in
use Rattle.lease_evidence.specs.Replies.{reply_at}
use Rattle.lease_evidence.specs.SevenTurns.{announces, beginning, discovers, duid, granted, interface, opening, probes, requests, server}
use Rattle.lease_evidence.proofs.ReplyFacts.{offer_replies_nothing}
use Rattle.lease_evidence.proofs.SevenTurnsHeard.{ack_heard, beginning_fits, interface_fits, offer_heard}
use Rattle.lease_evidence.specs.OwnMessages.{speaker_of}
use Rattle.lease_evidence.proofs.Spoken.{FitsSaid, OwnSaid, message_said}
use Rattle.lease_progress.specs.FairTurns.{Fair}
use Rattle.lease_progress.specs.OneLife.{OneLifeGoesWell}
use Rattle.lease_progress.specs.Serving.{EachRequest, Serves, asks, grants, is_offer_by, offers, seeks}
use Rattle.lease_progress.proofs.NineTurns.{ack_alone, heard, nine_lived, nine_prompt, offer_alone}
use Rattle.lease_progress.proofs.Paying.{AllPaid, ForGood, Paid, all_serve, answers_stay, early_paid, more_for_good, none_paid, one_paid, silent_paid}
use Rattle.lease_progress.proofs.Resting.{Going, ack_goes, after_ack, at_rest, by_frame, no_grant, no_reply, rest_fair}
use Rattle.lease_progress.proofs.Shown.{messages_so}

abbrev site : Site
site = site_of (client_mac ∷ []) beginning opening

abbrev settings : SettingsContent
settings = settings_of duid interface

-- ---- the turns

abbrev t0 : Entry
t0 = opening_entry opening

abbrev t1 : Entry
t1 = at_rest 1001 discovers

abbrev t2 : Entry
t2 = by_frame 2000 2 requests

abbrev t3 : Entry
t3 = by_frame 2500 5 []

-- ---- what they say

pub client_ask : AskFits (ask_of duid interface)
client_ask = ask_fits duid interface beginning_fits.duid interface_fits

says_so : (e : Entry) (said : List Said) → map (λ o. o.bytes) (offers_at site e) ≡ map (frame_of interface.spec (ask_of duid interface)) said
    → AllByRecursion FitsSaid said → AllByRecursion (OwnSaid (speaker_of interface)) said → messages_at site e ≡ map message_said said
says_so e said frames fit ours = messages_so site client_ask interface_fits.mac.six e said frames fit ours

abbrev discover_said : Say4
discover_said = discover (settings4.site_of interface) 1 0

abbrev first_exchange : Exchange4
first_exchange = record { xid = 1; address = granted; server = Some server; first = 2000 }

abbrev request_said : Say4
request_said = request (settings4.site_of interface) first_exchange 0

discovers_so : messages_at site t1 ≡ Some (sent_of discover_said) ∷ []
discovers_so = says_so t1 (Dhcp4 discover_said ∷ []) refl (
  record {
    from_mac = refl;
    to_mac = refl;
    from = lit< tt;
    to = lit< tt;
    xid = lit< tt;
    secs = lit< tt;
    flags = lit< tt;
    ciaddr = lit< tt;
    mac = refl;
    asked = tt;
    server = tt;
  },
  tt,
) (refl, tt)

requests_so : messages_at site t2 ≡ Some (sent_of request_said) ∷ []
requests_so = says_so t2 (Dhcp4 request_said ∷ []) refl (
  record {
    from_mac = refl;
    to_mac = refl;
    from = lit< tt;
    to = lit< tt;
    xid = lit< tt;
    secs = lit< tt;
    flags = lit< tt;
    ciaddr = lit< tt;
    mac = refl;
    asked = lit< tt;
    server = lit< tt;
  },
  tt,
) (refl, tt)

-- a probe, or an announcement, is no message of DHCPv4
pub arp_so : (at : ℕ) (offers : List Offer) (say : ArpSay)
    → map (λ o. o.bytes) (offers_at site (at_rest at offers)) ≡ map (frame_of interface.spec (ask_of duid interface)) (Arp say ∷ [])
    → messages_at site (at_rest at offers) ≡ None ∷ []
arp_so at offers say frames = says_so (at_rest at offers) (Arp say ∷ []) frames (tt, tt) (tt, tt)

-- ---- in time

abbrev Good : List Entry → Type 0
Good past = ForGood site EachRequest 1000 past

same_number : (a b : ℕ) → ((a == b) || false) ≡ true → a ≡ b
same_number a b h = grind (arith, nat_tests)

good0 : Good (t0 ∷ [])
good0 = more_for_good site EachRequest 1000 t0 [] (λ xid. refl) (λ xid. refl) (λ now front. none_paid site EachRequest 1000 now front)

serves0 : Serves site EachRequest 1000 (t0 ∷ [])
serves0 = all_serve site EachRequest 1000 (t0 ∷ []) (good0 1000 [])

paid1 : (now : ℕ) (front : List Entry) → now < 2001 → AllPaid site EachRequest 1000 now front (t1 ∷ t0 ∷ [])
paid1 now front soon = one_paid site EachRequest 1000 now front t1 (t0 ∷ []) (early_paid site EachRequest 1000 now front t1 (t0 ∷ []) soon)
    (good0 now (front ++ t1 ∷ []))

serves1 : Serves site EachRequest 1000 (t1 ∷ t0 ∷ [])
serves1 = all_serve site EachRequest 1000 (t1 ∷ t0 ∷ []) (paid1 1001 [] (lit< tt))

serves2 : Serves site EachRequest 1000 (t2 ∷ t1 ∷ t0 ∷ [])
serves2 =
    all_serve site EachRequest 1000 (t2 ∷ t1 ∷ t0 ∷ [])
    (one_paid site EachRequest 1000 2000 [] t2 (t1 ∷ t0 ∷ []) (early_paid site EachRequest 1000 2000 [] t2 (t1 ∷ t0 ∷ []) (lit< tt))
    (paid1 2000 (t2 ∷ []) (lit< tt)))

-- ---- what the server says

abbrev offer_came : Arrival
offer_came = arrival_at 2000 (heard kind.Offer 2)

abbrev ack_came : Arrival
ack_came = arrival_at 2500 (heard kind.Ack 5)

offer_is : (xid : ℕ) → offers site xid t2 ≡ is_offer_by settings xid (Some offer_came)
offer_is xid = ap (λ (m : Option HeardMessage). is_offer_by settings xid (option_map (arrival_at 2000) m)) offer_heard

reply2 : (exchange : Exchange4) → reply_at site exchange t2 ≡ answer.Nothing
reply2 exchange =
    ap (λ (m : Option HeardMessage). heard_in.reply_by settings exchange (option_map (arrival_at 2000) m)) offer_heard
    ∙ offer_replies_nothing settings exchange offer_came refl

reply3 : (exchange : Exchange4) → reply_at site exchange t3 ≡ reply_in settings ack_came exchange
reply3 exchange = ap (λ (m : Option HeardMessage). heard_in.reply_by settings exchange (option_map (arrival_at 2500) m)) ack_heard

-- an ACK is no NAK, and its lease lasts an hour from the first REQUEST
record IsHour (said : Answer4) : Type 0 where
  no_nak : said ≡ answer.Nak → ⊥
  hour : (terms : Terms4) → said ≡ answer.Ack terms → IfSome (expiry terms) (λ end. 9500 < end)

nothing_said : IsHour answer.Nothing
nothing_said = record { no_nak = λ h. cc; hour = λ terms h. absurd (unlike terms h) }
  where
    unlike : (terms : Terms4) → answer.Nothing ≡ answer.Ack terms → ⊥
    unlike terms h = cc

hour_said : (exchange : Exchange4) (by : Ip4) → IsHour (answer.Ack (terms_granted settings ack_came exchange by 3600))
hour_said exchange by = record {
  no_nak = λ h. cc;
  hour = λ terms h. subst (λ (t : Terms4). IfSome (expiry t) (λ end. 9500 < end)) (ap (terms_of_answer terms) h) (late exchange.first);
}
  where
    terms_of_answer : Terms4 → Answer4 → Terms4
    terms_of_answer default (answer.Ack terms) = terms
    terms_of_answer default answer.Nothing = default
    terms_of_answer default answer.Nak = default
    terms_of_answer default (answer.Offer address server) = default

    late : (first : ℕ) → 9500 < first + 3600000
    late first = omega arith

hour_by : (exchange : Exchange4) (from : Option Ip4) → IsHour (reply_by settings exchange ack_came from)
hour_by exchange None = nothing_said
hour_by exchange (Some by) = chosen (is_chosen exchange.server by)
  where
    good : (b : Bool) → IsHour (if b then answer.Ack (terms_granted settings ack_came exchange by 3600) else answer.Nothing)
    good true = hour_said exchange by
    good false = nothing_said

    chosen : (b : Bool) → IsHour (if b then reply_of settings exchange ack_came by kind.Ack else answer.Nothing)
    chosen true = good (is_good_ack settings exchange ack_came 3600)
    chosen false = nothing_said

hour_so : (exchange : Exchange4) → IsHour (reply_at site exchange t3)
hour_so exchange = subst IsHour (sym (reply3 exchange)) (hour_by exchange (answering settings exchange.xid ack_came))

-- ---- the turns after the ACK

-- the exchange of the REQUEST
opened_so : (seen_in site (t2 ∷ t1 ∷ t0 ∷ [])).current ≡ Some (record { number = 1; exchange = first_exchange })
opened_so =
    ap (λ (messages : List (Option Sent4)). (show 2000 messages (seen_in site (t1 ∷ t0 ∷ []))).current) requests_so
    ∙ ap (λ (messages : List (Option Sent4)). (show 2000 (Some (sent_of request_said) ∷ []) (show 1001 messages (seen_in site (t0 ∷ [])))).current) discovers_so

granted_so : (opened : Numbered) → (seen_in site (t2 ∷ t1 ∷ t0 ∷ [])).current ≡ Some opened → grants site opened.exchange t3 ≡ true
granted_so opened is =
    subst (λ (x : Exchange4). grants site x t3 ≡ true) (ap (exchange_in first_exchange) (sym opened_so ∙ is))
    (ap is_grant (reply3 first_exchange))
  where
    exchange_in : Exchange4 → Option Numbered → Exchange4
    exchange_in default None = default
    exchange_in default (Some x) = x.exchange

offered_so : (xid : ℕ) → 1 ≡ xid → offers site xid t2 ≡ true
offered_so xid is = subst (λ (n : ℕ). offers site n t2 ≡ true) is (offer_is 1)

unlike : false ≡ true → ⊥
unlike h = cc

-- the REQUEST is answered by the ACK
request_paid : (now : ℕ) (front : List Entry) → Paid site EachRequest 1000 now (front ++ t3 ∷ []) t2 (t1 ∷ t0 ∷ [])
request_paid now front = record {
  offered = λ xid old said. absurd (unlike (sym (ap (list_any (seeks xid)) requests_so) ∙ said));
  granted = λ opened old is said. answers_stay site EachRequest 1000 3000 (grants site opened.exchange) front (t3 ∷ []) (rw (granted_so opened is) refl);
}

-- the DISCOVER by the OFFER
discover_paid : (now : ℕ) (front : List Entry) → Paid site EachRequest 1000 now (front ++ t2 ∷ []) t1 (t0 ∷ [])
discover_paid now front = record {
  offered = λ xid old said.
      answers_stay site EachRequest 1000 2001 (offers site xid) front (t2 ∷ [])
      (rw (offered_so xid (same_number 1 xid (sym (ap (list_any (seeks xid)) discovers_so) ∙ said))) refl);
  granted = λ opened old is said. absurd (unlike (sym (ap (list_any (asks EachRequest opened.exchange.xid)) discovers_so) ∙ said));
}

good3 : Good (t3 ∷ t2 ∷ t1 ∷ t0 ∷ [])
good3 now front =
    one_paid site EachRequest 1000 now front t3 (t2 ∷ t1 ∷ t0 ∷ [])
    (silent_paid site EachRequest 1000 now front t3 (t2 ∷ t1 ∷ t0 ∷ []) (λ xid. refl) (λ xid. refl))
    (one_paid site EachRequest 1000 now (front ++ t3 ∷ []) t2 (t1 ∷ t0 ∷ []) (request_paid now front)
    (one_paid site EachRequest 1000 now ((front ++ t3 ∷ []) ++ t2 ∷ []) t1 (t0 ∷ []) (discover_paid now (front ++ t3 ∷ []))
    (good0 now (((front ++ t3 ∷ []) ++ t2 ∷ []) ++ t1 ∷ []))))

abbrev since3 : List Entry
since3 = t3 ∷ t2 ∷ t1 ∷ t0 ∷ []

-- ---- fair

offer_fair : Fair site EachRequest 1000 t2 (t1 ∷ t0 ∷ [])
offer_fair = record {
  stays = tt;
  taken = refl;
  unrefused = λ opened nak. no_reply (sym (reply2 opened.exchange) ∙ nak.refuses);
  alone = λ opened terms some. ap (tells_contest (client_mac ∷ []) terms.net.ip) offer_alone;
  lasts = λ opened terms good. no_grant terms (sym (reply2 opened.exchange) ∙ good.grants);
  served = serves2;
}

ack_fair : Fair site EachRequest 1000 t3 (t2 ∷ t1 ∷ t0 ∷ [])
ack_fair = record {
  stays = tt;
  taken = refl;
  unrefused = λ opened nak. absurd ((hour_so opened.exchange).no_nak nak.refuses);
  alone = λ opened terms some. ap (tells_contest (client_mac ∷ []) terms.net.ip) ack_alone;
  lasts = λ opened terms good. (hour_so opened.exchange).hour terms good.grants;
  served = all_serve site EachRequest 1000 since3 (good3 2500 []);
}

going3 : Going site since3
going3 = record {
  good = good3;
  fair = (ack_fair, (offer_fair, (rest_fair site 1001 discovers (t0 ∷ []) refl serves1, (rest_fair site 1000 [] [] refl serves0, tt))));
}

going9 : Going site (after_ack 2500 since3)
going9 =
    ack_goes site 2500 since3 (record { none = λ at. arp_so at probes (Probe granted) refl; taken = λ at. refl })
    (record { none = λ at. arp_so at announces (Announce granted) refl; taken = λ at. refl }) going3

pub one_life_goes_well : OneLifeGoesWell
one_life_goes_well = record {
  goes_well = record {
    fits = beginning_fits;
    typed = tt;
    runs = refl;
    up = refl;
    lived = nine_lived;
    prompt = nine_prompt;
    fair = going9.fair;
  };
  quick = lit< tt;
  anew = refl;
  past_end = lit< tt;
}
