-- Each premise of the life that asks for its kept lease again, by computing.
use Rattle.std.proofs.Common.{◌≡◌, ℕ, ◌<◌, true, false, List, [], ◌∷◌, ◌++◌, Option, Some, None, IfSome, refl, sym, ap, subst, ◌∙◌, arith, lit<, lit≤}
use Rattle.std.specs.Prelude.{option_map}
use Rattle.std.specs.List.{list_any}
use Rattle.udp_frame.proofs.Cells.{all_bytes}
use Rattle.arp_acd.specs.declared.detection.ArpSay.TheVariants.{Announce, Probe}
use Rattle.lease_text.specs.declared.lease.Terms4.{Terms4}
use Rattle.v4_message.specs.declared.kind.MessageKind.TheVariants as kind
use Rattle.v4_frames.specs.declared.sent.Sent4.{Sent4}
use Rattle.v4_frames.specs.Heard.{HeardMessage}
use Rattle.v4_client.specs.declared.states.Answer4.TheVariants as answer
use Rattle.v4_client.specs.declared.states.Exchange4.{Exchange4}
use Rattle.v4_client.specs.declared.states.Say4.{Say4}
use Rattle.v4_client.specs.Granting.{terms_granted}
use Rattle.v4_client.specs.Moments.{expiry}
use Rattle.v4_client.specs.Moves.{is_grant}
use Rattle.v4_client.specs.Saying.{request, sent_of}
use Rattle.client_model.specs.ClientSettings.{settings_of}
use Rattle.client_model.specs.ClientSettings as settings4
use Rattle.client_model.specs.Dhcp4Steps.{arrival_at}
use Rattle.client_model.specs.Fitting.{FitsBeginning}
use Rattle.client_model.specs.Messages.{Dhcp4}
use Rattle.evidence_words.specs.Entries.{Entry}
use Rattle.evidence_words.specs.Inputs.{Site, tells_contest}
use Rattle.evidence_words.specs.IfaceLives.{opening_entry, site_of}
use Rattle.lease_evidence.specs.Exchanges.{Numbered, messages_at, seen_in, show}
use Rattle.lease_evidence.specs.HeldLeases.{KeepsTyped}
use Rattle.lease_evidence.specs.PlainIface.{client_mac}
use Rattle.lease_evidence.specs.Replies as heard_in
use Rattle.lease_evidence.specs.Replies.{reply_at}
use Rattle.lease_evidence.specs.SevenTurns.{announces, duid, granted, probes, server, server_mac}
use Rattle.lease_evidence.proofs.SevenTurnsHeard.{ack_heard, beginning_fits, interface_fits}
use Rattle.lease_progress.specs.FairTurns.{Fair}
use Rattle.lease_progress.specs.OneLife.{AgainLifeGoesWell, asked_again, asks_five_seconds, reopening, with_kept}
use Rattle.lease_progress.specs.Serving.{EachRequest, Serves, grants, seeks}
use Rattle.lease_progress.proofs.AgainTurns.{again_lived, again_prompt}
use Rattle.lease_progress.proofs.Instance.{arp_so, client_ask}
use Rattle.lease_progress.proofs.NineTurns.{ack_alone, heard}
use Rattle.lease_progress.proofs.Paying.{ForGood, Paid, all_serve, answers_stay, early_paid, none_paid, one_paid, silent_paid}
use Rattle.lease_progress.proofs.Resting.{Going, ack_goes, after_ack, by_frame, rest_fair}
use Rattle.lease_progress.proofs.Shown.{messages_so}

abbrev site : Site
site = site_of (client_mac ∷ []) with_kept reopening

abbrev t0 : Entry
t0 = opening_entry reopening

abbrev t1 : Entry
t1 = by_frame 100500 5 []

-- ---- what is kept

kept_fits : FitsBeginning with_kept
kept_fits = record {
  managed = record {
    index = interface_fits.index;
    name = interface_fits.name;
    mac = interface_fits.mac;
    metric = tt;
    address = tt;
    address6 = tt;
    router = tt;
    dhcp4 = interface_fits.dhcp4;
    dhcp6 = interface_fits.dhcp6;
  };
  duid = beginning_fits.duid;
  kept4 = record {
    name = interface_fits.name;
    terms = record {
      address = refl;
      len = lit≤ tt;
      confirmed = lit< tt;
      first = lit< tt;
      lease = lit≤ tt;
      renews = lit≤ tt;
      rebinds = lit≤ tt;
      endless = λ h. absurd (omega (arith, h));
    };
    values = record { each = tt; rising = tt };
  };
  kept6 = tt;
}

kept_typed : KeepsTyped with_kept
kept_typed = record {
  origin = interface_fits.mac;
  server = lit< tt;
  server_mac = record { six = refl; range = all_bytes server_mac.bytes (lit< tt, (lit< tt, (lit< tt, (lit< tt, (lit< tt, (lit< tt, tt)))))) };
  time = lit≤ tt;
  values = tt;
}

-- ---- what is asked

abbrev request_said : Say4
request_said = request (settings4.site_of asks_five_seconds) asked_again 0

requests_so : messages_at site t0 ≡ Some (sent_of request_said) ∷ []
requests_so = messages_so site client_ask interface_fits.mac.six t0 (Dhcp4 request_said ∷ []) refl (
  record {
    from_mac = refl;
    to_mac = refl;
    from = lit< tt;
    to = lit< tt;
    xid = lit< tt;
    secs = lit< tt;
    flags = lit< tt;
    ciaddr = lit< tt;
    mac = refl;
    asked = lit< tt;
    server = tt;
  },
  tt,
) (refl, tt)

opened_so : (seen_in site (t1 ∷ t0 ∷ [])).current ≡ Some (record { number = 1; exchange = asked_again })
opened_so = ap (λ (messages : List (Option Sent4)). (show 100000 messages (seen_in site [])).current) requests_so

-- ---- what the server says

abbrev terms_then : Terms4
terms_then = terms_granted (settings_of duid asks_five_seconds) (arrival_at 100500 (heard kind.Ack 5)) asked_again server 3600

reply_so : reply_at site asked_again t1 ≡ answer.Ack terms_then
reply_so = ap (λ (m : Option HeardMessage). heard_in.reply_by (settings_of duid asks_five_seconds) asked_again (option_map (arrival_at 100500) m)) ack_heard

each_reply : (opened : Numbered) → (seen_in site (t1 ∷ t0 ∷ [])).current ≡ Some opened → reply_at site opened.exchange t1 ≡ answer.Ack terms_then
each_reply opened is = subst (λ (x : Exchange4). reply_at site x t1 ≡ answer.Ack terms_then) (ap (exchange_in asked_again) (sym opened_so ∙ is)) reply_so
  where
    exchange_in : Exchange4 → Option Numbered → Exchange4
    exchange_in default None = default
    exchange_in default (Some x) = x.exchange

granted_so : (opened : Numbered) → (seen_in site (t1 ∷ t0 ∷ [])).current ≡ Some opened → grants site opened.exchange t1 ≡ true
granted_so opened is = ap is_grant (each_reply opened is)

-- ---- in time

serves0 : Serves site EachRequest 1000 (t0 ∷ [])
serves0 =
    all_serve site EachRequest 1000 (t0 ∷ [])
    (one_paid site EachRequest 1000 100000 [] t0 [] (early_paid site EachRequest 1000 100000 [] t0 [] (lit< tt))
    (none_paid site EachRequest 1000 100000 (t0 ∷ [])))

unlike : false ≡ true → ⊥
unlike h = cc

request_paid : (now : ℕ) (front : List Entry) → Paid site EachRequest 1000 now (front ++ t1 ∷ []) t0 []
request_paid now front = record {
  offered = λ xid old said. absurd (unlike (sym (ap (list_any (seeks xid)) requests_so) ∙ said));
  granted = λ opened old is said. answers_stay site EachRequest 1000 101000 (grants site opened.exchange) front (t1 ∷ []) (rw (granted_so opened is) refl);
}

good1 : ForGood site EachRequest 1000 (t1 ∷ t0 ∷ [])
good1 now front =
    one_paid site EachRequest 1000 now front t1 (t0 ∷ [])
    (silent_paid site EachRequest 1000 now front t1 (t0 ∷ []) (λ xid. refl) (λ xid. refl))
    (one_paid site EachRequest 1000 now (front ++ t1 ∷ []) t0 [] (request_paid now front)
    (none_paid site EachRequest 1000 now ((front ++ t1 ∷ []) ++ t0 ∷ [])))

-- ---- fair

one_of : (a b : Terms4) → answer.Ack a ≡ answer.Ack b → a ≡ b
one_of a b h = cc

no_nak : answer.Ack terms_then ≡ answer.Nak → ⊥
no_nak h = cc

ack_fair : Fair site EachRequest 1000 t1 (t0 ∷ [])
ack_fair = record {
  stays = tt;
  taken = refl;
  unrefused = λ opened nak. absurd (no_nak (sym (each_reply opened nak.is_open) ∙ nak.refuses));
  alone = λ opened terms some. ap (tells_contest (client_mac ∷ []) terms.net.ip) ack_alone;
  lasts = λ opened terms good.
      subst (λ (t : Terms4). IfSome (expiry t) (λ end. 107500 < end)) (one_of terms_then terms (sym (each_reply opened good.is_open) ∙ good.grants)) (lit< tt);
  served = all_serve site EachRequest 1000 (t1 ∷ t0 ∷ []) (good1 100500 []);
}

going : Going site (after_ack 100500 (t1 ∷ t0 ∷ []))
going =
    ack_goes site 100500 (t1 ∷ t0 ∷ []) (record { none = λ at. arp_so at probes (Probe granted) refl; taken = λ at. refl })
    (record { none = λ at. arp_so at announces (Announce granted) refl; taken = λ at. refl })
    (record { good = good1; fair = (ack_fair, (opening_fair, tt)) })
  where
    opening_fair : Fair site EachRequest 1000 t0 []
    opening_fair = rest_fair site 100000 reopening.offers [] refl serves0

pub again_life_goes_well : AgainLifeGoesWell
again_life_goes_well = record {
  goes_well = record {
    fits = kept_fits;
    typed = kept_typed;
    runs = refl;
    up = refl;
    lived = again_lived;
    prompt = again_prompt;
    fair = going.fair;
  };
  kept = refl;
  unexpired = refl;
  longer = lit< tt;
  past_end = lit< tt;
}
