-- The first three turns of those lives: a lease is granted.
use Rattle.std.proofs.Common.{◌≡◌, ℕ, ◌+◌, ◌<◌, ◌≤◌, ◌&&◌, ◌==◌, true, List, [], ◌∷◌, map, Option, Some, None, IfSome, refl, sym, ap, subst, ◌∙◌, arith, lit<, lit≤}
use Rattle.std.proofs.lemmas.Bool.Decides.{nat_tests}
use Rattle.std.specs.Prelude.{option_map}
use lib.Count.{count_leading_zeros}
use Rattle.machine.specs.Since.{Always}
use Rattle.v4_message.specs.declared.kind.MessageKind.TheVariants as kind
use Rattle.v4_frames.specs.declared.sent.Sent4.{Sent4}
use Rattle.v4_frames.specs.Heard.{HeardMessage}
use Rattle.v6_client.specs.Runs.{tick_turned}
use Rattle.lease_text.specs.declared.lease.Terms4.{Terms4}
use Rattle.v4_client.specs.declared.states.Answer4.{Answer4}
use Rattle.v4_client.specs.declared.states.Answer4.TheVariants as answer
use Rattle.v4_client.specs.declared.states.Exchange4.{Exchange4}
use Rattle.v4_client.specs.Clients.{is_bound}
use Rattle.v4_client.specs.Moments.{expiry}
use Rattle.v4_client.specs.Moves.{is_grant}
use Rattle.v4_client.specs.Saying.{sent_of, discover, request}
use Rattle.world.specs.declared.wakes.Event.TheVariants.{Frame}
use Rattle.client_model.specs.declared.interfaces.Iface.{Iface}
use Rattle.client_model.specs.ClientSettings.{ask_of, settings_of, site_of}
use Rattle.client_model.specs.Clients.{frame_of}
use Rattle.client_model.specs.Dhcp4Steps.{arrival_at}
use Rattle.client_model.specs.Messages.{Dhcp4}
use Rattle.client_model.specs.IfaceSteps.{IfaceStep}
use Rattle.client_model.specs.Interfaces.{iface_due}
use Rattle.evidence_words.specs.Entries.{Entry, Offer}
use Rattle.evidence_words.specs.IfaceLives.{Met, entry_of, opening_entry, shown, IsLived}
use Rattle.lease_evidence.specs.Exchanges.{Numbered, Seen, messages_at, seen_in}
use Rattle.lease_evidence.specs.Replies.{reply_at, reply_by}
use Rattle.lease_evidence.specs.SevenTurns.{granted, duid, opening, met}
use Rattle.lease_evidence.proofs.Spoken.{message_said}
use Rattle.lease_progress.specs.FairTurns.{Fair}
use Rattle.lease_progress.specs.LeaseStays.{IsBefore, Renewable, asked_at, needed_by}
use Rattle.lease_progress.specs.Prompt.{IsPrompt, NotAfter}
use Rattle.lease_progress.specs.Serving.{Answered, EachRequest, BroadcastAlone, Serves, is_offer_by, offers}
use Rattle.lease_keeping.specs.KeptLives.{unprobed, own_macs, beginning, reply_frame, granted_terms, first_exchange, says, acked, quiet, three_turns}
use Rattle.lease_keeping.proofs.Chains.{Chain, chain_serves}
use Rattle.lease_keeping.proofs.Lives.{messages}
use Rattle.lease_keeping.proofs.ServerFrames.{heard, offer_heard, ack1_heard, offer_bytes, ack1_bytes, no_bytes, fits, site, after, turned, told, told_turn}
use Rattle.lease_keeping.proofs.OneTurns.{quiet_fair, quiet_renewable, frame_fair, frame_renewable, silent_next, request_next, discover_next, seen_by}

-- ---- the first three turns

abbrev pub m1 : Met
m1 = quiet 1001 (says (Dhcp4 (discover (site_of unprobed) 1 0)))

abbrev pub m2 : Met
m2 = met 2000 (Frame 1 316) (reply_frame 1 2) (says (Dhcp4 (request (site_of unprobed) first_exchange 0)))

abbrev pub m3 : Met
m3 = acked 2500 1

abbrev pub f1 : Iface
f1 = after (m1 ∷ [])

abbrev pub f2 : Iface
f2 = (told 2000 (heard kind.Offer 1 2) f1).iface

abbrev pub f3 : Iface
f3 = (told 2500 (heard kind.Ack 1 5) f2).iface

pub t2 : turned m2 f1 ≡ told 2000 (heard kind.Offer 1 2) f1
t2 = told_turn 2000 1 2 kind.Offer offer_heard m2.offers f1 refl refl

pub t3 : turned m3 f2 ≡ told 2500 (heard kind.Ack 1 5) f2
t3 = told_turn 2500 1 5 kind.Ack ack1_heard [] f2 refl refl

pub a2 : after (m2 ∷ m1 ∷ []) ≡ f2
a2 = ap (λ (step : IfaceStep). step.iface) t2

pub a3 : after three_turns ≡ f3
a3 = ap (λ (f : Iface). (turned m3 f).iface) a2 ∙ ap (λ (step : IfaceStep). step.iface) t3

abbrev pub SaidBy : List Offer → IfaceStep → Type 0
SaidBy said step = map (λ o. o.bytes) said ≡ map (frame_of unprobed.spec (ask_of duid unprobed)) step.said

pub lived1 : IsLived own_macs beginning opening (m1 ∷ [])
unfolding count_leading_zeros tick_turned
lived1 = (lit< tt, no_bytes, refl, refl, (lit< tt, refl))

pub lived2 : IsLived own_macs beginning opening (m2 ∷ m1 ∷ [])
unfolding count_leading_zeros tick_turned
lived2 = (lit< tt, offer_bytes, refl, subst (SaidBy m2.offers) (sym t2) refl, lived1)

pub lived3 : IsLived own_macs beginning opening three_turns
unfolding count_leading_zeros tick_turned
lived3 = (
  lit< tt,
  ack1_bytes,
  refl,
  subst (λ (f : Iface). SaidBy m3.offers (turned m3 f)) (sym a2) (subst (SaidBy m3.offers) (sym t3) refl),
  lived2,
)

pub prompt3 : IsPrompt own_macs beginning opening three_turns
unfolding count_leading_zeros tick_turned
prompt3 = (
  lit≤ tt,
  subst (λ (f : Iface). NotAfter (iface_due f) 2000 2500) (sym a2) (lit≤ tt),
  (lit≤ tt, lit≤ tt, (lit≤ tt, lit≤ tt, tt)),
)

pub bound3 : is_bound (after three_turns).dhcp4.state ≡ true
unfolding count_leading_zeros tick_turned
bound3 = ap (λ (f : Iface). is_bound f.dhcp4.state) a3

abbrev pub sent1 : Sent4
sent1 = sent_of (discover (site_of unprobed) 1 0)

abbrev pub sent2 : Sent4
sent2 = sent_of (request (site_of unprobed) first_exchange 0)

pub msgs1 : messages_at site (entry_of m1) ≡ Some sent1 ∷ []
unfolding count_leading_zeros tick_turned
msgs1 = messages own_macs beginning fits tt opening m1 [] lived1

pub msgs2 : messages_at site (entry_of m2) ≡ Some sent2 ∷ []
unfolding count_leading_zeros tick_turned
msgs2 = messages own_macs beginning fits tt opening m2 (m1 ∷ []) lived2 ∙ ap (λ (step : IfaceStep). map message_said step.said) t2

pub msgs3 : messages_at site (entry_of m3) ≡ []
unfolding count_leading_zeros tick_turned
msgs3 =
    messages own_macs beginning fits tt opening m3 (m2 ∷ m1 ∷ []) lived3 ∙ ap (λ (f : Iface). map message_said (turned m3 f).said) a2
    ∙ ap (λ (step : IfaceStep). map message_said step.said) t3

abbrev pub past1 : List Entry
past1 = shown opening (m1 ∷ [])

abbrev pub past2 : List Entry
past2 = shown opening (m2 ∷ m1 ∷ [])

abbrev pub past3 : List Entry
past3 = shown opening three_turns

abbrev pub open_one : (number : ℕ) → Exchange4 → Seen
open_one number exchange = record { count = number; current = Some (record { number = number; exchange = exchange }) }

abbrev pub none_open : Seen
none_open = record { count = 0; current = None }

pub seen1 : seen_in site past1 ≡ none_open
seen1 = seen_by (entry_of m1) (shown opening []) (Some sent1 ∷ []) none_open msgs1 refl

pub seen2 : seen_in site past2 ≡ open_one 1 first_exchange
seen2 = seen_by (entry_of m2) past1 (Some sent2 ∷ []) none_open msgs2 seen1

pub seen3 : seen_in site past3 ≡ open_one 1 first_exchange
seen3 = seen_by (entry_of m3) past2 [] (open_one 1 first_exchange) msgs3 seen2

abbrev pub x1 : Numbered
x1 = record { number = 1; exchange = first_exchange }

pub open2 : (seen_in site past2).current ≡ Some x1
open2 = ap (λ (s : Seen). s.current) seen2

pub open3 : (seen_in site past3).current ≡ Some x1
open3 = ap (λ (s : Seen). s.current) seen3

abbrev pub replied : ℕ → Exchange4 → Option HeardMessage → Answer4
replied at exchange came = reply_by (settings_of duid unprobed) exchange (option_map (arrival_at at) came)

pub reply2 : reply_at site first_exchange (entry_of m2) ≡ answer.Nothing
unfolding count_leading_zeros
reply2 = ap (replied 2000 first_exchange) offer_heard

pub reply3 : reply_at site first_exchange (entry_of m3) ≡ answer.Ack (granted_terms 2000 2500)
unfolding count_leading_zeros
reply3 = ap (replied 2500 first_exchange) ack1_heard

pub one_of : (a b : Terms4) → answer.Ack a ≡ answer.Ack b → a ≡ b
one_of a b e = cc

-- what an ACK half a second later grants lasts long enough
pub granted_lasts : (first at : ℕ) → at ≤ first + 1000 → (terms : Terms4) → answer.Ack (granted_terms first at) ≡ answer.Ack terms
    → IfSome (expiry terms) (λ end. at + 0 < end)
granted_lasts first at le terms same =
    subst (λ (t : Terms4). IfSome (expiry t) (λ end. at + 0 < end)) (one_of (granted_terms first at) terms same) (long first at le)
  where
    long : (first at : ℕ) → at ≤ first + 1000 → at + 0 < first + 3600000
    long first at le = omega (arith, le)

pub granted_probed : (answered : Answered) (first at : ℕ) → at ≤ first + 1000 → (terms : Terms4) → answer.Ack (granted_terms first at) ≡ answer.Ack terms
    → IfSome (asked_at answered terms) (λ due. at + 0 ≤ due)
granted_probed answered first at le terms same =
    subst (λ (t : Terms4). IfSome (asked_at answered t) (λ due. at + 0 ≤ due)) (one_of (granted_terms first at) terms same) (by answered)
  where
    long : (first at more : ℕ) → at ≤ first + 1000 → 1000 ≤ more → at + 0 ≤ first + more
    long first at more le enough = omega (arith, le, enough)

    by : (which : Answered) → IfSome (asked_at which (granted_terms first at)) (λ due. at + 0 ≤ due)
    by EachRequest = long first at 1800000 le (lit≤ tt)
    by BroadcastAlone = long first at 1860000 le (lit≤ tt)

pub granted_renewed : (answered : Answered) (first at : ℕ) (terms : Terms4) → answer.Ack (granted_terms first at) ≡ answer.Ack terms
    → IsBefore 1000 (asked_at answered terms) (needed_by answered terms)
granted_renewed answered first at terms same =
    subst (λ (t : Terms4). IsBefore 1000 (asked_at answered t) (needed_by answered t)) (one_of (granted_terms first at) terms same) (by answered)
  where
    gap : (first a b : ℕ) → a + 1000 < b → (first + a) + 1000 < first + b
    gap first a b h = omega (arith, h)

    by : (which : Answered) → IsBefore 1000 (asked_at which (granted_terms first at)) (needed_by which (granted_terms first at))
    by EachRequest = gap first 1800000 1860000 (lit< tt)
    by BroadcastAlone = gap first 1860000 3600000 (lit< tt)

pub not_ack : (terms : Terms4) → answer.Nothing ≡ answer.Ack terms → ⊥
not_ack terms e = cc

module _ (answered : Answered) where
  chain0 : Chain site answered 1000 (opening_entry opening) []
  chain0 = tt

  chain1 : Chain site answered 1000 (entry_of m1) (shown opening [])
  chain1 = (silent_next answered (entry_of m1) (opening_entry opening) [] refl, chain0)

  chain2 : Chain site answered 1000 (entry_of m2) past1
  unfolding count_leading_zeros
  chain2 = (
    discover_next answered (entry_of m2) (entry_of m1) (shown opening []) sent1 msgs1 refl
        (λ xid h. subst (λ (n : ℕ). (true && offers site n (entry_of m2)) ≡ true) (same_xid 1 xid h) offered_so),
    chain1,
  )
    where
      same_xid : (a b : ℕ) → (true && (a == b)) ≡ true → a ≡ b
      same_xid a b h = grind (arith, nat_tests)

      offered_so : offers site 1 (entry_of m2) ≡ true
      offered_so = ap (λ (came : Option HeardMessage). is_offer_by (settings_of duid unprobed) 1 (option_map (arrival_at 2000) came)) offer_heard

  pub chain3 : Chain site answered 1000 (entry_of m3) past2
  chain3 = (request_next answered (entry_of m3) (entry_of m2) past1 sent2 msgs2 refl x1 open2 (ap is_grant reply3), chain2)

  pub served : (f : Entry) (past : List Entry) → Chain site answered 1000 f past → Serves site answered 1000 (f ∷ past)
  served f past chain = chain_serves site answered 1000 (lit< tt) f past chain

  pub fair3 : Always (Fair site answered 1000) past3
  fair3 = (
    frame_fair answered 2500 1 5 [] past2 x1 open3 refl (answer.Ack (granted_terms 2000 2500)) reply3 (λ bad. cc) (granted_lasts 2000 2500 (lit≤ tt))
        (served (entry_of m3) past2 chain3),
    (
      frame_fair answered 2000 1 2 m2.offers past1 x1 open2 refl answer.Nothing reply2 (λ bad. cc) (λ terms bad. absurd (not_ack terms bad))
          (served (entry_of m2) past1 chain2),
      (
        quiet_fair answered 1001 m1.offers (shown opening []) refl (served (entry_of m1) (shown opening []) chain1),
        (quiet_fair answered 1000 [] [] refl (served (opening_entry opening) [] chain0), tt),
      ),
    ),
  )

  pub renewable3 : Always (Renewable site answered 1000) past3
  renewable3 = (
    frame_renewable answered 2500 1 5 [] past2 x1 open3 (answer.Ack (granted_terms 2000 2500)) reply3 (granted_probed answered 2000 2500 (lit≤ tt))
        (granted_renewed answered 2000 2500),
    (
      frame_renewable answered 2000 1 2 m2.offers past1 x1 open2 answer.Nothing reply2 (λ terms bad. absurd (not_ack terms bad))
          (λ terms bad. absurd (not_ack terms bad)),
      (quiet_renewable answered 1001 m1.offers (shown opening []), (quiet_renewable answered 1000 [] [], tt)),
    ),
  )

-- ---- a REQUEST that extends the lease, and its answer

-- the exchange of such a REQUEST
abbrev pub extending : (xid first : ℕ) → Exchange4
extending xid first = record { xid = xid; address = granted; server = None; first = first }

abbrev pub numbered : ℕ → Exchange4 → Numbered
numbered n exchange = record { number = n; exchange = exchange }

pub open_in : (past : List Entry) (n : ℕ) (exchange : Exchange4) → seen_in site past ≡ open_one n exchange
    → (seen_in site past).current ≡ Some (numbered n exchange)
open_in past n exchange is = ap (λ (s : Seen). s.current) is

-- an answered turn
pub ack_fair : (answered : Answered) (first at xid : ℕ) (past : List Entry) (x : Numbered) → at ≤ first + 1000
    → (seen_in site (entry_of (acked at xid) ∷ past)).current ≡ Some x
    → reply_at site x.exchange (entry_of (acked at xid)) ≡ answer.Ack (granted_terms first at)
    → Chain site answered 1000 (entry_of (acked at xid)) past
    → Fair site answered 1000 (entry_of (acked at xid)) past × Renewable site answered 1000 (entry_of (acked at xid)) past
ack_fair answered first at xid past x le open_so is chain = (
  frame_fair answered at xid 5 [] past x open_so refl (answer.Ack (granted_terms first at)) is (λ bad. cc) (granted_lasts first at le)
      (served answered (entry_of (acked at xid)) past chain),
  frame_renewable answered at xid 5 [] past x open_so (answer.Ack (granted_terms first at)) is (granted_probed answered first at le)
      (granted_renewed answered first at),
)
