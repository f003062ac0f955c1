-- The life with two renewals goes well.
use Rattle.std.proofs.Common.{◌≡◌, ℕ, List, [], ◌∷◌, map, Some, refl, sym, ap, subst, ◌∙◌, lit<, lit≤}
use lib.Count.{count_leading_zeros}
use Rattle.v4_message.specs.declared.kind.MessageKind.TheVariants as kind
use Rattle.v4_frames.specs.declared.sent.Sent4.{Sent4}
use Rattle.v6_client.specs.Runs.{tick_turned}
use Rattle.v4_client.specs.declared.states.Answer4.TheVariants as answer
use Rattle.v4_client.specs.declared.states.Exchange4.{Exchange4}
use Rattle.v4_client.specs.Moves.{is_grant}
use Rattle.v4_client.specs.Saying.{sent_of, renewing_request}
use Rattle.client_model.specs.declared.interfaces.Iface.{Iface}
use Rattle.client_model.specs.ClientSettings.{site_of}
use Rattle.client_model.specs.IfaceSteps.{IfaceStep}
use Rattle.client_model.specs.Interfaces.{iface_due}
use Rattle.evidence_words.specs.Entries.{Entry}
use Rattle.evidence_words.specs.IfaceLives.{Met, entry_of, shown, IsLived}
use Rattle.lease_evidence.specs.Exchanges.{messages_at, seen_in}
use Rattle.lease_evidence.specs.Replies.{reply_at}
use Rattle.lease_evidence.specs.SevenTurns.{opening}
use Rattle.lease_evidence.proofs.Spoken.{message_said}
use Rattle.lease_progress.specs.FairTurns.{Fair}
use Rattle.lease_progress.specs.LeaseStays.{Renewable}
use Rattle.lease_progress.specs.Prompt.{IsPrompt, NotAfter}
use Rattle.lease_progress.specs.Serving.{EachRequest}
use Rattle.lease_keeping.specs.KeptLives.{unprobed, own_macs, beginning, granted_terms, first_exchange, renews, acked, quiet, three_turns, two_renewals, RenewedLife}
use Rattle.lease_keeping.proofs.Chains.{Chain}
use Rattle.lease_keeping.proofs.Lives.{messages}
use Rattle.lease_keeping.proofs.ServerFrames.{heard, ack1_heard, ack2_heard, ack1_bytes, ack2_bytes, no_bytes, fits, site, after, turned, told, told_turn}
use Rattle.lease_keeping.proofs.OneTurns.{quiet_fair, quiet_renewable, silent_next, request_next, seen_by}
use Rattle.lease_keeping.proofs.FirstTurns.{m3, f3, a3, SaidBy, lived3, prompt3, bound3, msgs3, past2, past3, open_one, seen3, replied, chain3, served, fair3, renewable3, extending, numbered, open_in, ack_fair}

-- ---- two renewals

abbrev pub renewal : (xid : ℕ) → Sent4
renewal xid = sent_of (renewing_request (site_of unprobed) (granted_terms 0 0) xid)

abbrev pub m4 : Met
m4 = quiet 1802000 (renews 2)

abbrev pub m5 : Met
m5 = acked 1802500 2

abbrev pub m6 : Met
m6 = quiet 3602000 (renews 1)

abbrev pub m7 : Met
m7 = acked 3602500 1

abbrev pub f4 : Iface
f4 = (turned m4 f3).iface

abbrev pub f5 : Iface
f5 = (told 1802500 (heard kind.Ack 2 5) f4).iface

abbrev pub f6 : Iface
f6 = (turned m6 f5).iface

pub t5 : turned m5 f4 ≡ told 1802500 (heard kind.Ack 2 5) f4
t5 = told_turn 1802500 2 5 kind.Ack ack2_heard [] f4 refl refl

pub t7 : turned m7 f6 ≡ told 3602500 (heard kind.Ack 1 5) f6
t7 = told_turn 3602500 1 5 kind.Ack ack1_heard [] f6 refl refl

abbrev pub mets4 : List Met
mets4 = m4 ∷ three_turns

abbrev pub mets5 : List Met
mets5 = m5 ∷ mets4

abbrev pub mets6 : List Met
mets6 = m6 ∷ mets5

pub a4 : after mets4 ≡ f4
a4 = ap (λ (f : Iface). (turned m4 f).iface) a3

pub a5 : after mets5 ≡ f5
a5 = ap (λ (f : Iface). (turned m5 f).iface) a4 ∙ ap (λ (step : IfaceStep). step.iface) t5

pub a6 : after mets6 ≡ f6
a6 = ap (λ (f : Iface). (turned m6 f).iface) a5

pub lived4 : IsLived own_macs beginning opening mets4
unfolding count_leading_zeros tick_turned
lived4 = (lit< tt, no_bytes, refl, subst (λ (f : Iface). SaidBy m4.offers (turned m4 f)) (sym a3) refl, lived3)

pub lived5 : IsLived own_macs beginning opening mets5
unfolding count_leading_zeros tick_turned
lived5 = (
  lit< tt,
  ack2_bytes,
  refl,
  subst (λ (f : Iface). SaidBy m5.offers (turned m5 f)) (sym a4) (subst (SaidBy m5.offers) (sym t5) refl),
  lived4,
)

pub lived6 : IsLived own_macs beginning opening mets6
unfolding count_leading_zeros tick_turned
lived6 = (lit< tt, no_bytes, refl, subst (λ (f : Iface). SaidBy m6.offers (turned m6 f)) (sym a5) refl, lived5)

pub lived7 : IsLived own_macs beginning opening two_renewals
unfolding count_leading_zeros tick_turned
lived7 = (
  lit< tt,
  ack1_bytes,
  refl,
  subst (λ (f : Iface). SaidBy m7.offers (turned m7 f)) (sym a6) (subst (SaidBy m7.offers) (sym t7) refl),
  lived6,
)

abbrev pub DueSo : (last at : ℕ) → Iface → Type 0
DueSo last at f = NotAfter (iface_due f) last at

pub prompt7 : IsPrompt own_macs beginning opening two_renewals
unfolding count_leading_zeros tick_turned
prompt7 = (
  lit≤ tt,
  subst (DueSo 3602000 3602500) (sym a6) (lit≤ tt),
  (
    lit≤ tt,
    subst (DueSo 1802500 3602000) (sym a5) (lit≤ tt),
    (
      lit≤ tt,
      subst (DueSo 1802000 1802500) (sym a4) (lit≤ tt),
      (lit≤ tt, subst (DueSo 2500 1802000) (sym a3) (lit≤ tt), prompt3),
    ),
  ),
)

pub msgs4 : messages_at site (entry_of m4) ≡ Some (renewal 2) ∷ []
unfolding count_leading_zeros tick_turned
msgs4 = messages own_macs beginning fits tt opening m4 three_turns lived4 ∙ ap (λ (f : Iface). map message_said (turned m4 f).said) a3

pub msgs5 : messages_at site (entry_of m5) ≡ []
unfolding count_leading_zeros tick_turned
msgs5 =
    messages own_macs beginning fits tt opening m5 mets4 lived5 ∙ ap (λ (f : Iface). map message_said (turned m5 f).said) a4
    ∙ ap (λ (step : IfaceStep). map message_said step.said) t5

pub msgs6 : messages_at site (entry_of m6) ≡ Some (renewal 1) ∷ []
unfolding count_leading_zeros tick_turned
msgs6 = messages own_macs beginning fits tt opening m6 mets5 lived6 ∙ ap (λ (f : Iface). map message_said (turned m6 f).said) a5

pub msgs7 : messages_at site (entry_of m7) ≡ []
unfolding count_leading_zeros tick_turned
msgs7 =
    messages own_macs beginning fits tt opening m7 mets6 lived7 ∙ ap (λ (f : Iface). map message_said (turned m7 f).said) a6
    ∙ ap (λ (step : IfaceStep). map message_said step.said) t7

abbrev pub past4 : List Entry
past4 = shown opening mets4

abbrev pub past5 : List Entry
past5 = shown opening mets5

abbrev pub past6 : List Entry
past6 = shown opening mets6

abbrev pub y2 : Exchange4
y2 = extending 2 1802000

abbrev pub y3 : Exchange4
y3 = extending 1 3602000

pub seen4 : seen_in site past4 ≡ open_one 2 y2
seen4 = seen_by (entry_of m4) past3 (Some (renewal 2) ∷ []) (open_one 1 first_exchange) msgs4 seen3

pub seen5 : seen_in site past5 ≡ open_one 2 y2
seen5 = seen_by (entry_of m5) past4 [] (open_one 2 y2) msgs5 seen4

pub seen6 : seen_in site past6 ≡ open_one 3 y3
seen6 = seen_by (entry_of m6) past5 (Some (renewal 1) ∷ []) (open_one 2 y2) msgs6 seen5

pub seen7 : seen_in site (shown opening two_renewals) ≡ open_one 3 y3
seen7 = seen_by (entry_of m7) past6 [] (open_one 3 y3) msgs7 seen6

pub reply5 : reply_at site y2 (entry_of m5) ≡ answer.Ack (granted_terms 1802000 1802500)
unfolding count_leading_zeros
reply5 = ap (replied 1802500 y2) ack2_heard

pub reply7 : reply_at site y3 (entry_of m7) ≡ answer.Ack (granted_terms 3602000 3602500)
unfolding count_leading_zeros
reply7 = ap (replied 3602500 y3) ack1_heard

pub chain4 : Chain site EachRequest 1000 (entry_of m4) past3
chain4 = (silent_next EachRequest (entry_of m4) (entry_of m3) past2 msgs3, chain3 EachRequest)

pub chain5 : Chain site EachRequest 1000 (entry_of m5) past4
chain5 = (
  request_next EachRequest (entry_of m5) (entry_of m4) past3 (renewal 2) msgs4 refl (numbered 2 y2) (open_in past4 2 y2 seen4) (ap is_grant reply5),
  chain4,
)

pub chain6 : Chain site EachRequest 1000 (entry_of m6) past5
chain6 = (silent_next EachRequest (entry_of m6) (entry_of m5) past4 msgs5, chain5)

pub chain7 : Chain site EachRequest 1000 (entry_of m7) past6
chain7 = (
  request_next EachRequest (entry_of m7) (entry_of m6) past5 (renewal 1) msgs6 refl (numbered 3 y3) (open_in past6 3 y3 seen6) (ap is_grant reply7),
  chain6,
)

pub renewed5 : Fair site EachRequest 1000 (entry_of m5) past4 × Renewable site EachRequest 1000 (entry_of m5) past4
renewed5 = ack_fair EachRequest 1802000 1802500 2 past4 (numbered 2 y2) (lit≤ tt) (open_in past5 2 y2 seen5) reply5 chain5

pub renewed7 : Fair site EachRequest 1000 (entry_of m7) past6 × Renewable site EachRequest 1000 (entry_of m7) past6
renewed7 = ack_fair EachRequest 3602000 3602500 1 past6 (numbered 3 y3) (lit≤ tt) (open_in (shown opening two_renewals) 3 y3 seen7) reply7 chain7

pub renewed_life : RenewedLife
renewed_life = record {
  well = record {
    fits = fits;
    typed = tt;
    runs = refl;
    up = refl;
    lived = lived7;
    prompt = prompt7;
    fair = (
      renewed7.0,
      (
        quiet_fair EachRequest 3602000 m6.offers past5 refl (served EachRequest (entry_of m6) past5 chain6),
        (renewed5.0, (quiet_fair EachRequest 1802000 m4.offers past3 refl (served EachRequest (entry_of m4) past3 chain4), fair3 EachRequest)),
      ),
    );
  };
  renewable = (
    renewed7.1,
    (quiet_renewable EachRequest 3602000 m6.offers past5, (renewed5.1, (quiet_renewable EachRequest 1802000 m4.offers past3, renewable3 EachRequest))),
  );
  bound = bound3;
}
