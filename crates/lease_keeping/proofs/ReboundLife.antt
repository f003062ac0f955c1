-- The life with two rebindings goes well.
use Rattle.std.proofs.Common.{◌≡◌, ℕ, not, false, List, [], ◌∷◌, map, Some, refl, sym, ap, subst, ◌∙◌, lit<, lit≤}
use Rattle.std.specs.List.{list_any}
use lib.Count.{count_leading_zeros}
use Rattle.v4_message.specs.declared.kind.MessageKind.TheVariants as kind
use Rattle.v4_frames.specs.declared.sent.Sent4.{Sent4}
use Rattle.v6_client.specs.Runs.{tick_turned}
use Rattle.v4_client.specs.declared.states.Answer4.TheVariants as answer
use Rattle.v4_client.specs.declared.states.Exchange4.{Exchange4}
use Rattle.v4_client.specs.Moves.{is_grant}
use Rattle.v4_client.specs.Saying.{sent_of, rebinding_request}
use Rattle.client_model.specs.declared.interfaces.Iface.{Iface}
use Rattle.client_model.specs.ClientSettings.{site_of}
use Rattle.client_model.specs.IfaceSteps.{IfaceStep}
use Rattle.evidence_words.specs.Entries.{Entry, Offer, offers_on}
use Rattle.evidence_words.specs.IfaceLives.{Met, entry_of, shown, IsLived}
use Rattle.lease_evidence.specs.Exchanges.{messages_at, seen_in}
use Rattle.lease_evidence.specs.Replies.{reply_at}
use Rattle.lease_evidence.specs.SevenTurns.{opening}
use Rattle.lease_evidence.proofs.Spoken.{message_said}
use Rattle.lease_progress.specs.FairTurns.{Fair}
use Rattle.lease_progress.specs.LeaseStays.{Renewable}
use Rattle.lease_progress.specs.Prompt.{IsPrompt}
use Rattle.lease_progress.specs.Serving.{BroadcastAlone}
use Rattle.lease_keeping.specs.KeptLives.{unprobed, own_macs, beginning, granted_terms, renews, rebinds, acked, quiet, two_rebindings, ReboundLife}
use Rattle.lease_keeping.proofs.Chains.{Chain}
use Rattle.lease_keeping.proofs.Lives.{messages}
use Rattle.lease_keeping.proofs.ServerFrames.{heard, ack1_heard, ack1_bytes, no_bytes, fits, site, after, turned, told, told_turn}
use Rattle.lease_keeping.proofs.OneTurns.{silent_entry, quiet_fair, quiet_renewable, silent_next, request_next, vain_next, seen_by}
use Rattle.lease_keeping.proofs.FirstTurns.{m3, a3, SaidBy, prompt3, bound3, msgs3, past2, past3, open_one, replied, chain3, served, fair3, renewable3, extending, numbered, open_in, ack_fair}
use Rattle.lease_keeping.proofs.RenewedLife.{renewal, m4, f4, mets4, a4, lived4, DueSo, msgs4, past4, y2, seen4}

-- ---- two rebindings

abbrev rebinding : (xid : ℕ) → Sent4
rebinding xid = sent_of (rebinding_request (site_of unprobed) (granted_terms 0 0) xid)

abbrev r5 : Met
r5 = quiet 1862000 (rebinds 1)

abbrev r6 : Met
r6 = acked 1862500 1

abbrev r7 : Met
r7 = quiet 3662000 (renews 2)

abbrev r8 : Met
r8 = quiet 3722000 (rebinds 1)

abbrev r9 : Met
r9 = acked 3722500 1

abbrev g5 : Iface
g5 = (turned r5 f4).iface

abbrev g6 : Iface
g6 = (told 1862500 (heard kind.Ack 1 5) g5).iface

abbrev g7 : Iface
g7 = (turned r7 g6).iface

abbrev g8 : Iface
g8 = (turned r8 g7).iface

u6 : turned r6 g5 ≡ told 1862500 (heard kind.Ack 1 5) g5
u6 = told_turn 1862500 1 5 kind.Ack ack1_heard [] g5 refl refl

u9 : turned r9 g8 ≡ told 3722500 (heard kind.Ack 1 5) g8
u9 = told_turn 3722500 1 5 kind.Ack ack1_heard [] g8 refl refl

abbrev turns5 : List Met
turns5 = r5 ∷ mets4

abbrev turns6 : List Met
turns6 = r6 ∷ turns5

abbrev turns7 : List Met
turns7 = r7 ∷ turns6

abbrev turns8 : List Met
turns8 = r8 ∷ turns7

b5 : after turns5 ≡ g5
b5 = ap (λ (f : Iface). (turned r5 f).iface) a4

b6 : after turns6 ≡ g6
b6 = ap (λ (f : Iface). (turned r6 f).iface) b5 ∙ ap (λ (step : IfaceStep). step.iface) u6

b7 : after turns7 ≡ g7
b7 = ap (λ (f : Iface). (turned r7 f).iface) b6

b8 : after turns8 ≡ g8
b8 = ap (λ (f : Iface). (turned r8 f).iface) b7

begun5 : IsLived own_macs beginning opening turns5
unfolding count_leading_zeros tick_turned
begun5 = (lit< tt, no_bytes, refl, subst (λ (f : Iface). SaidBy r5.offers (turned r5 f)) (sym a4) refl, lived4)

begun6 : IsLived own_macs beginning opening turns6
unfolding count_leading_zeros tick_turned
begun6 = (
  lit< tt,
  ack1_bytes,
  refl,
  subst (λ (f : Iface). SaidBy r6.offers (turned r6 f)) (sym b5) (subst (SaidBy r6.offers) (sym u6) refl),
  begun5,
)

begun7 : IsLived own_macs beginning opening turns7
unfolding count_leading_zeros tick_turned
begun7 = (lit< tt, no_bytes, refl, subst (λ (f : Iface). SaidBy r7.offers (turned r7 f)) (sym b6) refl, begun6)

begun8 : IsLived own_macs beginning opening turns8
unfolding count_leading_zeros tick_turned
begun8 = (lit< tt, no_bytes, refl, subst (λ (f : Iface). SaidBy r8.offers (turned r8 f)) (sym b7) refl, begun7)

begun9 : IsLived own_macs beginning opening two_rebindings
unfolding count_leading_zeros tick_turned
begun9 = (
  lit< tt,
  ack1_bytes,
  refl,
  subst (λ (f : Iface). SaidBy r9.offers (turned r9 f)) (sym b8) (subst (SaidBy r9.offers) (sym u9) refl),
  begun8,
)

prompt9 : IsPrompt own_macs beginning opening two_rebindings
unfolding count_leading_zeros tick_turned
prompt9 = (
  lit≤ tt,
  subst (DueSo 3722000 3722500) (sym b8) (lit≤ tt),
  (
    lit≤ tt,
    subst (DueSo 3662000 3722000) (sym b7) (lit≤ tt),
    (
      lit≤ tt,
      subst (DueSo 1862500 3662000) (sym b6) (lit≤ tt),
      (
        lit≤ tt,
        subst (DueSo 1862000 1862500) (sym b5) (lit≤ tt),
        (
          lit≤ tt,
          subst (DueSo 1802000 1862000) (sym a4) (lit≤ tt),
          (lit≤ tt, subst (DueSo 2500 1802000) (sym a3) (lit≤ tt), prompt3),
        ),
      ),
    ),
  ),
)

says5 : messages_at site (entry_of r5) ≡ Some (rebinding 1) ∷ []
unfolding count_leading_zeros tick_turned
says5 = messages own_macs beginning fits tt opening r5 mets4 begun5 ∙ ap (λ (f : Iface). map message_said (turned r5 f).said) a4

says6 : messages_at site (entry_of r6) ≡ []
unfolding count_leading_zeros tick_turned
says6 =
    messages own_macs beginning fits tt opening r6 turns5 begun6 ∙ ap (λ (f : Iface). map message_said (turned r6 f).said) b5
    ∙ ap (λ (step : IfaceStep). map message_said step.said) u6

says7 : messages_at site (entry_of r7) ≡ Some (renewal 2) ∷ []
unfolding count_leading_zeros tick_turned
says7 = messages own_macs beginning fits tt opening r7 turns6 begun7 ∙ ap (λ (f : Iface). map message_said (turned r7 f).said) b6

says8 : messages_at site (entry_of r8) ≡ Some (rebinding 1) ∷ []
unfolding count_leading_zeros tick_turned
says8 = messages own_macs beginning fits tt opening r8 turns7 begun8 ∙ ap (λ (f : Iface). map message_said (turned r8 f).said) b7

says9 : messages_at site (entry_of r9) ≡ []
unfolding count_leading_zeros tick_turned
says9 =
    messages own_macs beginning fits tt opening r9 turns8 begun9 ∙ ap (λ (f : Iface). map message_said (turned r9 f).said) b8
    ∙ ap (λ (step : IfaceStep). map message_said step.said) u9

abbrev shown5 : List Entry
shown5 = shown opening turns5

abbrev shown6 : List Entry
shown6 = shown opening turns6

abbrev shown7 : List Entry
shown7 = shown opening turns7

abbrev shown8 : List Entry
shown8 = shown opening turns8

abbrev z3 : Exchange4
z3 = extending 1 1862000

abbrev z4 : Exchange4
z4 = extending 2 3662000

abbrev z5 : Exchange4
z5 = extending 1 3722000

look5 : seen_in site shown5 ≡ open_one 3 z3
look5 = seen_by (entry_of r5) past4 (Some (rebinding 1) ∷ []) (open_one 2 y2) says5 seen4

look6 : seen_in site shown6 ≡ open_one 3 z3
look6 = seen_by (entry_of r6) shown5 [] (open_one 3 z3) says6 look5

look7 : seen_in site shown7 ≡ open_one 4 z4
look7 = seen_by (entry_of r7) shown6 (Some (renewal 2) ∷ []) (open_one 3 z3) says7 look6

look8 : seen_in site shown8 ≡ open_one 5 z5
look8 = seen_by (entry_of r8) shown7 (Some (rebinding 1) ∷ []) (open_one 4 z4) says8 look7

look9 : seen_in site (shown opening two_rebindings) ≡ open_one 5 z5
look9 = seen_by (entry_of r9) shown8 [] (open_one 5 z5) says9 look8

answer6 : reply_at site z3 (entry_of r6) ≡ answer.Ack (granted_terms 1862000 1862500)
unfolding count_leading_zeros
answer6 = ap (replied 1862500 z3) ack1_heard

answer9 : reply_at site z5 (entry_of r9) ≡ answer.Ack (granted_terms 3722000 3722500)
unfolding count_leading_zeros
answer9 = ap (replied 3722500 z5) ack1_heard

link4 : Chain site BroadcastAlone 1000 (entry_of m4) past3
link4 = (silent_next BroadcastAlone (entry_of m4) (entry_of m3) past2 msgs3, chain3 BroadcastAlone)

link5 : Chain site BroadcastAlone 1000 (entry_of r5) past4
link5 = (vain_next BroadcastAlone (entry_of r5) (entry_of m4) past3 (renewal 2) msgs4 refl refl, link4)

link6 : Chain site BroadcastAlone 1000 (entry_of r6) shown5
link6 = (
  request_next BroadcastAlone (entry_of r6) (entry_of r5) past4 (rebinding 1) says5 refl (numbered 3 z3) (open_in shown5 3 z3 look5) (ap is_grant answer6),
  link5,
)

link7 : Chain site BroadcastAlone 1000 (entry_of r7) shown6
link7 = (silent_next BroadcastAlone (entry_of r7) (entry_of r6) shown5 says6, link6)

link8 : Chain site BroadcastAlone 1000 (entry_of r8) shown7
link8 = (vain_next BroadcastAlone (entry_of r8) (entry_of r7) shown6 (renewal 2) says7 refl refl, link7)

link9 : Chain site BroadcastAlone 1000 (entry_of r9) shown8
link9 = (
  request_next BroadcastAlone (entry_of r9) (entry_of r8) shown7 (rebinding 1) says8 refl (numbered 5 z5) (open_in shown8 5 z5 look8) (ap is_grant answer9),
  link8,
)

rebound6 : Fair site BroadcastAlone 1000 (entry_of r6) shown5 × Renewable site BroadcastAlone 1000 (entry_of r6) shown5
rebound6 = ack_fair BroadcastAlone 1862000 1862500 1 shown5 (numbered 3 z3) (lit≤ tt) (open_in shown6 3 z3 look6) answer6 link6

rebound9 : Fair site BroadcastAlone 1000 (entry_of r9) shown8 × Renewable site BroadcastAlone 1000 (entry_of r9) shown8
rebound9 = ack_fair BroadcastAlone 3722000 3722500 1 shown8 (numbered 5 z5) (lit≤ tt) (open_in (shown opening two_rebindings) 5 z5 look9) answer9 link9

-- a turn without input
quiet_so : (at : ℕ) (said : List Offer) (past : List Entry) → list_any (λ o. not o.taken) (offers_on 1 said) ≡ false
    → Chain site BroadcastAlone 1000 (silent_entry BroadcastAlone at said) past → Fair site BroadcastAlone 1000 (silent_entry BroadcastAlone at said) past
quiet_so at said past taken chain =
    quiet_fair BroadcastAlone at said past taken (served BroadcastAlone (silent_entry BroadcastAlone at said) past chain)

pub rebound_life : ReboundLife
rebound_life = record {
  well = record {
    fits = fits;
    typed = tt;
    runs = refl;
    up = refl;
    lived = begun9;
    prompt = prompt9;
    fair = (
      rebound9.0,
      (
        quiet_so 3722000 r8.offers shown7 refl link8,
        (
          quiet_so 3662000 r7.offers shown6 refl link7,
          (
            rebound6.0,
            (quiet_so 1862000 r5.offers past4 refl link5, (quiet_so 1802000 m4.offers past3 refl link4, fair3 BroadcastAlone)),
          ),
        ),
      ),
    );
  };
  renewable = (
    rebound9.1,
    (
      quiet_renewable BroadcastAlone 3722000 r8.offers shown7,
      (
        quiet_renewable BroadcastAlone 3662000 r7.offers shown6,
        (
          rebound6.1,
          (
            quiet_renewable BroadcastAlone 1862000 r5.offers past4,
            (quiet_renewable BroadcastAlone 1802000 m4.offers past3, renewable3 BroadcastAlone),
          ),
        ),
      ),
    ),
  );
  bound = bound3;
}
