-- After a turn that doesn't concern an interface each of its judges tells what it did before.
use Rattle.std.proofs.Common.{◌≡◌, ℕ, ◌<◌, ◌^◌, Bool, true, false, not, ◌&&◌, ◌||◌, if◌then◌else◌, List, [], ◌∷◌, Option, Some, None, IfSome, refl, sym, ap, ◌∙◌}
use Rattle.std.specs.Prelude.{◌==◌}
use Rattle.std.specs.List.{list_any}
use Rattle.net_types.specs.AddressText.{FitsIp4}
use Rattle.net_types.specs.declared.address.Ip4.{Ip4}
use Rattle.net_types.specs.declared.address.Net6.{Net6}
use Rattle.v4_frames.specs.declared.sent.Sent4.{Sent4}
use Rattle.v6_frames.specs.Spelled.{Sent6}
use Rattle.v6_message.specs.Replies.{Content6}
use Rattle.v4_client.specs.declared.states.Answer4.{Answer4}
use Rattle.v4_client.specs.declared.states.Answer4.TheVariants.{Nothing}
use Rattle.v4_client.specs.Messages.{Arrival}
use Rattle.v6_client.specs.V6Items.declared.asks.IaAsk.{IaAsk}
use Rattle.evidence_words.specs.ClientModel.ClientSettings.{settings_of}
use Rattle.evidence_words.specs.Entries.{Entry}
use Rattle.evidence_words.specs.Inputs.{Site, carrier_after, has_carrier, index_at, is_stopped}
use Rattle.share_judge.specs.LeaseEvidence.Exchanges.{Numbered, Seen, messages_at, seen_in, show}
use Rattle.share_judge.specs.LeaseEvidence.LeaseBasis.{tells_end}
use Rattle.share_judge.specs.LeaseEvidence.Replies.{reply_at, reply_by}
use Rattle.item_judge.specs.Lease6Evidence.Exchanges6.{Numbered6, messages6_at, seen6_in, show6}
use Rattle.item_judge.specs.Lease6Evidence.Replies6.{asks_at, message6_at}
use Rattle.static_judge.specs.ProbeTables.ProbeTimes.{is_past, times_in}
use Rattle.static_judge.specs.ProbeTables.declared.times.ProbeTimes.{ProbeTimes}
use Rattle.static_judge.specs.Judge as of_statics
use Rattle.static_judge.specs.declared.judge.StaticJudge.{StaticJudge}
use Rattle.lease_judge.specs.Judge.{Judge, hears, hears_in, is_calm, judge_in, sees, stays, told}
use Rattle.lease_judge.specs.ProbedTurns.{IsSettled, calm_in, probed_in}
use Rattle.lease_judge.specs.Turns as of_lease
use Rattle.item_judge.specs.Lease6Judge.HeardTerms.{good_in, good_reply, heard_by, heard_in}
use Rattle.item_judge.specs.Lease6Judge.Terms.{Term, if_left, is_alone, is_left}
use Rattle.item_judge.specs.Lease6Judge.Terms as terms
use Rattle.item_judge.specs.Lease6Judge.Watching.{Replied, Watch, watch_in}
use Rattle.item_judge.specs.Asking as asking
use Rattle.item_judge.specs.Asking.{AskingContent, Heard, all_next, asking_after, asking_shown, heard_at, with_answer}
use Rattle.item_judge.specs.Judging.{TellsItems, TellsTables}
use Rattle.item_judge.specs.Judging as of_items
use Rattle.item_judge.specs.Telling.{asking_in}
use Rattle.item_judge.specs.declared.judge.ItemJudge.{ItemJudge}
use Rattle.item_judge.specs.declared.table.ItemTable.{ItemTable}
use Rattle.share_judge.specs.KeptJudge.Asking4 as asking4
use Rattle.share_judge.specs.KeptJudge.Asking4.{Tells4, kept4_in}
use Rattle.share_judge.specs.KeptJudge.Asking6 as asking6
use Rattle.share_judge.specs.KeptJudge.Asking6.{Tells6, kept6_in}
use Rattle.share_judge.specs.KeptJudge.Staying as staying
use Rattle.share_judge.specs.KeptJudge.declared.standing.Asked4.{Asked4}
use Rattle.share_judge.specs.KeptJudge.declared.standing.Asked4.TheVariants as asked4
use Rattle.share_judge.specs.KeptJudge.declared.standing.Asked6.{Asked6}
use Rattle.share_judge.specs.KeptJudge.declared.standing.Kept4.{Kept4}
use Rattle.share_judge.specs.KeptJudge.declared.standing.Kept6.{Kept6}
use Rattle.audit_seats.specs.Concern.{concerns}
use Rattle.iface_judge.specs.Telling.{TellsKept6}
use Rattle.iface_judge.proofs.IdleTurns.{alone, carrier_kept, items_stay, kept_stays, lease_stays, no_arrival, no_input, no_messages4, no_messages6, no_stop, none_came6, times_kept}

-- ---- what a turn without a message makes of what is kept

both : (a b : Bool) → a ≡ true → b ≡ true → (a && b) ≡ true
both true true one other = refl
both true false one other = absurd cc
both false b one other = absurd cc

either_way : {X : Type 0} (b : Bool) (x : X) → (if b then x else x) ≡ x
either_way true x = refl
either_way false x = refl

if_all : {X : Type 0} (o : Option X) (P Q : X → Type 0) → ((x : X) → P x → Q x) → IfSome o P → IfSome o Q
if_all None P Q so holds = tt
if_all (Some x) P Q so holds = so x holds

-- what was probed by then stays so, and nothing else comes to it
merged : (calm ready probed : Bool) → calm ≡ true → (ready ≡ true → probed ≡ true) → (calm && (ready || probed)) ≡ probed
merged true true probed is so = sym (so refl)
merged true false probed is so = refl
merged false ready probed is so = absurd cc

nothing_answered : (asked : Asked4) → asking4.answered asked Nothing ≡ asked
nothing_answered asked4.Nothing = refl
nothing_answered (asked4.Again xid confirmed) = refl
nothing_answered asked4.Over = refl

none_good : (site : Site) (current : Option Numbered6) → good_in site current None ≡ None
none_good site None = refl
none_good site (Some opened) = refl

none_heard : (site : Site) (open_one : Option AskingContent) → asking.heard_by site open_one None ≡ None
none_heard site None = refl
none_heard site (Some asking) = refl

none_replied : (site : Site) (current : Option Numbered6) → asking6.is_good_in site current None ≡ false
none_replied site None = refl
none_replied site (Some opened) = refl

module _ (site : Site) (e : Entry) (past : List Entry) (idle : concerns (index_at site) e ≡ false) where
  carrier_on : (up : Bool) → carrier_after (index_at site) e.event up ≡ up
  carrier_on up = carrier_kept (index_at site) e.event up (no_input site e idle)

  -- ---- static addresses

  pub statics_on : (judge : StaticJudge) → of_statics.Tells judge site past → of_statics.Tells judge site (e ∷ past)
  statics_on judge tells = record {
    up = tells.up ∙ sym (carrier_on (has_carrier site past));
    stopped = tells.stopped ∙ sym (ap (λ (b : Bool). b || is_stopped past) (no_stop (index_at site) e.event (no_input site e idle)));
  }

  -- ---- leases

  calm_on : (judge : Judge) → is_calm site e judge ≡ true
  calm_on judge =
      both (stays judge.up (index_at site) e.event) (not (list_any tells_end (messages_at site e)))
      (lease_stays judge.up (index_at site) e.event (no_input site e idle))
      (ap (λ (messages : List (Option Sent4)). not (list_any tells_end messages)) (no_messages4 site e idle))

  sees_on : (judge : Judge) → sees site e judge ≡ judge
  sees_on judge = λ i. record {
    up = carrier_on judge.up i;
    seen = ap (λ (messages : List (Option Sent4)). show e.moment messages judge.seen) (no_messages4 site e idle) i;
    answered = judge.answered;
    granted = ap (λ (b : Bool). if b then judge.granted else None) (calm_on judge) i;
  }

  says_nothing : (opened : Numbered) → reply_at site opened.exchange e ≡ Nothing
  says_nothing opened = ap (λ (came : Option Arrival). reply_by (settings_of site.duid site.managed) opened.exchange came) (no_arrival site e idle)

  hears_on : (judge : Judge) (current : Option Numbered) → hears_in current site e judge ≡ judge
  hears_on judge None = refl
  hears_on judge (Some opened) =
      ap (λ (said : Answer4). if judge.answered == opened.number then judge else told opened said judge) (says_nothing opened)
      ∙ either_way (judge.answered == opened.number) judge

  judge_on : judge_in site (e ∷ past) ≡ judge_in site past
  judge_on = ap (hears site e) (sees_on (judge_in site past)) ∙ hears_on (judge_in site past) (judge_in site past).seen.current

  times_on : (addr : Ip4) → times_in (calm_in site) site addr (e ∷ past) ≡ times_in (calm_in site) site addr past
  times_on addr = times_kept site e idle (calm_in site) past (calm_on (judge_in site past)) addr

  module _ (settled : IsSettled site past) (fits : e.moment < 2 ^ 64) where
    probed_on : (addr : Ip4) → FitsIp4 addr → probed_in (calm_in site) site addr (e ∷ past) ≡ probed_in (calm_in site) site addr past
    probed_on addr of =
        merged (calm_in site e past) (is_past 2000 (times_in (calm_in site) site addr past).third e.moment) (probed_in (calm_in site) site addr past)
        (calm_on (judge_in site past)) (λ ready. settled addr of e.moment fits ready)

    pub leases_on : (content : of_lease.JudgeContent) → of_lease.Tells content site past → of_lease.Tells content site (e ∷ past)
    leases_on content tells = record {
      settings = tells.settings;
      judged = tells.judged ∙ sym judge_on;
      probed = record {
        table = λ addr of. tells.probed.table addr of ∙ sym (times_on addr);
        probed = λ addr of. tells.probed.probed addr of ∙ sym (probed_on addr of);
      };
    }

  -- ---- items of DHCPv6

  asking_on : asking_in site (e ∷ past) ≡ asking_in site past
  asking_on =
      let open_one = asking_in site past in
      let none : heard_at site e open_one ≡ None =
      ap (λ (came : Option Content6). asking.heard_by site (asking_shown site e open_one) came) (none_came6 site e idle)
      ∙ none_heard site (asking_shown site e open_one) in
      ap (λ (heard : Option Heard). with_answer heard (asking_shown site e open_one)) none
      ∙ ap (λ (messages : List (Option Sent6)). all_next messages open_one) (no_messages6 site e idle)

  good_on : (watch : Watch) → good_reply site e watch ≡ None
  good_on watch =
      ap (λ (came : Option Content6). good_in site (show6 (messages6_at site e) watch.seen).current came) (none_came6 site e idle)
      ∙ none_good site (show6 (messages6_at site e) watch.seen).current

  left_on : (ask : IaAsk) (net : Net6) (up : Bool) → is_left site ask net e up ≡ true
  left_on ask net up =
      both (terms.stays up (index_at site) e.event) (is_alone (index_at site) ask.kind net.ip e.event)
      (items_stay up (index_at site) e.event (no_input site e idle)) (alone (index_at site) ask.kind net.ip e.event (no_input site e idle))

  term_on : (ask : IaAsk) (net : Net6) → heard_in site ask net (e ∷ past) ≡ heard_in site ask net past
  term_on ask net =
      let watch = watch_in site past in
      let term = heard_in site ask net past in
      ap (λ (replied : Option Replied). heard_by e.moment watch.answered ask net replied (if_left (is_left site ask net e watch.up) term)) (good_on watch)
      ∙ ap (λ (left : Bool). if_left left term) (left_on ask net watch.up)

  table_on : (table : ItemTable) (ask : IaAsk) → TellsItems site past table ask → TellsItems site (e ∷ past) table ask
  table_on table ask tells = record { ask_is = tells.ask_is; terms = λ net fits. tells.terms net fits ∙ sym (term_on ask net) }

  tables_on : (tables : List ItemTable) (asks : List IaAsk) → TellsTables site past tables asks → TellsTables site (e ∷ past) tables asks
  tables_on [] [] tells = tt
  tables_on [] (ask ∷ asks) tells = tells
  tables_on (table ∷ tables) [] tells = tells
  tables_on (table ∷ tables) (ask ∷ asks) tells = (table_on table ask tells.0, tables_on tables asks tells.1)

  pub items_on : (judge : ItemJudge) → of_items.Tells judge site past → of_items.Tells judge site (e ∷ past)
  items_on judge tells = record {
    up = tells.up ∙ sym (carrier_on (has_carrier site past));
    asking = tells.asking ∙ sym asking_on;
    tables = tables_on judge.tables.items (asks_at site) tells.tables;
  }

  -- ---- kept leases

  answer_on : (current : Option Numbered) → asking4.answer_in site e current ≡ Nothing
  answer_on None = refl
  answer_on (Some opened) = says_nothing opened

  kept4_on : (address : Ip4) → kept4_in site address (e ∷ past) ≡ kept4_in site address past
  kept4_on address =
      let kept = kept4_in site address past in
      let said = asking4.answer_at site e past in
      let asked : asking4.answered (asking4.said_all address (messages_at site e)
      (asking4.if_stays (staying.stays kept.up (index_at site) e.event) kept.asked)) said
      ≡ kept.asked =
      ap (λ (messages : List (Option Sent4)).
      asking4.answered (asking4.said_all address messages (asking4.if_stays (staying.stays kept.up (index_at site) e.event) kept.asked)) said)
      (no_messages4 site e idle)
      ∙ ap (λ (b : Bool). asking4.answered (asking4.if_stays b kept.asked) said) (kept_stays kept.up (index_at site) e.event (no_input site e idle))
      ∙ ap (λ (a : Answer4). asking4.answered kept.asked a) (answer_on (seen_in site (e ∷ past)).current)
      ∙ nothing_answered kept.asked in
      λ i. record { up = carrier_on kept.up i; asked = asked i }

  pub kept4_told_on : (kept : Kept4) → Tells4 kept site past → Tells4 kept site (e ∷ past)
  kept4_told_on kept tells =
      if_all site.kept4 (λ lease. kept ≡ kept4_in site lease.net.ip past) (λ lease. kept ≡ kept4_in site lease.net.ip (e ∷ past))
      (λ lease is. is ∙ sym (kept4_on lease.net.ip)) tells

  kept6_on : kept6_in site (e ∷ past) ≡ kept6_in site past
  kept6_on =
      let kept = kept6_in site past in
      let replied = asking6.has_reply site e past in
      let none : replied ≡ false =
      ap (λ (came : Option Content6). asking6.is_good_in site (seen6_in site (e ∷ past)).current came) (none_came6 site e idle)
      ∙ none_replied site (seen6_in site (e ∷ past)).current in
      let asked : asking6.unless_replied replied
      (asking6.said6_all e.moment (messages6_at site e) (asking6.if_stays6 (staying.stays kept.up (index_at site) e.event) kept.asked)) ≡ kept.asked =
      ap (λ (b : Bool). asking6.unless_replied b
      (asking6.said6_all e.moment (messages6_at site e) (asking6.if_stays6 (staying.stays kept.up (index_at site) e.event) kept.asked))) none
      ∙ ap (λ (messages : List (Option Sent6)).
      asking6.said6_all e.moment messages (asking6.if_stays6 (staying.stays kept.up (index_at site) e.event) kept.asked)) (no_messages6 site e idle)
      ∙ ap (λ (b : Bool). asking6.if_stays6 b kept.asked) (kept_stays kept.up (index_at site) e.event (no_input site e idle)) in
      λ i. record { up = carrier_on kept.up i; asked = asked i }

  pub kept6_told_on : (kept : Kept6) → TellsKept6 kept site past → TellsKept6 kept site (e ∷ past)
  kept6_told_on kept tells =
      if_all site.kept6 (λ lease. Tells6 kept site past) (λ lease. Tells6 kept site (e ∷ past)) (λ lease is. is ∙ sym kept6_on) tells
