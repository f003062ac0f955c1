use Rattle.std.proofs.Common.{◌∙◌, ◌&&◌, not, List, sym, subst, ap}
use Rattle.std.specs.List.{list_any}
use Rattle.own_frames4.specs.LeaseEvidence.LeaseBasis.{tells_end}
use Rattle.lease_judge.specs.Judge.{stays}
use Rattle.v4_message.specs.Requests.{ask_content}
use Rattle.v4_client.specs.Settings.{settings_content}
use Rattle.audit_words.specs.Shown.{site_shown}
use Rattle.audit_words.specs.declared.shown.Offer.{Offer}
use Rattle.own_frames4.specs.Offered.{messages_by}
use Rattle.lease_judge.specs.Turns.{JudgeContent, Tells}
use Rattle.lease_judge.specs.Watched.{judge_shown, sees_by}
use Rattle.lease_judge.proofs.TurnsTold.{still_tells}
use Rattle.lease_judge.proofs.turns.LeaseJudge.turned.Goals as goal

pub returns : goal.returns
returns c =
    λ past tells.
    let site = c.args.site.now in
    let entry = c.args.entry.now in
    let old = c.self.inside in
    still_tells site entry past (settings_content old.set) old.watch c.in_ok-seen.seen c.heard-watch.result old.probes c.in_ok-probes.probes
    (record {
      messages = c.in_ok-messages.messages.items;
      calm = c.is_calm-calm.result;
      calmly =
          c.is_calm-calm.ensures
          ∙ (λ i. stays old.watch.up (c.index.ensures i) entry.event && not (list_any tells_end (c.deref-2.ensures.value i)));
      read =
          c.in_ok-messages.ensures
          ∙ ap (λ (offers : List Offer). messages_by site.managed (ask_content old.set.ask) offers) c.deref.ensures.value;
      sees =
          c.in_ok-seen.ensures.seen
          ∙ (λ i. sees_by entry.moment (c.index-2.ensures i) entry.event (c.deref-3.ensures.value i) (judge_shown old.watch));
      hears = c.heard-watch.ensures.shown;
    })
    c.in_ok-probes.ensures
    (subst (λ (content : JudgeContent). Tells content (site_shown site) past) (sym c.self.view_is) tells)
