use Rattle.std.proofs.Common.{◌≡◌, ℕ, List, Option, refl, ap, ◌∙◌, map}
use Rattle.std.specs.Option.{option_map}
use Rattle.audit_words.specs.Shown.{entry_shown, offer_shown, site_shown}
use Rattle.evidence_words.specs.Entries as told
use Rattle.evidence_words.specs.Inputs as inputs
use Rattle.evidence_words.specs.Inputs.{index_at}
use Rattle.lease6_evidence.specs.Replies6.{asks_at}
use Rattle.lease6_judge.specs.Terms.{stays}
use Rattle.item_judge.specs.Asking.{AskingContent, asking_shown, heard_at, heard_by, with_answer}
use Rattle.item_judge.specs.Judging.{TellsTurn, offers_next}
use Rattle.item_judge.specs.Kept.{asking_content, heard_content}
use Rattle.item_judge.specs.Telling.{asking_in}
use Rattle.item_judge.specs.Turns.{reported_at}
use Rattle.item_judge.proofs.Turned.{tables_turned}
use Rattle.item_judge.proofs.judge.ItemJudge.turned.Goals as goal

pub returns : goal.returns
returns c = λ past tells.
    let site : inputs.Site = site_shown c.args.site.now in
    let e : told.Entry = entry_shown c.args.entry.now in
    let asked : option_map asking_content c.in_ok-asking.asking ≡ asking_shown site e (asking_in site past) =
    c.in_ok-asking.ensures ∙ (λ i. offers_next site (map offer_shown (c.deref.ensures.value i)) (tells.asking i)) in
    let heard : option_map heard_content c.in_ok-heard.heard ≡ heard_at site e (asking_in site past) =
    c.in_ok-heard.ensures ∙ (λ i. heard_by site (asked i) (c.message6_at.ensures i)) in
    record {
      up = c.carrier_after.ensures ∙ (λ i. inputs.carrier_after (c.index-index.ensures i) e.event (tells.up i));
      asking = c.with_answer.ensures ∙ (λ i. with_answer (heard i) (asked i));
      tables =
          tables_turned site e past _
          (record {
            stays = c.stays.ensures ∙ (λ i. stays (tells.up i) (c.index-index.ensures i) e.event);
            reported = c.reported_at.ensures ∙ (λ i. reported_at (c.index-index.ensures i) e.event);
            came = refl;
            heard = heard;
          })
          c.args.self.tables.items c.in_ok-tables_turned.field-0.items (asks_at site) c.in_ok-tables_turned.ensures tells.tables;
    }
