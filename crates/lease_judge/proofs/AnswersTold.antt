-- What the interface says and hears in a turn is told by what the code holds.
use Rattle.std.proofs.Common.{◌≡◌, List, Option, Some, None, refl, ap, ◌∙◌}
use Rattle.v4_client.specs.Settings.{SettingsContent}
use Rattle.evidence_words.specs.ClientModel.ClientSettings.{settings_of}
use Rattle.evidence_words.specs.Entries as told
use Rattle.evidence_words.specs.Inputs as told_of
use Rattle.own_frames4.specs.LeaseEvidence.Exchanges.{Numbered, Seen, messages_at, seen_in}
use Rattle.audit_words.specs.Shown.{entry_shown, site_shown}
use Rattle.audit_words.specs.declared.shown.Entry.{Entry}
use Rattle.audit_words.specs.declared.shown.Site.{Site}
use Rattle.own_frames4.specs.Offered.{messages_by}
use Rattle.lease_judge.specs.Answers.{answer_by, answer_in}
use Rattle.lease_judge.specs.Judge.{Judge, judge_in}
use Rattle.lease_judge.specs.Watched.{judge_shown}
use Rattle.lease_judge.specs.Turns.{JudgeContent, Tells}
use Rattle.lease_judge.proofs.AsObserver.{seen_same}

pub messages_so : (content : JudgeContent) (site : Site) (entry : Entry) (past : List told.Entry) → Tells content (site_shown site) past
    → messages_by site.managed content.settings.ask entry.offers.items ≡ messages_at (site_shown site) (entry_shown entry)
messages_so content site entry past tells =
    ap (λ (set : SettingsContent). messages_by site.managed set.ask entry.offers.items) tells.settings

answers_same : (site : told_of.Site) (e : told.Entry) (current : Option Numbered)
    → answer_by (settings_of site.duid site.managed) site e current ≡ answer_in site e current
answers_same site e None = refl
answers_same site e (Some opened) = refl

pub answer_so : (content : JudgeContent) (site : told_of.Site) (e : told.Entry) (past : List told.Entry) → Tells content site past
    → answer_by content.settings site e (judge_shown content.watch).seen.current ≡ answer_in site e (seen_in site past).current
answer_so content site e past tells =
    ap (λ (set : SettingsContent). answer_by set site e (judge_shown content.watch).seen.current) tells.settings
    ∙ ap (λ (j : Judge). answer_by (settings_of site.duid site.managed) site e j.seen.current) tells.judged
    ∙ answers_same site e (judge_in site past).seen.current
    ∙ ap (λ (seen : Seen). answer_in site e seen.current) (seen_same site past)
