-- What the code holds after a turn tells of it too.
use Rattle.std.proofs.Common.{◌≡◌, ℕ, Bool, not, ◌&&◌, ◌||◌, List, ◌∷◌, Option, Some, None, refl, sym, ap, subst, ◌∙◌}
use Rattle.std.specs.List.{list_any}
use Rattle.net_types.specs.AddressText.{FitsIp4}
use Rattle.net_types.specs.declared.address.Net.TheVariants.{V4}
use Rattle.net_types.specs.declared.address.Net4.{Net4}
use Rattle.v4_message.specs.Requests.{AskFits}
use Rattle.v4_frames.specs.declared.sent.Sent4.{Sent4}
use Rattle.v4_client.specs.Settings.{SettingsContent}
use Rattle.evidence_words.specs.ClientModel.ClientSettings.{settings_of}
use Rattle.evidence_words.proofs.ClientModel.AskFitting.{ask_fits}
use Rattle.evidence_words.specs.Entries as told
use Rattle.evidence_words.specs.Inputs as told_of
use Rattle.evidence_words.specs.Inputs.{index_at}
use Rattle.own_frames4.specs.LeaseEvidence.Exchanges as exchanges
use Rattle.own_frames4.specs.LeaseEvidence.LeaseBasis.{tells_end}
use Rattle.audit_words.specs.Shown.{FitsSite, entry_shown, site_shown}
use Rattle.audit_words.specs.declared.shown.Entry.{Entry}
use Rattle.audit_words.specs.declared.shown.Site.{Site}
use Rattle.own_frames4.specs.Offered.{messages_by}
use Rattle.lease_judge.specs.Judge as judge
use Rattle.lease_judge.specs.Judge.{Judge, stays, turned, judge_in}
use Rattle.lease_judge.specs.Leased.{grants, is_leased}
use Rattle.lease_judge.specs.Probes.{IsTurned, probed_of}
use Rattle.lease_judge.specs.Watched.{HasMoments, hears_in, hears_by, judge_shown, sees_by}
use Rattle.lease_judge.specs.Turns.{JudgeContent, IsSound, Tells}
use Rattle.lease_judge.specs.declared.probes.LeaseProbes.{LeaseProbes}
use Rattle.lease_judge.specs.declared.watch.Watch.{Watch}
use Rattle.lease_judge.proofs.ProbesHeld.{still_held}

-- ---- the settings

pub first_sound : (site : Site) (settings : SettingsContent) (watch : Watch) → FitsSite site
    → settings ≡ settings_of (site_shown site).duid site.managed → HasMoments watch → IsSound settings watch
first_sound site settings watch fits is moments = record {
  asks =
      subst (λ (s : SettingsContent). AskFits s.ask) (sym is) (ask_fits (site_shown site).duid site.managed fits.duid fits.managed);
  moments = moments;
}

-- ---- a turn

hears_same : (site : told_of.Site) (e : told.Entry) (current : Option exchanges.Numbered) (j : Judge)
    → hears_in (settings_of site.duid site.managed) site e current j ≡ judge.hears_in current site e j
hears_same site e None j = refl
hears_same site e (Some opened) j = refl

-- a turn by what the code makes of the entry
pub record Meets (settings : SettingsContent) (site : Site) (entry : Entry) (old seen new : Watch) : Type 0 where
  pub messages : List (Option Sent4)
  pub calm : Bool
  pub calmly : calm ≡ (stays old.up (index_at (site_shown site)) entry.event && not (list_any tells_end messages))
  pub read : messages ≡ messages_by site.managed settings.ask entry.offers.items
  pub sees : judge_shown seen ≡ sees_by entry.moment (index_at (site_shown site)) entry.event messages (judge_shown old)
  pub hears : judge_shown new ≡ hears_by settings (site_shown site) (entry_shown entry) (judge_shown seen)

module _ (site : Site) (entry : Entry) (past : List told.Entry) where
  abbrev s : told_of.Site
  s = site_shown site

  abbrev e : told.Entry
  e = entry_shown entry

  abbrev by : SettingsContent → Judge → Judge
  by settings j =
      hears_by settings s e (sees_by entry.moment (index_at s) entry.event (messages_by site.managed settings.ask entry.offers.items) j)

  by_own : by (settings_of s.duid s.managed) (judge_in s past) ≡ turned s e (judge_in s past)
  by_own =
      hears_same s e (judge.sees s e (judge_in s past)).seen.current (judge.sees s e (judge_in s past))

  -- whether the turn is calm, by what the code holds
  abbrev calm_by : Judge → List (Option Sent4) → Bool
  calm_by j messages = stays j.up (index_at s) entry.event && not (list_any tells_end messages)

  pub still_tells : (settings : SettingsContent) (old seen new : Watch) (probes after : LeaseProbes)
      → (meets : Meets settings site entry old seen new) → IsTurned site entry meets.calm probes after
      → Tells (record { settings = settings; watch = old; probes = probes }) s past
      → Tells (record { settings = settings; watch = new; probes = after }) s (e ∷ past)
  still_tells settings old seen new probes after meets turned tells = record {
    settings = tells.settings;
    judged =
        meets.hears ∙ ap (hears_by settings s e) meets.sees
        ∙ ap (λ (ms : List (Option Sent4)). hears_by settings s e (sees_by entry.moment (index_at s) entry.event ms (judge_shown old))) meets.read
        ∙ ap (by settings) tells.judged
        ∙ ap (λ (set : SettingsContent). by set (judge_in s past)) tells.settings
        ∙ by_own;
    probed =
        still_held site entry past meets.calm probes after
        (meets.calmly
        ∙ ap (calm_by (judge_shown old)) meets.read
        ∙ ap (λ (set : SettingsContent). calm_by (judge_shown old) (messages_by site.managed set.ask entry.offers.items)) tells.settings
        ∙ ap (λ (j : Judge). calm_by j (messages_by site.managed (settings_of s.duid s.managed).ask entry.offers.items)) tells.judged)
        tells.probed turned;
  }

-- ---- the test

pub gives_so : (content : JudgeContent) (site : Site) (net : Net4) (now : ℕ) (past : List told.Entry) → FitsIp4 net.ip
    → Tells content (site_shown site) past
    → (grants (judge_shown content.watch).granted net now && (site.managed.conf.flags.noarp || probed_of content.probes net.ip))
    ≡ is_leased (site_shown site) (V4 net) now past
gives_so content site net now past fits tells =
    ap (λ (j : Judge). grants j.granted net now && (site.managed.conf.flags.noarp || probed_of content.probes net.ip)) tells.judged
    ∙ ap (λ (b : Bool). grants (judge_in (site_shown site) past).granted net now && (site.managed.conf.flags.noarp || b)) (tells.probed.probed net.ip fits)
