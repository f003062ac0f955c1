-- What the judge of leases in the code holds after some turns.
use Rattle.std.specs.Prelude.{◌≡◌, List}
use Rattle.v4_message.specs.Requests.{AskFits}
use Rattle.v4_client.specs.Settings.{SettingsContent}
use Rattle.evidence_words.specs.ClientModel.ClientSettings.{settings_of}
use Rattle.evidence_words.specs.Entries.{Entry}
use Rattle.evidence_words.specs.Inputs.{Site}
use Rattle.lease_judge.specs.Judge.{judge_in}
use Rattle.lease_judge.specs.Probes.{Holds}
use Rattle.lease_judge.specs.Watched.{HasMoments, judge_shown}
use Rattle.lease_judge.specs.declared.probes.LeaseProbes.{LeaseProbes}
use Rattle.lease_judge.specs.declared.watch.Watch.{Watch}

-- what it holds: the settings of the client, what it keeps of the interface, and of the addresses that are probed
pub record JudgeContent : Type 0 where
  pub settings : SettingsContent
  pub watch : Watch
  pub probes : LeaseProbes

-- what a client says of itself fits its options, and what is kept began at moments
pub record IsSound (settings : SettingsContent) (watch : Watch) : Type 0 where
  pub asks : AskFits settings.ask
  pub moments : HasMoments watch

-- the settings are those of the interface, and what is kept is the judge's after these turns
pub record Tells (content : JudgeContent) (site : Site) (past : List Entry) : Type 0 where
  pub settings : content.settings ≡ settings_of site.duid site.managed
  pub judged : judge_shown content.watch ≡ judge_in site past
  pub probed : Holds site past content.probes
