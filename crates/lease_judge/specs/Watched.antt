-- What the code keeps of an interface, in the words of the judge, and a turn of it by what the turn shows.
use Rattle.std.specs.Prelude.{ℕ, Bool, not, ◌&&◌, ◌==◌, if◌then◌else◌, List, Option, Some, None, IfSome}
use Rattle.std.specs.List.{list_any}
use Rattle.std.specs.Option.{option_map}
use Rattle.net_types.specs.Moments.{IsMoment}
use Rattle.v4_frames.specs.declared.sent.Sent4.{Sent4}
use Rattle.v4_client.specs.Settings.{SettingsContent}
use Rattle.world.specs.declared.wakes.Event.{Event}
use Rattle.evidence_words.specs.Entries as told
use Rattle.evidence_words.specs.Inputs as told_of
use Rattle.evidence_words.specs.Inputs.{carrier_after}
use Rattle.own_frames4.specs.LeaseEvidence.Exchanges as exchanges
use Rattle.own_frames4.specs.LeaseEvidence.Exchanges.{show}
use Rattle.own_frames4.specs.LeaseEvidence.LeaseBasis.{tells_end}
use Rattle.own_frames4.specs.LeaseEvidence.Replies.{arrival_in, reply_by}
use Rattle.lease_judge.specs.Judge as judge
use Rattle.lease_judge.specs.Judge.{Judge, stays, told}
use Rattle.lease_judge.specs.declared.watch.Granted.{Granted}
use Rattle.lease_judge.specs.declared.watch.Numbered.{Numbered}
use Rattle.lease_judge.specs.declared.watch.Seen.{Seen}
use Rattle.lease_judge.specs.declared.watch.Watch.{Watch}

abbrev pub numbered_shown : Numbered → exchanges.Numbered
numbered_shown opened = record { number = opened.number; exchange = opened.exchange }

abbrev pub seen_shown : Seen → exchanges.Seen
seen_shown seen = record { count = seen.count; current = option_map numbered_shown seen.current }

abbrev pub granted_shown : Granted → judge.Granted
granted_shown granted = record { opened = numbered_shown granted.opened; terms = granted.terms }

abbrev pub judge_shown : Watch → Judge
judge_shown watch = record {
  up = watch.up;
  seen = seen_shown watch.seen;
  answered = watch.answered;
  granted = option_map granted_shown watch.granted;
}

-- the first REQUEST of the open exchange, and that of the grant, came at moments
abbrev pub HasMoment : Seen → Type 0
HasMoment seen = IfSome seen.current (λ opened. IsMoment opened.exchange.first)

pub record HasMoments (watch : Watch) : Type 0 where
  pub current : HasMoment watch.seen
  pub granted : IfSome watch.granted (λ granted. IsMoment granted.opened.exchange.first)

-- before all turns
abbrev pub first_of : (up : Bool) → Judge
first_of up = record { up = up; seen = record { count = 0; current = None }; answered = 0; granted = None }

-- after the input of a turn and the client's own messages
abbrev pub sees_by : (at index : ℕ) → Event → List (Option Sent4) → Judge → Judge
sees_by at index event messages judge = record {
  up = carrier_after index event judge.up;
  seen = show at messages judge.seen;
  answered = judge.answered;
  granted = if stays judge.up index event && not (list_any tells_end messages) then judge.granted else None;
}

-- after what a server says in the open exchange, by the settings of the client
abbrev pub hears_in : SettingsContent → told_of.Site → told.Entry → Option exchanges.Numbered → Judge → Judge
hears_in settings site e None judge = judge
hears_in settings site e (Some opened) judge =
    if judge.answered == opened.number
    then judge
    else told opened (reply_by settings opened.exchange (arrival_in site e)) judge

abbrev pub hears_by : SettingsContent → told_of.Site → told.Entry → Judge → Judge
hears_by settings site e judge = hears_in settings site e judge.seen.current judge
