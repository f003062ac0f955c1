-- What a step of the table makes of a client, and what it says.
use Rattle.std.specs.Prelude.{◌≡◌, Bool, true, false, ◌&&◌, List, [], Option, Some, None, if◌then◌else◌}
use Rattle.net_types.specs.declared.interface.Name.{Name}
use Rattle.lease_text.specs.Leases.{ValueContent, LeaseContent, lease_with}
use Rattle.v4_client.specs.declared.states.Answer4.{Answer4}
use Rattle.v4_client.specs.declared.states.Answer4.TheVariants as answer
use Rattle.v4_client.specs.declared.states.Keep4.{Keep4}
use Rattle.v4_client.specs.declared.states.Keep4.TheVariants.{Stays, Clears, Takes}
use Rattle.v4_client.specs.declared.states.News4.{News4}
use Rattle.v4_client.specs.declared.states.News4.TheVariants as news
use Rattle.v4_client.specs.declared.states.Step4.{Step4}
use Rattle.v4_client.specs.Clients.{ClientContent, OutContent, is_held}

abbrev pub kept_after : Keep4 → Name → (fresh : List ValueContent) → Option LeaseContent → Option LeaseContent
kept_after Stays name fresh kept = kept
kept_after Clears name fresh kept = None
kept_after (Takes terms) name fresh kept = Some (lease_with name terms fresh)

-- the values that come with a lease go over into it
abbrev pub fresh_after : Keep4 → (fresh : List ValueContent) → List ValueContent
fresh_after Stays fresh = fresh
fresh_after Clears fresh = fresh
fresh_after (Takes terms) fresh = []

-- the news of a lease that was held
abbrev pub is_of_held : News4 → Bool
is_of_held news.Nothing = false
is_of_held news.Bound = false
is_of_held news.Reboot = false
is_of_held news.Renew = true
is_of_held news.Rebind = true
is_of_held news.Nak = true
is_of_held news.Expire = true
is_of_held news.Stop = true

abbrev pub stays_kept : Keep4 → Bool
stays_kept Stays = true
stays_kept Clears = false
stays_kept (Takes terms) = false

-- the lease that was held is told and stays kept, so that it is copied
abbrev pub is_copied : Step4 → (held : Bool) → Bool
is_copied step held = stays_kept step.keep && is_of_held step.news && held

-- the lease that was held before, where the news is of it
abbrev pub old_of : News4 → (held : Bool) → Option LeaseContent → Option LeaseContent
old_of news held kept = if is_of_held news && held then kept else None

abbrev pub moved : Step4 → ClientContent → ClientContent
moved step c =
    record c {
      last = step.last;
      state = step.state;
      may_stand = if step.spends then false else c.may_stand;
      kept = kept_after step.keep c.settings.site.iface.name c.fresh c.kept;
      fresh = fresh_after step.keep c.fresh;
    }

abbrev pub told : Step4 → ClientContent → OutContent
told step c = record {
  say = step.say;
  arp = step.arp;
  news = step.news;
  old = old_of step.news (is_held c.state) c.kept;
}

-- the client goes on so, and says so
pub record IsStep4 (step : Step4) (old new : ClientContent) (out : OutContent) : Type 0 where
  pub goes_on : new ≡ moved step old
  pub answers : out ≡ told step old

-- an acceptable ACK
abbrev pub is_grant : Answer4 → Bool
is_grant answer.Nothing = false
is_grant (answer.Offer address server) = false
is_grant (answer.Ack terms) = true
is_grant answer.Nak = false

-- the values that come with an acceptable ACK
abbrev pub fresh_with : Answer4 → (values fresh : List ValueContent) → List ValueContent
fresh_with (answer.Ack terms) values fresh = values
fresh_with answer.Nothing values fresh = fresh
fresh_with (answer.Offer address server) values fresh = fresh
fresh_with answer.Nak values fresh = fresh

abbrev pub with_values : Answer4 → List ValueContent → ClientContent → ClientContent
with_values answer values c = record c { fresh = fresh_with answer values c.fresh }

-- such a step takes room
abbrev pub takes_room : Step4 → ClientContent → Bool
takes_room step c = is_copied step (is_held c.state)

-- nothing is said
pub record IsQuiet (out : OutContent) : Type 0 where
  pub no_message : out.say ≡ None
  pub no_arp : out.arp ≡ None
  pub no_news : out.news ≡ news.Nothing
  pub no_lease : out.old ≡ None
