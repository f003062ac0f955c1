-- What a step of the table makes of a client, and what it says.
use Rattle.std.specs.Prelude.{◌≡◌, ℕ, Bool, true, false, not, ◌&&◌, List, Option, None, option_map, if◌then◌else◌}
use Rattle.net_types.specs.declared.address.Ip6.{Ip6}
use Rattle.lease6_text.specs.Leases.{IaLeaseContent, Lease6Content, lease6_content}
use Rattle.v6_client.specs.declared.client.Out6.{Out6}
use Rattle.v6_items.specs.declared.asks.IaAsk.{IaAsk}
use Rattle.v6_items.specs.declared.scope.Cause6.{Cause6}
use Rattle.v6_items.specs.declared.scope.Cause6.TheVariants.{Lapse, Duplicate}
use Rattle.v6_client.specs.declared.states.Keep6.{Keep6}
use Rattle.v6_client.specs.declared.states.Keep6.TheVariants.{Stays, Clears, Takes}
use Rattle.v6_client.specs.declared.states.News6.{News6}
use Rattle.v6_client.specs.declared.states.News6.TheVariants as news
use Rattle.v6_items.specs.declared.scope.Parting6.{Parting6}
use Rattle.v6_items.specs.declared.scope.Scope6.TheVariants as scope
use Rattle.v6_client.specs.declared.states.State6.{State6}
use Rattle.v6_client.specs.declared.states.Step6.{Step6}
use Rattle.v6_items.specs.Asking.{ias_asked, ias_lapsed}
use Rattle.v6_client.specs.Clients.{ClientContent, PleaContent, holds, is_at_end, is_declining, is_restarting, pleads, scope_of}
use Rattle.v6_items.specs.Items.{ias_of, parting_of, without}
use Rattle.v6_client.specs.Saying.{SpokenContent, spoken_by, spoken_content}

pub record OutContent : Type 0 where
  pub say : Option SpokenContent
  pub news : News6
  pub old : Option Lease6Content

abbrev pub out_content : Out6 → OutContent
out_content out = record {
  say = option_map spoken_content out.say;
  news = out.news;
  old = option_map lease6_content out.old;
}

-- ---- the step

abbrev pub kept_after : Keep6 → (fresh kept : Option Lease6Content) → Option Lease6Content
kept_after Stays fresh kept = kept
kept_after Clears fresh kept = None
kept_after Takes fresh kept = fresh

abbrev pub plea_after : State6 → Option PleaContent → Option PleaContent
plea_after state plea = if pleads state then plea else None

-- the news of a lease that was held
abbrev pub is_of_held : News6 → Bool
is_of_held news.Nothing = false
is_of_held news.Bound = false
is_of_held news.Reboot = false
is_of_held news.Renew = true
is_of_held news.Rebind = true
is_of_held news.Changed = false
is_of_held news.Expire = true
is_of_held news.Stop = true

-- the lease that was held before, where the news is of it
abbrev pub old_of : News6 → (held : Bool) → Option Lease6Content → Option Lease6Content
old_of news held kept = if is_of_held news && held then kept else None

abbrev pub moved : Step6 → (fresh : Option Lease6Content) → ClientContent → ClientContent
moved step fresh c =
    record c {
      last = step.last;
      state = step.state;
      kept = kept_after step.keep fresh c.kept;
      plea = plea_after step.state c.plea;
      fresh = c.fresh && not step.spends;
    }

abbrev pub told : Step6 → ClientContent → OutContent
told step c = record {
  say = option_map (spoken_by c.settings.site.rapid (scope_of step.state) c.settings.asks c.kept c.plea) step.say;
  news = step.news;
  old = old_of step.news (holds c.state) c.kept;
}

-- the client goes on so, and says so; `fresh` is the lease that a Reply grants
pub record IsStep6 (step : Step6) (fresh : Option Lease6Content) (old new : ClientContent)
    (out : OutContent) : Type 0 where
  pub goes_on : new ≡ moved step fresh old
  pub answers : out ≡ told step old

-- nothing is said
pub record IsQuiet (out : OutContent) : Type 0 where
  pub no_message : out.say ≡ None
  pub no_news : out.news ≡ news.Nothing
  pub no_lease : out.old ≡ None

-- ---- items that go before a step

abbrev pub parting_at : Cause6 → ClientContent → Parting6
parting_at cause c = parting_of cause (scope_of c.state) (ias_of c.kept) c.settings.asks

-- the lease with these IAs
abbrev pub lease_with : List IaLeaseContent → Lease6Content → Lease6Content
lease_with ias lease = record {
  origin = lease.origin;
  name = lease.name;
  server = lease.server;
  t1 = lease.t1;
  t2 = lease.t2;
  ias = ias;
  values = lease.values;
}

abbrev pub thinned_lease : Cause6 → Lease6Content → Lease6Content
thinned_lease cause lease = lease_with (without cause lease.ias) lease

-- the lease without the items that go, where some stay
abbrev pub kept_left : Cause6 → Parting6 → Option Lease6Content → Option Lease6Content
kept_left cause parting kept = if parting.stays then option_map (thinned_lease cause) kept else kept

abbrev pub kept_live : (at : ℕ) → Parting6 → Option Lease6Content → Option Lease6Content
kept_live at parting kept = kept_left (Lapse at) parting kept

-- ---- items that are over

abbrev pub plea_lapsed : (at : ℕ) → List IaLeaseContent → PleaContent → PleaContent
plea_lapsed at ias plea = record { server = plea.server; ias = ias_lapsed at ias plea.ias }

-- Held items whose valid lifetime is over aren't held any more. Where the last one goes, or the restart in which they
-- are held is at its end, the step decides. What is over isn't declined.
abbrev pub lapsed : (at : ℕ) → Parting6 → ClientContent → ClientContent
lapsed at parting c =
    if holds c.state && parting.goes && not (is_at_end at c.state)
    then record c {
      kept = kept_live at parting c.kept;
      plea = option_map (plea_lapsed at (ias_of c.kept)) c.plea;
    }
    else c

-- ---- an address that another host uses

-- what is declined is told by what stood in each IA before
abbrev pub plea_by : List IaAsk → Lease6Content → PleaContent
plea_by asks lease = record { server = lease.server; ias = ias_asked scope.All lease.ias asks }

abbrev pub plea_with : (declining : Bool) → List IaAsk → Option Lease6Content → Option PleaContent → Option PleaContent
plea_with declining asks kept plea = if declining then plea else option_map (plea_by asks) kept

-- it is declined from now on
abbrev pub declining_now : Ip6 → ClientContent → ClientContent
declining_now address c =
    record c {
      kept = option_map (thinned_lease (Duplicate address)) c.kept;
      plea = plea_with (is_declining c.state) c.settings.asks c.kept c.plea;
    }

-- In a restart it isn't declined. Where the last item goes the step decides.
abbrev pub missing : Ip6 → Parting6 → ClientContent → ClientContent
missing address parting c = record c { kept = kept_left (Duplicate address) parting c.kept }

-- the address isn't held any more
abbrev pub given_up : Ip6 → Parting6 → ClientContent → ClientContent
given_up address parting c =
    if holds c.state && parting.goes
    then (if is_restarting c.state then missing address parting c else declining_now address c)
    else c
