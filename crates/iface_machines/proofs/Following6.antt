-- The steps of an interface's DHCPv6 client, and what was asked in them.
use Rattle.std.proofs.Common.{◌≡◌, ◌++◌, ℕ, Bool, true, false, cond, List, map, Ok, refl, sym, ap, subst, ◌∙◌, append-nil}
use Rattle.std.specs.Prelude.{None, flat_map, option_to_list}
use Rattle.machine.specs.Moment.{moment_of}
use Rattle.net_types.specs.declared.address.Ip6.{Ip6}
use Rattle.v6_frames.specs.Heard.{HeardMessage6}
use Rattle.v6_client.specs.declared.client.Out6.{Out6}
use Rattle.v4_client.specs.declared.states.Tell.{Tell}
use Rattle.v6_client.specs.declared.states.Carrier6.{Carrier6}
use Rattle.v6_client.specs.declared.states.Carrier6.TheVariants.{Down}
use Rattle.v6_client.specs.declared.states.Tell6.{Tell6}
use Rattle.v6_client.specs.Calls.{Hears, IsCarried, IsContested, rebind_step, release_step}
use Rattle.v6_client.specs.declared.states.News6.{News6}
use Rattle.v6_client.specs.declared.states.News6.TheVariants as news6
use Rattle.v6_client.specs.Clients.{ClientContent, holds}
use Rattle.v6_client.specs.Moves.{IsStep6, OutContent, old_of, out_content}
use Rattle.v6_client.specs.Rests.{Ticks}
use Rattle.v6_client.specs.RunLaws.{turned}
use Rattle.v6_client.specs.Runs.{Turned6, carrier_turned, contested_turned, hears_turned, rebind_turned, release_turned, tick_turned}
use Rattle.v6_client.proofs.SettingsStay.{settings_stay}
use Rattle.v6_client.proofs.CallRuns.{carrier_runs, contested_runs, hears_runs, rebind_runs, release_runs, tick_runs}
use Rattle.settings.specs.Fitting.{FitsManaged}
use Rattle.client_model.specs.declared.interfaces.Iface.{Iface}
use Rattle.client_model.specs.declared.steps.News.{News}
use Rattle.client_model.specs.declared.steps.News.TheVariants.{Lease6}
use Rattle.client_model.specs.Messages.{Dhcp6}
use Rattle.client_model.specs.Clients.{spelled}
use Rattle.client_model.specs.IfaceSteps.{IfaceStep, silent, then_step}
use Rattle.client_model.specs.Jobs.{Told, told_of}
use Rattle.client_model.specs.Dhcp6Steps.{after_dhcp6, contested, dhcp6_step, dhcp6_takes, drop_dhcp6, lease6_news, sent_by, stop_dhcp6, tell6_of, tick_dhcp6}
use Rattle.client_model.proofs.SameInterfaces.{StepSame, dhcp6_same}
use Rattle.iface_machines.specs.Outcomes.{Asked, Follows6, Goes, lease6_told}
use Rattle.iface_machines.proofs.Following.{goes_quiet, goes_then, hooks_of, reported}
use Rattle.iface_machines.proofs.HeldBefore6.{HandsOutHeld, carrier_held, contested_held, hears_held, rebind_held, release_held, ticks_held}

-- the interface with its client after a call
abbrev pub with_client : Iface → ClientContent → Iface
with_client iface client = record iface { dhcp6 = client }

-- The lease that was held before is told where the news is of it, and no job says it elsewhere.
lease6_news_told : (news : News6) (before after : Iface)
    → lease6_told news (old_of news (holds before.dhcp6.state) before.dhcp6.kept) after ≡ flat_map (λ (n : News). told_of n before after) (lease6_news news)
lease6_news_told news6.Nothing before after = refl
lease6_news_told news6.Bound before after = sym (append-nil (told_of (Lease6 news6.Bound) before after))
lease6_news_told news6.Reboot before after = sym (append-nil (told_of (Lease6 news6.Reboot) before after))
lease6_news_told news6.Renew before after = sym (append-nil (told_of (Lease6 news6.Renew) before after))
lease6_news_told news6.Rebind before after = sym (append-nil (told_of (Lease6 news6.Rebind) before after))
lease6_news_told news6.Changed before after = sym (append-nil (told_of (Lease6 news6.Changed) before after))
lease6_news_told news6.Expire before after = sym (append-nil (told_of (Lease6 news6.Expire) before after))
lease6_news_told news6.Stop before after = sym (append-nil (told_of (Lease6 news6.Stop) before after))

-- What a call makes of the client, and what its interface takes over of it, is a step of the interface.
goes_dhcp6 : (old : Iface) (does : Turned6) (client : ClientContent) (out : OutContent) (before after : Asked)
    → turned client out ≡ does → does.client.settings ≡ old.dhcp6.settings → HandsOutHeld old.dhcp6 does
    → Follows6 out (with_client old client) before after → Goes (dhcp6_step old does) (with_client old client) before after
goes_dhcp6 old does client out before after is same held follows = record {
  goes_on = λ i. with_client old (is i).client;
  offers =
      follows.offers
      ∙ (λ i. before.sends
      ++ map (spelled old.managed.spec old.dhcp4.settings.ask)
      (map (λ spoken. Dhcp6 (sent_by (with_client old (is i).client) spoken)) (option_to_list (is i).out.say)))
      ∙ (λ i. before.sends
      ++ map (spelled old.managed.spec old.dhcp4.settings.ask)
      (map (λ spoken. Dhcp6 (sent_by (with_client old (record does.client { settings = same i })) spoken)) (option_to_list does.out.say)));
  tells =
      follows.tells ∙ (λ i. before.news ++ lease6_news (is i).out.news)
      ∙ ap (λ (n : List News). before.news ++ n) (sym (reported old (after_dhcp6 does old) (lease6_news does.out.news)));
  hooks =
      follows.hooks ∙ (λ i. before.told ++ lease6_told (is i).out.news (is i).out.old (with_client old (is i).client))
      ∙ (λ i. before.told ++ lease6_told does.out.news (held i) (after_dhcp6 does old))
      ∙ ap (λ (t : List Told). before.told ++ t)
      (lease6_news_told does.out.news old (after_dhcp6 does old) ∙ sym (hooks_of old (after_dhcp6 does old) (lease6_news does.out.news)));
}

module _ (old : Iface) (client : ClientContent) (at salt : ℕ) (before after : Asked) (told : moment_of at ≡ at) where
  pub goes_tick6 : (out : Out6) → Ticks old.dhcp6 at salt client (Ok out) → Follows6 (out_content out) (with_client old client) before after
      → Goes (tick_dhcp6 at salt old) (with_client old client) before after
  goes_tick6 out ticks =
      goes_dhcp6 old (tick_turned at salt old.dhcp6) client (out_content out) before after
      (tick_runs old.dhcp6 client at salt out ticks ∙ ap (λ (a : ℕ). tick_turned a salt old.dhcp6) told)
      (settings_stay old.dhcp6 at salt).tick (ticks_held old.dhcp6 at salt)

  pub goes_carrier6 : (carrier : Carrier6) (out : OutContent) → IsCarried carrier (moment_of at) salt old.dhcp6 client out
      → Follows6 out (with_client old client) before after
      → Goes (dhcp6_step old (carrier_turned carrier at salt old.dhcp6)) (with_client old client) before after
  goes_carrier6 carrier out is =
      goes_dhcp6 old (carrier_turned carrier at salt old.dhcp6) client out before after
      (carrier_runs old.dhcp6 client carrier (moment_of at) salt out is ∙ ap (λ (a : ℕ). carrier_turned carrier a salt old.dhcp6) told)
      ((settings_stay old.dhcp6 at salt).carrier carrier) (carrier_held old.dhcp6 at salt carrier)

  pub goes_rebind6 : (out : OutContent) → IsStep6 (rebind_step (moment_of at) salt old.dhcp6) None old.dhcp6 client out
      → Follows6 out (with_client old client) before after
      → Goes (dhcp6_step old (rebind_turned at salt old.dhcp6)) (with_client old client) before after
  goes_rebind6 out is =
      goes_dhcp6 old (rebind_turned at salt old.dhcp6) client out before after
      (rebind_runs old.dhcp6 client (moment_of at) salt out is ∙ ap (λ (a : ℕ). rebind_turned a salt old.dhcp6) told)
      (settings_stay old.dhcp6 at salt).rebind (rebind_held old.dhcp6 at salt)

  pub goes_stop6 : (tell : Tell) (given : Tell6) (out : OutContent) → given ≡ tell6_of tell
      → IsStep6 (release_step given (moment_of at) salt old.dhcp6) None old.dhcp6 client out → Follows6 out (with_client old client) before after
      → Goes (stop_dhcp6 tell at salt old) (with_client old client) before after
  goes_stop6 tell given out same is =
      goes_dhcp6 old (release_turned (tell6_of tell) at salt old.dhcp6) client out before after
      (release_runs old.dhcp6 client given (moment_of at) salt out is ∙ (λ i. release_turned (same i) (told i) salt old.dhcp6))
      ((settings_stay old.dhcp6 at salt).release (tell6_of tell)) (release_held old.dhcp6 at salt (tell6_of tell))

  pub goes_heard6 : (heard : HeardMessage6) (out : OutContent) → Hears (moment_of at) salt heard.message old.dhcp6 client out
      → Follows6 out (with_client old client) before after
      → Goes (dhcp6_takes at salt heard old) (with_client old client) before after
  goes_heard6 heard out is =
      goes_dhcp6 old (hears_turned at salt heard.message old.dhcp6) client out before after
      (hears_runs old.dhcp6 client heard.message (moment_of at) salt out is ∙ ap (λ (a : ℕ). hears_turned a salt heard.message old.dhcp6) told)
      ((settings_stay old.dhcp6 at salt).message heard.message tt) (hears_held old.dhcp6 at salt heard.message)

  pub goes_contested6 : (address : Ip6) (out : OutContent) → IsContested address (moment_of at) salt old.dhcp6 client out
      → Follows6 out (with_client old client) before after → Goes (contested at salt address old) (with_client old client) before after
  goes_contested6 address out is =
      goes_dhcp6 old (contested_turned address at salt old.dhcp6) client out before after
      (contested_runs old.dhcp6 client address (moment_of at) salt out is ∙ ap (λ (a : ℕ). contested_turned address a salt old.dhcp6) told)
      ((settings_stay old.dhcp6 at salt).duplicate address) (contested_held old.dhcp6 at salt address)

-- a step that is made where something runs, and it does
pub goes_where : (runs tested : Bool) (step other : IfaceStep) (new : Iface) (before after : Asked) → tested ≡ runs → tested ≡ true
    → Goes step new before after → Goes (cond runs step other) new before after
goes_where true tested step other new before after same is goes = goes
goes_where false tested step other new before after same is goes = let never : false ≡ true = sym same ∙ is in absurd cc

-- Of three steps the second one asks for nothing.
pub goes_about : (first : IfaceStep) (middle last : Iface → IfaceStep) (one two new : Iface) (none some all : Asked) → StepSame first.iface (middle first.iface)
    → StepSame (middle first.iface).iface (last (middle first.iface).iface) → Goes first one none some → middle one ≡ silent two → Goes (last two) new some all
    → Goes (then_step (then_step first middle) last) new none all
goes_about first middle last one two new none some all same as_before began quiet =
    goes_then (then_step first middle) last two new none some all as_before
    (goes_then first middle one two none some some same began (goes_quiet (middle one) two some quiet))

-- so the interface has the configuration that it had
pub fits_about : (old : Iface) (first : IfaceStep) (middle : Iface → IfaceStep) (one two : Iface) (none some : Asked) → StepSame old first
    → StepSame first.iface (middle first.iface) → Goes first one none some → middle one ≡ silent two → FitsManaged old.managed → FitsManaged two.managed
fits_about old first middle one two none some same next began quiet fits =
    subst FitsManaged
    (sym (sym (ap (λ (step : IfaceStep). step.iface.managed) quiet) ∙ ap (λ (i : Iface). (middle i).iface.managed) began.goes_on ∙ next.managed ∙ same.managed))
    fits

-- ---- the interface stays the one that it is

module _ (at salt : ℕ) (iface : Iface) where
  pub tick6_same : StepSame iface (tick_dhcp6 at salt iface)
  tick6_same = dhcp6_same iface (tick_turned at salt iface.dhcp6) (settings_stay iface.dhcp6 at salt).tick

  pub drop6_same : StepSame iface (drop_dhcp6 at salt iface)
  drop6_same = dhcp6_same iface (carrier_turned Down at salt iface.dhcp6) ((settings_stay iface.dhcp6 at salt).carrier Down)

  pub stop6_same : (tell : Tell) → StepSame iface (stop_dhcp6 tell at salt iface)
  stop6_same tell = dhcp6_same iface (release_turned (tell6_of tell) at salt iface.dhcp6) ((settings_stay iface.dhcp6 at salt).release (tell6_of tell))
