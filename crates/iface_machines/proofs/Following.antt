-- Steps that follow one another, and what was asked in them.
use Rattle.std.proofs.Common.{◌≡◌, arith, ◌++◌, List, [], ◌∷◌, Bool, false, refl, sym, ap, subst, ◌∙◌, append_assoc, append-nil, ℕ}
use Rattle.std.specs.Prelude.{flat_map, map, is_some, option_to_list}
use Rattle.std.proofs.lemmas.Grind.{flat_map-append}
use Rattle.std.proofs.lemmas.List.{map-append}
use Rattle.net_types.specs.Moments.{IsMoment}
use Rattle.machine.specs.Moment.{is_due, moment_of}
use Rattle.v4_client.specs.declared.states.Step4.{Step4}
use Rattle.v4_client.specs.declared.states.News4.{News4}
use Rattle.v4_client.specs.declared.states.News4.TheVariants as news4
use Rattle.v4_client.specs.Clients.{ClientContent, OutContent, held_of, is_held}
use Rattle.v4_client.specs.Moves.{IsStep4, old_of}
use Rattle.v4_client.specs.Settings.{SettingsContent}
use Rattle.v6_client.proofs.CallRuns.{tick_waits}
use Rattle.settings.specs.declared.interfaces.Managed.{Managed}
use Rattle.settings.specs.Fitting.{FitsManaged}
use Rattle.hook_env.specs.Situations.{Nothing}
use Rattle.world.specs.declared.reasons.Reason.TheVariants.{Preinit}
use Rattle.client_model.specs.declared.interfaces.Iface.{Iface}
use Rattle.client_model.specs.declared.steps.News.{News}
use Rattle.client_model.specs.declared.steps.News.TheVariants.{Lease4, Opened}
use Rattle.client_model.specs.Jobs.{Told, own, told_by, told_in, told_of}
use Rattle.client_model.specs.Messages.{Said, Arp, Dhcp4}
use Rattle.client_model.specs.declared.machines.TimedMachine.{TimedMachine}
use Rattle.client_model.specs.declared.machines.TimedMachine.TheVariants as machine
use Rattle.client_model.specs.IfaceSteps.{Report, IfaceStep, news_of, silent, then_step, with_news}
use Rattle.client_model.specs.Dhcp4Steps.{after_dhcp4, dhcp4_step, followed, lease_news}
use Rattle.client_model.specs.Dhcp6Steps.{dhcp6_step}
use Rattle.client_model.specs.Interfaces.{carrier_at_opening, machine_due, machine_ticked, opening_told, tells}
use Rattle.client_model.specs.Clients.{Sending, sends_of, spelled}
use Rattle.client_model.proofs.SameInterfaces.{StepSame}
use Rattle.iface_machines.specs.Outcomes.{Asked, Follows, Goes, Tells, lease_told}

-- a moment within the range is told as it is
pub as_told : (at : ℕ) → IsMoment at → moment_of at ≡ at
as_told at h = grind (arith, h)

-- nothing is asked in a silent step
pub goes_silent : (iface new : Iface) (asked : Asked) → new ≡ iface → Goes (silent iface) new asked asked
goes_silent iface new asked same = record {
  goes_on = same;
  offers = sym (append-nil asked.sends);
  tells = sym (append-nil asked.news);
  hooks = sym (append-nil asked.told);
}

pub goes_quiet : (step : IfaceStep) (new : Iface) (asked : Asked) → step ≡ silent new → Goes step new asked asked
goes_quiet step new asked quiet = rw quiet (goes_silent new new asked refl)

-- a machine that isn't due ticks in silence
pub not_due : (machine : TimedMachine) (at salt : ℕ) (iface : Iface) → is_due (machine_due machine iface) at ≡ false
    → machine_ticked machine at salt iface ≡ silent iface
not_due machine.Dhcp4 at salt iface h = rw h refl
not_due machine.LinkLocal at salt iface h = rw h refl
not_due machine.Dhcp6 at salt iface h = ap (dhcp6_step iface) (tick_waits iface.dhcp6 at salt h)

-- by what an interface's messages are spelled
abbrev spelled_by : Managed → SettingsContent → List Said → List Sending
spelled_by managed settings said = map (spelled managed.spec settings.ask) said

-- What is said first and then is offered in that order.
pub goes_then : (first : IfaceStep) (next : Iface → IfaceStep) (amid new : Iface) (none some all : Asked) → StepSame first.iface (next first.iface)
    → Goes first amid none some → Goes (next amid) new some all → Goes (then_step first next) new none all
goes_then first next amid new none some all same one two = record {
  goes_on = two.goes_on ∙ ap (λ (i : Iface). (next i).iface) one.goes_on;
  offers = offers ∙ ap (λ (s : List Sending). none.sends ++ s) together;
  tells = tells ∙ ap (λ (n : List News). none.news ++ n) (sym (map-append (λ (report : Report). report.news) first.reports (next first.iface).reports));
  hooks = hooks ∙ ap (λ (t : List Told). none.told ++ t) (sym (flat_map-append told_by first.reports (next first.iface).reports));
}
  where
    offers : all.sends ≡ none.sends ++ (sends_of first ++ sends_of (next first.iface))
    offers =
        two.offers ∙ ap (λ (s : List Sending). s ++ sends_of (next amid)) one.offers
        ∙ ap (λ (i : Iface). (none.sends ++ sends_of first) ++ sends_of (next i)) one.goes_on
        ∙ append_assoc none.sends (sends_of first) (sends_of (next first.iface))

    tells : all.news ≡ none.news ++ (news_of first ++ news_of (next first.iface))
    tells =
        two.tells ∙ ap (λ (n : List News). n ++ news_of (next amid)) one.tells
        ∙ ap (λ (i : Iface). (none.news ++ news_of first) ++ news_of (next i)) one.goes_on
        ∙ append_assoc none.news (news_of first) (news_of (next first.iface))

    hooks : all.told ≡ none.told ++ (told_in first ++ told_in (next first.iface))
    hooks =
        two.hooks ∙ ap (λ (t : List Told). t ++ told_in (next amid)) one.hooks
        ∙ ap (λ (i : Iface). (none.told ++ told_in first) ++ told_in (next i)) one.goes_on
        ∙ append_assoc none.told (told_in first) (told_in (next first.iface))

    together : sends_of first ++ sends_of (next first.iface) ≡ sends_of (then_step first next)
    together =
        (λ i. spelled_by (sym same.managed i) (sym same.settings i) first.said ++ sends_of (next first.iface))
        ∙ sym (map-append (spelled (next first.iface).iface.managed.spec (next first.iface).iface.dhcp4.settings.ask) first.said (next first.iface).said)

-- What is new comes first.
pub goes_with_news : (news : News) (before new : Iface) (step : IfaceStep) (none some all : Asked)
    → Tells (news ∷ []) (told_of news before step.iface) none some → Goes step new some all
    → Goes (with_news news before step) new none all
goes_with_news news before new step none some all one two = record {
  goes_on = two.goes_on;
  offers = two.offers ∙ ap (λ (s : List Sending). s ++ sends_of step) one.offers_no_more;
  tells = two.tells ∙ ap (λ (n : List News). n ++ news_of step) one.tells ∙ append_assoc none.news (news ∷ []) (news_of step);
  hooks =
      two.hooks ∙ ap (λ (t : List Told). t ++ told_in step) one.hooks
      ∙ append_assoc none.told (told_of news before step.iface) (told_in step);
}

-- What is new comes last.
pub goes_then_news : (step : IfaceStep) (news : News) (new : Iface) (none some all : Asked) → Goes step new none some
    → Tells (news ∷ []) (told_of news new new) some all → Goes (then_step step (tells news)) new none all
goes_then_news step news new none some all one two =
    goes_then step (tells news) new new none some all (record { managed = refl; settings = refl; settings6 = refl }) one
    (goes_with_news news new new (silent new) some all all two (goes_silent new new all refl))

-- The opening is told first.
pub goes_opened : (up : Bool) (at salt : ℕ) (old new : Iface) (none some all : Asked)
    → Tells (Opened ∷ []) (own Preinit old.managed up Nothing Nothing) none some
    → Goes (carrier_at_opening up at salt old) new some all → Goes (then_step (opening_told up old) (carrier_at_opening up at salt)) new none all
goes_opened up at salt old new none some all one two = record {
  goes_on = two.goes_on;
  offers = two.offers ∙ ap (λ (s : List Sending). s ++ sends_of step) one.offers_no_more;
  tells = two.tells ∙ ap (λ (n : List News). n ++ news_of step) one.tells ∙ append_assoc none.news (Opened ∷ []) (news_of step);
  hooks =
      two.hooks ∙ ap (λ (t : List Told). t ++ told_in step) one.hooks
      ∙ append_assoc none.told (own Preinit old.managed up Nothing Nothing) (told_in step);
}
  where
    step : IfaceStep
    step = carrier_at_opening up at salt old

-- the interface after a step has the configuration that it had
pub fits_after : (step : IfaceStep) (old new : Iface) (none some : Asked) → StepSame old step → Goes step new none some
    → FitsManaged old.managed → FitsManaged new.managed
fits_after step old new none some same goes fits = subst FitsManaged (sym (ap (λ (i : Iface). i.managed) goes.goes_on ∙ same.managed)) fits

-- ---- DHCPv4

-- the news of the reports that tell it
pub reported : (before after : Iface) (news : List News)
    → map (λ (report : Report). report.news) (map (λ (n : News). record { before = before; news = n; after = after }) news) ≡ news
reported before after [] = refl
reported before after (n ∷ news) = ap (λ (ns : List News). n ∷ ns) (reported before after news)

-- so what hooks are told of them
pub hooks_of : (before after : Iface) (news : List News)
    → flat_map told_by (map (λ (n : News). record { before = before; news = n; after = after }) news) ≡ flat_map (λ (n : News). told_of n before after) news
hooks_of before after [] = refl
hooks_of before after (n ∷ news) = ap (λ (ts : List Told). told_of n before after ++ ts) (hooks_of before after news)

-- The lease that was held before is told where the news is of it, and no job says it elsewhere.
lease_news_told : (news : News4) (before after : Iface)
    → lease_told news (old_of news (is_held before.dhcp4.state) before.dhcp4.kept) after ≡ flat_map (λ (n : News). told_of n before after) (lease_news news)
lease_news_told news4.Nothing before after = refl
lease_news_told news4.Bound before after = sym (append-nil (told_of (Lease4 news4.Bound) before after))
lease_news_told news4.Reboot before after = sym (append-nil (told_of (Lease4 news4.Reboot) before after))
lease_news_told news4.Renew before after = sym (append-nil (told_of (Lease4 news4.Renew) before after))
lease_news_told news4.Rebind before after = sym (append-nil (told_of (Lease4 news4.Rebind) before after))
lease_news_told news4.Nak before after = sym (append-nil (told_of (Lease4 news4.Nak) before after))
lease_news_told news4.Expire before after = sym (append-nil (told_of (Lease4 news4.Expire) before after))
lease_news_told news4.Stop before after = sym (append-nil (told_of (Lease4 news4.Stop) before after))

-- A step of the client, and what its interface takes over of it, is a step of the interface.
pub goes_dhcp4 : (at : ℕ) (held : Bool) (old new : Iface) (step : Step4) (c client : ClientContent) (out : OutContent) (before after : Asked)
    → held ≡ is_some (held_of c) → IsStep4 step c client out → Follows at held out (record old { dhcp4 = client }) new before after
    → Goes (dhcp4_step at (record old { dhcp4 = c }) step) new before after
goes_dhcp4 at held old new step c client out before after was is follows = record {
  goes_on = goes_on;
  offers =
      follows.offers
      ∙
      (λ i. before.sends
      ++ map (spelled old.managed.spec (is.goes_on i).settings.ask)
      (map Dhcp4 (option_to_list (is.answers i).say) ++ map Arp (option_to_list (is.answers i).arp)));
  tells =
      follows.tells ∙ (λ i. before.news ++ lease_news (is.answers i).news)
      ∙ ap (λ (n : List News). before.news ++ n) (sym (reported was_it is_it (lease_news step.news)));
  hooks =
      follows.hooks ∙ (λ i. before.told ++ lease_told (is.answers i).news (is.answers i).old (goes_on i))
      ∙ ap (λ (t : List Told). before.told ++ t) (lease_news_told step.news was_it is_it ∙ sym (hooks_of was_it is_it (lease_news step.news)));
}
  where
    was_it : Iface
    was_it = record old { dhcp4 = c }

    is_it : Iface
    is_it = after_dhcp4 at step was_it

    goes_on : new ≡ is_it
    goes_on = follows.goes_on ∙ (λ i. record old { dhcp4 = is.goes_on i; local = followed old.managed.conf at (was i) (is.answers i).news old.local })
