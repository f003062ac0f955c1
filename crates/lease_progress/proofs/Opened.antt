-- What is pending once an interface has opened, and the laws.
use Rattle.std.proofs.Common.{◌≡◌, ℕ, ◌+◌, ◌*◌, ◌<◌, ◌≤◌, ◌==◌, ◌%◌, Bool, true, false, not, ◌&&◌, ◌||◌, nat_lt, nat_le, List, [], ◌∷◌, ◌++◌, map, Option, Some, None, refl, sym, ap, subst, ◌∙◌, arith, if◌then◌else◌}
use Rattle.std.proofs.lemmas.Bool.Decides.{nat_tests}
use Rattle.std.specs.Prelude.{option_map}
use Rattle.std.specs.List.{list_any}
use Rattle.machine.specs.Moment.{is_due}
use Rattle.machine.specs.Since.{Always}
use Rattle.net_types.proofs.CaseLaws.{gated}
use Rattle.net_types.specs.declared.address.Mac.{Mac}
use Rattle.lease_text.specs.declared.lease.Terms4.{Terms4}
use Rattle.lease_text.specs.declared.lease.TheConstants.{INFINITE_LEASE}
use Rattle.lease_text.specs.Leases.{LeaseContent, terms_of}
use Rattle.v4_message.specs.Requests.{AskFits}
use Rattle.v4_frames.specs.declared.sent.Sent4.{Sent4}
use Rattle.v6_client.specs.declared.states.Carrier6.TheVariants as carrier6
use Rattle.v6_client.specs.Runs.{carrier_turned}
use Rattle.v4_client.specs.declared.moments.Backoff.TheVariants.{Four}
use Rattle.v4_client.specs.declared.moments.TheConstants.{SECOND}
use Rattle.v4_client.specs.declared.states.Carrier.TheVariants.{Up}
use Rattle.v4_client.specs.declared.states.Exchange4.{Exchange4}
use Rattle.v4_client.specs.declared.states.Say4.{Say4}
use Rattle.v4_client.specs.declared.states.State4.{State4}
use Rattle.v4_client.specs.declared.states.State4.TheVariants.{Init}
use Rattle.v4_client.specs.declared.states.Step4.{Step4}
use Rattle.v4_client.specs.declared.states.Turn4.{Turn4}
use Rattle.v4_client.specs.Answers.{is_unexpired}
use Rattle.v4_client.specs.Calls.{carrier_step}
use Rattle.v4_client.specs.Clients.{ClientContent, client_made, turn_of}
use Rattle.v4_client.specs.Inputs.{entered, stood}
use Rattle.v4_client.specs.Moments.{expiry, first_delay, standing_until}
use Rattle.v4_client.specs.Moves.{moved}
use Rattle.v4_client.specs.Saying.{sent_of}
use Rattle.v4_client.specs.Settings.{SettingsContent}
use Rattle.v4_client.specs.Steps.{new_exchange, rebooting, to_init}
use Rattle.client_model.specs.declared.interfaces.Iface.{Iface}
use Rattle.client_model.specs.Messages.{Said}
use Rattle.client_model.specs.ClientSettings.{runs_dhcp4, settings_of}
use Rattle.client_model.specs.ClientSettings6.{runs_dhcp6}
use Rattle.client_model.specs.Dhcp4Steps.{begin_local, dhcp4_step, said_in}
use Rattle.client_model.specs.Dhcp6Steps.{begin_dhcp6, dhcp6_step, said6_in}
use Rattle.client_model.specs.Fitting.{FitsBeginning}
use Rattle.client_model.specs.IfaceSteps.{IfaceStep, silent, then_step}
use Rattle.client_model.specs.Interfaces.{resting}
use Rattle.client_model.specs.KeptLeases.{Beginning}
use Rattle.evidence_words.specs.Inputs.{Site}
use Rattle.evidence_words.specs.IfaceLives.{Opening, Met, site_of, opening_entry, shown, opens, iface_after, IsLived}
use Rattle.lease_evidence.specs.Exchanges.{messages_at, seen_in}
use Rattle.lease_evidence.specs.HeldLeases.{KeepsTyped}
use Rattle.lease_evidence.proofs.Observer.{kept_in}
use Rattle.lease_evidence.proofs.Spoken.{message_said}
use Rattle.lease_evidence.proofs.Watching.{AnyTerms, On}
use Rattle.lease_progress.specs.FairTurns.{Fair, probing}
use Rattle.lease_progress.specs.LeaseHeld.{Acquires, Reacquires, acquiring, asks_again, first_wait, least_asking, reacquiring}
use Rattle.lease_progress.specs.Serving.{Answered, BroadcastAlone, EachRequest, asks, is_answered}
use Rattle.lease_progress.proofs.Acquired.{held_in_time}
use Rattle.lease_progress.proofs.Lived.{Known, known}
use Rattle.lease_progress.proofs.Pending.{Pending}
use Rattle.lease_progress.proofs.PendingInputs.{OpenedAs, opened_as}
use Rattle.lease_progress.proofs.PendingTicks.{choose, not_due_before}
use Rattle.lease_progress.proofs.Shown.{by_step, in_front, messages_so}

-- ---- moments

equal_number : (n : ℕ) → (n == n) ≡ true
equal_number n = grind (arith, nat_tests)

-- a lease that isn't asked for again is over, or there is no time
not_asked : (endless : Bool) (end at : ℕ) (none : Bool) → ((endless || nat_lt at end) && not none) ≡ false
    → (is_due (if endless then None else Some end) at || none) ≡ true
not_asked true end at true h = refl
not_asked true end at false h = absurd cc
not_asked false end at true h = either (nat_le end at)
  where
    either : (a : Bool) → (a || true) ≡ true
    either true = refl
    either false = refl
not_asked false end at false h = over end at (both (nat_lt at end) h)
  where
    both : (a : Bool) → (a && true) ≡ false → a ≡ false
    both true h = absurd cc
    both false h = refl

    over : (end at : ℕ) → nat_lt at end ≡ false → (nat_le end at || false) ≡ true
    over end at h = let come : nat_le end at ≡ true = come_so end at h in rw come refl
      where
        come_so : (end at : ℕ) → nat_lt at end ≡ false → nat_le end at ≡ true
        come_so end at h = grind (arith, nat_tests)

-- one that isn't over isn't due
not_over : (endless : Bool) (end at : ℕ) → (endless || nat_lt at end) ≡ true → is_due (if endless then None else Some end) at ≡ false
not_over true end at h = refl
not_over false end at h = later end at h
  where
    later : (end at : ℕ) → nat_lt at end ≡ true → nat_le end at ≡ false
    later end at h = grind (arith, nat_tests)

-- ---- the opening

module _ (own : List Mac) (b : Beginning) (o : Opening) (runs : runs_dhcp4 b.managed.conf ≡ true) (up : (site_of own b o).up ≡ true) where
  abbrev site : Site
  site = site_of own b o

  abbrev made : ClientContent
  made = client_made (settings_of b.duid b.managed) b.kept4

  abbrev turn : Turn4
  turn = turn_of o.at o.salt made

  abbrev first : Step4
  first = carrier_step Up o.at o.salt made

  record Begun (step : IfaceStep) : Type 0 where
    after : List Said
    said : step.said ≡ said_in first ++ after
    client : step.iface.dhcp4 ≡ moved first made

  abbrev four : IfaceStep
  four = dhcp4_step o.at (record (resting b) { up = true }) first

  abbrev five : Iface
  five = (begin_local o.at four.iface).iface

  none_between : (front six : List Said) → (front ++ []) ++ six ≡ front ++ six
  none_between [] six = refl
  none_between (say ∷ front) six = ap (λ (more : List Said). say ∷ more) (none_between front six)

  begun : Begun (then_step (then_step four (begin_local o.at)) (begin_dhcp6 o.at o.salt))
  begun =
      gated (λ (next : IfaceStep). Begun
      (record { iface = next.iface; said = (said_in first ++ []) ++ next.said; reports = (four.reports ++ []) ++ next.reports }))
      (runs_dhcp6 b.managed.conf) (dhcp6_step five (carrier_turned carrier6.Up o.at o.salt five.dhcp6)) (silent five)
      (record {
        after = said6_in five (carrier_turned carrier6.Up o.at o.salt five.dhcp6).out;
        said = none_between (said_in first) (said6_in five (carrier_turned carrier6.Up o.at o.salt five.dhcp6).out);
        client = refl;
      })
      (record { after = []; said = none_between (said_in first) []; client = refl })

  opened_so : Begun (opens b o)
  opened_so = rw up (rw runs (record { after = begun.after; said = begun.said; client = begun.client }))

  module _ (fits : FitsBeginning b) (typed : KeepsTyped b) (answered : Answered) (wait : ℕ) (lived : IsLived own b o [])
      (fair : Always (Fair (site_of own b o) answered wait) (shown o [])) where
    opening_known : Known own b o []
    opening_known = known own b o fits typed answered wait [] up lived fair

    -- what the client says is among what is shown
    among : (says : Option Sent4 → Bool) (say : Say4) → first.say ≡ Some say → says (Some (sent_of say)) ≡ true
        → list_any says (messages_at site (opening_entry o)) ≡ true
    among says say is h =
        ap (list_any says) (messages_so site
        (subst (λ (s : SettingsContent). AskFits s.ask) opening_known.client.settings opening_known.client.sound.ask) fits.managed.mac.six
        (opening_entry o) (opens b o).said lived.1 opening_known.fit opening_known.ours ∙ ap (λ (said : List Said). map message_said said) opened_so.said)
        ∙ in_front says (said_in first) opened_so.after (by_step says first say is h)

    abbrev client : ClientContent
    client = (iface_after own b o []).dhcp4

    stands_so : (state : State4) → (entered turn true (option_map terms_of b.kept4)).state ≡ state → client.state ≡ state
    stands_so state is = ap (λ (c : ClientContent). c.state) opened_so.client ∙ is

    -- ---- Init

    module _ (quick : wait < least_asking) (anew : asks_again b.managed.conf o.at b.kept4 ≡ false) where
      enters : (kept : Option LeaseContent) → asks_again b.managed.conf o.at kept ≡ false → entered turn true (option_map terms_of kept) ≡ to_init turn
      enters None h = refl
      enters (Some lease) h = rw (not_asked (lease.lease == INFINITE_LEASE) (lease.first + SECOND * lease.lease) o.at (b.managed.conf.times.reboot == 0) h) refl

      delay : (nodelay : Bool) (d : ℕ) → (if nodelay then 1 else 1000 + d % 9001) ≤ (if nodelay then 1 else 10000)
      delay true d = omega arith
      delay false d = let small : d % 9001 < 9001 = below d in omega (arith, small)
        where
          below : (n : ℕ) → n % 9001 < 9001
          below n = omega arith

      soon : (at delay most more : ℕ) → delay ≤ most → (at + delay) + more ≤ at + (most + more)
      soon at delay most more le = omega (arith, le)

      pub waits : Pending site answered wait (o.at + acquiring b.managed.conf wait) o.at (shown o []) client.state
      waits =
          subst (λ (s : State4). Pending site answered wait (o.at + acquiring b.managed.conf wait) o.at (shown o []) s)
          (sym (stands_so (Init (o.at + first_delay turn.site o.salt)) (ap (λ (step : Step4). step.state) (enters b.kept4 anew))))
          (record {
            asks_long = quick;
            soon = soon o.at (first_delay turn.site o.salt) (first_wait b.managed.conf) (wait + (wait + probing b.managed.conf))
                (delay b.managed.conf.flags.nodelay (o.salt % 4294967296 + b.managed.spec.index.number));
            now_soon = now_too o.at (first_wait b.managed.conf) (wait + (wait + probing b.managed.conf));
          })
        where
          now_too : (at most more : ℕ) → at + more ≤ at + (most + more)
          now_too at most more = omega arith

    -- ---- Rebooting

    module _ (lease : LeaseContent) (kept : b.kept4 ≡ Some lease) (unexpired : is_unexpired lease.first lease.lease (o.at + wait) ≡ true)
        (quick : wait < SECOND * b.managed.conf.times.reboot) where
      abbrev exchange : Exchange4
      exchange = new_exchange turn lease.net.ip

      abbrev stop : ℕ
      stop = o.at + SECOND * b.managed.conf.times.reboot

      abbrev stands : Option Terms4
      stands = stood turn true (terms_of lease)

      lasts : is_due (expiry (terms_of lease)) (o.at + wait) ≡ false
      lasts = not_over (lease.lease == INFINITE_LEASE) (lease.first + SECOND * lease.lease) (o.at + wait) unexpired

      time_enough : (reboot wait : ℕ) → wait < 1000 * reboot → (reboot == 0) ≡ false
      time_enough reboot wait h = grind (arith, nat_tests)

      begins_so : (is_due (expiry (terms_of lease)) o.at || (b.managed.conf.times.reboot == 0)) ≡ false
      begins_so = rw (not_due_before (expiry (terms_of lease)) o.at (o.at + wait) (onward o.at wait) lasts) (time_enough b.managed.conf.times.reboot wait quick)
        where
          onward : (at wait : ℕ) → at ≤ at + wait
          onward at wait = omega arith

      asks_kept : entered turn true (option_map terms_of b.kept4) ≡ rebooting turn exchange Four stop stands
      asks_kept =
          ap (λ (k : Option LeaseContent). entered turn true (option_map terms_of k)) kept
          ∙ ap (λ (over : Bool). if over then to_init turn else rebooting turn exchange Four stop stands) begins_so

      abbrev asking : State4
      asking = (rebooting turn exchange Four stop stands).state

      state_so : client.state ≡ asking
      state_so = stands_so asking (ap (λ (step : Step4). step.state) asks_kept)

      open_so : OpenedAs exchange (kept_in site (shown o [])).answered (seen_in site (shown o [])).current
      open_so =
          opened_as exchange (kept_in site (shown o [])).answered (seen_in site (shown o [])).current
          (subst (λ (s : State4). On AnyTerms s (seen_in site (shown o [])).current (kept_in site (shown o [])).answered
          (kept_in site (shown o [])).grant) state_so
          opening_known.client.watched.on).0

      broadcast : (which : Answered) (sent : Sent4) → (sent.ends.to.number == 4294967295) ≡ true → is_answered which sent ≡ true
      broadcast EachRequest sent h = refl
      broadcast BroadcastAlone sent h = h

      both : {a c : Bool} → a ≡ true → c ≡ true → (a && c) ≡ true
      both a c = rw a c

      pub asks_again_so : Pending site answered wait (o.at + reacquiring b.managed.conf wait) o.at (shown o []) client.state
      asks_again_so =
          subst (λ (s : State4). Pending site answered wait (o.at + reacquiring b.managed.conf wait) o.at (shown o []) s) (sym state_so)
          (record {
            limit = o.at + wait + 1;
            asked = record {
              later = [];
              e = opening_entry o;
              earlier = [];
              cut = refl;
              early = itself (o.at + (wait + probing b.managed.conf));
              opened = open_so.opened;
              is_open = open_so.is;
              same = open_so.same;
              said = among (asks answered exchange.xid) _ (ap (λ (step : Step4). step.say) asks_kept)
                  (both (equal_number exchange.xid) (broadcast answered _ refl));
              none = refl;
              lasts = next (o.at + wait);
            };
            ends = ends_so o.at wait (SECOND * b.managed.conf.times.reboot) quick;
            stays = λ at less. choose (λ (st : Option Terms4). is_due (standing_until st) at ≡ false) _ (Some (terms_of lease)) None
                (λ stands_on. not_due_before (expiry (terms_of lease)) at (o.at + wait) (most at (o.at + wait) less) lasts) (λ not_on. refl);
          })
        where
          itself : (n : ℕ) → n ≤ n
          itself n = omega arith

          next : (n : ℕ) → n < n + 1
          next n = omega arith

          ends_so : (at wait reboot : ℕ) → wait < reboot → at + wait + 1 ≤ at + reboot
          ends_so at wait reboot h = omega (arith, h)

          most : (at limit : ℕ) → at < limit + 1 → at ≤ limit
          most at limit h = omega (arith, h)

-- ---- the laws

first_lived : (own : List Mac) (b : Beginning) (o : Opening) (mets : List Met) → IsLived own b o mets → IsLived own b o []
first_lived own b o [] lived = lived
first_lived own b o (met ∷ mets) lived = first_lived own b o mets lived.4

first_fair : (own : List Mac) (b : Beginning) (o : Opening) (answered : Answered) (wait : ℕ) (mets : List Met)
    → Always (Fair (site_of own b o) answered wait) (shown o mets)
    → Always (Fair (site_of own b o) answered wait) (shown o [])
first_fair own b o answered wait [] fair = fair
first_fair own b o answered wait (met ∷ mets) fair = first_fair own b o answered wait mets fair.1

pub acquires : Acquires
acquires own b o mets answered wait g quick anew over =
    held_in_time own b o answered wait (o.at + acquiring b.managed.conf wait) g.runs g.up g.fits g.typed mets g.lived g.prompt g.fair
    (waits own b o g.runs g.up g.fits g.typed answered wait (first_lived own b o mets g.lived) (first_fair own b o answered wait mets g.fair) quick anew) over

pub reacquires : Reacquires
reacquires own b o mets answered wait lease g kept unexpired quick over =
    held_in_time own b o answered wait (o.at + reacquiring b.managed.conf wait) g.runs g.up g.fits g.typed mets g.lived g.prompt g.fair
    (asks_again_so own b o g.runs g.up g.fits g.typed answered wait (first_lived own b o mets g.lived)
    (first_fair own b o answered wait mets g.fair) lease kept unexpired quick) over
