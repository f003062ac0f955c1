-- A turn of an interface that is up and goes on: a tick of its client, and then what it hears.
use Rattle.std.proofs.Common.{◌≡◌, ℕ, Bool, true, false, List, [], ◌++◌, append_assoc, append-nil, map, Option, Some, None, refl, sym, ap, subst, ◌∙◌, arith}
use Rattle.std.proofs.lemmas.Bool.Decides.{nat_tests}
use Rattle.std.specs.Prelude.{◌==◌, option_to_list}
use Rattle.net_types.proofs.AllLaws.{all_join}
use Rattle.net_types.proofs.CaseLaws.{split}
use Rattle.net_types.specs.declared.address.Ip6.{Ip6}
use Rattle.net_types.specs.declared.address.Mac.{Mac}
use Rattle.frame_link.specs.declared.arp.ArpView.{ArpView}
use Rattle.ipv4ll.specs.Table.{ll_tick, ll_hears}
use Rattle.v4_frames.specs.Heard.{HeardMessage, heard4_in}
use Rattle.v4_frames.specs.InRange as sent
use Rattle.v6_frames.specs.Heard.{HeardMessage6, heard6_in}
use Rattle.v6_client.specs.Runs.{Turned6, tick_turned, hears_turned, contested_turned}
use Rattle.v4_client.specs.declared.states.Step4.{Step4}
use Rattle.v4_client.specs.Calls.{arp_step, brought, heard_step}
use Rattle.v4_client.specs.Clients.{ClientContent, turn_of}
use Rattle.v4_client.specs.History.{tick_step}
use Rattle.v4_client.specs.Moves.{moved}
use Rattle.v4_client.specs.Steps.{rests}
use Rattle.world.specs.declared.wakes.Event.{Event}
use Rattle.world.specs.declared.wakes.Event.TheVariants.{Frame, Carrier, Duplicate, Release, Rebind, Stop, Quiet, End}
use Rattle.settings.specs.declared.interfaces.Managed.{Managed}
use Rattle.client_model.specs.declared.interfaces.Iface.{Iface}
use Rattle.client_model.specs.Dhcp4Steps.{arrival_at, dhcp4_packet, said_in, tick_dhcp4}
use Rattle.client_model.specs.Dhcp6Steps.{said6_in}
use Rattle.client_model.specs.IfaceSteps.{IfaceStep, silent, then_step}
use Rattle.client_model.specs.IfaceTurns.{arp_heard, hears_either, hears_message6, input_step}
use Rattle.client_model.specs.Interfaces.{ticked}
use Rattle.client_model.specs.LocalSteps.{tick_local}
use Rattle.client_model.specs.Messages.{Said, Arp}
use Rattle.evidence_words.specs.Inputs.{Site, GoesOn, arp_on, index_at}
use Rattle.lease_evidence.specs.Replies.{message_on}
use Rattle.lease_evidence.proofs.Spoken.{AreOther, IsOther, are_arp, are_dhcp6, said_all}
use Rattle.lease_progress.specs.LeaseStays.{is_rebind}

-- ---- what a client hears

-- the step that comes of a packet or a message
abbrev pub hearing : List Mac → (at salt : ℕ) → Option ArpView → Option HeardMessage → ClientContent → Step4
hearing own at salt (Some arp) message c = arp_step own at salt arp c
hearing own at salt None (Some heard) c = heard_step salt (arrival_at at heard) c
hearing own at salt None None c = rests (turn_of at salt c) c.state

-- the values that a message brings are taken first
abbrev pub with_heard : (at : ℕ) → Option ArpView → Option HeardMessage → ClientContent → ClientContent
with_heard at (Some arp) message c = c
with_heard at None (Some heard) c = brought (arrival_at at heard) c
with_heard at None None c = c

-- what an input does: the client's step, and what the interface says after it
record InputParts (own : List Mac) (at salt : ℕ) (arp : Option ArpView) (message : Option HeardMessage) (c : ClientContent) (step : IfaceStep) : Type 0 where
  after : List Said
  others : AreOther after
  said : step.said ≡ said_in (hearing own at salt arp message c) ++ after
  client : step.iface.dhcp4 ≡ moved (hearing own at salt arp message c) (with_heard at arp message c)

-- a whole turn
pub record TurnParts (own : List Mac) (at salt : ℕ) (arp : Option ArpView) (message : Option HeardMessage) (c : ClientContent) (step : IfaceStep) : Type 0 where
  pub between : List Said
  pub after : List Said
  pub others : AreOther between
  pub more_others : AreOther after
  pub said : step.said
      ≡ said_all (tick_step at salt c) between (hearing own at salt arp message (moved (tick_step at salt c) c)) after
  pub client : step.iface.dhcp4
      ≡ moved (hearing own at salt arp message (moved (tick_step at salt c) c)) (with_heard at arp message (moved (tick_step at salt c) c))

module _ (site : Site) (mac : sent.FitsMac site.managed.spec.mac) (at salt : ℕ) (bytes : List ℕ) where
  -- an interface of the site that is up
  abbrev pub faced : ClientContent → (rest : Iface) → Iface
  faced c rest = record rest { managed = site.managed; up = true; stopped = false; dhcp4 = c }

  -- ---- the input

  module _ (c : ClientContent) (rest : Iface) where
    abbrev f : Iface
    f = faced c rest

    abbrev PartsOf : Option ArpView → Option HeardMessage → IfaceStep → Type 0
    PartsOf arp message step = InputParts site.own at salt arp message c step

    quiet : PartsOf None None (silent f)
    quiet = record { after = []; others = tt; said = refl; client = refl }

    message6_parts : (message : Option HeardMessage6) → PartsOf None None (hears_message6 at salt message f)
    message6_parts None = quiet
    message6_parts (Some heard) =
        let turned : Turned6 = hears_turned at salt heard.message f.dhcp6 in
        record { after = said6_in f turned.out; others = are_dhcp6 f turned.out mac; said = refl; client = refl }

    either_parts : (arp : Option ArpView) (message : Option HeardMessage) (message6 : Option HeardMessage6)
        → PartsOf arp message (hears_either site.own at salt arp message message6 f)
    either_parts (Some arp) message message6 = record {
      after = map Arp (option_to_list (ll_hears site.own (dhcp4_packet site.own at salt arp f).iface.local arp at salt).out.arp);
      others = are_arp _;
      said = refl;
      client = refl;
    }
    either_parts None (Some heard) message6 =
        record { after = []; others = tt; said = sym (append-nil (said_in (heard_step salt (arrival_at at heard) c))); client = refl }
    either_parts None None message6 = message6_parts message6

    duplicate_parts : (addr : Ip6) → PartsOf None None (input_step site.own at salt (Duplicate (index_at site) addr) bytes f)
    duplicate_parts addr =
        let turned : Turned6 = contested_turned addr at salt f.dhcp6 in
        rw (itself (index_at site)) (record { after = said6_in f turned.out; others = are_dhcp6 f turned.out mac; said = refl; client = refl })
      where
        itself : (n : ℕ) → (n == n) ≡ true
        itself n = grind (arith, nat_tests)

    abbrev InputOf : Event → Type 0
    InputOf event = PartsOf (arp_on (index_at site) event bytes) (message_on site event bytes) (input_step site.own at salt event bytes f)

    same_number : (a b : ℕ) → (a == b) ≡ true → a ≡ b
    same_number a b h = grind (arith, nat_tests)

    -- an input to an interface that has carrier, which isn't given back or confirmed anew
    input_parts : (event : Event) → GoesOn true (index_at site) event → is_rebind (index_at site) event ≡ false → InputOf event
    input_parts (Frame other len) goes calm =
        split (index_at site == other)
        (λ here. rw here (either_parts (arp_heard bytes) (heard4_in site.managed.spec.mac bytes) (heard6_in site.managed.spec.mac bytes)))
        (λ elsewhere. rw elsewhere quiet)
    input_parts (Carrier other true) goes calm = split (index_at site == other) (λ here. rw here quiet) (λ elsewhere. rw elsewhere quiet)
    input_parts (Carrier other false) goes calm =
        split (index_at site == other) (λ here. absurd (gone (goes (same_number (index_at site) other here) refl))) (λ elsewhere. rw elsewhere quiet)
      where
        gone : false ≡ true → ⊥
        gone e = cc
    input_parts (Duplicate other addr) goes calm =
        split (index_at site == other)
        (λ here. subst (λ (i : ℕ). InputOf (Duplicate i addr)) (same_number (index_at site) other here) (duplicate_parts addr))
        (λ elsewhere. rw elsewhere quiet)
    input_parts (Release other) goes calm =
        split (index_at site == other) (λ here. absurd (goes (same_number (index_at site) other here))) (λ elsewhere. rw elsewhere quiet)
    input_parts (Rebind other) goes calm = rw calm quiet
    input_parts Stop goes calm = absurd goes
    input_parts Quiet goes calm = quiet
    input_parts End goes calm = quiet

  -- ---- the turn

  module _ (event : Event) (goes : GoesOn true (index_at site) event) (calm : is_rebind (index_at site) event ≡ false) where
    abbrev PartsAfter : ClientContent → IfaceStep → Type 0
    PartsAfter c step = TurnParts site.own at salt (arp_on (index_at site) event bytes) (message_on site event bytes) c step

    abbrev from_tick : Iface → IfaceStep
    from_tick g = then_step (ticked at salt g) (input_step site.own at salt event bytes)

    pub turn_parts : (c : ClientContent) (rest : Iface) → PartsAfter c (from_tick (faced c rest))
    turn_parts c rest =
        let one : Step4 = tick_step at salt c in
        let second : Iface = (tick_dhcp4 at salt (faced c rest)).iface in
        let third : Iface = (tick_local at salt second).iface in
        let arps : List Said = map Arp (option_to_list (ll_tick second.local at salt).out.arp) in
        let six : List Said = said6_in third (tick_turned at salt third.dhcp6).out in
        let after : Iface = (ticked at salt (faced c rest)).iface in
        let input = input_parts (moved one c) after event goes calm in
        record {
          between = arps ++ six;
          after = input.after;
          others = all_join IsOther arps six (are_arp _) (are_dhcp6 third (tick_turned at salt third.dhcp6).out mac);
          more_others = input.others;
          said = ap (λ (front : List Said). front ++ (input_step site.own at salt event bytes after).said) (append_assoc (said_in one) arps six)
              ∙ ap (λ (rest : List Said). (said_in one ++ (arps ++ six)) ++ rest) input.said;
          client = input.client;
        }

    pub parts_of : (g : Iface) → g.managed ≡ site.managed → g.up ≡ true → g.stopped ≡ false → PartsAfter g.dhcp4 (from_tick g)
    parts_of g managed up stopped =
        subst (λ (h : Iface). PartsAfter h.dhcp4 (from_tick h))
        (ap (λ (m : Managed). record g { managed = m; up = true; stopped = false }) (sym managed)
        ∙ ap (λ (b : Bool). record g { up = b; stopped = false }) (sym up) ∙ ap (λ (b : Bool). record g { stopped = b }) (sym stopped))
        (turn_parts g.dhcp4 g)
