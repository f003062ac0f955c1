-- What a turn makes of an interface's DHCPv4 client, and what is said in it.
use Rattle.std.proofs.Common.{◌≡◌, ℕ, Bool, true, false, ◌==◌, List, [], ◌∷◌, ◌++◌, map, append_assoc, Option, Some, None, refl, sym, ap, subst, ◌∙◌, if◌then◌else◌, arith}
use Rattle.std.proofs.lemmas.Bool.Decides.{nat_tests}
use Rattle.std.specs.Prelude.{option_to_list}
use Rattle.net_types.proofs.AllLaws.{all_join}
use Rattle.net_types.proofs.CaseLaws.{split, gated}
use Rattle.net_types.specs.declared.address.Ip6.{Ip6}
use Rattle.net_types.specs.declared.address.Mac.{Mac}
use Rattle.frame_link.specs.declared.arp.ArpView.{ArpView}
use Rattle.ipv4ll.specs.Table.{ll_hears, ll_tick}
use Rattle.v4_frames.specs.Heard.{HeardMessage, heard4_in}
use Rattle.v4_frames.specs.InRange.{FitsMac}
use Rattle.v6_frames.specs.Heard.{HeardMessage6, heard6_in}
use Rattle.v6_client.specs.Runs.{contested_turned, hears_turned, rebind_turned, tick_turned}
use Rattle.v4_client.specs.declared.states.Step4.{Step4}
use Rattle.v4_client.specs.Calls.{arp_step, brought, heard_step, rebind_step}
use Rattle.v4_client.specs.Clients.{ClientContent, turn_of}
use Rattle.v4_client.specs.History.{tick_step}
use Rattle.v4_client.specs.Moves.{moved}
use Rattle.v4_client.specs.Steps.{rests}
use Rattle.world.specs.declared.wakes.Event.{Event}
use Rattle.world.specs.declared.wakes.Event.TheVariants.{Frame, Carrier, Duplicate, Release, Rebind, Stop, Quiet, End}
use Rattle.settings.specs.declared.interfaces.Managed.{Managed}
use Rattle.script_model.specs.IfaceSets.{is_in}
use Rattle.client_model.specs.declared.interfaces.Iface.{Iface}
use Rattle.client_model.specs.Messages.{Said, Arp}
use Rattle.client_model.specs.ClientSettings.{runs_dhcp4}
use Rattle.client_model.specs.ClientSettings6.{runs_dhcp6}
use Rattle.client_model.specs.Dhcp4Steps.{arms, arrival_at, begin_local, dhcp4_step, holds_lease, said_in}
use Rattle.client_model.specs.Dhcp6Steps.{dhcp6_step, rebind_dhcp6, said6_in}
use Rattle.client_model.specs.IfaceSteps.{IfaceStep, Report, silent, then_step}
use Rattle.client_model.specs.IfaceTurns.{Turn, arp_heard, hears_either, hears_message6, iface_turned, input_step}
use Rattle.client_model.specs.Interfaces.{machines_rebind, ticked}
use Rattle.client_model.specs.LocalSteps.{tick_local}
use Rattle.evidence_words.specs.Inputs.{Site, GoesOn, arp_on, index_at}
use Rattle.lease_evidence.specs.Replies.{message_on}
use Rattle.lease_evidence.proofs.LeasedInputs.{packet_no_message}
use Rattle.lease_evidence.proofs.Spoken.{AreOther, IsOther, are_arp, are_dhcp6, said_all}

-- ---- what comes in

pub data Input : Type 0 where
  Message : HeardMessage → Input
  Packet : ArpView → Input
  -- the host wants the lease confirmed anew
  Confirm : Input
  Nothing : Input

-- the step of the client for it
abbrev pub step_for : List Mac → (at salt : ℕ) → Input → ClientContent → Step4
step_for own at salt (Message heard) c = heard_step salt (arrival_at at heard) c
step_for own at salt (Packet arp) c = arp_step own at salt arp c
step_for own at salt Confirm c = rebind_step at salt c
step_for own at salt Nothing c = rests (turn_of at salt c) c.state

-- the client that makes it
abbrev pub taking : (at : ℕ) → Input → ClientContent → ClientContent
taking at (Message heard) c = brought (arrival_at at heard) c
taking at (Packet arp) c = c
taking at Confirm c = c
taking at Nothing c = c

abbrev pub client_for : List Mac → (at salt : ℕ) → Input → ClientContent → ClientContent
client_for own at salt input c = moved (step_for own at salt input c) (taking at input c)

-- so is it told by the turn's event
abbrev pub IsTold : Site → Event → List ℕ → Input → Type 0
IsTold site event bytes (Message heard) = message_on site event bytes ≡ Some heard
IsTold site event bytes (Packet arp) = (message_on site event bytes ≡ None) × (arp_on (index_at site) event bytes ≡ Some arp)
IsTold site event bytes Confirm = message_on site event bytes ≡ None
IsTold site event bytes Nothing = message_on site event bytes ≡ None

-- ---- the input of a turn

pub record InputGoes (site : Site) (at salt : ℕ) (event : Event) (bytes : List ℕ) (c : ClientContent) (step : IfaceStep) : Type 0 where
  pub input : Input
  pub told : IsTold site event bytes input
  pub after : List Said
  pub others : AreOther after
  pub said : step.said ≡ said_in (step_for site.own at salt input c) ++ after
  pub client : step.iface.dhcp4 ≡ client_for site.own at salt input c

module _ (site : Site) (mac : FitsMac site.managed.spec.mac) (runs : runs_dhcp4 site.managed.conf ≡ true) (at salt : ℕ) (bytes : List ℕ) where
  abbrev face : ClientContent → Iface → Iface
  face c rest = record rest { managed = site.managed; up = true; stopped = false; dhcp4 = c }

  abbrev Goes : Event → ClientContent → IfaceStep → Type 0
  Goes event c step = InputGoes site at salt event bytes c step

  same_index : (a b : ℕ) → (a == b) ≡ true → a ≡ b
  same_index a b h = grind (arith, nat_tests)

  module _ (event : Event) (c : ClientContent) (rest : Iface) where
    quiet : (step : IfaceStep) → message_on site event bytes ≡ None → AreOther step.said → step.iface.dhcp4 ≡ c → Goes event c step
    quiet step none others same =
        record { input = Nothing; told = none; after = step.said; others = others; said = refl; client = same }

    message6 : message_on site event bytes ≡ None → (heard : Option HeardMessage6) → Goes event c (hears_message6 at salt heard (face c rest))
    message6 none None = quiet (silent (face c rest)) none tt refl
    message6 none (Some heard) =
        quiet (dhcp6_step (face c rest) (hears_turned at salt heard.message (face c rest).dhcp6)) none
        (are_dhcp6 (face c rest) (hears_turned at salt heard.message (face c rest).dhcp6).out mac) refl

    either : (arp : Option ArpView) (message : Option HeardMessage) (other : Option HeardMessage6)
        → arp_on (index_at site) event bytes ≡ arp → message_on site event bytes ≡ message
        → ((packet : ArpView) → arp ≡ Some packet → message ≡ None) → Goes event c (hears_either site.own at salt arp message other (face c rest))
    either (Some arp) message other is came one_kind = record {
      input = Packet arp;
      told = (came ∙ one_kind arp refl, is);
      after = _;
      others = are_arp (option_to_list (ll_hears site.own (dhcp4_step at (face c rest) (arp_step site.own at salt arp c)).iface.local arp at salt).out.arp);
      said = refl;
      client = refl;
    }
    either None (Some heard) other is came one_kind =
        record { input = Message heard; told = came; after = []; others = tt; said = no_more _; client = refl }
      where
        no_more : (said : List Said) → said ≡ said ++ []
        no_more [] = refl
        no_more (say ∷ said) = ap (λ (more : List Said). say ∷ more) (no_more said)
    either None None other is came one_kind = message6 came other

    duplicate : message_on site event bytes ≡ None → (addr : Ip6) → Goes event c (dhcp6_step (face c rest) (contested_turned addr at salt (face c rest).dhcp6))
    duplicate none addr =
        quiet (dhcp6_step (face c rest) (contested_turned addr at salt (face c rest).dhcp6)) none
        (are_dhcp6 (face c rest) (contested_turned addr at salt (face c rest).dhcp6).out mac) refl

    -- ---- a command to confirm

    abbrev two : Step4
    two = rebind_step at salt c

    record Confirms (step : IfaceStep) : Type 0 where
      after : List Said
      others : AreOther after
      said : step.said ≡ said_in two ++ after
      client : step.iface.dhcp4 ≡ moved two c

    none_more : (front : List Said) → front ≡ (front ++ []) ++ []
    none_more [] = refl
    none_more (say ∷ front) = ap (λ (more : List Said). say ∷ more) (none_more front)

    none_between : (front six : List Said) → (front ++ []) ++ six ≡ front ++ six
    none_between [] six = refl
    none_between (say ∷ front) six = ap (λ (more : List Said). say ∷ more) (none_between front six)

    with_six : (first : IfaceStep) → first.iface.managed ≡ site.managed → first.said ≡ said_in two ++ [] → first.iface.dhcp4 ≡ moved two c
        → Confirms (then_step first (rebind_dhcp6 at salt))
    with_six first managed said client =
        gated (λ (next : IfaceStep). Confirms (record { iface = next.iface; said = first.said ++ next.said; reports = first.reports ++ next.reports }))
        (runs_dhcp6 first.iface.managed.conf) (dhcp6_step first.iface (rebind_turned at salt first.iface.dhcp6)) (silent first.iface)
        (record {
          after = said6_in first.iface (rebind_turned at salt first.iface.dhcp6).out;
          others = are_dhcp6 first.iface (rebind_turned at salt first.iface.dhcp6).out (subst (λ (m : Managed). FitsMac m.spec.mac) (sym managed) mac);
          said = ap (λ (front : List Said). front ++ said6_in first.iface (rebind_turned at salt first.iface.dhcp6).out) said
              ∙ none_between (said_in two) (said6_in first.iface (rebind_turned at salt first.iface.dhcp6).out);
          client = client;
        })
        (record {
          after = [];
          others = tt;
          said = ap (λ (front : List Said). front ++ []) said ∙ none_between (said_in two) [];
          client = client;
        })

    with_arms : (f : Iface) (reports : List Report) → f.managed ≡ site.managed → f.dhcp4 ≡ moved two c
        → Confirms (then_step (then_step (record { iface = f; said = said_in two; reports = reports }) (arms at)) (rebind_dhcp6 at salt))
    with_arms f reports managed client =
        gated (λ (next : IfaceStep). Confirms
        (then_step (record { iface = next.iface; said = said_in two ++ next.said; reports = reports ++ next.reports }) (rebind_dhcp6 at salt)))
        (holds_lease f) (silent f) (begin_local at f)
        (with_six (record { iface = f; said = said_in two ++ []; reports = reports ++ [] }) managed refl client)
        (with_six (record { iface = (begin_local at f).iface; said = said_in two ++ []; reports = reports ++ [] }) managed refl client)

    abbrev confirms_by : Bool → IfaceStep
    confirms_by runs4 = then_step (then_step (if runs4 then dhcp4_step at (face c rest) two else silent (face c rest)) (arms at)) (rebind_dhcp6 at salt)

    confirm : message_on site event bytes ≡ None → Goes event c (machines_rebind at salt (face c rest))
    confirm none =
        let h : Confirms (confirms_by true) = with_arms (dhcp4_step at (face c rest) two).iface (dhcp4_step at (face c rest) two).reports refl refl in
        subst (λ runs4. Goes event c (confirms_by runs4)) (sym runs)
        (record { input = Confirm; told = none; after = h.after; others = h.others; said = h.said; client = h.client })

  -- ---- any input

  frame_goes : (index len : ℕ) (c : ClientContent) (rest : Iface)
      → Goes (Frame index len) c (input_step site.own at salt (Frame index len) bytes (face c rest))
  frame_goes index len c rest =
      split (index_at site == index)
      (λ mine. rw mine (either (Frame index len) c rest (arp_heard bytes) (heard4_in site.managed.spec.mac bytes) (heard6_in site.managed.spec.mac bytes)
      (rw mine refl) (rw mine refl) (packet_no_message site.managed.spec.mac bytes)))
      (λ alien. rw alien (quiet (Frame index len) c rest (silent (face c rest)) (rw alien refl) tt refl))

  pub input_goes : (event : Event) (c : ClientContent) (rest : Iface) → GoesOn true (index_at site) event
      → Goes event c (input_step site.own at salt event bytes (face c rest))
  input_goes (Frame index len) c rest on = frame_goes index len c rest
  input_goes (Carrier index true) c rest on =
      split (index_at site == index)
      (λ mine. rw mine (quiet (Carrier index true) c rest (silent (face c rest)) refl tt refl))
      (λ alien. rw alien (quiet (Carrier index true) c rest (silent (face c rest)) refl tt refl))
  input_goes (Carrier index false) c rest on =
      split (index_at site == index)
      (λ mine. absurd (gone (on (same_index (index_at site) index mine) refl)))
      (λ alien. rw alien (quiet (Carrier index false) c rest (silent (face c rest)) refl tt refl))
    where
      gone : false ≡ true → ⊥
      gone h = cc
  input_goes (Duplicate index addr) c rest on =
      split (index_at site == index)
      (λ mine. rw mine (duplicate (Duplicate index addr) c rest refl addr))
      (λ alien. rw alien (quiet (Duplicate index addr) c rest (silent (face c rest)) refl tt refl))
  input_goes (Release index) c rest on =
      split (index_at site == index)
      (λ mine. absurd (on (same_index (index_at site) index mine)))
      (λ alien. rw alien (quiet (Release index) c rest (silent (face c rest)) refl tt refl))
  input_goes (Rebind index) c rest on =
      split (index_at site == index)
      (λ mine. rw mine (confirm (Rebind index) c rest refl))
      (λ alien. rw alien (quiet (Rebind index) c rest (silent (face c rest)) refl tt refl))
  input_goes Stop c rest on = absurd on
  input_goes Quiet c rest on = quiet Quiet c rest (silent (face c rest)) refl tt refl
  input_goes End c rest on = quiet End c rest (silent (face c rest)) refl tt refl

-- ---- a turn

pub record TurnGoes (site : Site) (turn : Turn) (c : ClientContent) (step : IfaceStep) : Type 0 where
  pub input : Input
  pub told : IsTold site turn.event turn.bytes input
  pub between : List Said
  pub others : AreOther between
  pub after : List Said
  pub more_others : AreOther after
  pub said : step.said ≡ said_all (tick_step turn.at turn.salt c) between
      (step_for site.own turn.at turn.salt input (moved (tick_step turn.at turn.salt c) c)) after
  pub client : step.iface.dhcp4 ≡ client_for site.own turn.at turn.salt input (moved (tick_step turn.at turn.salt c) c)

module _ (site : Site) (mac : FitsMac site.managed.spec.mac) (runs : runs_dhcp4 site.managed.conf ≡ true) (turn : Turn)
    (sent : is_in turn.unsent (index_at site) ≡ false) (on : GoesOn true (index_at site) turn.event) where
  shaped_goes : (c : ClientContent) (rest : Iface)
      → TurnGoes site turn c (iface_turned site.own turn (record rest { managed = site.managed; up = true; stopped = false; dhcp4 = c }))
  shaped_goes c rest =
      let f : Iface = record rest { managed = site.managed; up = true; stopped = false; dhcp4 = c } in
      let one : Step4 = tick_step turn.at turn.salt c in
      let two : IfaceStep = dhcp4_step turn.at f one in
      let three : Iface = (tick_local turn.at turn.salt two.iface).iface in
      let arps : List Said = map Arp (option_to_list (ll_tick two.iface.local turn.at turn.salt).out.arp) in
      let six : List Said = said6_in three (tick_turned turn.at turn.salt three.dhcp6).out in
      let next : IfaceStep = input_step site.own turn.at turn.salt turn.event turn.bytes (ticked turn.at turn.salt f).iface in
      let h : InputGoes site turn.at turn.salt turn.event turn.bytes (moved one c) next =
      input_goes site mac runs turn.at turn.salt turn.bytes turn.event (moved one c) (ticked turn.at turn.salt f).iface on in
      rw sent (record {
        input = h.input;
        told = h.told;
        between = arps ++ six;
        others = all_join IsOther arps six (are_arp _) (are_dhcp6 three (tick_turned turn.at turn.salt three.dhcp6).out mac);
        after = h.after;
        more_others = h.others;
        said = ap (λ (more : List Said). ((said_in one ++ arps) ++ six) ++ more) h.said
            ∙ ap (λ (front : List Said). front ++ (said_in (step_for site.own turn.at turn.salt h.input (moved one c)) ++ h.after))
            (append_assoc (said_in one) arps six);
        client = h.client;
      })

  pub turn_goes : (f : Iface) → f.managed ≡ site.managed → f.up ≡ true → f.stopped ≡ false → TurnGoes site turn f.dhcp4 (iface_turned site.own turn f)
  turn_goes f managed up stopped =
      subst (λ (g : Iface). TurnGoes site turn g.dhcp4 (iface_turned site.own turn g)) (sym (same f managed up stopped)) (shaped_goes f.dhcp4 f)
    where
      same : (g : Iface) → g.managed ≡ site.managed → g.up ≡ true → g.stopped ≡ false
          → g ≡ record g { managed = site.managed; up = true; stopped = false; dhcp4 = g.dhcp4 }
      same g m u s = λ i. record g { managed = m i; up = u i; stopped = s i }
