-- Each turn of an interface, and its opening, keep what it carries for its lease.
use Rattle.std.proofs.Common.{◌≡◌, ℕ, ◌<◌, ◌^◌, Bool, true, false, List, [], ◌∷◌, ◌++◌, append_assoc, map, Option, Some, None, refl, sym, ap, subst, ◌∙◌, lit<, if◌then◌else◌}
use Rattle.std.specs.Prelude.{IfSome, option_to_list}
use Rattle.machine.specs.Moment.{is_due}
use Rattle.net_types.specs.Marks.{AreBytes}
use Rattle.net_types.specs.declared.address.Mac.{Mac}
use Rattle.evidence_words.specs.Ipv4ll.Table.{ll_tick}
use Rattle.net_types.proofs.AllLaws.{all_join}
use Rattle.lease_text.specs.Bounds.{FitsLease, HasText, IsTyped}
use Rattle.evidence_words.specs.Lease6Text.Bounds.{IsDuid}
use Rattle.lease_text.specs.Leases.{LeaseContent}
use Rattle.v4_client.specs.declared.states.State4.{State4}
use Rattle.v4_client.specs.declared.states.State4.TheVariants.{Off}
use Rattle.v4_client.specs.declared.states.Step4.{Step4}
use Rattle.v4_client.specs.declared.states.Turn4.{Turn4}
use Rattle.v4_client.specs.Calls.{unsent_step}
use Rattle.v4_client.specs.Clients.{ClientContent, client_made, turn_of}
use Rattle.v4_client.specs.Due.{due_of}
use Rattle.v4_client.specs.History.{tick_step}
use Rattle.v4_client.specs.Inputs.{unsent_row}
use Rattle.v4_client.specs.Moves.{moved}
use Rattle.v4_client.specs.Sound.{IsSound}
use Rattle.v4_client.specs.Steps.{rests}
use Rattle.v4_client.specs.Ticks.{tick_row}
use Rattle.world.specs.declared.wakes.Event.TheVariants.{Quiet}
use Rattle.settings.specs.Fitting.{FitsManaged}
use Rattle.evidence_words.proofs.ClientModel.AskFitting.{ask_fits}
use Rattle.settings.specs.declared.interfaces.Managed.{Managed}
use Rattle.script_model.specs.IfaceSets.{is_in}
use Rattle.evidence_words.specs.ClientModel.declared.interfaces.Iface.{Iface}
use Rattle.evidence_words.specs.ClientModel.Messages.{Said, Arp}
use Rattle.evidence_words.specs.ClientModel.ClientSettings.{ask_of, settings_of}
use Rattle.evidence_words.specs.ClientModel.Dhcp4Steps.{dhcp4_step, said_in}
use Rattle.evidence_words.specs.ClientModel.Dhcp6Steps.{said6_in}
use Rattle.evidence_words.specs.ClientModel.LocalSteps.{tick_local}
use Rattle.evidence_words.specs.V6Client.Runs.{tick_turned}
use Rattle.evidence_words.specs.ClientModel.IfaceSteps.{IfaceStep, index_of, then_step}
use Rattle.evidence_words.specs.ClientModel.IfaceTurns.{input_step, iface_turned}
use Rattle.evidence_words.specs.ClientModel.KeptLeases.{Beginning}
use Rattle.evidence_words.specs.ClientModel.Interfaces.{resting, begins, carrier_at_opening, restarted, unsent_in, ticked}
use Rattle.evidence_words.specs.Entries.{Entry, Offer, offers_on}
use Rattle.evidence_words.specs.Inputs.{Site, index_at, offers_at, has_carrier, is_stopped}
use Rattle.evidence_words.proofs.Offers.{Offered}
use Rattle.evidence_words.specs.IfaceLives.{now_in}
use Rattle.lease_evidence.proofs.Carrying.{Carries, Amid, unsent_carries, clean_carries, tick_carries}
use Rattle.lease_evidence.proofs.LeasedInputs.{Leased, Turned, IsFaced, begins_faced, begins_carried, passed, input_leased, face}
use Rattle.lease_evidence.proofs.Spoken.{IsOther, are_arp, are_dhcp6}
use Rattle.lease_evidence.proofs.Watching.{Lasts, AnyTerms}

-- ---- a turn

module _ (site : Site) (fits : FitsManaged site.managed) (clean : Type 0) (salt : ℕ) (e : Entry) (early : e.moment < 10 ^ 15) (octets : AreBytes e.bytes)
    (past : List Entry) where
  abbrev faced : (up stopped : Bool) → ClientContent → (rest : Iface) → Iface
  faced up stopped c rest = record rest { managed = site.managed; up = up; stopped = stopped; dhcp4 = c }

  abbrev from_tick : Iface → IfaceStep
  from_tick g = then_step (ticked e.moment salt g) (input_step site.own e.moment salt e.event e.bytes)

  abbrev AfterTurn : IfaceStep → Type 0
  AfterTurn step =
      Offered site.managed.spec (ask_of site.duid site.managed) clean step.said (offers_at site e) → Turned site clean step.iface step.said (e ∷ past)

  -- after what a failed send of the turn before undid
  record Begun (up stopped : Bool) (c : ClientContent) : Type 0 where
    stopped_so : stopped ≡ is_stopped past
    carrier : stopped ≡ false → up ≡ has_carrier site past
    off : stopped ≡ true → c.state ≡ Off
    client : Carries AnyTerms site (Unit {0}) c past

  tick_off : (c : ClientContent) → c.state ≡ Off → (tick_step e.moment salt c).state ≡ Off
  tick_off c is =
      let turn : Turn4 = turn_of e.moment salt c in
      subst (λ (s : State4). (if is_due (due_of s) e.moment then tick_row turn s else rests turn s).state ≡ Off) (sym is) refl

  unsent_off : (c : ClientContent) → c.state ≡ Off → (unsent_step e.moment salt c).state ≡ Off
  unsent_off c is = subst (λ (s : State4). unsent_row (turn_of e.moment salt c) s ≡ Off) (sym is) refl

  -- bracketed as it is said
  bracketed : (one arps six : List Said) (next : IfaceStep)
      → (Offered site.managed.spec (ask_of site.duid site.managed) clean ((one ++ (arps ++ six)) ++ next.said) (offers_at site e)
      → Turned site clean next.iface ((one ++ (arps ++ six)) ++ next.said) (e ∷ past))
      → Offered site.managed.spec (ask_of site.duid site.managed) clean (((one ++ arps) ++ six) ++ next.said) (offers_at site e)
      → Turned site clean next.iface (((one ++ arps) ++ six) ++ next.said) (e ∷ past)
  bracketed one arps six next turned =
      subst (λ (front : List Said). Offered site.managed.spec (ask_of site.duid site.managed) clean (front ++ next.said) (offers_at site e)
      → Turned site clean next.iface (front ++ next.said) (e ∷ past))
      (sym (append_assoc one arps six)) turned

  tick_leased : (up stopped : Bool) (c : ClientContent) (rest : Iface) → Begun up stopped c → AfterTurn (from_tick (faced up stopped c rest))
  tick_leased up stopped c rest b =
      let one : Step4 = tick_step e.moment salt c in
      let two : IfaceStep = dhcp4_step e.moment (faced up stopped c rest) one in
      let three : Iface = (tick_local e.moment salt two.iface).iface in
      let arps : List Said = map Arp (option_to_list (ll_tick two.iface.local e.moment salt).out.arp) in
      let six : List Said = said6_in three (tick_turned e.moment salt three.dhcp6).out in
      let after : Iface = (ticked e.moment salt (faced up stopped c rest)).iface in
      bracketed (said_in one) arps six (input_step site.own e.moment salt e.event e.bytes after)
      (input_leased site fits.mac.six clean e.moment salt early e.bytes octets e.offers past one
      (arps ++ six) (all_join IsOther arps six (are_arp _) (are_dhcp6 three (tick_turned e.moment salt three.dhcp6).out fits.mac.six))
      (moved one c) after e.event up stopped
      (record {
        stopped_so = b.stopped_so;
        carrier = b.carrier;
        off = λ k. tick_off c (b.off k);
        amid = tick_carries site clean e past salt c fits.mac.six early b.client;
      }))

  choice : {A : Type 0} (P : A → Type 0) (b : Bool) (x y : A) → (b ≡ true → P x) → (b ≡ false → P y) → P (if b then x else y)
  choice P true x y p q = p refl
  choice P false x y p q = q refl

  faced_leased : (unsent : ℕ) (up stopped : Bool) (c : ClientContent) (rest : Iface)
      → Leased site (is_in unsent (index_at site) ≡ false) (faced up stopped c rest) past
      → AfterTurn (from_tick (unsent_in unsent e.moment salt (faced up stopped c rest)))
  faced_leased unsent up stopped c rest k =
      choice (λ g. AfterTurn (from_tick g)) (is_in unsent (index_at site)) (restarted e.moment salt (faced up stopped c rest)) (faced up stopped c rest)
      (λ failed. tick_leased up stopped (unsent_step e.moment salt c) (restarted e.moment salt (faced up stopped c rest)) (record {
        stopped_so = k.stopped;
        carrier = k.carrier;
        off = λ is. unsent_off c (k.off is);
        client = unsent_carries (Lasts (now_in past)) site (is_in unsent (index_at site) ≡ false) c past e.moment salt k.client;
      }))
      (λ fine. tick_leased up stopped c rest (record {
        stopped_so = k.stopped;
        carrier = k.carrier;
        off = k.off;
        client = clean_carries (Lasts (now_in past)) site (is_in unsent (index_at site) ≡ false) c past fine k.client;
      }))

  abbrev turned : (unsent : ℕ) → Iface → IfaceStep
  turned unsent g = iface_turned site.own (record { at = e.moment; salt = salt; unsent = unsent; event = e.event; bytes = e.bytes }) g

  pub turn_leased : (unsent : ℕ) (f : Iface) → f.managed ≡ site.managed → Leased site (is_in unsent (index_of f) ≡ false) f past → AfterTurn (turned unsent f)
  turn_leased unsent f same =
      subst (λ (g : Iface). Leased site (is_in unsent (index_of g) ≡ false) g past → AfterTurn (turned unsent g))
      (ap (λ (m : Managed). record f { managed = m }) (sym same))
      (faced_leased unsent f.up f.stopped f.dhcp4 f)

-- ---- the opening

made_sound : (duid : List ℕ) (m : Managed) (kept : Option LeaseContent) → IsDuid duid → FitsManaged m → IfSome kept FitsLease
    → IsSound (client_made (settings_of duid m) kept)
made_sound duid m kept is fits within = record {
  name = fits.name;
  ask = ask_fits duid m is fits;
  state = tt;
  kept = within;
  held = tt;
  fresh = record { each = tt; rising = tt };
}

pub lease_fits : (kept : Option LeaseContent) → IfSome kept HasText → IfSome kept FitsLease
lease_fits None h = tt
lease_fits (Some lease) h = h.fits

pub lease_typed : (kept : Option LeaseContent) → IfSome kept HasText → IfSome kept IsTyped
lease_typed None h = tt
lease_typed (Some lease) h = h.typed

module _ (own : List Mac) (clean : Type 0) (at salt : ℕ) (early : at < 10 ^ 15) (offers : List Offer) (b : Beginning) (fits : FitsManaged b.managed)
    (is : IsDuid b.duid) (within : IfSome b.kept4 HasText) where
  abbrev m : Managed
  m = b.managed

  abbrev site_at : Bool → Site
  site_at up = record { managed = m; duid = b.duid; own = own; up = up; kept4 = b.kept4; kept6 = b.kept6 }

  abbrev opening : Entry
  opening = record { moment = at; event = Quiet; bytes = []; offers = offers }

  abbrev made : ClientContent
  made = client_made (settings_of b.duid m) b.kept4

  abbrev first : Step4
  first = rests (turn_of at salt made) Off

  no_bytes : AreBytes []
  no_bytes i = lit< tt

  made_amid : (up : Bool) → Amid (site_at up) clean opening [] first made
  made_amid up = record {
    settings = refl;
    sound = made_sound b.duid m b.kept4 is fits (lease_fits b.kept4 within);
    fields = tt;
    names = tt;
    say = tt;
    own = tt;
    watched = record { xid = tt; on = tt };
    bears = tt;
    stands = record {
      may_stand = λ may. (
        record { off = refl; still = refl; typed = lease_typed b.kept4 within; silent = tt; none_open = refl; stays = tt; unrefused = tt },
        refl,
      );
      stands = tt;
    };
  }

  abbrev opened_when : Bool → IfaceStep
  opened_when up = carrier_at_opening up at salt (resting b)

  pub opens_leased : (up : Bool) → Offered m.spec (ask_of b.duid m) clean (opened_when up).said (offers_on m.spec.index.number offers)
      → Turned (site_at up) clean (opened_when up).iface (opened_when up).said (opening ∷ [])
  opens_leased true h =
      let shown : IsFaced m true false
      (begins at salt (face (site_at true) fits.mac.six clean at salt early [] no_bytes offers [] true false made (resting b))).iface =
      begins_faced (site_at true) fits.mac.six clean at salt early [] no_bytes offers [] true false made (resting b) in
      let ended =
      begins_carried (site_at true) fits.mac.six clean at salt early [] no_bytes offers [] Quiet first [] tt made (made_amid true) true false
      (resting b) refl refl refl refl h in
      record {
        leased = record {
          stopped = shown.stopped;
          carrier = λ k. shown.up;
          off = λ k. absurd (let bad : false ≡ true = sym shown.stopped ∙ k in cc);
          client = ended.carries;
        };
        fit = ended.fit;
        own = ended.own;
      }
  opens_leased false h =
      let ended =
      passed (site_at false) fits.mac.six clean at salt early [] no_bytes offers [] Quiet first [] tt made (made_amid false) [] tt refl refl refl h in
      record { leased = record { stopped = refl; carrier = λ k. refl; off = λ k. refl; client = ended.carries }; fit = ended.fit; own = ended.own }
