-- What the client wants at an opening are static addresses and, under `persistent`, those of kept leases.
use Rattle.std.proofs.Common.{◌≡◌, ℕ, Bool, true, false, List, [], ◌∷◌, ◌++◌, map, Some, None, inl, inr, refl, sym, ap, subst, ◌∙◌}
use Rattle.std.specs.Prelude.{option_map}
use Rattle.std.specs.List.{AllByRecursion, Contains}
use Rattle.std.proofs.lemmas.List.Elements.{All-contains_itself, recursion_from_All}
use Rattle.net_types.specs.declared.address.Net.{Net}
use Rattle.net_types.specs.declared.address.Net.TheVariants as Family
use Rattle.net_types.specs.declared.interface.IfIndex.{IfIndex}
use Rattle.net_types.specs.declared.interface.IfSpec.{IfSpec}
use Rattle.net_types.proofs.AllLaws.{all_both, all_mapped}
use Rattle.world.specs.declared.rows.HostRow.{HostRow}
use Rattle.world.specs.declared.rows.HostRow.TheVariants.{Addr}
use Rattle.world.specs.RowOrder.{has_row}
use Rattle.settings.specs.declared.interfaces.Managed.{Managed}
use Rattle.script_model.specs.IfaceSets.{is_up}
use Rattle.machine.specs.Moment.{moment_of}
use Rattle.client_model.specs.declared.interfaces.Iface.{Iface}
use Rattle.client_model.specs.Clients.{Client, ClientStep, rows_of}
use Rattle.client_model.specs.Interfaces.{opened}
use Rattle.client_model.specs.IfaceSteps.{IfaceStep}
use Rattle.client_model.specs.KeptLeases.{Beginning}
use Rattle.client_model.specs.WantedRows.{outlet_of, static_rows, static6_rows, iface_rows}
use Rattle.client_model.proofs.SameInterfaces.{managed_in, opened_is_same}
use Rattle.evidence_words.specs.TurnModel.Loading.{beginnings_of, duid_with}
use Rattle.evidence_words.proofs.TurnModel.Loading.{beginnings_managed, files_are_loaded}
use Rattle.evidence_words.specs.TurnModel.Lives.{OpeningMet, IsOpening}
use Rattle.evidence_words.specs.TurnModel.Opening.{opening_step}
use Rattle.evidence_words.proofs.TurnModel.HostInLifeTurns.{opening_managed}
use Rattle.evidence_words.proofs.Made.{OpeningShown, opening_shows}
use Rattle.lease6_evidence.specs.LeaseEvidence.HeldLeases.{configured_rows}
use Rattle.lease6_evidence.proofs.LeaseEvidence.Beginnings.{begins_with_static_rows}
use Rattle.evidence.specs.StaticBasis.{StaticBasis}
use Rattle.net_types.specs.declared.address.Net6.{Net6}
use Rattle.v6_client.specs.V6Items.declared.asks.IaAsk.{IaAsk}
use Rattle.v6_frames.specs.Heard.{HeardMessage6}
use Rattle.world.specs.declared.wakes.Event.{Event}
use Rattle.world.specs.declared.wakes.Event.TheVariants.{Frame, Quiet}
use Rattle.evidence_words.specs.Entries.{Entry, opening_entry}
use Rattle.evidence_words.specs.Inputs.{Site, StaysOn, index_at}
use Rattle.evidence_words.specs.Probed.{Probes}
use Rattle.local_evidence.specs.LinkLocalBasis.{Anything, LinkLocalBasis}
use Rattle.local_evidence.proofs.Weakening.{local_weaker}
use Rattle.lease6_evidence.proofs.LeaseEvidence.AskingProofs.{needs_frame_here}
use Rattle.lease6_evidence.proofs.LeaseEvidence.Joining.{LeaseRelation}
use Rattle.lease6_evidence.specs.HeldItems.{ItemRests}
use Rattle.lease6_evidence.specs.KeptBasis6.{KeptBasis6}
use Rattle.lease6_evidence.specs.Laws6.{Names}
use Rattle.lease6_evidence.specs.Replies6.{message6_on}
use Rattle.lease6_evidence.proofs.LawProofs.{needs_reply}
use Rattle.evidence.specs.Laws.{HasBasisOf, IsLife, LeasedBasis, LeasedBasis6, StrongestBasis, site_of}
use Rattle.evidence.specs.HeldAddresses.{OpeningStarts, PlainOpeningStarts, StartBasis}
use Rattle.evidence.proofs.Based.{each_managed, have_strong}
use Rattle.evidence.proofs.Items.{items_have_basis}
use Rattle.evidence.proofs.Leasing.{leases_based}
use Rattle.evidence.proofs.Rows.{Giver, wanted_giver, in_either, of_static, of_static6, same_index, same_net}

-- ---- without `persistent`

module _ (managed : List Managed) (specs : List IfSpec) (opening : OpeningMet) (is : IsOpening managed specs opening)
    (plain : AllByRecursion (λ (m : Managed). m.conf.flags.persistent ≡ false) managed) where
  record Starts (iface : Iface) : Type 0 where
    among : Contains managed iface.managed
    rows : iface_rows iface ≡ configured_rows iface.managed (is_up opening.begin.up iface.managed.spec.index.number)

  abbrev begun : Beginning → Iface
  begun b = (opened opening.begin.up (moment_of opening.begin.at) opening.begin.salt b).iface

  one_starts : (b : Beginning) → b.managed.conf.flags.persistent ≡ false
      → iface_rows (begun b) ≡ configured_rows (begun b).managed (is_up opening.begin.up (begun b).managed.spec.index.number)
  one_starts b off =
      begins_with_static_rows b (record { up = opening.begin.up; at = moment_of opening.begin.at; salt = opening.begin.salt; offers = [] }) off
      ∙ ap (λ (m : Managed). configured_rows m (is_up opening.begin.up m.spec.index.number))
      (sym (opened_is_same opening.begin.up (moment_of opening.begin.at) opening.begin.salt b).managed)

  each_starts : (beginnings : List Beginning) → AllByRecursion (λ (b : Beginning). b.managed.conf.flags.persistent ≡ false) beginnings
      → AllByRecursion (λ (iface : Iface). iface_rows iface ≡ configured_rows iface.managed (is_up opening.begin.up iface.managed.spec.index.number))
      (map (λ (step : IfaceStep). step.iface) (map (opened opening.begin.up (moment_of opening.begin.at) opening.begin.salt) beginnings))
  each_starts [] off = tt
  each_starts (b ∷ beginnings) off = (one_starts b off.0, each_starts beginnings off.1)

  read : OpeningShown managed specs opening.begin opening.calls opening.life
  read = opening_shows managed specs opening.begin opening.calls opening.life is

  -- so of each interface as it begins
  each_plain : AllByRecursion (λ (b : Beginning). b.managed.conf.flags.persistent ≡ false) (beginnings_of managed read.files)
  each_plain =
      all_mapped (λ (m : Managed). m.conf.flags.persistent ≡ false) (λ (b : Beginning). b.managed) (beginnings_of managed read.files)
      (subst (λ (ms : List Managed). AllByRecursion (λ (m : Managed). m.conf.flags.persistent ≡ false) ms)
      (sym (beginnings_managed (duid_with managed read.files) read.files.ifaces ∙ files_are_loaded managed read.reads read.files read.makes)) plain)

  all_start : AllByRecursion Starts opening.life.client.ifaces
  all_start =
      let step : ClientStep = opening_step managed read.files specs opening.begin in
      let client : opening.life.client ≡ step.client = read.shown.client in
      let same : managed_in opening.life.client.ifaces ≡ managed =
      ap (λ (c : Client). managed_in c.ifaces) client ∙ opening_managed managed specs opening.begin read.reads read.files read.makes in
      all_both (λ (iface : Iface). Contains managed iface.managed)
      (λ (iface : Iface). iface_rows iface ≡ configured_rows iface.managed (is_up opening.begin.up iface.managed.spec.index.number)) Starts
      (λ iface a r. record { among = a; rows = r }) opening.life.client.ifaces
      (each_managed (Contains managed) opening.life.client.ifaces managed same (recursion_from_All (Contains managed) managed (All-contains_itself managed)))
      (subst
      (λ (c : Client). AllByRecursion
      (λ (iface : Iface). iface_rows iface ≡ configured_rows iface.managed (is_up opening.begin.up iface.managed.spec.index.number)) c.ifaces)
      (sym client) (each_starts (beginnings_of managed read.files) each_plain))

  wants_static : (index : IfIndex) (net : Net) → has_row (rows_of opening.life.client) (Addr index net) ≡ true
      → HasBasisOf StaticBasis managed specs opening [] index net
  wants_static index net has =
      let g : Giver Starts (Addr index net) = wanted_giver Starts (Addr index net) opening.life.client all_start has in
      let m : Managed = g.iface.managed in
      let up : Bool = is_up opening.begin.up m.spec.index.number in
      let rows : has_row (configured_rows m up) (Addr index net) ≡ true =
      subst (λ (rows : List HostRow). has_row rows (Addr index net) ≡ true) g.is_such.rows g.gives in
      elim (in_either (Addr index net) (static_rows (outlet_of m) up m.conf.address m.conf.router) (static6_rows (outlet_of m) up m.conf.address6) rows) [
        | inl here ↦
            let s = of_static index net (outlet_of m) up m.conf.address m.conf.router here in
            record {
              holder = m;
              among = g.is_such.among;
              is_here = same_index index net m.spec.index (Family.V4 s.1.address) s.1.same;
              basis = record {
                is_static =
                    inl
                    (record {
                      address = s.1.address;
                      configured = s.1.is_static;
                      gives = same_net index net m.spec.index (Family.V4 s.1.address) s.1.same;
                    });
                up = s.0;
                running = refl;
              };
            }
        | inr here ↦
            let s = of_static6 index net (outlet_of m) up m.conf.address6 here in
            record {
              holder = m;
              among = g.is_such.among;
              is_here = same_index index net m.spec.index (Family.V6 s.1.address) s.1.same;
              basis = record {
                is_static =
                    inr
                    (record {
                      address = s.1.address;
                      configured = s.1.is_static;
                      gives = same_net index net m.spec.index (Family.V6 s.1.address) s.1.same;
                    });
                up = s.0;
                running = refl;
              };
            }
      ]

pub plain_opening_starts : PlainOpeningStarts
plain_opening_starts managed specs opening is plain index net has = wants_static managed specs opening is plain index net has

-- ---- with it: of one turn without input

module _ (site : Site) (net : Net) (e : Entry) (quiet : e.event ≡ Quiet) where
  no_frame : (index len : ℕ) → Quiet ≡ Frame index len → ⊥
  no_frame index len h = cc

  -- no probes were said before it
  only_one : (later : List Entry) (fourth : Entry) (earlier : List Entry) → e ∷ [] ≡ later ++ fourth ∷ earlier → earlier ≡ []
  only_one [] fourth earlier cut = sym (ap behind cut)
    where
      behind : List Entry → List Entry
      behind [] = []
      behind (x ∷ xs) = xs
  only_one (x ∷ []) fourth earlier cut = absurd (none (ap behind cut))
    where
      behind : List Entry → List Entry
      behind [] = []
      behind (x ∷ xs) = xs

      none : [] ≡ fourth ∷ earlier → ⊥
      none h = cc
  only_one (x ∷ (y ∷ later)) fourth earlier cut = absurd (none (ap behind cut))
    where
      behind : List Entry → List Entry
      behind [] = []
      behind (x ∷ xs) = xs

      none : [] ≡ y ∷ (later ++ fourth ∷ earlier) → ⊥
      none h = cc

  no_choice : LinkLocalBasis site net (e ∷ []) → ⊥
  no_choice basis =
      subst (λ (turns : List Entry). Probes (StaysOn site) Anything site basis.addr 3 2000 basis.probed.fourth.moment turns)
      (only_one basis.probed.later basis.probed.fourth basis.probed.earlier basis.probed.cut) basis.probed.probes

  no_lease : LeasedBasis site net (e ∷ []) → ⊥
  no_lease basis = needs_frame_here site net e.moment (e ∷ []) (λ len frame. no_frame (index_at site) len (sym quiet ∙ frame), tt) basis

  not_named : (ask : IaAsk) (item : Net6) → Names site ask item e [] → ⊥
  not_named ask item named =
      none (sym (ap (λ (event : Event). option_map (λ (heard : HeardMessage6). heard.message) (message6_on site event e.bytes)) quiet) ∙ named.good.came)
    where
      none : None ≡ Some named.message → ⊥
      none h = cc

  pub item_kept : (ask : IaAsk) (item : Net6) → ItemRests site ask item e.moment (e ∷ []) → KeptBasis6 site ask item e.moment (e ∷ [])
  item_kept ask item (inl given) = absurd (needs_reply site ask item e.moment (e ∷ []) (not_named ask item, tt) given)
  item_kept ask item (inr kept) = kept

  no_item : LeasedBasis6 site net (e ∷ []) → ⊥
  no_item basis = needs_reply site basis.ask basis.item e.moment (e ∷ []) (not_named basis.ask basis.item, tt) basis.basis

  pub starts_so : StrongestBasis site net (e ∷ []) → StartBasis site net (e ∷ [])
  starts_so (inl line) = inl line
  starts_so (inr (inl choice)) = absurd (no_choice (local_weaker site net (e ∷ []) choice))
  starts_so (inr (inr (inl granted))) = absurd (no_lease granted)
  starts_so (inr (inr (inr (inl given)))) = absurd (no_item given)
  starts_so (inr (inr (inr (inr kept)))) = inr kept

pub opening_starts : OpeningStarts
opening_starts managed specs opening is fit others numbered named index net has =
    let life : IsLife managed specs opening [] = record { numbered = numbered; named = named; opens = is; turns = tt } in
    elim (have_strong managed specs opening [] life LeaseRelation leases_based items_have_basis fit others tt index net has) [
      | inl here ↦ inl (record {
        holder = here.holder;
        among = here.among;
        is_here = here.is_here;
        basis = starts_so (site_of managed specs opening here.holder) net (opening_entry opening) refl here.basis;
      })
      | inr share ↦ inr (record {
        upstream = share.upstream;
        among = share.among;
        basis = record {
          ask = share.basis.ask;
          asked = share.basis.asked;
          is_prefix = share.basis.is_prefix;
          prefix = share.basis.prefix;
          basis =
              item_kept (site_of managed specs opening share.upstream) net (opening_entry opening) refl share.basis.ask share.basis.prefix share.basis.basis;
          share = share.basis.share;
          configured = share.basis.configured;
          of_the_prefixes = share.basis.of_the_prefixes;
          is_for = share.basis.is_for;
          is_another = share.basis.is_another;
          subnet = share.basis.subnet;
          is_subnet = share.basis.is_subnet;
          gives = share.basis.gives;
        };
      })
    ]
