-- What is held after the opening: no lease where none may stand, whatever was kept, and else the kept one.
use Rattle.std.proofs.Common.{List, ◌≡◌, ◌⊎◌, inl, inr, ℕ, ◌+◌, ◌*◌, Bool, true, false, not, ◌&&◌, ◌||◌, ◌++◌, nat_eq, [], ◌∷◌, Option, Some, None, IfSome, refl, sym, ap, subst, ◌∙◌, append-nil}
use Rattle.std.specs.Option.{is_some}
use Rattle.std.specs.Prelude.{if◌then◌else◌, option_map}
use Rattle.machine.specs.Moment.{is_due}
use Rattle.net_types.proofs.CaseLaws.{gated}
use Rattle.net_types.specs.declared.interface.IfIndex.{IfIndex}
use Rattle.evidence_words.specs.Ipv4ll.declared.link_local.LinkLocal.{LinkLocal}
use Rattle.evidence_words.specs.Ipv4ll.declared.link_local.Fallback.TheVariants.{Choose}
use Rattle.evidence_words.specs.Ipv4ll.declared.link_local.Waits.TheVariants.{ForLease, ForNothing}
use Rattle.evidence_words.specs.Ipv4ll.Table.{off, held_in, ll_armed}
use Rattle.lease_text.specs.declared.lease.Origin.{Origin}
use Rattle.lease_text.specs.declared.lease.Terms4.{Terms4}
use Rattle.lease_text.specs.Leases.{LeaseContent, terms_of}
use Rattle.v4_client.specs.declared.moments.Backoff.TheVariants.{Four}
use Rattle.v4_client.specs.declared.moments.TheConstants.{SECOND}
use Rattle.v4_client.specs.declared.states.Step4.{Step4}
use Rattle.v4_client.specs.declared.states.Turn4.{Turn4}
use Rattle.v4_client.specs.Clients.{held_of, kept_terms, turn_of}
use Rattle.v4_client.specs.declared.states.News4.TheVariants as news
use Rattle.v4_client.specs.Inputs as inputs
use Rattle.v4_client.specs.Inputs.{stood}
use Rattle.v4_client.specs.Moments.{expiry}
use Rattle.v4_client.specs.Steps.{to_init, new_exchange, rebooting}
use Rattle.evidence_words.specs.V6Client.declared.states.Carrier6.TheVariants.{Up}
use Rattle.evidence_words.specs.V6Client.declared.states.State6.TheVariants.{Off}
use Rattle.evidence_words.specs.V6Client.declared.states.Step6.{Step6}
use Rattle.evidence_words.specs.V6Client.Calls.{has_origin, parting_begun, pruned, stands_at}
use Rattle.evidence_words.specs.V6Client.Clients as client6
use Rattle.evidence_words.specs.V6Client.Clients.{ClientContent, is_off}
use Rattle.evidence_words.specs.V6Client.Inputs.{begin_row}
use Rattle.evidence_words.specs.V6Client.Moves.{moved}
use Rattle.evidence_words.specs.V6Client.Runs.{carrier_turned}
use Rattle.evidence_words.specs.V6Client.Steps.{restarts, to_waiting}
use Rattle.script_model.specs.IfaceSets.{is_up}
use Rattle.settings.specs.declared.interfaces.IfConf.{IfConf}
use Rattle.evidence_words.specs.ClientModel.declared.interfaces.Iface.{Iface}
use Rattle.evidence_words.specs.ClientModel.ClientSettings.{runs_dhcp4}
use Rattle.evidence_words.specs.ClientModel.ClientSettings6.{runs_dhcp6, settings6_of}
use Rattle.evidence_words.specs.ClientModel.Dhcp4Steps.{begin_dhcp4, begin_local, dhcp4_step, followed, holds_lease}
use Rattle.evidence_words.specs.ClientModel.Dhcp6Steps.{begin_dhcp6, dhcp6_step}
use Rattle.evidence_words.specs.ClientModel.IfaceSteps.{IfaceStep, silent}
use Rattle.evidence_words.specs.ClientModel.Interfaces.{resting, carrier_comes, carrier_at_opening}
use Rattle.evidence_words.specs.ClientModel.KeptLeases.{Beginning}
use Rattle.evidence_words.specs.ClientModel.LocalSteps.{armed, armed_for_lease, chooses_local, fallback_of}
use Rattle.world.specs.declared.rows.HostRow.{HostRow}
use Rattle.evidence_words.specs.ClientModel.WantedRows.{outlet_of, iface_rows, lease_rows, local_rows, lease6_rows}
use Rattle.net_types.specs.declared.address.Net.{Net}
use Rattle.net_types.specs.declared.address.Net.TheVariants.{V4}
use Rattle.world.specs.declared.wakes.Event.TheVariants.{Frame, Quiet}
use Rattle.evidence_words.specs.Entries.{Entry}
use Rattle.evidence_words.specs.IfaceLives.{Opening, opening_entry, opens, shown, now_in, site_of}
use Rattle.evidence_words.specs.Inputs.{Site, index_at}
use Rattle.lease_evidence.specs.HeldLeases.{BeginsWithKept, BeginsWithStaticRows, BeginsWithoutLease, LeaseRests, configured_rows}
use Rattle.lease_evidence.specs.KeptBasis4.{KeptBasis4}
use Rattle.lease_evidence.proofs.AskingProofs.{needs_frame_here}
use Rattle.lease_evidence.proofs.HeldRuns.{held_leases_have_basis}

-- ---- link-local that is armed holds nothing

abbrev HoldsNone : LinkLocal → Type 0
HoldsNone local = held_in local.state ≡ None

armed_none : (conf : IfConf) (at : ℕ) (iface : IfIndex) → HoldsNone (armed conf at (off iface))
armed_none conf at iface =
    gated HoldsNone (runs_dhcp4 conf) (armed_for_lease conf at (off iface))
    (if chooses_local conf then ll_armed (off iface) at ForNothing Choose else off iface)
    (gated HoldsNone (nat_eq conf.times.timeout 0) (off iface)
    (ll_armed (off iface) (at + SECOND * conf.times.timeout) ForLease (fallback_of (chooses_local conf))) refl refl)
    (gated HoldsNone (chooses_local conf) (ll_armed (off iface) at ForNothing Choose) (off iface) refl refl)

-- ---- an interface that holds nothing

module _ (b : Beginning) (up : Bool) where
  record HoldsNothing (f : Iface) : Type 0 where
    managed_is : f.managed ≡ b.managed
    up_is : (f.up && not f.stopped) ≡ up
    none : held_of f.dhcp4 ≡ None
    no_local : HoldsNone f.local
    no_items : client6.held_of f.dhcp6 ≡ None

  -- one whose DHCPv6 client is off
  record IsFresh (f : Iface) : Type 0 where
    nothing : HoldsNothing f
    made : f.dhcp6 ≡ client6.client_made (settings6_of b.duid b.managed) b.kept6

  -- and whose link-local address is off besides
  record IsStill (f : Iface) : Type 0 where
    fresh : IsFresh f
    still : f.local ≡ off b.managed.spec.index

  abbrev Holds : IfaceStep → Type 0
  Holds step = HoldsNothing step.iface

  begin_local_fresh : (at : ℕ) (f : Iface) → IsStill f → IsFresh (begin_local at f).iface
  begin_local_fresh at f still = record {
    nothing = record {
      managed_is = still.fresh.nothing.managed_is;
      up_is = still.fresh.nothing.up_is;
      none = still.fresh.nothing.none;
      no_local = subst (λ (local : LinkLocal). HoldsNone (armed f.managed.conf at local)) (sym still.still) (armed_none f.managed.conf at b.managed.spec.index);
      no_items = still.fresh.nothing.no_items;
    };
    made = still.fresh.made;
  }

  -- a DHCPv6 client that begins and doesn't stand holds nothing, whatever was kept
  begun6 : (at salt : ℕ) (c : ClientContent)
      → client6.held_of (moved (begin_row (client6.turn_of at salt c) false (parting_begun at c) Off) None (pruned at false c)) ≡ None
  begun6 at salt c =
      gated (λ (step : Step6). client6.held_of (moved (record step { spends = true }) None c) ≡ None) (parting_begun at c).stays
      (restarts (client6.turn_of at salt c) false) (to_waiting (client6.turn_of at salt c)) refl refl

  abbrev made6 : ClientContent
  made6 = client6.client_made (settings6_of b.duid b.managed) b.kept6

  not_standing6 : (at : ℕ) → b.managed.conf.flags.persistent ≡ false → stands_at at made6 ≡ false
  not_standing6 at plain = ap (λ (wished : Bool). is_off Off && true && wished && has_origin b.kept6 && (parting_begun at made6).stays) plain

  begins6_nothing : (at salt : ℕ) (f : Iface) → b.managed.conf.flags.persistent ≡ false → IsFresh f → Holds (begin_dhcp6 at salt f)
  unfolding carrier_turned
  begins6_nothing at salt f plain fresh =
      gated Holds (runs_dhcp6 f.managed.conf) (dhcp6_step f (carrier_turned Up at salt f.dhcp6)) (silent f)
      (record {
        managed_is = fresh.nothing.managed_is;
        up_is = fresh.nothing.up_is;
        none = fresh.nothing.none;
        no_local = fresh.nothing.no_local;
        no_items = subst (λ (c : ClientContent). client6.held_of (carrier_turned Up at salt c).client ≡ None) (sym fresh.made)
            (subst
            (λ (stands : Bool). client6.held_of
            (moved (begin_row (client6.turn_of at salt made6) stands (parting_begun at made6) Off) None (pruned at stands made6))
            ≡ None)
            (sym (not_standing6 at plain)) (begun6 at salt made6));
      })
      fresh.nothing

  abbrev statics : List HostRow
  statics = configured_rows b.managed up

  rows_static : (f : Iface) → HoldsNothing f → iface_rows f ≡ statics
  rows_static f h =
      (λ i. ((configured_rows (h.managed_is i) (h.up_is i)
      ++ lease_rows (outlet_of (h.managed_is i)) (h.managed_is i).conf.router (h.none i))
      ++ local_rows (outlet_of (h.managed_is i)) (h.no_local i))
      ++ lease6_rows (outlet_of (h.managed_is i)) (h.managed_is i).conf.dhcp6.shares (h.no_items i))
      ∙ append-nil ((statics ++ []) ++ []) ∙ append-nil (statics ++ []) ∙ append-nil statics

-- ---- the opening

module _ (b : Beginning) (at salt : ℕ) where
  abbrev lit : Iface
  lit = record (resting b) { up = true }

  abbrev turn : Turn4
  turn = turn_of at salt lit.dhcp4

  -- the client stands on none of its leases
  abbrev NoneStands : Type 0
  NoneStands = IfSome b.kept4 (λ lease. stood turn true (terms_of lease) ≡ None)

  never : (wished : Bool) (terms : Terms4) → (if wished && true && false then Some terms else None) ≡ None
  never true terms = refl
  never false terms = refl

  none_stands : (kept : Option LeaseContent) → (b.managed.conf.flags.persistent ≡ false) ⊎ IfSome kept (λ lease. lease.origin ≡ None)
      → IfSome kept (λ lease. stood turn true (terms_of lease) ≡ None)
  none_stands None plain = tt
  none_stands (Some lease) (inl plain) = ap (λ (wished : Bool). if wished && true && is_some lease.origin then Some (terms_of lease) else None) plain
  none_stands (Some lease) (inr none) =
      ap (λ (o : Option Origin). if b.managed.conf.flags.persistent && true && is_some o then Some (terms_of lease) else None) none
      ∙ never b.managed.conf.flags.persistent (terms_of lease)

  -- ---- DHCPv4 alone

  abbrev HeldNone : IfaceStep → Type 0
  HeldNone step = held_of step.iface.dhcp4 ≡ None

  begun4 : (kept : Option LeaseContent) → IfSome kept (λ lease. stood turn true (terms_of lease) ≡ None)
      → HeldNone (dhcp4_step at (record lit { dhcp4 = record lit.dhcp4 { kept = kept } }) (inputs.begins turn true (option_map terms_of kept)))
  begun4 None none = refl
  begun4 (Some lease) none =
      gated (λ (step : Step4). HeldNone (dhcp4_step at (record lit { dhcp4 = record lit.dhcp4 { kept = Some lease } }) (record step { spends = true })))
      (is_due (expiry (terms_of lease)) at || nat_eq b.managed.conf.times.reboot 0) (to_init turn)
      (rebooting turn (new_exchange turn lease.net.ip) Four (at + SECOND * b.managed.conf.times.reboot) (stood turn true (terms_of lease))) refl
      (ap (λ (stands : Option Terms4). if is_some stands then Some lease else None) none)

  first4 : NoneStands → HeldNone (begin_dhcp4 at salt lit)
  first4 none =
      gated HeldNone (runs_dhcp4 b.managed.conf) (dhcp4_step at lit (inputs.begins turn true (kept_terms lit.dhcp4))) (silent lit) (begun4 b.kept4 none) refl

  after6 : (f : Iface) → held_of f.dhcp4 ≡ None → HeldNone (begin_dhcp6 at salt f)
  after6 f none = gated HeldNone (runs_dhcp6 f.managed.conf) (dhcp6_step f (carrier_turned Up at salt f.dhcp6)) (silent f) none none

  opened_none : NoneStands → (up : Bool) → HeldNone (carrier_at_opening up at salt (resting b))
  opened_none none true = after6 (begin_local at (begin_dhcp4 at salt lit).iface).iface (first4 none)
  opened_none none false = refl

  -- ---- all of it

  abbrev After : Step4 → Type 0
  After step = IsStill b true (dhcp4_step at lit step).iface

  still_so : (step : Step4) → held_of (dhcp4_step at lit step).iface.dhcp4 ≡ None → step.news ≡ news.Nothing → After step
  still_so step none silent = record {
    fresh =
        record {
          nothing = record {
            managed_is = refl;
            up_is = refl;
            none = none;
            no_local = ap (λ n. held_in (followed b.managed.conf at (holds_lease lit) n lit.local).state) silent;
            no_items = refl;
          };
          made = refl;
        };
    still = ap (λ n. followed b.managed.conf at (holds_lease lit) n lit.local) silent;
  }

  begins_silent : (kept : Option Terms4) → (inputs.begins turn true kept).news ≡ news.Nothing
  begins_silent None = refl
  begins_silent (Some terms) =
      gated (λ (step : Step4). step.news ≡ news.Nothing) (is_due (expiry terms) at || nat_eq b.managed.conf.times.reboot 0) (to_init turn)
      (rebooting turn (new_exchange turn terms.net.ip) Four (at + SECOND * b.managed.conf.times.reboot) (stood turn true terms)) refl refl

  first_still : NoneStands → IsStill b true (begin_dhcp4 at salt lit).iface
  first_still none =
      gated (λ (step : IfaceStep). IsStill b true step.iface) (runs_dhcp4 b.managed.conf) (dhcp4_step at lit (inputs.begins turn true (kept_terms lit.dhcp4)))
      (silent lit)
      (still_so (inputs.begins turn true (kept_terms lit.dhcp4)) (begun4 b.kept4 none) (begins_silent (kept_terms lit.dhcp4)))
      (record {
        fresh = record { nothing = record { managed_is = refl; up_is = refl; none = refl; no_local = refl; no_items = refl }; made = refl };
        still = refl;
      })

  module _ (plain : b.managed.conf.flags.persistent ≡ false) where
    comes_nothing : HoldsNothing b true (carrier_comes at salt (resting b)).iface
    comes_nothing =
        begins6_nothing b true at salt (begin_local at (begin_dhcp4 at salt lit).iface).iface plain
        (begin_local_fresh b true at (begin_dhcp4 at salt lit).iface (first_still (none_stands b.kept4 (inl plain))))

    opened_nothing : (up : Bool) → HoldsNothing b up (carrier_at_opening up at salt (resting b)).iface
    opened_nothing true = comes_nothing
    opened_nothing false = record { managed_is = refl; up_is = refl; none = refl; no_local = refl; no_items = refl }

pub begins_with_static_rows : BeginsWithStaticRows
begins_with_static_rows b opening plain =
    let up : Bool = is_up opening.up b.managed.spec.index.number in
    rows_static b up (opens b opening).iface (opened_nothing b opening.at opening.salt plain up)

pub begins_without_lease : BeginsWithoutLease
begins_without_lease own b opening plain =
    opened_none b opening.at opening.salt (none_stands b opening.at opening.salt b.kept4 plain) (is_up opening.up b.managed.spec.index.number)

-- ---- a lease that is held then

-- where an address rests on nothing granted before a frame came in
pub kept_at_first : (site : Site) (net : Net) (now : ℕ) (e : Entry) → e.event ≡ Quiet → LeaseRests site net now (e ∷ []) → KeptBasis4 site net now (e ∷ [])
kept_at_first site net now e quiet (inl granted) =
    absurd (needs_frame_here site net now (e ∷ []) (λ len frame. no_frame (index_at site) len (sym quiet ∙ frame), tt) granted)
  where
    no_frame : (index len : ℕ) → Quiet ≡ Frame index len → ⊥
    no_frame index len h = cc
kept_at_first site net now e quiet (inr kept) = kept

pub begins_with_kept : BeginsWithKept
begins_with_kept own b opening lease fits typed lived held =
    kept_at_first (site_of own b opening) (V4 lease.net) (now_in (shown opening [])) (opening_entry opening) refl
    (held_leases_have_basis own b opening [] lease fits typed lived held)
