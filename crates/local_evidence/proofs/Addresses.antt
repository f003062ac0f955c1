-- The addresses of a DHCPv4 client are those that a host may have, and the lease that it holds is the kept one.
use Rattle.std.proofs.Common.{◌≡◌, ℕ, ◌<◌, ◌^◌, List, Option, Some, None, option_map, refl, sym, subst, if◌then◌else◌}
use Rattle.std.specs.Option.{is_some}
use Rattle.machine.specs.Moment.{is_due}
use Rattle.net_types.proofs.CaseLaws.{gated}
use Rattle.net_types.specs.declared.address.Mac.{Mac}
use Rattle.net_types.specs.declared.interface.Name.{Name}
use Rattle.frame_link.specs.declared.arp.ArpView.{ArpView}
use Rattle.lease_text.specs.declared.lease.Terms4.{Terms4}
use Rattle.lease_text.specs.Leases.{LeaseContent, ValueContent, terms_of}
use Rattle.v4_client.specs.declared.states.Carrier.{Carrier}
use Rattle.v4_client.specs.declared.states.Carrier.TheVariants.{Up, Down}
use Rattle.v4_client.specs.declared.states.Keep4.{Keep4}
use Rattle.v4_client.specs.declared.states.Keep4.TheVariants.{Stays, Clears, Takes}
use Rattle.v4_client.specs.declared.states.Step4.{Step4}
use Rattle.v4_client.specs.declared.states.Tell.{Tell}
use Rattle.v4_client.specs.Calls.{answer_to, arp_step, brought, carrier_step, heard_step, rebind_step, release_step, unsent_step}
use Rattle.v4_client.specs.Clients.{ClientContent, held_of, held_terms, is_held, kept_terms, turn_of}
use Rattle.v4_client.specs.Due.{due_of}
use Rattle.v4_client.specs.History.{tick_step}
use Rattle.v4_client.specs.Messages.{Arrival}
use Rattle.v4_client.specs.Moves.{kept_after, moved}
use Rattle.v4_client.specs.Sound.{FitsBegin, FitsKeep, FitsState, IsKept, IsSoundStep}
use Rattle.v4_client.proofs.SoundAnswers.{answer_fits}
use Rattle.v4_client.proofs.SoundClients.{held_kept}
use Rattle.v4_client.proofs.SoundSteps.{arp_sound, begin_sound, heard_sound, off_sound, rebind_sound, release_sound, rests_sound, tick_sound, unsent_fits, unsent_held}

-- those of its state, and that of the kept lease, which is the one that it holds
pub record HasHosts (c : ClientContent) : Type 0 where
  pub state : FitsState c.state
  pub kept : FitsBegin (kept_terms c)
  pub held : IsKept (held_terms c.state) c.kept

kept_fits : (keep : Keep4) (name : Name) (fresh : List ValueContent) (kept : Option LeaseContent) → FitsKeep keep
    → FitsBegin (option_map terms_of kept) → FitsBegin (option_map terms_of (kept_after keep name fresh kept))
kept_fits Stays name fresh kept taken fits = fits
kept_fits Clears name fresh kept taken fits = tt
kept_fits (Takes terms) name fresh kept taken fits = taken

pub moved_hosts : (c : ClientContent) (step : Step4) → HasHosts c → IsSoundStep (kept_terms c) c.state step → HasHosts (moved step c)
moved_hosts c step has goes = record {
  state = goes.state;
  kept = kept_fits step.keep c.settings.site.iface.name c.fresh c.kept goes.keep has.kept;
  held = held_kept (held_terms c.state) step.keep step.state c.settings.site.iface.name c.fresh c.kept goes.held has.held;
}

-- it holds a lease where its state is one in which a lease is held
pub holds_so : (c : ClientContent) → HasHosts c → is_some (held_of c) ≡ is_held c.state
holds_so c has = by (held_terms c.state) c.kept has.held
  where
    by : (terms : Option Terms4) (kept : Option LeaseContent) → IsKept terms kept
        → is_some (if is_some terms then kept else None) ≡ is_some terms
    by None kept held = refl
    by (Some terms) None held = cc
    by (Some terms) (Some lease) held = refl

-- ---- steps of a client

module _ (at salt : ℕ) (early : at < 10 ^ 15) (c : ClientContent) (has : HasHosts c) where
  pub tick_steps : IsSoundStep (kept_terms c) c.state (tick_step at salt c)
  tick_steps =
      gated (IsSoundStep (kept_terms c) c.state) (is_due (due_of c.state) at) _ _ (tick_sound (kept_terms c) (turn_of at salt c) c.state early has.state)
      (rests_sound (kept_terms c) (turn_of at salt c) c.state has.state)

  pub arp_steps : (own : List Mac) (arp : ArpView) → IsSoundStep (kept_terms c) c.state (arp_step own at salt arp c)
  arp_steps own arp = arp_sound (kept_terms c) own (turn_of at salt c) arp c.state has.state

  pub carrier_steps : (carrier : Carrier) → IsSoundStep (kept_terms c) c.state (carrier_step carrier at salt c)
  carrier_steps Up = begin_sound (kept_terms c) (turn_of at salt c) c.may_stand c.state early has.kept has.state
  carrier_steps Down = off_sound (kept_terms c) (turn_of at salt c) c.state

  pub release_steps : (tell : Tell) → IsSoundStep (kept_terms c) c.state (release_step tell at salt c)
  release_steps tell = release_sound (kept_terms c) (turn_of at salt c) tell c.state

  pub rebind_steps : IsSoundStep (kept_terms c) c.state (rebind_step at salt c)
  rebind_steps = rebind_sound (kept_terms c) (turn_of at salt c) c.state early has.kept has.state

  pub unsent_hosts : HasHosts (unsent_step at salt c)
  unsent_hosts = record {
    state = unsent_fits (turn_of at salt c) c.state has.state;
    kept = has.kept;
    held = subst (λ terms. IsKept terms c.kept) (sym (unsent_held (turn_of at salt c) c.state)) has.held;
  }

pub heard_steps : (salt : ℕ) (arrival : Arrival) (c : ClientContent) → arrival.at < 10 ^ 15 → HasHosts c
    → IsSoundStep (kept_terms c) c.state (heard_step salt arrival c)
heard_steps salt arrival c early has =
    heard_sound (kept_terms c) (turn_of arrival.at salt c) (answer_to arrival c) c.state early has.state
    (answer_fits c.settings arrival c.state early has.state)

pub brought_hosts : (arrival : Arrival) (c : ClientContent) → HasHosts c → HasHosts (brought arrival c)
brought_hosts arrival c has = record { state = has.state; kept = has.kept; held = has.held }
