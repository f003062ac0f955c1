-- After the opening an interface that may not stand on its kept lease holds no item.
use Rattle.std.proofs.Common.{◌≡◌, ℕ, inl, inr, Bool, true, false, ◌&&◌, ◌⊎◌, Option, Some, None, IfSome, refl, ap, ◌∙◌, is_some}
use Rattle.std.proofs.lemmas.Bool.{and_parts, both_ways}
use Rattle.std.specs.Prelude.{if◌then◌else◌}
use Rattle.net_types.proofs.CaseLaws.{gated}
use Rattle.lease6_text.specs.LeaseText.declared.lease.Origin.{Origin}
use Rattle.lease6_text.specs.Leases.{Lease6Content}
use Rattle.v6_client.specs.declared.states.Carrier6.TheVariants.{Up}
use Rattle.v6_client.specs.declared.states.Step6.{Step6}
use Rattle.v6_client.specs.Calls.{has_origin, parting_begun, stands_at}
use Rattle.v6_client.specs.Clients.{ClientContent, client_made, held_of, turn_of}
use Rattle.v6_client.specs.Inputs.{begins}
use Rattle.v6_client.specs.Runs.{Turned6, carrier_turned, stepped}
use Rattle.v6_client.specs.Steps.{restarts, to_waiting}
use Rattle.script_model.specs.IfaceSets.{is_up}
use Rattle.lease_evidence.specs.ClientModel.ClientSettings6.{runs_dhcp6, settings6_of}
use Rattle.lease_evidence.specs.ClientModel.Interfaces.{carrier_at_opening, resting}
use Rattle.lease_evidence.specs.ClientModel.KeptLeases.{Beginning}
use Rattle.lease6_evidence.specs.HeldItems.{BeginsWithoutItems}
use Rattle.lease6_evidence.proofs.ExchangeStates.{pruned_kept}
use Rattle.lease6_evidence.proofs.Turns6.{begins_run}

-- `persistent` isn't in force, or the kept lease doesn't tell where it is from
abbrev IsPlain : Beginning → Type 0
IsPlain beginning = (beginning.managed.conf.flags.persistent ≡ false) ⊎ IfSome beginning.kept6 (λ lease. lease.origin ≡ None)

untold : (origin : Option Origin) → origin ≡ None → is_some origin ≡ true → ⊥
untold None none told = cc
untold (Some origin) none told = cc

without_origin : (kept : Option Lease6Content) → IfSome kept (λ lease. lease.origin ≡ None) → has_origin kept ≡ true → ⊥
without_origin None none has = absurd cc
without_origin (Some lease) none has = untold lease.origin none has

stands_not : (beginning : Beginning) → IsPlain beginning → beginning.managed.conf.flags.persistent ≡ true
    → has_origin beginning.kept6 ≡ true → ⊥
stands_not beginning (inl off) on has = both_ways beginning.managed.conf.flags.persistent off on
stands_not beginning (inr none) on has = without_origin beginning.kept6 none has

module _ (at salt : ℕ) (beginning : Beginning) (plain : IsPlain beginning) where
  abbrev made : ClientContent
  made = client_made (settings6_of beginning.duid beginning.managed) beginning.kept6

  by_stands : (stands : Bool) → stands_at at made ≡ stands
      → held_of (stepped (begins (turn_of at salt made) stands (parting_begun at made)) None
      (if stands then record made { kept = pruned_kept at made.settings.asks made.kept } else made)).client ≡ None
  by_stands true is =
      let one = and_parts (beginning.managed.conf.flags.persistent && has_origin beginning.kept6) (parting_begun at made).stays is in
      let two = and_parts beginning.managed.conf.flags.persistent (has_origin beginning.kept6) one.0 in
      absurd (stands_not beginning plain two.0 two.1)
  by_stands false is =
      gated (λ (step : Step6). held_of (stepped (record step { spends = true }) None made).client ≡ None)
      (parting_begun at made).stays (restarts (turn_of at salt made) false) (to_waiting (turn_of at salt made)) refl refl

  begun_without : held_of (carrier_turned Up at salt made).client ≡ None
  unfolding carrier_turned
  begun_without = by_stands (stands_at at made) refl

  opened_without : (up : Bool) → held_of (carrier_at_opening up at salt (resting beginning)).iface.dhcp6 ≡ None
  opened_without true =
      ap held_of (begins_run at salt (record (resting beginning) { up = true })).client_is
      ∙ gated (λ (turned : Turned6). held_of turned.client ≡ None) (runs_dhcp6 beginning.managed.conf) _ _ begun_without refl
  opened_without false = refl

pub begins_without_items : BeginsWithoutItems
begins_without_items own beginning opening plain =
    opened_without opening.at opening.salt beginning plain (is_up opening.up beginning.managed.spec.index.number)
