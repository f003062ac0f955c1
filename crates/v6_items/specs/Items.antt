-- The items of a client: the addresses and prefixes of its IAs (RFC 8415, section 12).
use Rattle.std.specs.Prelude.{ℕ, Bool, true, false, not, ◌&&◌, List, [], ◌∷◌, filter, find, fold, Option, Some, None, ◌==◌, if◌then◌else◌}
use Rattle.std.specs.List.{list_any, flat_map}
use Rattle.std.specs.Option.{option_map_or}
use Rattle.machine.specs.Moment.{is_due}
use Rattle.v6_options.specs.declared.ia.IaKind.{IaKind}
use Rattle.v6_options.specs.declared.ia.IaKind.TheVariants.{Na, Pd}
use Rattle.lease6_text.specs.declared.lease.Item6.{Item6}
use Rattle.lease6_text.specs.Leases.{IaLeaseContent, Lease6Content}
use Rattle.lease6_text.specs.LineParts.{is_ia}
use Rattle.v6_items.specs.declared.asks.IaAsk.{IaAsk}
use Rattle.v6_items.specs.declared.scope.Cause6.{Cause6}
use Rattle.v6_items.specs.declared.scope.Cause6.TheVariants.{Lapse, Duplicate}
use Rattle.v6_items.specs.declared.scope.Dates6.{Dates6}
use Rattle.v6_items.specs.declared.scope.Parting6.{Parting6}
use Rattle.v6_items.specs.declared.scope.Scope6.{Scope6}
use Rattle.v6_items.specs.declared.scope.Scope6.TheVariants as scope
use Rattle.v6_items.specs.Times.{earlier}

-- an item whose valid lifetime isn't over at a moment
abbrev pub is_live : (at : ℕ) → Item6 → Bool
is_live at item = not (is_due item.valid at)

abbrev pub is_in : Scope6 → Item6 → Bool
is_in scope.Nothing item = false
is_in scope.All item = true
is_in (scope.Since at) item = is_live at item

-- the items of an IA, by its kind and IAID
abbrev pub items_at : IaKind → (iaid : ℕ) → List IaLeaseContent → List Item6
items_at kind iaid ias = option_map_or (λ ia. ia.items) (find (is_ia (kind, iaid)) ias) []

abbrev pub asked_at : IaAsk → List IaLeaseContent → List Item6
asked_at ask ias = items_at ask.kind ask.iaid ias

abbrev pub ias_of : Option Lease6Content → List IaLeaseContent
ias_of None = []
ias_of (Some lease) = lease.ias

-- ---- what goes and what stays

-- An item goes when its valid lifetime is over, or, an address of an IA_NA, when another host uses it.
abbrev pub stays_in : Cause6 → IaKind → Item6 → Bool
stays_in (Lapse at) kind item = is_live at item
stays_in (Duplicate address) Na item = not (item.net.ip.number == address.number)
stays_in (Duplicate address) Pd item = true

abbrev pub goes_of : Cause6 → Scope6 → List IaLeaseContent → IaAsk → Bool
goes_of cause scope ias ask =
    list_any (λ item. is_in scope item && not (stays_in cause ask.kind item)) (asked_at ask ias)

abbrev pub stays_of : Cause6 → Scope6 → List IaLeaseContent → IaAsk → Bool
stays_of cause scope ias ask = list_any (λ item. is_in scope item && stays_in cause ask.kind item) (asked_at ask ias)

-- whether some of the items go, and whether some stay
abbrev pub parting_of : Cause6 → Scope6 → List IaLeaseContent → List IaAsk → Parting6
parting_of cause scope ias asks = record {
  goes = list_any (goes_of cause scope ias) asks;
  stays = list_any (stays_of cause scope ias) asks;
}

abbrev pub is_nonempty : {A : Type 0} → List A → Bool
is_nonempty [] = false
is_nonempty (x ∷ xs) = true

abbrev pub staying : Cause6 → IaKind → List Item6 → List Item6
staying cause kind items = filter (stays_in cause kind) items

-- an IA, unless it has no items
abbrev pub ia_with : IaKind → (iaid : ℕ) → List Item6 → List IaLeaseContent
ia_with kind iaid items = if is_nonempty items then record { kind = kind; iaid = iaid; items = items } ∷ [] else []

-- an IA without the items that go
abbrev pub thinned : Cause6 → IaLeaseContent → List IaLeaseContent
thinned cause ia = ia_with ia.kind ia.iaid (staying cause ia.kind ia.items)

abbrev pub without : Cause6 → List IaLeaseContent → List IaLeaseContent
without cause ias = flat_map (thinned cause) ias

-- ---- the lease that a client stands on: of the IAs that it asks for, in their order, what isn't over

abbrev pub pruned_ia : (at : ℕ) → List IaLeaseContent → IaAsk → List IaLeaseContent
pruned_ia at ias ask = ia_with ask.kind ask.iaid (staying (Lapse at) ask.kind (asked_at ask ias))

abbrev pub pruned_ias : (at : ℕ) → List IaLeaseContent → List IaAsk → List IaLeaseContent
pruned_ias at ias asks = flat_map (pruned_ia at ias) asks

-- ---- their moments

-- when the first of the items isn't valid any more
abbrev pub lapse_of : Scope6 → List Item6 → Option ℕ
lapse_of scope items = fold (λ first item. earlier first item.valid) None (filter (is_in scope) items)

abbrev pub lapse_in : Scope6 → List IaLeaseContent → List IaAsk → Option ℕ
lapse_in scope ias asks = fold (λ first ask. earlier first (lapse_of scope (asked_at ask ias))) None asks

abbrev pub dates_of : Scope6 → Option Lease6Content → List IaAsk → Dates6
dates_of scope None asks = record { t1 = None; t2 = None; lapse = None }
dates_of scope (Some lease) asks = record { t1 = lease.t1; t2 = lease.t2; lapse = lapse_in scope lease.ias asks }
