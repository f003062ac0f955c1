-- What is left of a lease when items go.
use Rattle.std.proofs.Common.{◌≡◌, inl, inr, ℕ, true, List, [], ◌∷◌, Option, Some, None, IfSome, option_map, refl, sym, ap, subst, ◌∙◌}
use Rattle.std.proofs.lemmas.Bool.{and_parts, eqb-true}
use Rattle.std.proofs.lemmas.List.Elements.{Contains-append_cases}
use Rattle.std.specs.List.{Contains}
use Rattle.std.specs.Prelude.{◌==◌}
use Rattle.net_types.proofs.CaseLaws.{gated, split}
use Rattle.v6_options.specs.declared.ia.IaKind.{IaKind}
use Rattle.v6_options.specs.declared.ia.IaKind.TheVariants.{Na, Pd}
use Rattle.lease6_text.specs.declared.lease.Item6.{Item6}
use Rattle.lease6_text.specs.Leases.{IaLeaseContent, Lease6Content}
use Rattle.lease6_text.specs.LineParts.{is_ia, is_same_kind}
use Rattle.v6_client.specs.V6Items.declared.asks.IaAsk.{IaAsk}
use Rattle.v6_client.specs.V6Items.declared.scope.Cause6.{Cause6}
use Rattle.v6_client.specs.V6Items.declared.scope.Cause6.TheVariants.{Lapse}
use Rattle.v6_client.specs.Calls.{pruned_lease}
use Rattle.v6_client.specs.V6Items.Items.{asked_at, ia_with, is_nonempty, items_at, pruned_ia, pruned_ias, staying, stays_in, thinned, without}
use Rattle.v6_client.specs.Moves.{lease_with, thinned_lease}
use Rattle.v6_client_laws.proofs.FirstItems.{behind_in, front_in, none_in}
use Rattle.v6_client_laws.proofs.Leasts.{filter_in, in_cases}
use Rattle.origin_laws.specs.Granted6.{HasItem, IsLeftOf, WasKept}

-- ---- items

abbrev HasNoOther : (old new : List IaLeaseContent) → Type 0
HasNoOther old new = (kind : IaKind) (iaid : ℕ) (item : Item6) → HasItem new kind iaid item → HasItem old kind iaid item

behind : (ia : IaLeaseContent) (ias : List IaLeaseContent) (kind : IaKind) (iaid : ℕ) (item : Item6) → HasItem ias kind iaid item
    → HasItem (ia ∷ ias) kind iaid item
behind ia ias kind iaid item has = record {
  ia = has.ia;
  among = behind_in ia ias has.ia has.among;
  same_kind = has.same_kind;
  same_iaid = has.same_iaid;
  of_ia = has.of_ia;
}

-- an IA by its key, unless it has no items
the_ia : (kind : IaKind) (iaid : ℕ) (items : List Item6) (ia : IaLeaseContent) → Contains (ia_with kind iaid items) ia
    → ia ≡ record { kind = kind; iaid = iaid; items = items }
the_ia kind iaid items ia =
    gated (λ (ias : List IaLeaseContent). Contains ias ia → ia ≡ record { kind = kind; iaid = iaid; items = items }) (is_nonempty items) _ []
    (λ among. single among) (λ among. absurd (none_in ia among))
  where
    single : Contains (record { kind = kind; iaid = iaid; items = items } ∷ []) ia → ia ≡ record { kind = kind; iaid = iaid; items = items }
    single among = elim (in_cases (record { kind = kind; iaid = iaid; items = items }) [] ia among) [
      | inl same ↦ sym same
      | inr later ↦ absurd (none_in ia later)
    ]

-- ---- those that go

of_thinned : (cause : Cause6) (x : IaLeaseContent) (xs : List IaLeaseContent) (kind : IaKind) (iaid : ℕ) (item : Item6) (ia : IaLeaseContent)
    → Contains (thinned cause x) ia → ia.kind ≡ kind → ia.iaid ≡ iaid → Contains ia.items item → HasItem (x ∷ xs) kind iaid item
of_thinned cause x xs kind iaid item ia among same_kind same_iaid of_ia =
    let is : ia ≡ record { kind = x.kind; iaid = x.iaid; items = staying cause x.kind x.items } =
    the_ia x.kind x.iaid (staying cause x.kind x.items) ia among in
    record {
      ia = x;
      among = front_in x xs;
      same_kind = ap (λ (y : IaLeaseContent). y.kind) (sym is) ∙ same_kind;
      same_iaid = ap (λ (y : IaLeaseContent). y.iaid) (sym is) ∙ same_iaid;
      of_ia = (filter_in (stays_in cause x.kind) x.items item (subst (λ (y : IaLeaseContent). Contains y.items item) is of_ia)).0;
    }

pub without_less : (cause : Cause6) (ias : List IaLeaseContent) → HasNoOther ias (without cause ias)
without_less cause [] kind iaid item has = absurd (none_in has.ia has.among)
without_less cause (x ∷ xs) kind iaid item has =
    elim (Contains-append_cases (thinned cause x) (without cause xs) has.ia has.among) [
      | inl here ↦ of_thinned cause x xs kind iaid item has.ia here has.same_kind has.same_iaid has.of_ia
      | inr later ↦ behind x xs kind iaid item (without_less cause xs kind iaid item (record {
        ia = has.ia;
        among = later;
        same_kind = has.same_kind;
        same_iaid = has.same_iaid;
        of_ia = has.of_ia;
      }))
    ]

-- ---- those that aren't asked for

kinds_same : (a b : IaKind) → is_same_kind a b ≡ true → a ≡ b
kinds_same Na Na h = refl
kinds_same Na Pd h = absurd cc
kinds_same Pd Na h = absurd cc
kinds_same Pd Pd h = refl

-- an item that is found by the key of its IA
item_found : (kind : IaKind) (iaid : ℕ) (ias : List IaLeaseContent) (item : Item6) → Contains (items_at kind iaid ias) item → HasItem ias kind iaid item
item_found kind iaid [] item = λ among. absurd (none_in item among)
item_found kind iaid (x ∷ xs) item =
    split (is_ia (kind, iaid) x)
    (λ here. rw here (λ among.
    let parts = and_parts (is_same_kind x.kind kind) (x.iaid == iaid) here in
    record {
      ia = x;
      among = front_in x xs;
      same_kind = kinds_same x.kind kind parts.0;
      same_iaid = eqb-true x.iaid iaid parts.1;
      of_ia = among;
    }))
    (λ other. rw other (λ among. behind x xs kind iaid item (item_found kind iaid xs item among)))

of_pruned : (at : ℕ) (ias : List IaLeaseContent) (ask : IaAsk) (kind : IaKind) (iaid : ℕ) (item : Item6) (ia : IaLeaseContent)
    → Contains (pruned_ia at ias ask) ia → ia.kind ≡ kind → ia.iaid ≡ iaid → Contains ia.items item → HasItem ias kind iaid item
of_pruned at ias ask kind iaid item ia among same_kind same_iaid of_ia =
    let live : List Item6 = staying (Lapse at) ask.kind (asked_at ask ias) in
    let is : ia ≡ record { kind = ask.kind; iaid = ask.iaid; items = live } = the_ia ask.kind ask.iaid live ia among in
    let found : HasItem ias ask.kind ask.iaid item =
    item_found ask.kind ask.iaid ias item
    (filter_in (stays_in (Lapse at) ask.kind) (asked_at ask ias) item (subst (λ (y : IaLeaseContent). Contains y.items item) is of_ia)).0 in
    record {
      ia = found.ia;
      among = found.among;
      same_kind = found.same_kind ∙ ap (λ (y : IaLeaseContent). y.kind) (sym is) ∙ same_kind;
      same_iaid = found.same_iaid ∙ ap (λ (y : IaLeaseContent). y.iaid) (sym is) ∙ same_iaid;
      of_ia = found.of_ia;
    }

pub pruned_less : (at : ℕ) (ias : List IaLeaseContent) (asks : List IaAsk) → HasNoOther ias (pruned_ias at ias asks)
pruned_less at ias [] kind iaid item has = absurd (none_in has.ia has.among)
pruned_less at ias (ask ∷ asks) kind iaid item has =
    elim (Contains-append_cases (pruned_ia at ias ask) (pruned_ias at ias asks) has.ia has.among) [
      | inl here ↦ of_pruned at ias ask kind iaid item has.ia here has.same_kind has.same_iaid has.of_ia
      | inr later ↦ pruned_less at ias asks kind iaid item (record {
        ia = has.ia;
        among = later;
        same_kind = has.same_kind;
        same_iaid = has.same_iaid;
        of_ia = has.of_ia;
      })
    ]

-- ---- leases

pub left_self : (lease : Lease6Content) → IsLeftOf lease lease
left_self lease = record { rest = refl; items = λ kind iaid item has. has }

pub left_both : (first second third : Lease6Content) → IsLeftOf first second → IsLeftOf second third → IsLeftOf first third
left_both first second third one two = record {
  rest = subst (λ (middle : Lease6Content). third ≡ lease_with third.ias middle) one.rest two.rest;
  items = λ kind iaid item has. one.items kind iaid item (two.items kind iaid item has);
}

pub thinned_left : (cause : Cause6) (lease : Lease6Content) → IsLeftOf lease (thinned_lease cause lease)
thinned_left cause lease = record { rest = refl; items = without_less cause lease.ias }

pub pruned_left : (at : ℕ) (asks : List IaAsk) (lease : Lease6Content) → IsLeftOf lease (pruned_lease at asks lease)
pruned_left at asks lease = record { rest = refl; items = pruned_less at lease.ias asks }

-- ---- kept leases

pub kept_both : (kept : Option Lease6Content) (middle lease : Lease6Content) → WasKept kept middle → IsLeftOf middle lease → WasKept kept lease
kept_both kept middle lease was left = record { before = was.before; was = was.was; left = left_both was.before middle lease was.left left }

abbrev pub Less : (old new : Option Lease6Content) → Type 0
Less old new = IfSome new (WasKept old)

pub less_self : (kept : Option Lease6Content) → Less kept kept
less_self None = tt
less_self (Some lease) = record { before = lease; was = refl; left = left_self lease }

pub less_by : (f : Lease6Content → Lease6Content) → ((lease : Lease6Content) → IsLeftOf lease (f lease)) → (kept : Option Lease6Content)
    → Less kept (option_map f kept)
less_by f left None = tt
less_by f left (Some lease) = record { before = lease; was = refl; left = left lease }
