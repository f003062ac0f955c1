-- A Reply that gives something of what is asked for leaves a lease with items.
use Rattle.std.proofs.Common.{◌≡◌, ℕ, zero, suc, Bool, true, false, cond, List, [], ◌∷◌, ◌++◌, length, Option, Some, None, inl, inr, bytes_eq, refl, ap, ◌∙◌}
use Rattle.std.specs.Prelude.{nat_lt, not, slice_set}
use Rattle.std.proofs.lemmas.Bool.{and_parts, cond_both, or_cases, or_left, or_right}
use Rattle.std.proofs.lemmas.List.Folds.{list_any-append}
use Rattle.std.specs.List.{fold, list_all, list_any}
use Rattle.std.specs.Option.{option_and_then}
use Rattle.std.specs.Prelude.{◌==◌}
use Rattle.v6_options.specs.declared.ia.IaKind.{IaKind}
use Rattle.v6_options.specs.declared.ia.ItemSaid.{ItemSaid}
use Rattle.v6_options.specs.Duids.{duid_in}
use Rattle.v6_message.specs.Replies.{Content6}
use Rattle.lease6_text.specs.declared.lease.Item6.{Item6}
use Rattle.lease6_text.specs.declared.lease.TheConstants.{ITEM_LIMIT}
use Rattle.lease6_text.specs.Leases.{IaLeaseContent, Lease6Content}
use Rattle.v6_client.specs.V6Items.declared.asks.IaAsk.{IaAsk}
use Rattle.v6_client.specs.Answers.{is_duid, is_from, meeting_of, server_of, granted}
use Rattle.v6_client.specs.Clients.{ClientContent}
use Rattle.v6_client.specs.V6Items.Items.{ia_with, is_nonempty}
use Rattle.v6_client.specs.V6Items.Taking.{IaTaking, Meeting, ia_granted, ias_granted, item_from, origin_granted, place_of, placed, spans_granted, t1_granted, t2_granted, taken_by, takes_item, values_granted}
use Rattle.lease6_progress.specs.Acquiring.{has_item}
use Rattle.lease6_progress.specs.Questions.{gives, gives_items, said_for}

-- ---- items

abbrev Some6 : List Item6 → Type 0
Some6 items = is_nonempty items ≡ true

with_last : (items : List Item6) (item : Item6) → Some6 (items ++ item ∷ [])
with_last [] item = refl
with_last (x ∷ items) item = refl

set_so : (x : Item6) (items : List Item6) (place : ℕ) (item : Item6) → Some6 (slice_set (x ∷ items) place item)
set_so x items zero item = refl
set_so x items (suc place) item = refl

placed_so : (at : ℕ) (said : ItemSaid) (items : List Item6) (shortest : Option ℕ)
    → Some6 (placed at said (place_of said.net items) (record { items = items; shortest = shortest })).items
placed_so at said [] shortest = refl
placed_so at said (x ∷ items) shortest = by_place (place_of said.net (x ∷ items))
  where
    by_place : (place : Option ℕ) → Some6 (placed at said place (record { items = x ∷ items; shortest = shortest })).items
    by_place None =
        cond_both (nat_lt (length (x ∷ items)) ITEM_LIMIT) _ _ (λ (t : IaTaking). Some6 t.items) (λ e. refl) (λ e. refl)
    by_place (Some place) = set_so x items place (item_from at said)

-- one that isn't taken back is held
taken_so : (at : ℕ) (said : ItemSaid) (taking : IaTaking) → not (said.valid == 0) ≡ true → Some6 (takes_item at taking said).items
taken_so at said taking valid =
    cond_both (said.valid == 0) _ _ (λ (t : IaTaking). Some6 t.items)
    (λ e. absurd (never (said.valid == 0) e valid)) (λ e. placed_so at said taking.items taking.shortest)
  where
    never : (b : Bool) → b ≡ true → not b ≡ true → ⊥
    never true e h = absurd cc
    never false e h = absurd cc

all_taken : (at : ℕ) (saids : List ItemSaid) (taking : IaTaking) → list_all (λ item. not (item.valid == 0)) saids ≡ true
    → Some6 taking.items → Some6 (fold (takes_item at) taking saids).items
all_taken at [] taking valid h = h
all_taken at (said ∷ saids) taking valid h =
    let parts = and_parts (not (said.valid == 0)) (list_all (λ item. not (item.valid == 0)) saids) valid in
    all_taken at saids (takes_item at taking said) parts.1 (taken_so at said taking parts.0)

given_so : (at : ℕ) (saids : List ItemSaid) (taking : IaTaking) → gives_items saids ≡ true
    → Some6 (fold (takes_item at) taking saids).items
given_so at [] taking gives = absurd cc
given_so at (said ∷ saids) taking gives =
    let parts = and_parts (not (said.valid == 0)) (list_all (λ item. not (item.valid == 0)) saids) gives in
    all_taken at saids (takes_item at taking said) parts.1 (taken_so at said taking parts.0)

-- ---- IAs

abbrev HasSome : List IaLeaseContent → Type 0
HasSome ias = list_any (λ ia. is_nonempty ia.items) ias ≡ true

with_so : (kind : IaKind) (iaid : ℕ) (items : List Item6) → Some6 items → HasSome (ia_with kind iaid items)
with_so kind iaid [] h = absurd cc
with_so kind iaid (item ∷ items) h = refl

nonempty_so : (ias : List IaLeaseContent) → HasSome ias → is_nonempty ias ≡ true
nonempty_so [] h = absurd cc
nonempty_so (ia ∷ ias) h = refl

abbrev holds_items : IaLeaseContent → Bool
holds_items ia = is_nonempty ia.items

-- ---- the lease

-- the server is told by a DUID
record IsNamed (told : Option (List ℕ)) : Type 0 where
  pub server : List ℕ
  pub is : option_and_then duid_in told ≡ Some server

named : (chosen told : Option (List ℕ)) → is_from chosen told ≡ true → IsNamed told
named chosen None h = absurd cc
named None (Some server) h = record { server = server; is = ap (λ (b : Bool). cond b (Some server) None) h }
named (Some one) (Some server) h =
    record { server = server; is = ap (λ (b : Bool). cond b (Some server) None) (and_parts (is_duid server) (bytes_eq server one) h).0 }

pub record GrantsSome (granted : Option Lease6Content) : Type 0 where
  pub lease : Lease6Content
  pub is : granted ≡ Some lease
  pub some_item : has_item lease ≡ true

module _ (at : ℕ) (c : ClientContent) (message : Content6) where
  abbrev m : Meeting
  m = meeting_of at c message

  ia_so : (ask : IaAsk) → gives_items (said_for ask message) ≡ true → HasSome (ia_granted m ask)
  ia_so ask h = with_so ask.kind ask.iaid (taken_by m ask).items (given_so at (said_for ask message) _ h)

  ias_so : (asks : List IaAsk) → list_any (λ ask. gives_items (said_for ask message)) asks ≡ true → HasSome (ias_granted m asks)
  ias_so [] h = absurd cc
  ias_so (ask ∷ asks) h =
      list_any-append holds_items (ia_granted m ask) (ias_granted m asks)
      ∙ elim (or_cases (gives_items (said_for ask message)) (list_any (λ a. gives_items (said_for a message)) asks) h) [
        | inl t ↦ or_left (list_any holds_items (ia_granted m ask)) (list_any holds_items (ias_granted m asks)) (ia_so ask t)
        | inr t ↦ or_right (list_any holds_items (ia_granted m ask)) (list_any holds_items (ias_granted m asks)) (ias_so asks t)
      ]

  abbrev lease_of : (server : List ℕ) → Lease6Content
  lease_of server = record {
    origin = Some (origin_granted c.settings.site.iface m);
    name = c.settings.site.iface.name;
    server = server;
    t1 = t1_granted m (spans_granted m c.settings.asks);
    t2 = t2_granted m (spans_granted m c.settings.asks);
    ias = ias_granted m c.settings.asks;
    values = values_granted message;
  }

  pub grants_some : (chosen : Option (List ℕ)) → is_from chosen message.server ≡ true → gives c.settings.asks message ≡ true
      → GrantsSome (option_and_then (granted at c message) (server_of message))
  grants_some chosen from gives_so =
      let by : IsNamed message.server = named chosen message.server from in
      let some : HasSome (ias_granted m c.settings.asks) = ias_so c.settings.asks gives_so in
      record {
        lease = lease_of by.server;
        is = ap (λ (o : Option (List ℕ)). option_and_then (granted at c message) o) by.is
            ∙ ap (λ (b : Bool). cond b (Some (lease_of by.server)) None) (nonempty_so (ias_granted m c.settings.asks) some);
        some_item = some;
      }
