-- Each item of a lease that a Reply grants has its basis: the Reply gives it, or it was held and the Reply leaves it.
use Rattle.std.proofs.Common.{◌≡◌, ◌≢◌, ℕ, zero, suc, ◌+◌, ◌*◌, ◌<◌, ◌⊎◌, inl, inr, Bool, true, false, not, ◌&&◌, List, [], ◌∷◌, length, get_or, Some, None, refl, sym, ◌∙◌, subst, arith, eqb}
use Rattle.std.proofs.lemmas.Bool.{both_ways, and_parts, eqb-true}
use Rattle.std.proofs.lemmas.Bool.Decides.{nat_tests}
use Rattle.std.specs.List.{AllByRecursion, Contains, list_any}
use Rattle.std.specs.Prelude.{filter}
use Rattle.net_types.proofs.AllLaws.{all_join, all_map}
use Rattle.net_types.proofs.CaseLaws.{split}
use Rattle.net_types.specs.declared.address.Net6.{Net6}
use Rattle.machine.specs.Moment.{is_due}
use Rattle.v6_options.specs.declared.ia.IaKind.{IaKind}
use Rattle.v6_options.specs.declared.ia.ItemSaid.{ItemSaid}
use Rattle.v6_options.specs.Ias.{IaContent, ias_in}
use Rattle.v6_message.specs.Replies.{Content6}
use Rattle.lease6_text.specs.declared.lease.Item6.{Item6}
use Rattle.lease6_text.specs.Bounds.{FitsIa}
use Rattle.lease6_text.specs.Leases.{IaLeaseContent}
use Rattle.lease6_text.specs.LineParts.{is_ia, is_of_net, is_same_kind}
use Rattle.lease6_text.proofs.Apart.{Apart, apart_from}
use Rattle.v6_client.specs.V6Items.declared.asks.IaAsk.{IaAsk}
use Rattle.v6_client.specs.V6Items.declared.scope.Scope6.{Scope6}
use Rattle.v6_client.specs.V6Items.declared.scope.Scope6.TheVariants as scope
use Rattle.v6_client.specs.V6Items.declared.times.TheConstants.{FOREVER, SECOND}
use Rattle.v6_client.specs.V6Items.Items.{asked_at, ia_with, ias_of, is_live, items_at}
use Rattle.v6_client.specs.V6Items.Reading.{ia_for, is_unbound}
use Rattle.v6_client.specs.V6Items.Taking.{Meeting, carried, ia_granted, ias_granted, is_carried, is_named, item_from, taken_by}
use Rattle.v6_client.specs.V6Items.Times.{moment_after}
use Rattle.v6_client.proofs.Lease6Text.IaFacts.{kind_is}
use Rattle.v6_client.proofs.V6Items.TakenFits.{had_fit}
use Rattle.v6_client_laws.proofs.Given.{bindings_are_known, items_are_given}
use Rattle.lease_evidence.specs.EvidenceWords.Entries.{Entry}
use Rattle.lease_evidence.specs.EvidenceWords.Inputs.{Site}
use Rattle.lease6_evidence.specs.Ends6.{said_for}
use Rattle.lease6_evidence.specs.ItemBasis.{Leaves, Revises}
use Rattle.lease6_evidence.specs.Replies6.{asks_at, message6_at}
use Rattle.lease6_evidence.proofs.Basis6.{GivesUntil, HeldIa, HeldIas, HeldItem, key_ask, filter_all}
use Rattle.lease6_evidence.proofs.ExchangeStates.{IsFirst}
use Rattle.lease6_evidence.proofs.TakenItems6.{Tidy, Unnamed, UnlikeNets, same_net, takes_all}
use Rattle.lease6_evidence.proofs.Turns6.{Goes6}

-- ---- elements

behind : {X : Type 0} (x : X) (xs : List X) (y : X) → Contains xs y → Contains (x ∷ xs) y
behind x xs y among = (suc among.0, omega (arith, among.1), among.2)

pub all_contained : {X : Type 0} (xs : List X) → AllByRecursion (Contains xs) xs
all_contained [] = tt
all_contained (x ∷ xs) = ((0, omega arith, refl), all_map (Contains xs) (Contains (x ∷ xs)) (behind x xs) xs (all_contained xs))

pub of_contained : {X : Type 0} (P : X → Type 0) (xs : List X) → AllByRecursion P xs → (x : X) → Contains xs x → P x
of_contained P xs all x among = at_index P xs all x among.0 among.1 among.2
  where
    at_index : {X : Type 0} (P : X → Type 0) (xs : List X) → AllByRecursion P xs → (x : X) (k : ℕ) → k < length xs
        → get_or xs k x ≡ x → P x
    at_index P [] all x k less is = absurd (omega (arith, less))
    at_index P (y ∷ ys) all x zero less is = subst P is all.0
    at_index P (y ∷ ys) all x (suc k) less is = at_index P ys all.1 x k (omega (arith, less)) is

pub filter_apart : (test : Item6 → Bool) (xs : List Item6) → Apart UnlikeNets xs → Apart UnlikeNets (filter test xs)
filter_apart test [] apart = tt
filter_apart test (x ∷ xs) apart =
    split (test x) (λ e. rw e (filter_all (UnlikeNets x) test xs apart.0, filter_apart test xs apart.1))
    (λ e. rw e (filter_apart test xs apart.1))

-- ---- the items that an IA had

pub had_held : (site : Site) (now : ℕ) (past : List Entry) (kind : IaKind) (iaid : ℕ) (ias : List IaLeaseContent)
    → HeldIas site false now past ias
    → AllByRecursion (HeldItem site false kind iaid now past) (items_at kind iaid ias)
had_held site now past kind iaid [] held = tt
had_held site now past kind iaid (ia ∷ ias) held =
    split (is_ia (kind, iaid) ia)
    (λ e.
    let parts = and_parts (is_same_kind ia.kind kind) (eqb ia.iaid iaid) e in
    rw e (subst (λ (k : IaKind). AllByRecursion (HeldItem site false k iaid now past) ia.items) (kind_is ia.kind kind parts.0)
    (subst (λ (n : ℕ). AllByRecursion (HeldItem site false ia.kind n now past) ia.items) (eqb-true ia.iaid iaid parts.1)
    held.0.items)))
    (λ e. rw e (had_held site now past kind iaid ias held.1))

-- where all items are held, each has its basis
abbrev pub HeldBefore : Site → (now : ℕ) → List Entry → Scope6 → List IaLeaseContent → Type 0
HeldBefore site now past scope.Nothing ias = Unit {0}
HeldBefore site now past scope.All ias = HeldIas site false now past ias
HeldBefore site now past (scope.Since at) ias = Unit {0}

-- ---- a Reply

module _ (site : Site) (e : Entry) (past : List Entry) (message : Content6) (first : IsFirst site message e past)
    (goes : Goes6 site e past) where
  module _ (ask : IaAsk) (among_asks : Contains (asks_at site) ask) where
    abbrev key : IaAsk
    key = key_ask ask.kind ask.iaid

    abbrev saids : List ItemSaid
    saids = said_for ask message

    -- an item that the Reply brings
    abbrev Brought : Item6 → Type 0
    Brought item = GivesUntil site key item.net item.valid e past × (is_live e.moment item ≡ true)

    lives : (valid : ℕ) → eqb valid 0 ≡ false → not (is_due (moment_after e.moment valid) e.moment) ≡ true
    lives valid some = split (eqb valid FOREVER) (λ endless. rw endless refl) (λ ends. rw ends (later valid e.moment some))
      where
        later : (valid at : ℕ) → eqb valid 0 ≡ false → not (is_due (Some (at + SECOND * valid)) at) ≡ true
        later valid at some = grind (arith, nat_tests)

    above_none : (valid : ℕ) → eqb valid 0 ≡ false → 0 < valid
    above_none valid some = grind (arith, nat_tests)

    brings_one : (said : ItemSaid) → Contains saids said → eqb said.valid 0 ≡ false → Brought (item_from e.moment said)
    brings_one said among some = (
      record {
        opened = first.opened;
        message = message;
        reply = first.first;
        mentions = record { said = said; gives = (items_are_given ask (ias_in message.options) said).sound among; item = refl };
        some = above_none said.valid some;
        until_is = refl;
      },
      lives said.valid some,
    )

    brings : AllByRecursion (λ said. eqb said.valid 0 ≡ false → Brought (item_from e.moment said)) saids
    brings = all_map (Contains saids) (λ said. eqb said.valid 0 ≡ false → Brought (item_from e.moment said)) brings_one saids
        (all_contained saids)

    -- ---- what was there

    abbrev unbound : Bool
    unbound = is_unbound (ia_for ask (ias_in message.options))

    abbrev OldIn : Scope6 → Item6 → Type 0
    OldIn scope.Nothing item = ⊥
    OldIn scope.All item = HeldItem site false ask.kind ask.iaid e.moment past item
    OldIn (scope.Since at) item = is_named saids item ≡ true

    abbrev Old : Scope6 → Item6 → Type 0
    Old s item = OldIn s item × (unbound ≡ false)

    -- where all items are held, these are
    abbrev HeldIn : Scope6 → List Item6 → Type 0
    HeldIn scope.Nothing items = Unit {0}
    HeldIn scope.All items = AllByRecursion (HeldItem site false ask.kind ask.iaid e.moment past) items
    HeldIn (scope.Since at) items = Unit {0}

    abbrev IsOld : Scope6 → Item6 → Type 0
    IsOld s item = Brought item ⊎ Old s item

    since_named : (at : ℕ) (item : Item6) → (is_live at item && is_named saids item) ≡ true → is_named saids item ≡ true
    since_named at item e = (and_parts (is_live at item) (is_named saids item) e).1

    old_all : (s : Scope6) (items : List Item6) → unbound ≡ false → HeldIn s items
        → AllByRecursion (IsOld s) (filter (is_carried s saids) items)
    old_all s [] bound held = tt
    old_all scope.Nothing (item ∷ items) bound held = old_all scope.Nothing items bound tt
    old_all scope.All (item ∷ items) bound held = (inr (held.0, bound), old_all scope.All items bound held.1)
    old_all (scope.Since at) (item ∷ items) bound held =
        split (is_carried (scope.Since at) saids item)
        (λ e. rw e (inr (since_named at item e, bound), old_all (scope.Since at) items bound tt))
        (λ e. rw e (old_all (scope.Since at) items bound tt))

    carried_tidy : (s : Scope6) (items : List Item6) (lost : Bool) → unbound ≡ lost → Apart UnlikeNets items → HeldIn s items
        → Tidy e.moment Brought (Old s) (carried s lost saids items)
    carried_tidy s items true is apart held = record { apart = tt; each = tt }
    carried_tidy s items false is apart held =
        record { apart = filter_apart (is_carried s saids) items apart; each = old_all s items is held }

    -- ---- what is there then

    is_message : (other : Content6) → message6_at site e ≡ Some other → message ≡ other
    is_message other is = one_is message other (sym first.first.good.came ∙ is)
      where
        one_is : (x y : Content6) → Some x ≡ Some y → x ≡ y
        one_is x y h = cc

    not_revised : (net : Net6) → AllByRecursion (λ said. said.net ≢ net) saids → unbound ≡ false → Revises key net message → ⊥
    not_revised net unnamed bound (inl m) =
        of_contained (λ said. said.net ≢ net) saids unnamed m.said
        ((items_are_given ask (ias_in message.options) m.said).whole m.gives) m.item
    not_revised net unnamed bound (inr u) = absurd (both_ways unbound bound ((bindings_are_known ask (ias_in message.options)).1 u))

    leaves_it : (item : Item6) → AllByRecursion (λ said. said.net ≢ item.net) saids → unbound ≡ false
        → Leaves site key item.net e past
    leaves_it item unnamed bound = record {
      stays = goes.stays;
      own = goes.own ask.kind item.net.ip;
      unrevised = λ opened other reply told.
          not_revised item.net unnamed bound (subst (λ (m : Content6). Revises key item.net m)
          (sym (is_message other reply.good.came)) told);
    }

    named_not : (item : Item6) (named : List ItemSaid) → list_any (λ said. is_of_net said.net item) named ≡ true
        → AllByRecursion (λ said. said.net ≢ item.net) named → ⊥
    named_not item [] h unnamed = absurd cc
    named_not item (said ∷ named) h unnamed =
        split (is_of_net said.net item) (λ e. unnamed.0 (sym (same_net said.net item e)))
        (λ e. named_not item named (rw e at h) unnamed.1)

    abbrev After : Item6 → Type 0
    After item = HeldItem site false ask.kind ask.iaid e.moment (e ∷ past) item

    old_after : (s : Scope6) (item : Item6) → OldIn s item → unbound ≡ false → Unnamed e.moment Brought saids item → After item
    old_after scope.Nothing item old bound unnamed = absurd old
    old_after scope.All item old bound unnamed = record {
      rests = inr (leaves_it item unnamed bound, old.rests);
      live =
          old.live;
    }
    old_after (scope.Since at) item named bound unnamed = absurd (named_not item saids named unnamed)

    item_after : (s : Scope6) (item : Item6) → (Brought item ⊎ (Old s item × Unnamed e.moment Brought saids item)) → After item
    item_after s item (inl brought) = record { rests = inl brought.0; live = brought.1 }
    item_after s item (inr old) = old_after s item old.0.0 old.0.1 old.1

    pub items_after : (m : Meeting) → m.at ≡ e.moment → m.ias ≡ ias_in message.options
        → Apart UnlikeNets (asked_at ask (ias_of m.kept))
        → HeldIn m.scope (asked_at ask (ias_of m.kept)) → AllByRecursion After (taken_by m ask).items
    items_after m same_at same_ias apart held =
        subst (λ (n : ℕ). AllByRecursion After (taken_by (record m { at = n }) ask).items) (sym same_at)
        (subst (λ (ias : List IaContent). AllByRecursion After (taken_by (record m { at = e.moment; ias = ias }) ask).items)
        (sym same_ias)
        (all_map (λ item. Brought item ⊎ (Old m.scope item × Unnamed e.moment Brought saids item)) After (item_after m.scope) _
        (takes_all e.moment Brought (Old m.scope) saids
        (record { items = carried m.scope unbound saids (asked_at ask (ias_of m.kept)); shortest = None }) brings
        (carried_tidy m.scope (asked_at ask (ias_of m.kept)) unbound refl apart held)).each))

  -- ---- the lease

  abbrev HeldNow : IaLeaseContent → Type 0
  HeldNow ia = HeldIa site false e.moment (e ∷ past) ia

  held_in : (ask : IaAsk) (among : Contains (asks_at site) ask) (s : Scope6) (ias : List IaLeaseContent)
      → HeldBefore site e.moment past s ias → HeldIn ask among s (asked_at ask ias)
  held_in ask among scope.Nothing ias held = tt
  held_in ask among scope.All ias held = had_held site e.moment past ask.kind ask.iaid ias held
  held_in ask among (scope.Since at) ias held = tt

  with_items : (ask : IaAsk) → Contains (asks_at site) ask → (items : List Item6)
      → AllByRecursion (HeldItem site false ask.kind ask.iaid e.moment (e ∷ past)) items
      → AllByRecursion HeldNow (ia_with ask.kind ask.iaid items)
  with_items ask among [] held = tt
  with_items ask among (item ∷ items) held =
      (record { asked = record { ask = ask; among = among; kind_is = refl; iaid_is = refl }; items = held }, tt)

  module _ (m : Meeting) (same_at : m.at ≡ e.moment) (same_ias : m.ias ≡ ias_in message.options)
      (fits : AllByRecursion FitsIa (ias_of m.kept))
      (held : HeldBefore site e.moment past m.scope (ias_of m.kept)) where
    one_granted : (ask : IaAsk) → Contains (asks_at site) ask → AllByRecursion HeldNow (ia_granted m ask)
    one_granted ask among =
        with_items ask among (taken_by m ask).items
        (items_after ask among m same_at same_ias (apart_from UnlikeNets (asked_at ask (ias_of m.kept))
        (had_fit ask.kind ask.iaid (ias_of m.kept) fits).unlike)
        (held_in ask among m.scope (ias_of m.kept) held))

    pub all_granted : (asks : List IaAsk) → AllByRecursion (Contains (asks_at site)) asks
        → AllByRecursion HeldNow (ias_granted m asks)
    all_granted [] among = tt
    all_granted (ask ∷ asks) among =
        all_join HeldNow (ia_granted m ask) (ias_granted m asks) (one_granted ask among.0) (all_granted asks among.1)
