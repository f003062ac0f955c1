-- The basis of an item beside the moment until which it is valid, and what keeps it over a turn.
use Rattle.std.proofs.Common.{◌≡◌, ◌≢◌, ℕ, zero, suc, ◌+◌, ◌*◌, ◌<◌, inl, inr, Bool, true, false, not, ◌&&◌, ◌||◌, List, [], ◌∷◌, length, get_or, Option, Some, None, refl, sym, ap, ◌∙◌, subst, arith, eqb}
use Rattle.std.proofs.lemmas.Bool.Decides.{nat_tests}
use Rattle.std.specs.List.{AllByRecursion, Contains, list_any}
use Rattle.std.specs.Prelude.{filter, if◌then◌else◌}
use Rattle.std.proofs.lemmas.Bool.{and_parts, eqb-true, eq-eqb, and_from}
use Rattle.net_types.proofs.AllLaws.{all_both, all_join, all_map}
use Rattle.net_types.proofs.CaseLaws.{split}
use Rattle.net_types.specs.declared.address.Net6.{Net6}
use Rattle.machine.specs.Moment.{is_due}
use Rattle.machine.specs.Since.{Since}
use Rattle.v6_options.specs.declared.ia.IaKind.{IaKind}
use Rattle.v6_options.specs.declared.ia.IaKind.TheVariants.{Na, Pd}
use Rattle.v6_message.specs.Replies.{Content6}
use Rattle.lease6_text.specs.declared.lease.Item6.{Item6}
use Rattle.lease6_text.specs.Bounds.{FitsIas, ia_key}
use Rattle.lease6_text.specs.Leases.{IaLeaseContent, Lease6Content}
use Rattle.lease6_text.specs.LineParts.{is_ia, is_same_kind}
use Rattle.lease6_text.proofs.Apart.{Apart, apart_from}
use Rattle.v6_client.specs.V6Items.declared.asks.IaAsk.{IaAsk}
use Rattle.v6_client.specs.V6Items.declared.scope.Cause6.{Cause6}
use Rattle.v6_client.specs.V6Items.declared.scope.Scope6.TheVariants as scope
use Rattle.v6_client.specs.V6Items.declared.times.TheConstants.{FOREVER, SECOND}
use Rattle.v6_client.specs.V6Items.Items.{goes_of, ia_with, is_in, is_live, items_at, stays_in, staying, thinned, without}
use Rattle.v6_client.specs.V6Items.Times.{moment_after}
use Rattle.v6_client.proofs.Lease6Text.IaFacts.{kind_is}
use Rattle.lease_evidence.specs.EvidenceWords.Entries.{Entry}
use Rattle.lease_evidence.specs.EvidenceWords.Inputs.{Site}
use Rattle.lease6_evidence.specs.Exchanges6.{Numbered6}
use Rattle.lease6_evidence.specs.ItemBasis.{Gives, IsValid, ItemBasis, Leaves, Mentions, Revises}
use Rattle.lease6_evidence.specs.Replies6.{FirstReply, asks_at}

-- ---- the basis of an item of an IA, which is told apart by its kind and its IAID

abbrev pub key_ask : IaKind → (iaid : ℕ) → IaAsk
key_ask kind iaid = record { kind = kind; iaid = iaid; hint = 0 }

-- the first Reply of an exchange gives the item until this moment
pub record GivesUntil (site : Site) (ask : IaAsk) (net : Net6) (until : Option ℕ) (e : Entry) (past : List Entry) : Type 0 where
  pub opened : Numbered6
  pub message : Content6
  pub reply : FirstReply site opened message e past
  pub mentions : Mentions ask net message
  pub some : 0 < mentions.said.valid
  pub until_is : until ≡ moment_after e.moment mentions.said.valid

-- the lease that was kept for the interface has the item in an IA of this kind and IAID
pub record IsKeptItem (site : Site) (kind : IaKind) (iaid : ℕ) (item : Item6) : Type 0 where
  pub lease : Lease6Content
  pub kept : site.kept6 ≡ Some lease
  pub ia : IaLeaseContent
  pub among : Contains lease.ias ia
  pub kind_is : ia.kind ≡ kind
  pub iaid_is : ia.iaid ≡ iaid
  pub of_ia : Contains ia.items item

-- Where the client stands on that lease, it has the item. Else a Reply gave it.
abbrev pub RestsBy : Site → (stood : Bool) → IaKind → (iaid : ℕ) → List Entry → Item6 → Type 0
RestsBy site true kind iaid past item = IsKeptItem site kind iaid item
RestsBy site false kind iaid past item =
    Since (Leaves site (key_ask kind iaid) item.net) (GivesUntil site (key_ask kind iaid) item.net item.valid) past

pub record HeldItem (site : Site) (stood : Bool) (kind : IaKind) (iaid now : ℕ) (past : List Entry) (item : Item6) : Type
    0 where
  pub rests : RestsBy site stood kind iaid past item
  pub live : is_live now item ≡ true

-- an IA that is asked for
pub record AskedBy (asks : List IaAsk) (kind : IaKind) (iaid : ℕ) : Type 0 where
  pub ask : IaAsk
  pub among : Contains asks ask
  pub kind_is : kind ≡ ask.kind
  pub iaid_is : iaid ≡ ask.iaid

pub record HeldIa (site : Site) (stood : Bool) (now : ℕ) (past : List Entry) (ia : IaLeaseContent) : Type 0 where
  pub asked : AskedBy (asks_at site) ia.kind ia.iaid
  pub items : AllByRecursion (HeldItem site stood ia.kind ia.iaid now past) ia.items

abbrev pub HeldIas : Site → (stood : Bool) → (now : ℕ) → List Entry → List IaLeaseContent → Type 0
HeldIas site stood now past ias = AllByRecursion (HeldIa site stood now past) ias

-- ---- the moment until which it is valid

is_valid : (came valid now : ℕ) (until : Option ℕ) → until ≡ moment_after came valid → not (is_due until now) ≡ true
    → IsValid came valid now
is_valid came valid now until is live = by_test (eqb valid FOREVER) refl
  where
    early : (due at : ℕ) → not (is_due (Some due) at) ≡ true → at < due
    early due at h = grind (arith, nat_tests)

    by_test : (endless : Bool) → eqb valid FOREVER ≡ endless → IsValid came valid now
    by_test true e = inl (eqb-true valid FOREVER e)
    by_test false e =
        inr (early (came + SECOND * valid) now
        (sym (ap (λ (b : Bool). not (is_due (if b then None else Some (came + SECOND * valid)) now)) e)
        ∙ ap (λ (u : Option ℕ). not (is_due u now)) (sym is) ∙ live))

-- ---- an ask of the same kind and IAID

module _ (site : Site) (ask : IaAsk) (net : Net6) where
  abbrev key : IaAsk
  key = key_ask ask.kind ask.iaid

  revised : (message : Content6) → Revises ask net message → Revises key net message
  revised message (inl m) = inl (record { said = m.said; gives = m.gives; item = m.item })
  revised message (inr u) = inr u

  leaves : (e : Entry) (past : List Entry) → Leaves site key net e past → Leaves site ask net e past
  leaves e past h = record {
    stays = h.stays;
    own = h.own;
    unrevised = λ opened message first told. h.unrevised opened message first (revised message told);
  }

  gives : (until : Option ℕ) (now : ℕ) → not (is_due until now) ≡ true → (e : Entry) (past : List Entry)
      → GivesUntil site key net until e past
      → Gives site ask net now e past
  gives until now live e past h = record {
    opened = h.opened;
    message = h.message;
    reply = h.reply;
    mentions = record { said = h.mentions.said; gives = h.mentions.gives; item = h.mentions.item };
    some = h.some;
    valid = is_valid e.moment h.mentions.said.valid now until h.until_is live;
  }

  since_both : (P Q R S : Entry → List Entry → Type 0) → ((e : Entry) (past : List Entry) → P e past → R e past)
      → ((e : Entry) (past : List Entry) → Q e past → S e past)
      → (past : List Entry) → Since P Q past → Since R S past
  since_both P Q R S f g [] h = h
  since_both P Q R S f g (e ∷ past) (inl q) = inl (g e past q)
  since_both P Q R S f g (e ∷ past) (inr later) = inr (f e past later.0, since_both P Q R S f g past later.1)

  basis_of : (until : Option ℕ) (now : ℕ) (past : List Entry) → not (is_due until now) ≡ true
      → Since (Leaves site key net) (GivesUntil site key net until) past → ItemBasis site ask net now past
  basis_of until now past live h =
      since_both (Leaves site key net) (GivesUntil site key net until) (Leaves site ask net) (Gives site ask net now) leaves
      (gives until now live) past h

-- an item that a Reply gave has its basis
pub item_basis : (site : Site) (kind : IaKind) (iaid now : ℕ) (past : List Entry) (item : Item6)
    (by : AskedBy (asks_at site) kind iaid) → HeldItem site false kind iaid now past item
    → ItemBasis site by.ask item.net now past
item_basis site kind iaid now past item by held =
    basis_of site by.ask item.net item.valid now past held.live
    (subst (λ (k : IaKind). Since (Leaves site (key_ask k by.ask.iaid) item.net)
    (GivesUntil site (key_ask k by.ask.iaid) item.net item.valid) past) by.kind_is
    (subst (λ (n : ℕ). Since (Leaves site (key_ask kind n) item.net) (GivesUntil site (key_ask kind n) item.net item.valid)
    past) by.iaid_is held.rests))

-- ---- which items stay

abbrev pub StaysAll : Cause6 → IaLeaseContent → Type 0
StaysAll cause ia = AllByRecursion (λ item. stays_in cause ia.kind item ≡ true) ia.items

pub filter_stays : (cause : Cause6) (kind : IaKind) (items : List Item6) → AllByRecursion (λ item. stays_in cause kind item ≡ true)
    (staying cause kind items)
filter_stays cause kind [] = tt
filter_stays cause kind (item ∷ items) =
    split (stays_in cause kind item) (λ e. rw e (e, filter_stays cause kind items)) (λ e. rw e (filter_stays cause kind items))

pub filter_all : {X : Type 0} (P : X → Type 0) (test : X → Bool) (xs : List X) → AllByRecursion P xs
    → AllByRecursion P (filter test xs)
filter_all P test [] all = tt
filter_all P test (x ∷ xs) all = split (test x) (λ e. rw e (all.0, filter_all P test xs all.1))
    (λ e. rw e (filter_all P test xs all.1))

-- what holds of each IA without the items that go
pub without_all : (cause : Cause6) (P : IaLeaseContent → Type 0) → ((ia : IaLeaseContent) (items : List Item6)
    → P (record { kind = ia.kind; iaid = ia.iaid; items = items }) → AllByRecursion P (ia_with ia.kind ia.iaid items))
    → (ias : List IaLeaseContent)
    → AllByRecursion (λ ia. P (record { kind = ia.kind; iaid = ia.iaid; items = staying cause ia.kind ia.items })) ias
    → AllByRecursion P (without cause ias)
without_all cause P f [] all = tt
without_all cause P f (ia ∷ ias) all =
    all_join P (thinned cause ia) (without cause ias) (f ia (staying cause ia.kind ia.items) all.0)
    (without_all cause P f ias all.1)

pub with_some : (P : IaLeaseContent → Type 0) (ia : IaLeaseContent) (items : List Item6)
    → P (record { kind = ia.kind; iaid = ia.iaid; items = items })
    → AllByRecursion P (ia_with ia.kind ia.iaid items)
with_some P ia [] h = tt
with_some P ia (item ∷ items) h = (h, tt)

all_of : (P : IaLeaseContent → Type 0) (ias : List IaLeaseContent) → ((ia : IaLeaseContent) → P ia) → AllByRecursion P ias
all_of P [] f = tt
all_of P (ia ∷ ias) f = (f ia, all_of P ias f)

pub without_stays : (cause : Cause6) (ias : List IaLeaseContent) → AllByRecursion (StaysAll cause) (without cause ias)
without_stays cause ias =
    without_all cause (StaysAll cause) (with_some (StaysAll cause)) ias
    (all_of (λ ia. StaysAll cause (record { kind = ia.kind; iaid = ia.iaid; items = staying cause ia.kind ia.items })) ias
    (λ ia. filter_stays cause ia.kind ia.items))

pub without_held : (site : Site) (stood : Bool) (now : ℕ) (past : List Entry) (cause : Cause6) (ias : List IaLeaseContent)
    → HeldIas site stood now past ias
    → HeldIas site stood now past (without cause ias)
without_held site stood now past cause ias held =
    without_all cause (HeldIa site stood now past) (with_some (HeldIa site stood now past)) ias
    (all_map (HeldIa site stood now past)
    (λ ia. HeldIa site stood now past (record { kind = ia.kind; iaid = ia.iaid; items = staying cause ia.kind ia.items }))
    (λ ia h. record {
      asked = h.asked;
      items = filter_all (HeldItem site stood ia.kind ia.iaid now past) (stays_in cause ia.kind)
          ia.items h.items;
    }) ias held)

-- ---- where none of the asked IAs' items goes

same_kind : (kind : IaKind) → is_same_kind kind kind ≡ true
same_kind Na = refl
same_kind Pd = refl

abbrev KeysUnlike : IaLeaseContent → IaLeaseContent → Type 0
KeysUnlike one other = ia_key one ≢ ia_key other

-- an IA is found by its kind and its IAID
abbrev IsFound : List IaLeaseContent → IaLeaseContent → Type 0
IsFound ias ia = items_at ia.kind ia.iaid ias ≡ ia.items

other_ia : (x y : IaLeaseContent) → ia_key x ≢ ia_key y → is_ia (y.kind, y.iaid) x ≡ false
other_ia x y unlike =
    split (is_ia (y.kind, y.iaid) x)
    (λ e.
    let parts = and_parts (is_same_kind x.kind y.kind) (eqb x.iaid y.iaid) e in
    absurd (unlike (λ i. (kind_is x.kind y.kind parts.0 i, eqb-true x.iaid y.iaid parts.1 i))))
    (λ e. e)

pub all_found : (ias : List IaLeaseContent) → Apart KeysUnlike ias → AllByRecursion (IsFound ias) ias
all_found [] apart = tt
all_found (x ∷ xs) apart =
    let own : is_ia (x.kind, x.iaid) x ≡ true = and_from _ _ (same_kind x.kind) (eq-eqb x.iaid x.iaid refl) in (
      rw own refl,
      all_both (KeysUnlike x) (IsFound xs) (IsFound (x ∷ xs)) (λ y unlike found. rw (other_ia x y unlike) found) xs apart.0
          (all_found xs apart.1),
    )

none_any : {X : Type 0} (test : X → Bool) (xs : List X) → list_any test xs ≡ false → (x : X) → Contains xs x → test x ≡ false
none_any test xs none x among = at_index test xs none x among.0 among.1 among.2
  where
    or_left : (a b : Bool) → (a || b) ≡ false → a ≡ false
    or_left true b h = h
    or_left false b h = refl

    or_right : (a b : Bool) → (a || b) ≡ false → b ≡ false
    or_right true b h = absurd cc
    or_right false b h = h

    at_index : {X : Type 0} (test : X → Bool) (xs : List X) → list_any test xs ≡ false → (x : X) (k : ℕ) → k < length xs
        → get_or xs k x ≡ x → test x ≡ false
    at_index test [] none x k less is = absurd (omega (arith, less))
    at_index test (y ∷ ys) none x zero less is = ap test (sym is) ∙ or_left (test y) (list_any test ys) none
    at_index test (y ∷ ys) none x (suc k) less is = at_index test ys (or_right (test y) (list_any test ys) none) x k
        (omega (arith, less)) is

items_stay : (cause : Cause6) (kind : IaKind) (items : List Item6)
    → list_any (λ item. is_in scope.All item && not (stays_in cause kind item)) items ≡ false
    → AllByRecursion (λ item. stays_in cause kind item ≡ true) items
items_stay cause kind [] none = tt
items_stay cause kind (item ∷ items) none =
    split (stays_in cause kind item) (λ e. (e, items_stay cause kind items (rw e at none)))
    (λ e. absurd (gone (list_any (λ other. is_in scope.All other && not (stays_in cause kind other)) items) (rw e at none)))
  where
    gone : (b : Bool) → (true || b) ≡ false → ⊥
    gone b h = cc

ia_stays : (cause : Cause6) (asks : List IaAsk) (ias : List IaLeaseContent) → list_any (goes_of cause scope.All ias) asks
    ≡ false
    → (ia : IaLeaseContent) → AskedBy asks ia.kind ia.iaid → IsFound ias ia → StaysAll cause ia
ia_stays cause asks ias none ia by found =
    let of_ask : goes_of cause scope.All ias by.ask ≡ false = none_any (goes_of cause scope.All ias) asks none by.ask
    by.among in
    let at_key : list_any (λ item. is_in scope.All item && not (stays_in cause ia.kind item)) (items_at ia.kind ia.iaid ias)
    ≡ false =
    subst (λ (k : IaKind). list_any (λ item. is_in scope.All item && not (stays_in cause k item)) (items_at k ia.iaid ias)
    ≡ false) (sym by.kind_is)
    (subst (λ (n : ℕ). list_any (λ item. is_in scope.All item && not (stays_in cause by.ask.kind item))
    (items_at by.ask.kind n ias) ≡ false) (sym by.iaid_is) of_ask) in
    items_stay cause ia.kind ia.items
    (subst (λ (items : List Item6). list_any (λ item. is_in scope.All item && not (stays_in cause ia.kind item)) items ≡ false)
    found at_key)

pub none_goes : (cause : Cause6) (site : Site) (stood : Bool) (now : ℕ) (past : List Entry) (ias : List IaLeaseContent)
    → FitsIas ias → HeldIas site stood now past ias
    → list_any (goes_of cause scope.All ias) (asks_at site) ≡ false → AllByRecursion (StaysAll cause) ias
none_goes cause site stood now past ias fits held none =
    all_both (HeldIa site stood now past) (IsFound ias) (StaysAll cause) (λ ia h found. ia_stays cause (asks_at site) ias none ia
    h.asked found) ias held
    (all_found ias (apart_from KeysUnlike ias fits.unlike))
