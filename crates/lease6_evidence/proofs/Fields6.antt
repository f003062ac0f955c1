-- Each message that a client says is in range, so that it is read back from its frame.
use Rattle.std.proofs.Common.{◌≡◌, ℕ, zero, suc, ◌^◌, ◌<◌, ◌≤◌, Bool, not, ◌&&◌, List, [], ◌∷◌, length, map, take, Option, Some, None, IfSome, refl, ap, subst, arith, eqb, leb, lit≤, lit<}
use Rattle.std.proofs.lemmas.Bool.{and_parts, leb-true}
use Rattle.std.specs.List.{AllByRecursion, flat_map}
use Rattle.std.specs.Prelude.{filter, ◌==◌}
use Rattle.net_types.proofs.AllLaws.{all_both, all_join, all_map}
use Rattle.net_types.proofs.CaseLaws.{gated, split}
use Rattle.net_types.specs.AddressText.{FitsIp6}
use Rattle.net_types.specs.Marks.{AreBytes}
use Rattle.net_types.specs.declared.address.Net6.{Net6}
use Rattle.v6_options.specs.declared.ia.IaKind.{IaKind}
use Rattle.v6_options.specs.declared.ia.IaKind.TheVariants.{Na, Pd}
use Rattle.v6_options.specs.declared.ia.ItemSaid.{ItemSaid}
use Rattle.v6_options.specs.Duids.{duid_in}
use Rattle.v6_options.specs.Ias.{IaContent, ias_in}
use Rattle.v6_message.specs.declared.kind.Kind6.{Kind6}
use Rattle.v6_message.specs.declared.kind.Kind6.TheVariants as kind
use Rattle.v6_message.specs.ReadBack.{FitsAsked, FitsNet}
use Rattle.v6_message.specs.Requests.{AskedContent}
use Rattle.lease6_text.specs.declared.lease.Item6.{Item6}
use Rattle.lease6_text.specs.declared.lease.TheConstants.{ITEM_LIMIT}
use Rattle.lease6_text.specs.Bounds.{FitsItem, FitsLen}
use Rattle.lease6_text.specs.Leases.{IaLeaseContent, Lease6Content}
use Rattle.lease6_text.specs.LineParts.{has_net, is_ia, is_same_kind}
use Rattle.settings.specs.declared.dhcp6_conf.IaConf.{IaConf}
use Rattle.settings.specs.Dhcp6Settings.{FitsIaConf}
use Rattle.v6_client.specs.V6Items.declared.asks.IaAsk.{IaAsk}
use Rattle.v6_client.specs.V6Items.declared.scope.Scope6.{Scope6}
use Rattle.v6_client.specs.V6Items.declared.scope.Scope6.TheVariants as scope
use Rattle.v6_client.specs.V6Items.Asking.{asked_with, hinted, ia_asked, ia_declined, ia_lapsed, ia_offered, ia_released, ia_solicited, ias_asked, ias_lapsed, ias_offered, is_over_in, named_with, nets_gone, nets_in, nets_lapsed, nets_said}
use Rattle.v6_client.specs.V6Items.Bounds.{IsTimed}
use Rattle.v6_client.specs.Clients.{PleaContent}
use Rattle.v6_client.specs.V6Items.Items.{asked_at, ias_of, is_in, is_nonempty, items_at}
use Rattle.v6_client.specs.V6Items.Reading.{ia_for, is_readable, read_items, saids_of}
use Rattle.v6_client.specs.Saying.{ias_said, lease_server, plea_ias, plea_server, server_said}
use Rattle.v6_client.specs.V6Items.Taking.{item_from}
use Rattle.v6_client.proofs.V6Items.FitsLists.{fewer}
use Rattle.v6_client.proofs.V6Items.SaidFits.{saids_fit}
use Rattle.v6_client.proofs.Lease6Text.IaFacts.{kind_is}
use Rattle.lease_evidence.specs.ClientModel.ClientSettings6.{ask_for}
use Rattle.lease6_evidence.proofs.Basis6.{filter_all}
use Rattle.lease6_evidence.proofs.Bytes6.{IsTyped, options_typed, take_all}

-- ---- lists

take_few : {X : Type 0} (n : ℕ) (xs : List X) → length (take n xs) ≤ n
take_few zero xs = omega arith
take_few (suc n) [] = omega arith
take_few (suc n) (x ∷ xs) = let less : length (take n xs) ≤ n = take_few n xs in omega (arith, less)

mapped_all : {X Y : Type 0} (P : Y → Type 0) (f : X → Y) (xs : List X) → AllByRecursion (λ x. P (f x)) xs
    → AllByRecursion P (map f xs)
mapped_all P f [] all = tt
mapped_all P f (x ∷ xs) all = (all.0, mapped_all P f xs all.1)

pub mapped_len : {X Y : Type 0} (f : X → Y) (xs : List X) → length (map f xs) ≡ length xs
mapped_len f [] = refl
mapped_len f (x ∷ xs) = ap suc (mapped_len f xs)

pieces_all : {X Y : Type 0} (P : X → Type 0) (Q : Y → Type 0) (f : X → List Y) → ((x : X) → P x → AllByRecursion Q (f x))
    → (xs : List X) → AllByRecursion P xs
    → AllByRecursion Q (flat_map f xs)
pieces_all P Q f each [] all = tt
pieces_all P Q f each (x ∷ xs) all = all_join Q (f x) (flat_map f xs) (each x all.0) (pieces_all P Q f each xs all.1)

-- ---- nets

abbrev pub FitsNets : IaLeaseContent → Type 0
FitsNets ia = AllByRecursion (λ item. FitsNet ia.kind item.net) ia.items

pub net_fits : (kind : IaKind) (net : Net6) → FitsLen kind net.len → FitsIp6 net.ip → FitsNet kind net
net_fits Na net len ip = (ip, len)
net_fits Pd net len ip = (ip, omega (arith, len.1))

pub nets_at : (kind : IaKind) (iaid : ℕ) (ias : List IaLeaseContent) → AllByRecursion FitsNets ias
    → AllByRecursion (λ item. FitsNet kind item.net) (items_at kind iaid ias)
nets_at kind iaid [] all = tt
nets_at kind iaid (ia ∷ ias) all =
    split (is_ia (kind, iaid) ia)
    (λ e. rw e (subst (λ (k : IaKind). AllByRecursion (λ item. FitsNet k item.net) ia.items)
    (kind_is ia.kind kind (and_parts (is_same_kind ia.kind kind) (eqb ia.iaid iaid) e).0) all.0))
    (λ e. rw e (nets_at kind iaid ias all.1))

-- ---- what is asked for

pub record FitsAsk6 (ask : IaAsk) : Type 0 where
  pub iaid : ask.iaid < 2 ^ 32
  pub hint : ask.hint ≤ 128

pub confs_fit : (ias : List IaConf) → AllByRecursion FitsIaConf ias → AllByRecursion FitsAsk6 (map ask_for ias)
confs_fit [] all = tt
confs_fit (ia ∷ ias) all = (record { iaid = all.0.iaid; hint = all.0.hint }, confs_fit ias all.1)

with_fits : (kind : IaKind) (iaid : ℕ) (nets : List Net6) → iaid < 2 ^ 32 → length nets ≤ 4
    → AllByRecursion (FitsNet kind) nets → FitsAsked (asked_with kind iaid nets)
with_fits kind iaid nets small few fits = record { iaid = small; few = few; items = fits }

named_fits : (kind : IaKind) (iaid : ℕ) (nets : List Net6) → iaid < 2 ^ 32 → length nets ≤ 4
    → AllByRecursion (FitsNet kind) nets
    → AllByRecursion FitsAsked (named_with kind iaid nets)
named_fits kind iaid nets small few fits =
    gated (λ (ias : List AskedContent). AllByRecursion FitsAsked ias) (is_nonempty nets) _ _
    (with_fits kind iaid nets small few fits, tt) tt

hint_few : (kind : IaKind) (hint : ℕ) → length (hinted kind hint) ≤ 4
hint_few Na hint = lit≤ tt
hint_few Pd hint = gated (λ (nets : List Net6). length nets ≤ 4) (hint == 0) _ _ (lit≤ tt) (lit≤ tt)

hint_fits : (kind : IaKind) (hint : ℕ) → hint ≤ 128 → AllByRecursion (FitsNet kind) (hinted kind hint)
hint_fits Na hint small = tt
hint_fits Pd hint small = gated (λ (nets : List Net6). AllByRecursion (FitsNet Pd) nets) (hint == 0) _ _ tt
    ((lit< tt, small), tt)

solicited_fits : (ask : IaAsk) → FitsAsk6 ask → FitsAsked (ia_solicited ask)
solicited_fits ask fits = with_fits ask.kind ask.iaid (hinted ask.kind ask.hint) fits.iaid (hint_few ask.kind ask.hint)
    (hint_fits ask.kind ask.hint fits.hint)

nets_few : (s : Scope6) (items : List Item6) → length (nets_in s items) ≤ 4
nets_few s items = take_few ITEM_LIMIT (map (λ item. item.net) (filter (is_in s) items))

nets_in_fit : (s : Scope6) (kind : IaKind) (items : List Item6) → AllByRecursion (λ item. FitsNet kind item.net) items
    → AllByRecursion (FitsNet kind) (nets_in s items)
nets_in_fit s kind items all =
    take_all (FitsNet kind) ITEM_LIMIT (map (λ item. item.net) (filter (is_in s) items))
    (mapped_all (FitsNet kind) (λ item. item.net) (filter (is_in s) items) (filter_all (λ item. FitsNet kind item.net)
    (is_in s) items all))

asked_fits : (s : Scope6) (ias : List IaLeaseContent) → AllByRecursion FitsNets ias → (ask : IaAsk) → FitsAsk6 ask
    → FitsAsked (ia_asked s ias ask)
asked_fits s ias all ask fits =
    with_fits ask.kind ask.iaid (nets_in s (asked_at ask ias)) fits.iaid (nets_few s (asked_at ask ias))
    (nets_in_fit s ask.kind (asked_at ask ias) (nets_at ask.kind ask.iaid ias all))

all_asked : (s : Scope6) (ias : List IaLeaseContent) → AllByRecursion FitsNets ias → (asks : List IaAsk)
    → AllByRecursion FitsAsk6 asks
    → AllByRecursion FitsAsked (ias_asked s ias asks)
all_asked s ias nets asks fits = mapped_all FitsAsked (ia_asked s ias) asks
    (all_map FitsAsk6 (λ ask. FitsAsked (ia_asked s ias ask)) (asked_fits s ias nets) asks fits)

released_fits : (ias : List IaLeaseContent) → AllByRecursion FitsNets ias → (ask : IaAsk) → FitsAsk6 ask
    → AllByRecursion FitsAsked (ia_released ias ask)
released_fits ias all ask fits =
    named_fits ask.kind ask.iaid (nets_in scope.All (asked_at ask ias)) fits.iaid (nets_few scope.All (asked_at ask ias))
    (nets_in_fit scope.All ask.kind (asked_at ask ias) (nets_at ask.kind ask.iaid ias all))

declined_fits : (ias : List IaLeaseContent) (ia : AskedContent) → FitsAsked ia → AllByRecursion FitsAsked (ia_declined ias ia)
declined_fits ias ia fits =
    let test : Net6 → Bool = λ net. not (has_net (items_at ia.kind ia.iaid ias) net) in
    let less : length (filter test ia.items) ≤ length ia.items = fewer test ia.items in
    named_fits ia.kind ia.iaid (nets_gone (items_at ia.kind ia.iaid ias) ia.items) fits.iaid (omega (arith, less, fits.few))
    (filter_all (FitsNet ia.kind) test ia.items fits.items)

lapsed_fits : (at : ℕ) (ias : List IaLeaseContent) (ia : AskedContent) → FitsAsked ia → FitsAsked (ia_lapsed at ias ia)
lapsed_fits at ias ia fits =
    let test : Net6 → Bool = λ net. not (is_over_in at (items_at ia.kind ia.iaid ias) net) in
    let less : length (filter test ia.items) ≤ length ia.items = fewer test ia.items in
    with_fits ia.kind ia.iaid (nets_lapsed at (items_at ia.kind ia.iaid ias) ia.items) fits.iaid (omega (arith, less, fits.few))
    (filter_all (FitsNet ia.kind) test ia.items fits.items)

pub all_lapsed : (at : ℕ) (ias : List IaLeaseContent) (stood : List AskedContent) → AllByRecursion FitsAsked stood
    → AllByRecursion FitsAsked (ias_lapsed at ias stood)
all_lapsed at ias stood fits = mapped_all FitsAsked (ia_lapsed at ias) stood
    (all_map FitsAsked (λ ia. FitsAsked (ia_lapsed at ias ia)) (lapsed_fits at ias) stood fits)

-- ---- what a server says

timed_of : (said : ItemSaid) → IsTyped said → IsTimed said
timed_of said typed = typed.timed

pub nets_heard : (options : List ℕ) → AreBytes options → (ask : IaAsk) → AllByRecursion (λ said. FitsNet ask.kind said.net)
    (saids_of (ia_for ask (ias_in options)))
nets_heard options octets ask =
    let typed : AllByRecursion IsTyped (saids_of (ia_for ask (ias_in options))) = options_typed options octets ask in
    all_both (λ said. FitsItem ask.kind (item_from 0 said)) IsTyped (λ said. FitsNet ask.kind said.net)
    (λ said fits number. net_fits ask.kind said.net fits.len number.ip) (saids_of (ia_for ask (ias_in options)))
    (saids_fit ask 0 options (lit< tt) (all_map IsTyped IsTimed timed_of (saids_of (ia_for ask (ias_in options))) typed)) typed

read_few : (ia : IaContent) → length (read_items ia) ≤ 4
read_few ia = gated (λ (saids : List ItemSaid). length saids ≤ 4) (is_readable ia) _ _ (take_few ITEM_LIMIT _) (lit≤ tt)

saids_few : (ia : Option IaContent) → length (saids_of ia) ≤ 4
saids_few None = lit≤ tt
saids_few (Some ia) = read_few ia

offered_fits : (options : List ℕ) → AreBytes options → (ask : IaAsk) → FitsAsk6 ask
    → FitsAsked (ia_offered (ias_in options) ask)
offered_fits options octets ask fits =
    let saids : List ItemSaid = saids_of (ia_for ask (ias_in options)) in
    let few : length saids ≤ 4 = saids_few (ia_for ask (ias_in options)) in
    let same : length (nets_said saids) ≡ length saids = mapped_len (λ said. said.net) saids in
    with_fits ask.kind ask.iaid (nets_said saids) fits.iaid (omega (arith, same, few))
    (mapped_all (FitsNet ask.kind) (λ said. said.net) saids (nets_heard options octets ask))

pub all_offered : (options : List ℕ) → AreBytes options → (asks : List IaAsk) → AllByRecursion FitsAsk6 asks
    → AllByRecursion FitsAsked (ias_offered (ias_in options) asks)
all_offered options octets asks fits =
    mapped_all FitsAsked (ia_offered (ias_in options)) asks
    (all_map FitsAsk6 (λ ask. FitsAsked (ia_offered (ias_in options) ask)) (offered_fits options octets) asks fits)

pub duid_short : (bytes : List ℕ) → IfSome (duid_in bytes) (λ server. length server ≤ 130)
duid_short bytes =
    split (leb 2 (length bytes) && leb (length bytes) 130)
    (λ e. rw e (leb-true (length bytes) 130 (and_parts (leb 2 (length bytes)) (leb (length bytes) 130) e).1)) (λ e. rw e tt)

-- ---- what a client has

pub record FitsPlea (plea : PleaContent) : Type 0 where
  pub server : length plea.server ≤ 130
  pub ias : AllByRecursion FitsAsked plea.ias

pub record FitsKept (lease : Lease6Content) : Type 0 where
  pub server : length lease.server ≤ 130
  pub nets : AllByRecursion FitsNets lease.ias

pub asked_plea : (asks : List IaAsk) → AllByRecursion FitsAsk6 asks → (lease : Lease6Content) → FitsKept lease
    → AllByRecursion FitsAsked (ias_asked scope.All lease.ias asks)
asked_plea asks fits lease kept = all_asked scope.All lease.ias kept.nets asks fits

-- ---- a message

kept_nets : (kept : Option Lease6Content) → IfSome kept FitsKept → AllByRecursion FitsNets (ias_of kept)
kept_nets None fits = tt
kept_nets (Some lease) fits = fits.nets

lease_short : (kept : Option Lease6Content) → IfSome kept FitsKept → IfSome (lease_server kept) (λ server. length server ≤ 130)
lease_short None fits = tt
lease_short (Some lease) fits = fits.server

plea_short : (plea : Option PleaContent) → IfSome plea FitsPlea → IfSome (plea_server plea) (λ server. length server ≤ 130)
plea_short None fits = tt
plea_short (Some plea) fits = fits.server

plea_asked : (plea : Option PleaContent) → IfSome plea FitsPlea → AllByRecursion FitsAsked (plea_ias plea)
plea_asked None fits = tt
plea_asked (Some plea) fits = fits.ias

module _ (kept : Option Lease6Content) (plea : Option PleaContent) (kept_fits : IfSome kept FitsKept)
    (plea_fits : IfSome plea FitsPlea) where
  pub server_short : (k : Kind6) → IfSome (server_said k kept plea) (λ server. length server ≤ 130)
  server_short kind.Solicit = tt
  server_short kind.Request = plea_short plea plea_fits
  server_short kind.Renew = lease_short kept kept_fits
  server_short kind.Rebind = tt
  server_short kind.Release = lease_short kept kept_fits
  server_short kind.Decline = plea_short plea plea_fits

  pub said_asked : (k : Kind6) (s : Scope6) (asks : List IaAsk) → AllByRecursion FitsAsk6 asks
      → AllByRecursion FitsAsked (ias_said k s asks kept (plea_ias plea))
  said_asked kind.Solicit s asks fits = mapped_all FitsAsked ia_solicited asks
      (all_map FitsAsk6 (λ ask. FitsAsked (ia_solicited ask)) solicited_fits asks fits)
  said_asked kind.Request s asks fits = plea_asked plea plea_fits
  said_asked kind.Renew s asks fits = all_asked s (ias_of kept) (kept_nets kept kept_fits) asks fits
  said_asked kind.Rebind s asks fits = all_asked s (ias_of kept) (kept_nets kept kept_fits) asks fits
  said_asked kind.Release s asks fits = pieces_all FitsAsk6 FitsAsked (ia_released (ias_of kept))
      (released_fits (ias_of kept) (kept_nets kept kept_fits)) asks fits
  said_asked kind.Decline s asks fits =
      pieces_all FitsAsked FitsAsked (ia_declined (ias_of kept)) (declined_fits (ias_of kept)) (plea_ias plea)
      (plea_asked plea plea_fits)
