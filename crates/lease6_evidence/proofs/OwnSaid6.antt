-- Each message of DHCPv6 that a client says is its own.
use Rattle.std.proofs.Common.{◌≡◌, ℕ, Bool, true, false, ◌&&◌, List, [], ◌∷◌, ◌++◌, map, Option, Some, None, IfSome, refl, is_some, eqb}
use Rattle.std.proofs.lemmas.Bool.{and_from, eq-eqb}
use Rattle.std.specs.Prelude.{if◌then◌else◌, option_map}
use Rattle.net_types.proofs.CaseLaws.{gated}
use Rattle.net_types.specs.declared.address.Net6.{Net6}
use Rattle.v6_options.specs.declared.ia.IaKind.{IaKind}
use Rattle.v6_options.specs.declared.ia.IaKind.TheVariants.{Na, Pd}
use Rattle.v6_options.specs.Ias.{IaContent}
use Rattle.v6_message.specs.declared.kind.Kind6.{Kind6}
use Rattle.v6_message.specs.declared.kind.Kind6.TheVariants as kind
use Rattle.v6_message.specs.Requests.{AskedContent}
use Rattle.lease6_text.specs.LineParts.{is_same_kind}
use Rattle.lease6_text.specs.Leases.{IaLeaseContent, Lease6Content}
use Rattle.settings.specs.declared.interfaces.Managed.{Managed}
use Rattle.v6_client.specs.V6Items.declared.asks.IaAsk.{IaAsk}
use Rattle.v6_client.specs.declared.states.Say6.{Say6}
use Rattle.v6_client.specs.V6Items.declared.scope.Scope6.{Scope6}
use Rattle.v6_client.specs.V6Items.declared.scope.Scope6.TheVariants as scope
use Rattle.v6_client.specs.V6Items.Asking.{asked_with, hinted, ia_asked, ia_offered, ia_solicited, ias_asked, ias_declined, ias_lapsed, ias_offered, ias_released, named_with, nets_gone, nets_in}
use Rattle.v6_client.specs.Clients.{PleaContent}
use Rattle.v6_client.specs.V6Items.Items.{asked_at, ias_of, is_nonempty, items_at}
use Rattle.v6_client.specs.Moves.{plea_by, plea_lapsed}
use Rattle.v6_client.specs.Saying.{ias_said, plea_ias, rapid_said, server_said}
use Rattle.lease_evidence.specs.ClientModel.ClientSettings6.{ask_for}
use Rattle.lease6_evidence.specs.OwnMessages6.{are_all, are_some, has_own_ias, is_ia_of, is_looked_for, is_own_said, is_rapid, may_name, same_flag, same_nets}

both : (a b : Bool) → (a && b) ≡ true → (a ≡ true) × (b ≡ true)
both true true h = (refl, refl)
both true false h = absurd cc
both false b h = absurd cc

-- ---- all IAs

same_kind : (k : IaKind) → is_same_kind k k ≡ true
same_kind Na = refl
same_kind Pd = refl

same_number : (n : ℕ) → eqb n n ≡ true
same_number n = eq-eqb n n refl

-- whatever its items are
is_of : (ask : IaAsk) (nets : List Net6) → is_ia_of ask (asked_with ask.kind ask.iaid nets) ≡ true
is_of ask nets = and_from _ _ (same_kind ask.kind) (same_number ask.iaid)

nets_alike : (nets : List Net6) → same_nets nets nets ≡ true
nets_alike [] = refl
nets_alike (net ∷ nets) = and_from _ _ (and_from _ _ (same_number net.ip.number) (same_number net.len)) (nets_alike nets)

module _ (test : IaAsk → AskedContent → Bool) (f : IaAsk → AskedContent) (each : (ask : IaAsk) → test ask (f ask) ≡ true) where
  all_mapped : (asks : List IaAsk) → are_all test asks (map f asks) ≡ true
  all_mapped [] = refl
  all_mapped (ask ∷ asks) = and_from _ _ (each ask) (all_mapped asks)

pub all_solicited : (asks : List IaAsk) → are_all is_looked_for asks (map ia_solicited asks) ≡ true
all_solicited asks =
    all_mapped is_looked_for ia_solicited
    (λ ask. and_from _ _ (is_of ask (hinted ask.kind ask.hint)) (nets_alike (hinted ask.kind ask.hint))) asks

pub all_asked : (s : Scope6) (ias : List IaLeaseContent) (asks : List IaAsk) → are_all is_ia_of asks (ias_asked s ias asks) ≡ true
all_asked s ias asks = all_mapped is_ia_of (ia_asked s ias) (λ ask. is_of ask []) asks

pub offered_asked : (ias : List IaContent) (asks : List IaAsk) → are_all is_ia_of asks (ias_offered ias asks) ≡ true
offered_asked ias asks = all_mapped is_ia_of (ia_offered ias) (λ ask. is_of ask []) asks

-- items that go leave the IAs
pub all_lapsed : (at : ℕ) (ias : List IaLeaseContent) (asks : List IaAsk) (stood : List AskedContent) → are_all is_ia_of asks stood ≡ true
    → are_all is_ia_of asks (ias_lapsed at ias stood) ≡ true
all_lapsed at ias [] [] h = refl
all_lapsed at ias [] (ia ∷ stood) h = absurd cc
all_lapsed at ias (ask ∷ asks) [] h = absurd cc
all_lapsed at ias (ask ∷ asks) (ia ∷ stood) h =
    let parts = both (is_ia_of ask ia) (are_all is_ia_of asks stood) h in
    and_from _ _ parts.0 (all_lapsed at ias asks stood parts.1)

-- ---- some of them

none_some : (asks : List IaAsk) → are_some asks [] ≡ true
none_some [] = refl
none_some (ask ∷ asks) = refl

-- fewer IAs, and more that are asked for
module _ (ask : IaAsk) (asks : List IaAsk)
    (fewer : (ia : AskedContent) (ias : List AskedContent) → are_some asks (ia ∷ ias) ≡ true → are_some asks ias ≡ true) where
  more_by : (ias : List AskedContent) → are_some asks ias ≡ true → are_some (ask ∷ asks) ias ≡ true
  more_by [] h = refl
  more_by (ia ∷ ias) h =
      gated (λ b. b ≡ true) (is_ia_of ask ia && is_nonempty ia.items) (are_some asks ias) (are_some asks (ia ∷ ias)) (fewer ia ias h) h

  tested : (ia : AskedContent) (ias : List AskedContent) (found : Bool) → (if found then are_some asks ias else are_some asks (ia ∷ ias)) ≡ true
      → are_some asks ias ≡ true
  tested ia ias true h = h
  tested ia ias false h = fewer ia ias h

  fewer_by : (ia : AskedContent) (ias : List AskedContent) → are_some (ask ∷ asks) (ia ∷ ias) ≡ true → are_some (ask ∷ asks) ias ≡ true
  fewer_by ia ias h = more_by ias (tested ia ias (is_ia_of ask ia && is_nonempty ia.items) h)

some_fewer : (asks : List IaAsk) (ia : AskedContent) (ias : List AskedContent) → are_some asks (ia ∷ ias) ≡ true → are_some asks ias ≡ true
some_fewer [] ia ias h = absurd cc
some_fewer (ask ∷ asks) ia ias h = fewer_by ask asks (some_fewer asks) ia ias h

some_more : (ask : IaAsk) (asks : List IaAsk) (ias : List AskedContent) → are_some asks ias ≡ true → are_some (ask ∷ asks) ias ≡ true
some_more ask asks ias h = more_by ask asks (some_fewer asks) ias h

found_so : (b x y : Bool) → b ≡ true → x ≡ true → (if b && true then x else y) ≡ true
found_so true x y e h = h
found_so false x y e h = absurd cc

-- an IA that is asked for, unless it names nothing, and what comes after it
named_more : (ask : IaAsk) (asks : List IaAsk) (k : IaKind) (iaid : ℕ) (nets : List Net6) (ias : List AskedContent)
    → is_ia_of ask (asked_with k iaid []) ≡ true → are_some asks ias ≡ true → are_some (ask ∷ asks) (named_with k iaid nets ++ ias) ≡ true
named_more ask asks k iaid [] ias of_it h = some_more ask asks ias h
named_more ask asks k iaid (net ∷ nets) ias of_it h =
    found_so (is_ia_of ask (asked_with k iaid [])) (are_some asks ias) (are_some asks (asked_with k iaid (net ∷ nets) ∷ ias)) of_it h

pub some_released : (ias : List IaLeaseContent) (asks : List IaAsk) → are_some asks (ias_released ias asks) ≡ true
some_released ias [] = refl
some_released ias (ask ∷ asks) =
    named_more ask asks ask.kind ask.iaid (nets_in scope.All (asked_at ask ias)) (ias_released ias asks) (is_of ask []) (some_released ias asks)

pub some_declined : (ias : List IaLeaseContent) (asks : List IaAsk) (stood : List AskedContent) → are_all is_ia_of asks stood ≡ true
    → are_some asks (ias_declined ias stood) ≡ true
some_declined ias [] [] h = refl
some_declined ias [] (ia ∷ stood) h = absurd cc
some_declined ias (ask ∷ asks) [] h = absurd cc
some_declined ias (ask ∷ asks) (ia ∷ stood) h =
    let parts = both (is_ia_of ask ia) (are_all is_ia_of asks stood) h in
    named_more ask asks ia.kind ia.iaid (nets_gone (items_at ia.kind ia.iaid ias) ia.items) (ias_declined ias stood) parts.0
    (some_declined ias asks stood parts.1)

-- ---- a plea

-- what a server is asked beside the held items has all IAs
abbrev pub IsAsked : List IaAsk → PleaContent → Type 0
IsAsked asks plea = are_all is_ia_of asks plea.ias ≡ true

pub lapsed_asked : (at : ℕ) (ias : List IaLeaseContent) (asks : List IaAsk) (plea : Option PleaContent) → IfSome plea (IsAsked asks)
    → IfSome (option_map (plea_lapsed at ias) plea) (IsAsked asks)
lapsed_asked at ias asks None h = tt
lapsed_asked at ias asks (Some plea) h = all_lapsed at ias asks plea.ias h

pub pleaded_asked : (asks : List IaAsk) (kept : Option Lease6Content) → IfSome (option_map (plea_by asks) kept) (IsAsked asks)
pleaded_asked asks None = tt
pleaded_asked asks (Some lease) = all_asked scope.All lease.ias asks

-- ---- a message

-- a REQUEST has what it asks for, as `Has` says
abbrev pub AsksWith : (Has : Type 0) → Kind6 → Type 0
AsksWith Has kind.Request = Has
AsksWith Has kind.Solicit = Unit {0}
AsksWith Has kind.Renew = Unit {0}
AsksWith Has kind.Rebind = Unit {0}
AsksWith Has kind.Release = Unit {0}
AsksWith Has kind.Decline = Unit {0}

abbrev pub Pleads : Option PleaContent → Kind6 → Type 0
Pleads plea k = AsksWith (is_some plea ≡ true) k

flag_itself : (b : Bool) → same_flag b b ≡ true
flag_itself true = refl
flag_itself false = refl

rapid_own : (k : Kind6) (rapid : Bool) → same_flag (rapid_said k rapid) (is_rapid k rapid) ≡ true
rapid_own kind.Solicit rapid = flag_itself rapid
rapid_own kind.Request rapid = refl
rapid_own kind.Renew rapid = refl
rapid_own kind.Rebind rapid = refl
rapid_own kind.Release rapid = refl
rapid_own kind.Decline rapid = refl

server_own : (k : Kind6) (kept : Option Lease6Content) (plea : Option PleaContent) → Pleads plea k → may_name k (server_said k kept plea) ≡ true
server_own kind.Solicit kept plea h = refl
server_own kind.Request kept None h = h
server_own kind.Request kept (Some plea) h = refl
server_own kind.Renew kept plea h = refl
server_own kind.Rebind kept plea h = refl
server_own kind.Release kept plea h = refl
server_own kind.Decline kept plea h = refl

requested_own : (asks : List IaAsk) (plea : Option PleaContent) → IfSome plea (IsAsked asks) → is_some plea ≡ true
    → are_all is_ia_of asks (plea_ias plea) ≡ true
requested_own asks None h there = absurd cc
requested_own asks (Some plea) h there = h

declined_own : (ias : List IaLeaseContent) (asks : List IaAsk) (plea : Option PleaContent) → IfSome plea (IsAsked asks)
    → are_some asks (ias_declined ias (plea_ias plea)) ≡ true
declined_own ias asks None h = none_some asks
declined_own ias asks (Some plea) h = some_declined ias asks plea.ias h

ias_own : (k : Kind6) (s : Scope6) (asks : List IaAsk) (kept : Option Lease6Content) (plea : Option PleaContent) → IfSome plea (IsAsked asks) → Pleads plea k
    → has_own_ias k asks (ias_said k s asks kept (plea_ias plea)) ≡ true
ias_own kind.Solicit s asks kept plea h there = all_solicited asks
ias_own kind.Request s asks kept plea h there = requested_own asks plea h there
ias_own kind.Renew s asks kept plea h there = all_asked s (ias_of kept) asks
ias_own kind.Rebind s asks kept plea h there = all_asked s (ias_of kept) asks
ias_own kind.Release s asks kept plea h there = some_released (ias_of kept) asks
ias_own kind.Decline s asks kept plea h there = declined_own (ias_of kept) asks plea h

pub said_own : (managed : Managed) (duid : List ℕ) (s : Scope6) (kept : Option Lease6Content) (plea : Option PleaContent) (say : Say6)
    → IfSome plea (IsAsked (map ask_for managed.conf.dhcp6.ias)) → Pleads plea say.kind
    → is_own_said managed (record {
      kind = say.kind;
      xid = say.xid;
      client = duid;
      server = server_said say.kind kept plea;
      elapsed = say.elapsed;
      rapid = rapid_said say.kind managed.conf.dhcp6.rapid;
      ias = ias_said say.kind s (map ask_for managed.conf.dhcp6.ias) kept (plea_ias plea);
    }) ≡ true
unfolding is_own_said
said_own managed duid s kept plea say asked there =
    and_from _ _ (and_from _ _ (rapid_own say.kind managed.conf.dhcp6.rapid) (server_own say.kind kept plea there))
    (ias_own say.kind s (map ask_for managed.conf.dhcp6.ias) kept plea asked there)
