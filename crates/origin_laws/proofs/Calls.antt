-- Which lease a DHCPv6 client keeps after each call.
use Rattle.std.proofs.Common.{◌≡◌, ◌⊎◌, inl, inr, ℕ, Bool, true, false, not, ◌&&◌, List, Option, Some, None, IfSome, option_map, refl, sym, subst, ◌∙◌}
use Rattle.std.proofs.lemmas.Bool.{and_parts, both_ways}
use Rattle.std.specs.Option.{option_and_then}
use Rattle.machine.specs.Moment.{is_due}
use Rattle.net_types.proofs.CaseLaws.{gated}
use Rattle.net_types.specs.declared.address.Ip6.{Ip6}
use Rattle.v6_message.specs.declared.kind.ServerKind6.{ServerKind6}
use Rattle.v6_message.specs.declared.kind.ServerKind6.TheVariants.{Advertise, Reply}
use Rattle.v6_message.specs.Replies.{Content6}
use Rattle.lease6_text.specs.Leases.{Lease6Content}
use Rattle.v6_client.specs.declared.states.Carrier6.{Carrier6}
use Rattle.v6_client.specs.declared.states.Carrier6.TheVariants.{Up, Down}
use Rattle.v6_client.specs.V6Items.declared.scope.Cause6.{Cause6}
use Rattle.v6_client.specs.V6Items.declared.scope.Cause6.TheVariants.{Lapse, Duplicate}
use Rattle.v6_client.specs.declared.states.Keep6.{Keep6}
use Rattle.v6_client.specs.declared.states.Keep6.TheVariants.{Stays, Clears, Takes}
use Rattle.v6_client.specs.V6Items.declared.scope.Parting6.{Parting6}
use Rattle.v6_client.specs.declared.states.State6.{State6}
use Rattle.v6_client.specs.declared.states.State6.TheVariants.{Off, Waiting, Soliciting, Requesting, Bound, Renewing, Rebinding, Restarting, Declining}
use Rattle.v6_client.specs.declared.states.Tell6.{Tell6}
use Rattle.v6_client.specs.declared.turn.Turn6.{Turn6}
use Rattle.v6_client.specs.Answers.{counts, granted, is_taken, learnt, meeting_of, reply_answer, server_of, takes_replies}
use Rattle.v6_client.specs.Calls.{carried_by, carrier_step, dates_in, due_of, fresh_in, pruned_lease, rebind_step, release_step, stands_at}
use Rattle.v6_client.specs.Clients.{ClientContent, holds, is_at_end, is_declining, is_restarting, turn_of}
use Rattle.v6_client.specs.Hearing.{heard_row}
use Rattle.v6_client.specs.Inputs.{duplicate_row}
use Rattle.v6_client.specs.V6Items.Items.{is_nonempty}
use Rattle.v6_client.specs.Laws.{IsGranting}
use Rattle.v6_client.specs.Moves.{declining_now, given_up, kept_after, kept_left, lapsed, missing, parting_at, thinned_lease}
use Rattle.v6_client.specs.Runs.{Turned6, answered, carrier_turned, contested_turned, hears_turned, rebind_turned, release_turned, tick_turned}
use Rattle.v6_client.specs.Calls.{Hears, IsAnswered}
use Rattle.v6_client.specs.V6Items.Reading.{serves}
use Rattle.v6_client.specs.V6Items.Taking.{ias_granted}
use Rattle.v6_client.specs.Ticks.{tick_row}
use Rattle.v6_client_laws.proofs.Granting.{keeps_granted}
use Rattle.v6_client_laws.proofs.KeptOrigins.{grants_origin}
use Rattle.lease6_evidence.proofs.Turns6.{Call6, Begins, Contests, Drops, Hears as Heard, Ignores, Rebinds, Releases, Rests, run6}
use Rattle.origin_laws.specs.Granted6.{WasKept}
use Rattle.origin_laws.proofs.Left.{Less, left_self, less_by, less_self, pruned_left, thinned_left}

-- ---- items that go before a step

thinned_less : (cause : Cause6) (kept : Option Lease6Content) → Less kept (option_map (thinned_lease cause) kept)
thinned_less cause kept = less_by (thinned_lease cause) (thinned_left cause) kept

left_less : (cause : Cause6) (parting : Parting6) (kept : Option Lease6Content) → Less kept (kept_left cause parting kept)
left_less cause parting kept = gated (Less kept) parting.stays _ kept (thinned_less cause kept) (less_self kept)

-- of a client
abbrev Lessens : ClientContent → ClientContent → Type 0
Lessens old new = Less old.kept new.kept

lapsed_less : (at : ℕ) (parting : Parting6) (c : ClientContent) → Lessens c (lapsed at parting c)
lapsed_less at parting c =
    gated (Lessens c) (holds c.state && parting.goes && not (is_at_end at c.state)) _ c (left_less (Lapse at) parting c.kept) (less_self c.kept)

given_up_less : (address : Ip6) (parting : Parting6) (c : ClientContent) → Lessens c (given_up address parting c)
given_up_less address parting c =
    gated (Lessens c) (holds c.state && parting.goes) _ c
    (gated (Lessens c) (is_restarting c.state) (missing address parting c) (declining_now address c)
    (left_less (Duplicate address) parting c.kept) (thinned_less (Duplicate address) c.kept)) (less_self c.kept)

carried_less : (carrier : Carrier6) (at : ℕ) (c : ClientContent) → Lessens c (carried_by carrier at c)
carried_less Up at c =
    gated (Lessens c) (stands_at at c) _ c (less_by (pruned_lease at c.settings.asks) (pruned_left at c.settings.asks) c.kept) (less_self c.kept)
carried_less Down at c = less_self c.kept

-- ---- calls without a message

-- a step that no Reply brings about
brings_none : (keep : Keep6) (before kept : Option Lease6Content) → Less before kept → Less before (kept_after keep None kept)
brings_none Stays before kept less = less
brings_none Clears before kept less = tt
brings_none Takes before kept less = tt

pub tick_less : (at salt : ℕ) (c : ClientContent) → Lessens c (tick_turned at salt c).client
unfolding tick_turned
tick_less at salt c =
    let parting : Parting6 = parting_at (Lapse at) c in
    gated (λ (turned : Turned6). Lessens c turned.client) (is_due (due_of c) at) _ _
    (brings_none (tick_row (turn_of at salt c) (dates_in c) parting c.state).keep c.kept (lapsed at parting c).kept (lapsed_less at parting c))
    (less_self c.kept)

contested_less : (address : Ip6) (at salt : ℕ) (c : ClientContent) → Lessens c (contested_turned address at salt c).client
unfolding contested_turned
contested_less address at salt c =
    let parting : Parting6 = parting_at (Duplicate address) c in
    brings_none (duplicate_row (turn_of at salt c) parting c.state).keep c.kept (given_up address parting c).kept (given_up_less address parting c)

pub carrier_less : (carrier : Carrier6) (at salt : ℕ) (c : ClientContent) → Lessens c (carrier_turned carrier at salt c).client
unfolding carrier_turned
carrier_less carrier at salt c =
    brings_none (carrier_step carrier at salt c).keep c.kept (carried_by carrier at c).kept (carried_less carrier at c)

release_less : (tell : Tell6) (at salt : ℕ) (c : ClientContent) → Lessens c (release_turned tell at salt c).client
unfolding release_turned
release_less tell at salt c = brings_none (release_step tell at salt c).keep c.kept c.kept (less_self c.kept)

rebind_less : (at salt : ℕ) (c : ClientContent) → Lessens c (rebind_turned at salt c).client
unfolding rebind_turned
rebind_less at salt c = brings_none (rebind_step at salt c).keep c.kept c.kept (less_self c.kept)

-- ---- a message

-- what a message does is a function of the client
hears_itself : (at salt : ℕ) (message : Content6) (c : ClientContent)
    → Hears at salt message c (hears_turned at salt message c).client (hears_turned at salt message c).out
unfolding hears_turned
hears_itself at salt message c = record {
  ignores = λ no. rw no (refl, record { no_message = refl; no_news = refl; no_lease = refl });
  goes = λ yes. rw yes (by_kind message.kind);
}
  where
    by_kind : (kind : ServerKind6)
        → IsAnswered at salt message kind (learnt message.sol_max c) (answered at salt message kind (learnt message.sol_max c)).client
        (answered at salt message kind (learnt message.sol_max c)).out
    by_kind Advertise = record { goes_on = refl; answers = refl }
    by_kind Reply = record { goes_on = refl; answers = refl }

-- the lease that is kept after the message was kept before, or the message granted it
abbrev pub IsKeptOrGranted : (at : ℕ) → Content6 → ClientContent → Lease6Content → Type 0
IsKeptOrGranted at message c lease = (c.kept ≡ Some lease) ⊎ IsGranting at message c lease

pub heard_keeps : (at salt : ℕ) (message : Content6) (c : ClientContent) (lease : Lease6Content)
    → (hears_turned at salt message c).client.kept ≡ Some lease → IsKeptOrGranted at message c lease
heard_keeps at salt message c lease kept =
    keeps_granted c (hears_turned at salt message c).client message at salt (hears_turned at salt message c).out lease
    (hears_itself at salt message c) kept

-- a granted lease is kept
takes_grant : (turn : Turn6) (rapid : Bool) (state : State6) (kept : Option Lease6Content) (lease : Lease6Content) → takes_replies rapid state ≡ true
    → kept_after (heard_row turn (reply_answer (is_declining state) true kept (Some lease)) state).keep (Some lease) kept ≡ Some lease
takes_grant turn rapid Off kept lease takes = absurd cc
takes_grant turn rapid (Waiting due) kept lease takes = absurd cc
takes_grant turn rapid (Soliciting exchange offer) kept lease takes = refl
takes_grant turn rapid (Requesting exchange) kept lease takes = refl
takes_grant turn rapid Bound kept lease takes = absurd cc
takes_grant turn rapid (Renewing exchange) kept lease takes = refl
takes_grant turn rapid (Rebinding exchange) kept lease takes = refl
takes_grant turn rapid (Restarting exchange end since stands) kept lease takes = refl
takes_grant turn rapid (Declining exchange) kept lease takes = absurd cc

granting_keeps : (at salt : ℕ) (message : Content6) (c : ClientContent) (lease : Lease6Content) → IsGranting at message c lease
    → (hears_turned at salt message c).client.kept ≡ Some lease
unfolding hears_turned
granting_keeps at salt message c lease g =
    let turn : Turn6 = turn_of at salt (learnt message.sol_max c) in
    let takes = and_parts (takes_replies (message.rapid && c.settings.site.rapid) c.state) (serves c.settings.asks message) g.taken in
    rw g.counted (subst (λ (kind : ServerKind6). (answered at salt message kind (learnt message.sol_max c)).client.kept ≡ Some lease) (sym g.reply)
    (subst (λ (fresh : Option Lease6Content).
    kept_after (heard_row turn (reply_answer (is_declining c.state) (is_taken c message) c.kept fresh) c.state).keep fresh c.kept ≡ Some lease)
    (sym g.grants)
    (subst (λ (taken : Bool).
    kept_after (heard_row turn (reply_answer (is_declining c.state) taken c.kept (Some lease)) c.state).keep (Some lease) c.kept ≡ Some lease)
    (sym g.taken) (takes_grant turn (message.rapid && c.settings.site.rapid) c.state c.kept lease takes.0))))

-- whether the message grants a lease
abbrev GrantsNothing : (at : ℕ) → Content6 → ClientContent → Type 0
GrantsNothing at message c = (lease : Lease6Content) → IsGranting at message c lease → ⊥

pub record GrantsSome (at : ℕ) (message : Content6) (c : ClientContent) : Type 0 where
  pub lease : Lease6Content
  pub grants : IsGranting at message c lease

unlike_kinds : (kind : ServerKind6) → kind ≡ Advertise → kind ≡ Reply → ⊥
unlike_kinds kind a r = cc

none_some : (fresh : Option Lease6Content) (lease : Lease6Content) → fresh ≡ None → fresh ≡ Some lease → ⊥
none_some fresh lease none some = cc

grants_or_not : (at : ℕ) (message : Content6) (c : ClientContent) → GrantsSome at message c ⊎ GrantsNothing at message c
grants_or_not at message c =
    decide (counts c message) message.kind (is_taken c message) (fresh_in at (learnt message.sol_max c) message) refl refl refl refl
  where
    decide : (counted : Bool) (kind : ServerKind6) (taken : Bool) (fresh : Option Lease6Content) → counts c message ≡ counted
        → message.kind ≡ kind → is_taken c message ≡ taken → fresh_in at (learnt message.sol_max c) message ≡ fresh
        → GrantsSome at message c ⊎ GrantsNothing at message c
    decide true Reply true (Some lease) counted kind taken fresh =
        inl (record { lease = lease; grants = record { counted = counted; reply = kind; taken = taken; grants = fresh } })
    decide false said takes gives counted kind taken fresh = inr (λ lease g. both_ways (counts c message) counted g.counted)
    decide true Advertise takes gives counted kind taken fresh = inr (λ lease g. unlike_kinds message.kind kind g.reply)
    decide true Reply false gives counted kind taken fresh = inr (λ lease g. both_ways (is_taken c message) taken g.taken)
    decide true Reply true None counted kind taken fresh =
        inr (λ lease g. none_some (fresh_in at (learnt message.sol_max c) message) lease fresh g.grants)

-- ---- any call

-- a call by which a Reply grants a lease
pub record GrantsBy (call : Call6) (at : ℕ) (c : ClientContent) (lease : Lease6Content) : Type 0 where
  pub message : Content6
  pub is_call : call ≡ Heard message
  pub grants : IsGranting at message c lease

-- one by which none does
abbrev pub GrantsNoneBy : Call6 → (at : ℕ) → ClientContent → Type 0
GrantsNoneBy call at c = (message : Content6) (lease : Lease6Content) → call ≡ Heard message → IsGranting at message c lease → ⊥

abbrev pub KeepsBy : Call6 → (at : ℕ) → (old new : ClientContent) → Type 0
KeepsBy call at old new =
    (lease : Lease6Content) → new.kept ≡ Some lease → (WasKept old.kept lease × GrantsNoneBy call at old) ⊎ GrantsBy call at old lease

less_keeps : (call : Call6) (at : ℕ) (old new : ClientContent) → ((message : Content6) → call ≡ Heard message → ⊥) → Lessens old new
    → KeepsBy call at old new
less_keeps call at old new never less lease is =
    inl (subst (λ (kept : Option Lease6Content). Less old.kept kept) is less, λ message given heard grants. never message heard)

same_message : (one other : Content6) → Heard one ≡ Heard other → one ≡ other
same_message one other is = cc

same_lease : (one other : Lease6Content) → Some one ≡ Some other → one ≡ other
same_lease one other is = cc

hears_keeps : (message : Content6) (at salt : ℕ) (c : ClientContent) → KeepsBy (Heard message) at c (hears_turned at salt message c).client
hears_keeps message at salt c lease is = by_grant (grants_or_not at message c)
  where
    by_keep : GrantsNothing at message c → IsKeptOrGranted at message c lease → WasKept c.kept lease
    by_keep never (inl kept) = record { before = lease; was = kept; left = left_self lease }
    by_keep never (inr grants) = absurd (never lease grants)

    by_grant : GrantsSome at message c ⊎ GrantsNothing at message c
        → (WasKept c.kept lease × GrantsNoneBy (Heard message) at c) ⊎ GrantsBy (Heard message) at c lease
    by_grant (inl some) =
        let same : some.lease ≡ lease = same_lease some.lease lease (sym (granting_keeps at salt message c some.lease some.grants) ∙ is) in
        inr (record { message = message; is_call = refl; grants = subst (λ (l : Lease6Content). IsGranting at message c l) same some.grants })
    by_grant (inr never) = inl (
      by_keep never (heard_keeps at salt message c lease is),
      λ other given heard grants.
          never given (subst (λ (m : Content6). IsGranting at m c given) (sym (same_message message other heard)) grants),
    )

pub call_keeps : (call : Call6) (at salt : ℕ) (c : ClientContent) → KeepsBy call at c (run6 call at salt c).client
call_keeps Ignores at salt c = less_keeps Ignores at c c (λ message h. cc) (less_self c.kept)
call_keeps Rests at salt c = less_keeps Rests at c c (λ message h. cc) (less_self c.kept)
call_keeps (Heard message) at salt c = hears_keeps message at salt c
call_keeps Begins at salt c = less_keeps Begins at c (carrier_turned Up at salt c).client (λ message h. cc) (carrier_less Up at salt c)
call_keeps Drops at salt c = less_keeps Drops at c (carrier_turned Down at salt c).client (λ message h. cc) (carrier_less Down at salt c)
call_keeps (Contests address) at salt c =
    less_keeps (Contests address) at c (contested_turned address at salt c).client (λ message h. cc) (contested_less address at salt c)
call_keeps (Releases tell) at salt c =
    less_keeps (Releases tell) at c (release_turned tell at salt c).client (λ message h. cc) (release_less tell at salt c)
call_keeps Rebinds at salt c = less_keeps Rebinds at c (rebind_turned at salt c).client (λ message h. cc) (rebind_less at salt c)

-- ---- what a granted lease tells

pub granted_origin : (at : ℕ) (message : Content6) (c : ClientContent) (lease : Lease6Content) → IsGranting at message c lease
    → lease.origin ≡ Some (record { mac = c.settings.site.iface.mac; confirmed = at })
granted_origin at message c lease grants =
    subst (λ (fresh : Option Lease6Content). IfSome fresh (λ l. l.origin ≡ Some (record { mac = c.settings.site.iface.mac; confirmed = at })))
    grants.grants (grants_origin (learnt message.sol_max c) message at)

-- of the server of the message
abbrev IsFrom : Content6 → Lease6Content → Type 0
IsFrom message lease = server_of message ≡ Some lease.server

server_told : (at : ℕ) (message : Content6) (c : ClientContent) (server : Option (List ℕ)) → server_of message ≡ server
    → IfSome (option_and_then (granted at c message) server) (IsFrom message)
server_told at message c None is = tt
server_told at message c (Some server) is =
    gated (λ (lease : Option Lease6Content). IfSome lease (IsFrom message)) (is_nonempty (ias_granted (meeting_of at c message) c.settings.asks)) _ None
    is tt

fresh_told : (at : ℕ) (message : Content6) (c : ClientContent) → IfSome (fresh_in at c message) (IsFrom message)
fresh_told at message c =
    gated (λ (lease : Option Lease6Content). IfSome lease (IsFrom message)) (is_taken c message) _ None
    (server_told at message c (server_of message) refl) tt

pub granted_server : (at : ℕ) (message : Content6) (c : ClientContent) (lease : Lease6Content) → IsGranting at message c lease
    → server_of message ≡ Some lease.server
granted_server at message c lease grants =
    subst (λ (fresh : Option Lease6Content). IfSome fresh (IsFrom message)) grants.grants (fresh_told at message (learnt message.sol_max c))
