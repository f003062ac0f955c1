-- Which origin the kept lease has after each call.
use Rattle.std.proofs.Common.{◌≡◌, ◌⊎◌, inl, inr, ℕ, Bool, not, ◌&&◌, List, Option, Some, None, IfSome, option_map, refl}
use Rattle.std.specs.Option.{option_and_then}
use Rattle.machine.specs.Moment.{is_due}
use Rattle.net_types.proofs.CaseLaws.{gated}
use Rattle.net_types.specs.declared.address.Ip6.{Ip6}
use Rattle.v6_message.specs.declared.kind.ServerKind6.{ServerKind6}
use Rattle.v6_message.specs.declared.kind.ServerKind6.TheVariants.{Advertise, Reply}
use Rattle.v6_message.specs.Replies.{Content6}
use Rattle.lease6_text.specs.Leases.{Lease6Content}
use Rattle.v6_client.specs.declared.states.Carrier6.{Carrier6}
use Rattle.v6_client.specs.declared.states.Carrier6.TheVariants.{Up, Down}
use Rattle.v6_items.specs.declared.scope.Cause6.{Cause6}
use Rattle.v6_items.specs.declared.scope.Cause6.TheVariants.{Lapse, Duplicate}
use Rattle.v6_client.specs.declared.states.Keep6.{Keep6}
use Rattle.v6_client.specs.declared.states.Keep6.TheVariants.{Stays, Clears, Takes}
use Rattle.v6_items.specs.declared.scope.Parting6.{Parting6}
use Rattle.v6_client.specs.declared.states.Tell6.{Tell6}
use Rattle.v6_client.specs.Answers.{advertise_answer, counts, granted, is_taken, learnt, meeting_of, server_of}
use Rattle.v6_client.specs.Calls.{answer_in, carried_by, carrier_step, dates_in, due_of, fresh_in, pruned, pruned_lease, rebind_step, release_step, stands_at}
use Rattle.v6_client.specs.Clients.{ClientContent, holds, is_at_end, is_restarting, turn_of}
use Rattle.v6_client.specs.Hearing.{heard_row, is_kept_offer}
use Rattle.v6_client.specs.Inputs.{duplicate_row}
use Rattle.v6_items.specs.Items.{is_nonempty}
use Rattle.v6_client.specs.Moves.{declining_now, given_up, kept_after, kept_left, lapsed, missing, parting_at, thinned_lease}
use Rattle.v6_client.specs.Origins.{GrantsOrigin, HadOrigin, KeepsOrTakesOrigin, KeepsOrigin, OriginsStay, origin_at}
use Rattle.v6_client.specs.Runs.{Turned6, answered, carrier_turned, contested_turned, hears_turned, rebind_turned, release_turned, tick_turned}
use Rattle.v6_items.specs.Taking.{ias_granted}
use Rattle.v6_client.specs.Ticks.{tick_row}

-- ---- what a Reply grants

abbrev HasOrigin : (at : ℕ) → ClientContent → Lease6Content → Type 0
HasOrigin at c lease = lease.origin ≡ Some (origin_at at c)

server_origin : (c : ClientContent) (message : Content6) (at : ℕ) (server : Option (List ℕ))
    → IfSome (option_and_then (granted at c message) server) (HasOrigin at c)
server_origin c message at None = tt
server_origin c message at (Some server) =
    gated (λ lease. IfSome lease (HasOrigin at c)) (is_nonempty (ias_granted (meeting_of at c message) c.settings.asks)) _ None refl tt

pub grants_origin : GrantsOrigin
grants_origin c message at =
    gated (λ lease. IfSome lease (HasOrigin at c)) (is_taken c message) _ None (server_origin c message at (server_of message)) tt

-- ---- what was kept before

had_self : (kept : Option Lease6Content) → IfSome kept (HadOrigin kept)
had_self None = tt
had_self (Some lease) = record { before = lease; was = refl; same = refl }

thinned_had : (cause : Cause6) (kept : Option Lease6Content) → IfSome (option_map (thinned_lease cause) kept) (HadOrigin kept)
thinned_had cause None = tt
thinned_had cause (Some lease) = record { before = lease; was = refl; same = refl }

abbrev Had : ClientContent → ClientContent → Type 0
Had c d = IfSome d.kept (HadOrigin c.kept)

left_had : (cause : Cause6) (parting : Parting6) (kept : Option Lease6Content) → IfSome (kept_left cause parting kept) (HadOrigin kept)
left_had cause parting kept =
    gated (λ (left : Option Lease6Content). IfSome left (HadOrigin kept)) parting.stays (option_map (thinned_lease cause) kept) kept
    (thinned_had cause kept) (had_self kept)

lapsed_had : (at : ℕ) (parting : Parting6) (c : ClientContent) → Had c (lapsed at parting c)
lapsed_had at parting c =
    gated (Had c) (holds c.state && parting.goes && not (is_at_end at c.state)) _ c (left_had (Lapse at) parting c.kept) (had_self c.kept)

given_up_had : (address : Ip6) (parting : Parting6) (c : ClientContent) → Had c (given_up address parting c)
given_up_had address parting c =
    gated (Had c) (holds c.state && parting.goes) _ c
    (gated (Had c) (is_restarting c.state) (missing address parting c) (declining_now address c)
    (left_had (Duplicate address) parting c.kept) (thinned_had (Duplicate address) c.kept)) (had_self c.kept)

pruned_had : (at : ℕ) (stands : Bool) (c : ClientContent) → Had c (pruned at stands c)
pruned_had at stands c = gated (Had c) stands _ c (of_kept c.kept) (had_self c.kept)
  where
    of_kept : (kept : Option Lease6Content) → IfSome (option_map (pruned_lease at c.settings.asks) kept) (HadOrigin kept)
    of_kept None = tt
    of_kept (Some lease) = record { before = lease; was = refl; same = refl }

carried_had : (carrier : Carrier6) (at : ℕ) (c : ClientContent) → Had c (carried_by carrier at c)
carried_had Up at c = pruned_had at (stands_at at c) c
carried_had Down at c = had_self c.kept

-- a step that no Reply brings about
brings_none : (keep : Keep6) (before kept : Option Lease6Content) → IfSome kept (HadOrigin before)
    → IfSome (kept_after keep None kept) (HadOrigin before)
brings_none Stays before kept had = had
brings_none Clears before kept had = tt
brings_none Takes before kept had = tt

tick_origin : (c : ClientContent) (at salt : ℕ) → KeepsOrigin c (tick_turned at salt c).client
unfolding tick_turned
tick_origin c at salt =
    let parting : Parting6 = parting_at (Lapse at) c in
    gated (λ (t : Turned6). KeepsOrigin c t.client) (is_due (due_of c) at) _ _
    (brings_none (tick_row (turn_of at salt c) (dates_in c) parting c.state).keep c.kept (lapsed at parting c).kept (lapsed_had at parting c))
    (had_self c.kept)

duplicate_origin : (c : ClientContent) (address : Ip6) (at salt : ℕ) → KeepsOrigin c (contested_turned address at salt c).client
unfolding contested_turned
duplicate_origin c address at salt =
    let parting : Parting6 = parting_at (Duplicate address) c in
    brings_none (duplicate_row (turn_of at salt c) parting c.state).keep c.kept (given_up address parting c).kept (given_up_had address parting c)

carrier_origin : (c : ClientContent) (carrier : Carrier6) (at salt : ℕ) → KeepsOrigin c (carrier_turned carrier at salt c).client
unfolding carrier_turned
carrier_origin c carrier at salt =
    brings_none (carrier_step carrier at salt c).keep c.kept (carried_by carrier at c).kept (carried_had carrier at c)

release_origin : (c : ClientContent) (tell : Tell6) (at salt : ℕ) → KeepsOrigin c (release_turned tell at salt c).client
unfolding release_turned
release_origin c tell at salt = brings_none (release_step tell at salt c).keep c.kept c.kept (had_self c.kept)

rebind_origin : (c : ClientContent) (at salt : ℕ) → KeepsOrigin c (rebind_turned at salt c).client
unfolding rebind_turned
rebind_origin c at salt = brings_none (rebind_step at salt c).keep c.kept c.kept (had_self c.kept)

-- ---- messages

abbrev KeptOrTaken : (at : ℕ) → ClientContent → Lease6Content → Type 0
KeptOrTaken at c lease = (c.kept ≡ Some lease) ⊎ HasOrigin at c lease

kept_self : (at : ℕ) (c : ClientContent) (kept : Option Lease6Content) → c.kept ≡ kept → IfSome kept (KeptOrTaken at c)
kept_self at c None is = tt
kept_self at c (Some lease) is = inl is

taken : (at : ℕ) (c : ClientContent) (fresh : Option Lease6Content) → IfSome fresh (HasOrigin at c) → IfSome fresh (KeptOrTaken at c)
taken at c None has = tt
taken at c (Some lease) has = inr has

steps_kept : (keep : Keep6) (at : ℕ) (c : ClientContent) (fresh : Option Lease6Content) → IfSome fresh (HasOrigin at c)
    → IfSome (kept_after keep fresh c.kept) (KeptOrTaken at c)
steps_kept Stays at c fresh has = kept_self at c c.kept refl
steps_kept Clears at c fresh has = tt
steps_kept Takes at c fresh has = taken at c fresh has

answer_origin : (kind : ServerKind6) (told : Option ℕ) (c : ClientContent) (message : Content6) (at salt : ℕ)
    → KeepsOrTakesOrigin at c (answered at salt message kind (learnt told c)).client
answer_origin Advertise told c message at salt =
    let d : ClientContent = learnt told c in
    let answer = advertise_answer d message in
    gated (λ (e : ClientContent). IfSome (kept_after (heard_row (turn_of at salt d) answer d.state).keep None e.kept) (KeptOrTaken at c))
    (is_kept_offer answer d.state) _ d
    (steps_kept (heard_row (turn_of at salt d) answer d.state).keep at c None tt) (steps_kept (heard_row (turn_of at salt d) answer d.state).keep at c None tt)
answer_origin Reply told c message at salt =
    let d : ClientContent = learnt told c in
    steps_kept (heard_row (turn_of at salt d) (answer_in at d message) d.state).keep at c (fresh_in at d message) (grants_origin d message at)

message_origin : (c : ClientContent) (message : Content6) (at salt : ℕ) → KeepsOrTakesOrigin at c (hears_turned at salt message c).client
unfolding hears_turned
message_origin c message at salt =
    gated (λ (t : Turned6). KeepsOrTakesOrigin at c t.client) (counts c message) _ _
    (answer_origin message.kind message.sol_max c message at salt) (kept_self at c c.kept refl)

pub origins_stay : OriginsStay
origins_stay c at salt = record {
  tick = tick_origin c at salt;
  message = λ message. message_origin c message at salt;
  carrier = λ carrier. carrier_origin c carrier at salt;
  duplicate = λ address. duplicate_origin c address at salt;
  release = λ tell. release_origin c tell at salt;
  rebind = rebind_origin c at salt;
}
