-- What an acceptable message offers or grants is within the bounds.
use Rattle.std.proofs.Common.{◌≡◌, ℕ, ◌≤◌, Bool, true, false, ◌&&◌, not, Option, Some, None, refl, if◌then◌else◌, arith, nat_lt, eqb}
use Rattle.std.specs.Option.{is_some}
use Rattle.std.proofs.lemmas.Bool.{eqb-true}
use Rattle.std.proofs.lemmas.Bool.Decides.{nat_tests}
use Rattle.std.proofs.lemmas.Nat.{leading_le}
use Rattle.net_types.proofs.CaseLaws.{split, gated}
use Rattle.net_types.specs.declared.address.Ip4.{Ip4}
use Rattle.net_types.specs.Moments.{IsMoment}
use Rattle.net_types.specs.Networks.{mask_len}
use Rattle.v4_options.specs.declared.code.TheConstants.{LEASE_TIME}
use Rattle.v4_message.specs.declared.kind.MessageKind.{MessageKind}
use Rattle.v4_message.specs.declared.kind.MessageKind.TheVariants as kind
use Rattle.lease_text.specs.declared.lease.TheConstants.{INFINITE_LEASE}
use Rattle.lease_text.specs.Bounds.{FitsTerms}
use Rattle.lease_text.specs.Leases.{first_byte, is_host_address}
use Rattle.v4_client.specs.declared.options.Times4.{Times4}
use Rattle.v4_client.specs.declared.states.Exchange4.{Exchange4}
use Rattle.v4_client.specs.declared.states.State4.{State4}
use Rattle.v4_client.specs.declared.states.State4.TheVariants.{Off, Init, Selecting, Requesting, Rebooting, Checking, Waiting, Bound, Renewing, Rebinding}
use Rattle.v4_client.specs.Answers.{answering, is_good_offer, offer_of, offer_by, is_chosen, is_unexpired, is_good_ack, ack_by, reply_of, reply_by, answer_of}
use Rattle.v4_client.specs.Granting.{class_len, net_len, usual_times, told_times, times_of, mask_taken, unless_refused, terms_granted}
use Rattle.v4_client.specs.Messages.{Arrival, number_at, are_there}
use Rattle.v4_client.specs.Settings.{SettingsContent}
use Rattle.v4_client.specs.Sound.{FitsExchange, FitsAnswer, FitsState}

first : (a b : Bool) → (a && b) ≡ true → a ≡ true
first true b e = refl
first false b e = e

second : (a b : Bool) → (a && b) ≡ true → b ≡ true
second true b e = e
second false b e = absurd cc

-- ---- the terms of a lease

class_within : (address : Ip4) → class_len address ≤ 32
class_within address =
    gated (λ n. n ≤ 32) (nat_lt (first_byte address) 128) 8 (if nat_lt (first_byte address) 192 then 16 else 24) (omega arith)
    (gated (λ n. n ≤ 32) (nat_lt (first_byte address) 192) 16 24 (omega arith) (omega arith))

len_within : (address : Ip4) (mask : Option Ip4) → net_len address mask ≤ 32
len_within address None = class_within address
len_within address (Some mask) =
    gated (λ n. n ≤ 32) (eqb (mask_len mask) 0) (class_len address) (mask_len mask) (class_within address) (leading_le 32 _)

-- T1 and T2 are in order within the lease
record AreOrdered (lease : ℕ) (times : Times4) : Type 0 where
  renews : times.t1 ≤ times.t2
  rebinds : times.t2 ≤ lease

usual_ordered : (lease : ℕ) → AreOrdered lease (usual_times lease)
usual_ordered lease = record { renews = omega arith; rebinds = omega arith }

told_ordered : (lease : ℕ) (t1 t2 : Option ℕ) → AreOrdered lease (told_times lease t1 t2)
told_ordered lease None t2 = usual_ordered lease
told_ordered lease (Some t1) None = usual_ordered lease
told_ordered lease (Some t1) (Some t2) =
    split (nat_lt 0 t1 && nat_lt t1 t2 && nat_lt t2 lease)
    (λ e. rw e (in_order (first (nat_lt 0 t1 && nat_lt t1 t2) (nat_lt t2 lease) e) (second (nat_lt 0 t1 && nat_lt t1 t2) (nat_lt t2 lease) e)))
    (λ e. rw e (usual_ordered lease))
  where
    in_order : (nat_lt 0 t1 && nat_lt t1 t2) ≡ true → nat_lt t2 lease ≡ true → AreOrdered lease (record { t1 = t1; t2 = t2 })
    in_order e f =
        let before : nat_lt t1 t2 ≡ true = second (nat_lt 0 t1) (nat_lt t1 t2) e in
        record { renews = grind (arith, nat_tests); rebinds = grind (arith, nat_tests) }

times_ordered : (lease : ℕ) (t1 t2 : Option ℕ) → AreOrdered lease (times_of lease t1 t2)
times_ordered lease t1 t2 =
    split (eqb lease INFINITE_LEASE)
    (λ e. let same : lease ≡ INFINITE_LEASE = eqb-true lease INFINITE_LEASE e in rw e (record { renews = omega arith; rebinds = omega arith }))
    (λ e. rw e (told_ordered lease t1 t2))

times_endless : (lease : ℕ) (t1 t2 : Option ℕ) → lease ≡ INFINITE_LEASE → (times_of lease t1 t2).t1 ≡ INFINITE_LEASE
times_endless lease t1 t2 e = rw e refl

terms_fit : (settings : SettingsContent) (arrival : Arrival) (exchange : Exchange4) (server : Ip4) (lease : ℕ) → IsMoment arrival.at
    → FitsExchange exchange → 1 ≤ lease → FitsTerms (terms_granted settings arrival exchange server lease)
terms_fit settings arrival exchange server lease early fits some =
    let t1 : Option ℕ = unless_refused settings.refused 58 (number_at 58 arrival.message.instances) in
    let t2 : Option ℕ = unless_refused settings.refused 59 (number_at 59 arrival.message.instances) in
    let ordered : AreOrdered lease (times_of lease t1 t2) = times_ordered lease t1 t2 in
    record {
      address = fits.address;
      len = len_within exchange.address (mask_taken settings.refused arrival.message.instances);
      confirmed = early;
      first = fits.first;
      lease = some;
      renews = ordered.renews;
      rebinds = ordered.rebinds;
      endless = times_endless lease t1 t2;
    }

-- ---- answers

offer_of_fits : (settings : SettingsContent) (arrival : Arrival) (server : Ip4) (sort : MessageKind)
    → FitsAnswer (offer_of settings arrival server sort)
offer_of_fits settings arrival server kind.Offer =
    split (is_good_offer settings arrival) (λ e. rw e (host e)) (λ e. rw e tt)
  where
    host : is_good_offer settings arrival ≡ true → is_host_address arrival.message.yiaddr ≡ true
    host e =
        second (is_some (number_at LEASE_TIME arrival.message.instances)) (is_host_address arrival.message.yiaddr)
        (first (is_some (number_at LEASE_TIME arrival.message.instances) && is_host_address arrival.message.yiaddr)
        (are_there arrival.message.instances settings.required) e)
offer_of_fits settings arrival server kind.Discover = tt
offer_of_fits settings arrival server kind.Request = tt
offer_of_fits settings arrival server kind.Decline = tt
offer_of_fits settings arrival server kind.Ack = tt
offer_of_fits settings arrival server kind.Nak = tt
offer_of_fits settings arrival server kind.Release = tt
offer_of_fits settings arrival server kind.Inform = tt

offer_fits : (settings : SettingsContent) (arrival : Arrival) (server : Option Ip4) → FitsAnswer (offer_by settings arrival server)
offer_fits settings arrival None = tt
offer_fits settings arrival (Some server) = offer_of_fits settings arrival server arrival.message.kind

ack_fits : (settings : SettingsContent) (exchange : Exchange4) (arrival : Arrival) (server : Ip4) (lease : Option ℕ)
    → IsMoment arrival.at → FitsExchange exchange → FitsAnswer (ack_by settings exchange arrival server lease)
ack_fits settings exchange arrival server None early fits = tt
ack_fits settings exchange arrival server (Some lease) early fits =
    split (is_good_ack settings exchange arrival lease)
    (λ e. rw e (terms_fit settings arrival exchange server lease early fits (some e))) (λ e. rw e tt)
  where
    some : is_good_ack settings exchange arrival lease ≡ true → 1 ≤ lease
    some e =
        let other : not (eqb lease 0) ≡ true =
        second (eqb arrival.message.yiaddr.number exchange.address.number) (not (eqb lease 0))
        (first (eqb arrival.message.yiaddr.number exchange.address.number && not (eqb lease 0)) (is_unexpired exchange.first lease arrival.at)
        (first (eqb arrival.message.yiaddr.number exchange.address.number && not (eqb lease 0) && is_unexpired exchange.first lease arrival.at)
        (are_there arrival.message.instances settings.required) e)) in
        grind (arith, nat_tests)

reply_of_fits : (settings : SettingsContent) (exchange : Exchange4) (arrival : Arrival) (server : Ip4) (sort : MessageKind)
    → IsMoment arrival.at → FitsExchange exchange → FitsAnswer (reply_of settings exchange arrival server sort)
reply_of_fits settings exchange arrival server kind.Ack early fits =
    ack_fits settings exchange arrival server (number_at LEASE_TIME arrival.message.instances) early fits
reply_of_fits settings exchange arrival server kind.Nak early fits = tt
reply_of_fits settings exchange arrival server kind.Discover early fits = tt
reply_of_fits settings exchange arrival server kind.Offer early fits = tt
reply_of_fits settings exchange arrival server kind.Request early fits = tt
reply_of_fits settings exchange arrival server kind.Decline early fits = tt
reply_of_fits settings exchange arrival server kind.Release early fits = tt
reply_of_fits settings exchange arrival server kind.Inform early fits = tt

reply_fits : (settings : SettingsContent) (exchange : Exchange4) (arrival : Arrival) (server : Option Ip4)
    → IsMoment arrival.at → FitsExchange exchange → FitsAnswer (reply_by settings exchange arrival server)
reply_fits settings exchange arrival None early fits = tt
reply_fits settings exchange arrival (Some server) early fits =
    gated FitsAnswer (is_chosen exchange.server server) _ _
    (reply_of_fits settings exchange arrival server arrival.message.kind early fits) tt

pub answer_fits : (settings : SettingsContent) (arrival : Arrival) (state : State4) → IsMoment arrival.at → FitsState state
    → FitsAnswer (answer_of settings arrival state)
answer_fits settings arrival Off early fits = tt
answer_fits settings arrival (Init due) early fits = tt
answer_fits settings arrival (Selecting xid began secs backoff due) early fits =
    offer_fits settings arrival (answering settings xid arrival)
answer_fits settings arrival (Requesting exchange secs backoff due) early fits =
    reply_fits settings exchange arrival (answering settings exchange.xid arrival) early fits
answer_fits settings arrival (Rebooting exchange backoff end due stands) early fits =
    reply_fits settings exchange arrival (answering settings exchange.xid arrival) early fits.asks
answer_fits settings arrival (Checking xid terms origin acd stands) early fits = tt
answer_fits settings arrival (Waiting due) early fits = tt
answer_fits settings arrival (Bound xid terms acd) early fits = tt
answer_fits settings arrival (Renewing exchange terms acd due) early fits =
    reply_fits settings exchange arrival (answering settings exchange.xid arrival) early fits.renewal.asks
answer_fits settings arrival (Rebinding exchange terms acd due) early fits =
    reply_fits settings exchange arrival (answering settings exchange.xid arrival) early fits.renewal.asks
