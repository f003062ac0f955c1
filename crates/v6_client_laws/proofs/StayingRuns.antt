-- What stays so of a client whatever call comes.
use Rattle.std.proofs.Common.{ℕ, ◌≤◌, Bool, not, ◌&&◌, Option, Some, None, IfSome, refl, arith, leb}
use Rattle.std.proofs.lemmas.Bool.{and_parts, leb-true}
use Rattle.machine.specs.Moment.{is_due}
use Rattle.net_types.proofs.CaseLaws.{gated, split}
use Rattle.net_types.specs.declared.address.Ip6.{Ip6}
use Rattle.v6_message.specs.declared.kind.ServerKind6.{ServerKind6}
use Rattle.v6_message.specs.declared.kind.ServerKind6.TheVariants.{Advertise, Reply}
use Rattle.v6_message.specs.Replies.{Content6}
use Rattle.lease6_text.specs.Bounds.{FitsLease6}
use Rattle.lease6_text.specs.Leases.{Lease6Content}
use Rattle.v6_client.specs.declared.answers.TheConstants.{LEAST_SOL_MAX, MOST_SOL_MAX}
use Rattle.v6_client.specs.declared.states.Carrier6.{Carrier6}
use Rattle.v6_client.specs.declared.states.Carrier6.TheVariants.{Up, Down}
use Rattle.v6_items.specs.declared.scope.Cause6.TheVariants.{Lapse, Duplicate}
use Rattle.v6_client.specs.declared.states.Keep6.{Keep6}
use Rattle.v6_client.specs.declared.states.Keep6.TheVariants.{Stays, Clears, Takes}
use Rattle.v6_items.specs.declared.scope.Parting6.{Parting6}
use Rattle.v6_client.specs.declared.states.Step6.{Step6}
use Rattle.v6_client.specs.declared.states.Tell6.{Tell6}
use Rattle.v6_client.specs.Answers.{advertise_answer, advertised, counts, learnt, sol_max_with}
use Rattle.v6_client.specs.Calls.{answer_in, carrier_step, dates_in, due_of, fresh_in, pruned, rebind_step, release_step, stands_at}
use Rattle.v6_client.specs.Clients.{ClientContent, holds, is_at_end, is_restarting, turn_of}
use Rattle.v6_client.specs.Hearing.{heard_row, is_kept_offer}
use Rattle.v6_client.specs.Inputs.{duplicate_row}
use Rattle.v6_client.specs.Moves.{given_up, kept_after, lapsed, moved, parting_at}
use Rattle.v6_client.specs.OwnLeases.{OwnIas}
use Rattle.v6_client.specs.Runs.{Turned6, answered, carrier_turned, contested_turned, hears_turned, rebind_turned, release_turned, tick_turned}
use Rattle.v6_client.specs.RunsStay.{GrantsFitting, OwnIasStay, SoundStays}
use Rattle.v6_client.specs.Sound.{IsSound}
use Rattle.v6_client.specs.Ticks.{tick_row}
use Rattle.v6_client.proofs.LeftFits.{left_fits, pruned_fits, thinned_fits}
use Rattle.v6_client_laws.proofs.OwnGrants.{answers_own, carriers_own, duplicates_own, rebinds_own, releases_own, ticks_own}

-- ---- the IAs that are held

tick_own : (c : ClientContent) (at salt : ℕ) → OwnIas c → OwnIas (tick_turned at salt c).client
unfolding tick_turned
tick_own c at salt own =
    gated (λ (t : Turned6). OwnIas t.client) (is_due (due_of c) at) _ _
    (ticks_own c _ at salt _ own (record { goes_on = refl; answers = refl })) own

answer_own : (kind : ServerKind6) (c : ClientContent) (message : Content6) (at salt : ℕ) → OwnIas c
    → OwnIas (answered at salt message kind c).client
answer_own Advertise c message at salt own = answers_own Advertise c _ message at salt _ own (record { goes_on = refl; answers = refl })
answer_own Reply c message at salt own = answers_own Reply c _ message at salt _ own (record { goes_on = refl; answers = refl })

message_own : (c : ClientContent) (message : Content6) (at salt : ℕ) → OwnIas c → OwnIas (hears_turned at salt message c).client
unfolding hears_turned
message_own c message at salt own =
    gated (λ (t : Turned6). OwnIas t.client) (counts c message) _ _
    (answer_own message.kind (learnt message.sol_max c) message at salt own) own

duplicate_own : (c : ClientContent) (address : Ip6) (at salt : ℕ) → OwnIas c → OwnIas (contested_turned address at salt c).client
unfolding contested_turned
duplicate_own c address at salt own = duplicates_own c _ address at salt _ own (record { goes_on = refl; answers = refl })

carrier_own : (c : ClientContent) (carrier : Carrier6) (at salt : ℕ) → OwnIas c → OwnIas (carrier_turned carrier at salt c).client
unfolding carrier_turned
carrier_own c carrier at salt own = carriers_own c _ carrier at salt _ own (record { goes_on = refl; answers = refl })

release_own : (c : ClientContent) (tell : Tell6) (at salt : ℕ) → OwnIas c → OwnIas (release_turned tell at salt c).client
unfolding release_turned
release_own c tell at salt own = releases_own c _ tell at salt _ own (record { goes_on = refl; answers = refl })

rebind_own : (c : ClientContent) (at salt : ℕ) → OwnIas c → OwnIas (rebind_turned at salt c).client
unfolding rebind_turned
rebind_own c at salt own = rebinds_own c _ at salt _ own (record { goes_on = refl; answers = refl })

pub own_ias_stay : OwnIasStay
own_ias_stay c at salt own = record {
  tick = tick_own c at salt own;
  message = λ message any. message_own c message at salt own;
  carrier = λ carrier. carrier_own c carrier at salt own;
  duplicate = λ address. duplicate_own c address at salt own;
  release = λ tell. release_own c tell at salt own;
  rebind = rebind_own c at salt own;
}

-- ---- bounds

kept_fits : (keep : Keep6) (fresh kept : Option Lease6Content) → IfSome fresh FitsLease6 → IfSome kept FitsLease6
    → IfSome (kept_after keep fresh kept) FitsLease6
kept_fits Stays fresh kept granted fits = fits
kept_fits Clears fresh kept granted fits = tt
kept_fits Takes fresh kept granted fits = granted

moved_sound : (step : Step6) (fresh : Option Lease6Content) (c : ClientContent) → IfSome fresh FitsLease6 → IsSound c
    → IsSound (moved step fresh c)
moved_sound step fresh c granted sound = record {
  name = sound.name;
  asks = sound.asks;
  day = sound.day;
  kept = kept_fits step.keep fresh c.kept granted sound.kept;
}

lapsed_sound : (at : ℕ) (parting : Parting6) (c : ClientContent) → IsSound c → IsSound (lapsed at parting c)
lapsed_sound at parting c sound =
    gated IsSound (holds c.state && parting.goes && not (is_at_end at c.state)) _ _
    (record { name = sound.name; asks = sound.asks; day = sound.day; kept = left_fits (Lapse at) parting c.kept sound.kept }) sound

given_up_sound : (address : Ip6) (parting : Parting6) (c : ClientContent) → IsSound c → IsSound (given_up address parting c)
given_up_sound address parting c sound =
    gated IsSound (holds c.state && parting.goes) _ _
    (gated IsSound (is_restarting c.state) _ _
    (record { name = sound.name; asks = sound.asks; day = sound.day; kept = left_fits (Duplicate address) parting c.kept sound.kept })
    (record { name = sound.name; asks = sound.asks; day = sound.day; kept = thinned_fits (Duplicate address) c.kept sound.kept })) sound

pruned_sound : (at : ℕ) (stands : Bool) (c : ClientContent) → IsSound c → IsSound (pruned at stands c)
pruned_sound at stands c sound =
    gated IsSound stands _ _
    (record { name = sound.name; asks = sound.asks; day = sound.day; kept = pruned_fits at c.settings.asks c.kept sound.asks sound.kept }) sound

within_day : (told : Option ℕ) (before : ℕ) → before ≤ 86400000 → sol_max_with told before ≤ 86400000
within_day None before day = day
within_day (Some seconds) before day =
    split (leb LEAST_SOL_MAX seconds && leb seconds MOST_SOL_MAX)
    (λ e.
    let most : seconds ≤ 86400 = leb-true _ _ (and_parts (leb LEAST_SOL_MAX seconds) (leb seconds MOST_SOL_MAX) e).1 in
    rw e (omega (arith, most)))
    (λ e. rw e day)

pub learnt_sound : (told : Option ℕ) (c : ClientContent) → IsSound c → IsSound (learnt told c)
learnt_sound told c sound = record {
  name = sound.name;
  asks = sound.asks;
  day = within_day told c.sol_max sound.day;
  kept = sound.kept;
}

advertised_sound : (c : ClientContent) (message : Content6) → IsSound c → IsSound (advertised (advertise_answer c message) message c)
advertised_sound c message sound =
    gated IsSound (is_kept_offer (advertise_answer c message) c.state) _ _
    (record { name = sound.name; asks = sound.asks; day = sound.day; kept = sound.kept }) sound

tick_sound : (c : ClientContent) (at salt : ℕ) → IsSound c → IsSound (tick_turned at salt c).client
unfolding tick_turned
tick_sound c at salt sound =
    gated (λ (t : Turned6). IsSound t.client) (is_due (due_of c) at) _ _
    (moved_sound (tick_row (turn_of at salt c) (dates_in c) (parting_at (Lapse at) c) c.state) None (lapsed at (parting_at (Lapse at) c) c) tt
    (lapsed_sound at (parting_at (Lapse at) c) c sound)) sound

answer_sound : (kind : ServerKind6) (c : ClientContent) (message : Content6) (at salt : ℕ) → IfSome (fresh_in at c message) FitsLease6
    → IsSound c → IsSound (answered at salt message kind c).client
answer_sound Advertise c message at salt granted sound =
    moved_sound (heard_row (turn_of at salt c) (advertise_answer c message) c.state) None (advertised (advertise_answer c message) message c) tt
    (advertised_sound c message sound)
answer_sound Reply c message at salt granted sound =
    moved_sound (heard_row (turn_of at salt c) (answer_in at c message) c.state) (fresh_in at c message) c granted sound

message_sound : (c : ClientContent) (message : Content6) (at salt : ℕ) → GrantsFitting at c message → IsSound c
    → IsSound (hears_turned at salt message c).client
unfolding hears_turned
message_sound c message at salt granted sound =
    gated (λ (t : Turned6). IsSound t.client) (counts c message) _ _
    (answer_sound message.kind (learnt message.sol_max c) message at salt granted (learnt_sound message.sol_max c sound)) sound

duplicate_sound : (c : ClientContent) (address : Ip6) (at salt : ℕ) → IsSound c → IsSound (contested_turned address at salt c).client
unfolding contested_turned
duplicate_sound c address at salt sound =
    let p : Parting6 = parting_at (Duplicate address) c in
    moved_sound (duplicate_row (turn_of at salt c) p c.state) None (given_up address p c) tt (given_up_sound address p c sound)

carrier_sound : (c : ClientContent) (carrier : Carrier6) (at salt : ℕ) → IsSound c → IsSound (carrier_turned carrier at salt c).client
unfolding carrier_turned
carrier_sound c Up at salt sound =
    moved_sound (carrier_step Up at salt c) None (pruned at (stands_at at c) c) tt (pruned_sound at (stands_at at c) c sound)
carrier_sound c Down at salt sound = moved_sound (carrier_step Down at salt c) None c tt sound

release_sound : (c : ClientContent) (tell : Tell6) (at salt : ℕ) → IsSound c → IsSound (release_turned tell at salt c).client
unfolding release_turned
release_sound c tell at salt sound = moved_sound (release_step tell at salt c) None c tt sound

rebind_sound : (c : ClientContent) (at salt : ℕ) → IsSound c → IsSound (rebind_turned at salt c).client
unfolding rebind_turned
rebind_sound c at salt sound = moved_sound (rebind_step at salt c) None c tt sound

pub sound_stays : SoundStays
sound_stays c at salt sound = record {
  tick = tick_sound c at salt sound;
  message = λ message granted. message_sound c message at salt granted sound;
  carrier = λ carrier. carrier_sound c carrier at salt sound;
  duplicate = λ address. duplicate_sound c address at salt sound;
  release = λ tell. release_sound c tell at salt sound;
  rebind = rebind_sound c at salt sound;
}
