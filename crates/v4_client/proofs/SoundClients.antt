-- A sound step of a sound client gives a sound client, and the values that a message brings are within the bounds.
use Rattle.std.proofs.Common.{◌≡◌, ℕ, inl, inr, ◌<◌, Bool, true, false, ◌&&◌, List, [], ◌∷◌, ◌++◌, length, Option, Some, None, IfSome, option_map, refl, sym, ap, subst, arith, nat_le, nat_lt, ltb-true}
use Rattle.std.specs.List.{AllByRecursion, flat_map, list_all}
use Rattle.std.proofs.lemmas.Bool.{and_parts}
use Rattle.std.proofs.lemmas.Bool.Decides.{nat_tests}
use Rattle.net_types.specs.Moments.{IsMoment}
use Rattle.machine.specs.Moment.{moment_of}
use Rattle.net_types.proofs.AllLaws.{all_join}
use Rattle.net_types.proofs.CaseLaws.{split}
use Rattle.net_types.specs.declared.interface.Name.{Name}
use Rattle.net_types.specs.NameText.{FitsName}
use Rattle.v4_options.specs.OptionArea.{Instance}
use Rattle.v4_options.specs.OptionValue.{value_of}
use Rattle.v4_options.specs.declared.table.TheConstants.{KEPT_CODES}
use Rattle.lease_text.specs.declared.lease.TheConstants.{VALUE_LIMIT}
use Rattle.lease_text.specs.declared.lease.Terms4.{Terms4}
use Rattle.lease_text.specs.Bounds.{FitsValue, FitsValues, FitsLease, IsRising}
use Rattle.lease_text.specs.Leases.{ValueContent, LeaseContent, lease_with, terms_of}
use Rattle.v4_options.specs.OptionTable.{is_kept}
use Rattle.v4_options.specs.ValueForms.{is_well_formed}
use Rattle.v4_client.specs.declared.states.Answer4.{Answer4}
use Rattle.v4_client.specs.declared.states.Answer4.TheVariants as answer
use Rattle.v4_client.specs.declared.states.Keep4.{Keep4}
use Rattle.v4_client.specs.declared.states.Keep4.TheVariants.{Stays, Clears, Takes}
use Rattle.v4_client.specs.declared.states.State4.{State4}
use Rattle.v4_client.specs.declared.states.State4.TheVariants.{Off, Init, Selecting, Requesting, Rebooting, Checking, Waiting, Bound, Renewing, Rebinding}
use Rattle.v4_client.specs.declared.states.Step4.{Step4}
use Rattle.v4_client.specs.declared.states.Turn4.{Turn4}
use Rattle.v4_client.specs.Clients.{ClientContent, bound_terms, held_terms, kept_terms, turn_of}
use Rattle.v4_client.specs.Moves.{moved, kept_after, fresh_after, fresh_with, with_values}
use Rattle.v4_client.specs.Granting.{kept_value, kept_values, unless_refused}
use Rattle.v4_client.specs.Sound.{FitsBegin, FitsKeep, IsKept, IsSound, IsSoundStep, KeepsHeld, StaysHeld}

-- ---- a step

kept_fits : (keep : Keep4) (name : Name) (fresh : List ValueContent) (kept : Option LeaseContent) → FitsName name → FitsKeep keep
    → FitsValues fresh → IfSome kept FitsLease → IfSome (kept_after keep name fresh kept) FitsLease
kept_fits Stays name fresh kept named taken values fits = fits
kept_fits Clears name fresh kept named taken values fits = tt
kept_fits (Takes terms) name fresh kept named taken values fits = record { name = named; terms = taken; values = values }

fresh_fits : (keep : Keep4) (fresh : List ValueContent) → FitsValues fresh → FitsValues (fresh_after keep fresh)
fresh_fits Stays fresh values = values
fresh_fits Clears fresh values = values
fresh_fits (Takes terms) fresh values = record { each = tt; rising = tt }

still_kept : (kept : Option LeaseContent) (before after : Option Terms4) → StaysHeld (option_map terms_of kept) before after
    → IsKept before kept → IsKept after kept
still_kept kept before None stays held = tt
still_kept kept before (Some terms) (inl was) held = subst (λ b. IsKept b kept) was held
still_kept kept before (Some terms) (inr was) held = was

pub bound_held : (state : State4) (terms : Terms4) → bound_terms state ≡ Some terms → held_terms state ≡ Some terms
bound_held Off terms e = absurd cc
bound_held (Init due) terms e = absurd cc
bound_held (Selecting xid began secs backoff due) terms e = absurd cc
bound_held (Requesting exchange secs backoff due) terms e = absurd cc
bound_held (Rebooting exchange backoff end due stands) terms e = absurd cc
bound_held (Checking xid other origin acd stands) terms e = absurd cc
bound_held (Waiting due) terms e = absurd cc
bound_held (Bound xid other acd) terms e = e
bound_held (Renewing exchange other acd due) terms e = e
bound_held (Rebinding exchange other acd due) terms e = e

pub held_kept : (before : Option Terms4) (keep : Keep4) (after : State4) (name : Name) (fresh : List ValueContent)
    (kept : Option LeaseContent) → KeepsHeld (option_map terms_of kept) before keep after → IsKept before kept
    → IsKept (held_terms after) (kept_after keep name fresh kept)
held_kept before Stays after name fresh kept keeps held = still_kept kept before (held_terms after) keeps held
held_kept before Clears after name fresh kept keeps held = subst (λ terms. IsKept terms None) (sym keeps) tt
held_kept before (Takes taken) after name fresh kept keeps held =
    subst (λ terms. IsKept terms (Some (lease_with name taken fresh))) (sym (bound_held after taken keeps)) refl

pub went_sound : (c : ClientContent) (step : Step4) (may_stand : Bool) → IsSound c → IsSoundStep (kept_terms c) c.state step
    → IsSound (record (moved step c) { may_stand = may_stand })
went_sound c step may_stand sound goes = record {
  name = sound.name;
  ask = sound.ask;
  state = goes.state;
  kept = kept_fits step.keep c.settings.site.iface.name c.fresh c.kept sound.name goes.keep sound.fresh sound.kept;
  held = held_kept (held_terms c.state) step.keep step.state c.settings.site.iface.name c.fresh c.kept goes.held sound.held;
  fresh = fresh_fits step.keep c.fresh sound.fresh;
}

pub moved_sound : (c : ClientContent) (step : Step4) → IsSound c → IsSoundStep (kept_terms c) c.state step → IsSound (moved step c)
moved_sound c step sound goes = went_sound c step (moved step c).may_stand sound goes

-- ---- the values of a message

piece_fits : (code : ℕ) (value : Option (List ℕ)) → is_kept code ≡ true → AllByRecursion FitsValue (kept_value code value)
piece_fits code None kept = tt
piece_fits code (Some value) kept =
    split (nat_le (length value) VALUE_LIMIT && is_well_formed code value)
    (λ e. rw e (good (nat_le (length value) VALUE_LIMIT) (is_well_formed code value) refl refl e, tt)) (λ e. rw e tt)
  where
    good : (short formed : Bool) → nat_le (length value) VALUE_LIMIT ≡ short → is_well_formed code value ≡ formed
        → (short && formed) ≡ true → FitsValue (record { code = code; bytes = value })
    good true true short formed e = record { kept = kept; formed = formed; short = grind (arith, nat_tests) }
    good true false short formed e = absurd cc
    good false formed short well e = absurd cc

pieces_fit : (value : ℕ → Option (List ℕ)) (codes : List ℕ) → AllByRecursion (λ code. is_kept code ≡ true) codes
    → AllByRecursion FitsValue (flat_map (λ code. kept_value code (value code)) codes)
pieces_fit value [] kept = tt
pieces_fit value (code ∷ codes) kept =
    all_join FitsValue (kept_value code (value code)) (flat_map (λ code. kept_value code (value code)) codes)
    (piece_fits code (value code) kept.0) (pieces_fit value codes kept.1)

kept_each : (codes : List ℕ) → list_all is_kept codes ≡ true → AllByRecursion (λ code. is_kept code ≡ true) codes
kept_each [] e = tt
kept_each (code ∷ codes) e = let both = and_parts (is_kept code) (list_all is_kept codes) e in (both.0, kept_each codes both.1)

-- each code is above the one before it
abbrev are_rising : (before : ℕ) → List ℕ → Bool
are_rising before [] = true
are_rising before (code ∷ codes) = nat_lt before code && are_rising code codes

abbrev AreRising : (before : ℕ) → List ℕ → Type 0
AreRising before [] = Unit {0}
AreRising before (code ∷ codes) = (before < code) × AreRising code codes

rising_each : (before : ℕ) (codes : List ℕ) → are_rising before codes ≡ true → AreRising before codes
rising_each before [] e = tt
rising_each before (code ∷ codes) e =
    let both = and_parts (nat_lt before code) (are_rising code codes) e in (ltb-true before code both.0, rising_each code codes both.1)

lower : (before code : ℕ) (values : List ValueContent) → before < code → IsRising code values → IsRising before values
lower before code [] below rising = tt
lower before code (value ∷ values) below rising = (omega (arith, rising.0), rising.1)

piece_rises : (before code : ℕ) (value : Option (List ℕ)) (rest : List ValueContent) → before < code → IsRising code rest
    → IsRising before (kept_value code value ++ rest)
piece_rises before code None rest below rising = lower before code rest below rising
piece_rises before code (Some value) rest below rising =
    split (nat_le (length value) VALUE_LIMIT && is_well_formed code value)
    (λ e. rw e (below, rising)) (λ e. rw e (lower before code rest below rising))

pieces_rise : (value : ℕ → Option (List ℕ)) (before : ℕ) (codes : List ℕ) → AreRising before codes
    → IsRising before (flat_map (λ code. kept_value code (value code)) codes)
pieces_rise value before [] rising = tt
pieces_rise value before (code ∷ codes) rising =
    piece_rises before code (value code) (flat_map (λ code. kept_value code (value code)) codes) rising.0
    (pieces_rise value code codes rising.1)

pub values_fit : (refused : List ℕ) (instances : List Instance) → FitsValues (kept_values refused instances)
values_fit refused instances =
    let value : ℕ → Option (List ℕ) = λ (code : ℕ). unless_refused refused code (value_of code instances) in
    record {
      each = pieces_fit value KEPT_CODES (kept_each KEPT_CODES refl);
      rising = pieces_rise value 0 KEPT_CODES (rising_each 0 KEPT_CODES refl);
    }

values_taken : (answer : Answer4) (values fresh : List ValueContent) → FitsValues values → FitsValues fresh
    → FitsValues (fresh_with answer values fresh)
values_taken answer.Nothing values fresh fits before = before
values_taken (answer.Offer address server) values fresh fits before = before
values_taken (answer.Ack terms) values fresh fits before = fits
values_taken answer.Nak values fresh fits before = before

pub brought_sound : (c : ClientContent) (answer : Answer4) (values : List ValueContent) → IsSound c → FitsValues values
    → IsSound (with_values answer values c)
brought_sound c answer values sound fits = record {
  name = sound.name;
  ask = sound.ask;
  state = sound.state;
  kept = sound.kept;
  held = sound.held;
  fresh = values_taken answer values c.fresh fits sound.fresh;
}

-- the kept lease is one that may be asked for again
pub begin_fits : (kept : Option LeaseContent) → IfSome kept FitsLease → FitsBegin (option_map terms_of kept)
begin_fits None fits = tt
begin_fits (Some lease) fits = fits.terms

-- ---- turns

-- the moment of a turn is one of the client
pub early : (turn : Turn4) (at moment salt : ℕ) (c : ClientContent) → moment ≡ moment_of at → turn ≡ turn_of moment salt c
    → IsMoment turn.at
early turn at moment salt c told same = let here : turn.at ≡ moment = ap (λ (t : Turn4). t.at) same in omega arith
