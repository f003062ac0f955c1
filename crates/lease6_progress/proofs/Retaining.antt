-- Over all turns: the client goes on holding leases that last.
use Rattle.std.proofs.Common.{◌≡◌, ℕ, Bool, true, false, cond, List, [], ◌∷◌, ◌++◌, Option, Some, None, refl, sym, ap, subst, ◌∙◌}
use Rattle.v6_message.specs.declared.kind.Kind6.TheVariants as kind
use Rattle.lease6_text.specs.Leases.{Lease6Content}
use Rattle.v6_client.specs.declared.exchange.Exchange6.{Exchange6}
use Rattle.v6_client.specs.declared.states.State6.{State6}
use Rattle.v6_client.specs.declared.states.State6.TheVariants.{Off, Waiting, Soliciting, Requesting, Bound, Renewing, Rebinding, Restarting, Declining}
use Rattle.v6_client.specs.Calls.{due_of}
use Rattle.v6_client.specs.Clients.{ClientContent, PleaContent, holds}
use Rattle.v6_client.specs.Runs.{Turned6, tick_turned}
use Rattle.v6_client.specs.Settings.{SettingsContent}
use Rattle.v6_client.proofs.SettingsStay.{settings_stay}
use Rattle.lease6_progress.specs.ClientTurns.{ClientTurn, Input6, Quiet, Hears, IsUsed, Rebinds, Drops, Releases, Start, acts_in, client_run, now_in, takes}
use Rattle.lease6_progress.specs.GoingWell.{Answered, EachQuestion, RebindsAlone, CarrierStays, Fair, IsFair, IsPrompt, NotAfter, NothingIsDenied, Prompt, Serves}
use Rattle.lease6_progress.specs.Questions.{Question, asked_by, left_by, question_in}
use Rattle.lease6_progress.specs.Staying.{GrantsLasting, HoldsItem, HoldsLasting, IsLasting, IsRenewedInTime, IsUndisturbed, IsValidUntil, Lasting, StaysHeld, asked_when}
use Rattle.lease6_progress.proofs.Extending.{bound_hears, firm, rebinding_hears, renewing_hears, used_bound, used_rebinding, used_renewing}
use Rattle.lease6_progress.proofs.Keeping.{Asks, Firm, Renews, Rests, Stage, each_bound, each_renewing, rebind_bound, rebind_rebinding, rebind_renewing, still_asked}
use Rattle.lease6_progress.proofs.Keeping as keeping
use Rattle.lease6_progress.proofs.Stages.{client_of, question_of}
use Rattle.lease6_progress.proofs.Turning.{run_settings}
use Rattle.lease6_progress.proofs.Validity.{IsStill, still_ahead, valid_now}

-- ---- the message that is pending

abbrev asks_of : (servers : Answered) (wait at : ℕ) (last : Option ℕ) (lease : Lease6Content) (exchange : Exchange6) (pending : Option Question)
    → Renews servers wait at last lease exchange pending → Asks kind.Renew (Some lease.server) exchange pending
asks_of EachQuestion wait at last lease exchange pending r = r.asks
asks_of RebindsAlone wait at last lease exchange pending r = r.asks

asks_again : (servers : Answered) (wait at : ℕ) (last : Option ℕ) (lease : Lease6Content) (exchange : Exchange6) (pending : Option Question)
    (r : Renews servers wait at last lease exchange pending) (after : Option Question)
    → after ≡ Some (question_of kind.Renew exchange.xid (asks_of servers wait at last lease exchange pending r).elapsed (Some lease.server) false
    (asks_of servers wait at last lease exchange pending r).ias (asks_of servers wait at last lease exchange pending r).asked)
    → Renews servers wait at last lease exchange after
asks_again EachQuestion wait at last lease exchange pending r after is = record {
  asks = record { elapsed = r.asks.elapsed; ias = r.asks.ias; asked = r.asks.asked; is = is };
  due = r.due;
  when_is = r.when_is;
  in_time = r.in_time;
  not_yet = r.not_yet;
}
asks_again RebindsAlone wait at last lease exchange pending r after is = record {
  asks = record { elapsed = r.asks.elapsed; ias = r.asks.ias; asked = r.asks.asked; is = is };
  last_is = r.last_is;
  t2_ahead = r.t2_ahead;
}

abbrev rebinds_of : (servers : Answered) (wait at : ℕ) (lease : Lease6Content) (exchange : Exchange6) (pending : Option Question)
    → keeping.Rebinds servers wait at lease exchange pending → Asks kind.Rebind None exchange pending
rebinds_of EachQuestion wait at lease exchange pending r = absurd r
rebinds_of RebindsAlone wait at lease exchange pending r = r.asks

rebinds_again : (servers : Answered) (wait at : ℕ) (lease : Lease6Content) (exchange : Exchange6) (pending : Option Question)
    (r : keeping.Rebinds servers wait at lease exchange pending) (after : Option Question)
    → after ≡ Some (question_of kind.Rebind exchange.xid (rebinds_of servers wait at lease exchange pending r).elapsed None false
    (rebinds_of servers wait at lease exchange pending r).ias (rebinds_of servers wait at lease exchange pending r).asked)
    → keeping.Rebinds servers wait at lease exchange after
rebinds_again EachQuestion wait at lease exchange pending r after is = absurd r
rebinds_again RebindsAlone wait at lease exchange pending r after is = record {
  asks = record { elapsed = r.asks.elapsed; ias = r.asks.ias; asked = r.asks.asked; is = is };
  due = r.due;
  when_is = r.when_is;
  in_time = r.in_time;
  not_yet = r.not_yet;
}

-- ---- one turn

module _ (settings : SettingsContent) (servers : Answered) (wait at salt : ℕ) (last : Option ℕ) (sol_max : ℕ) (plea : Option PleaContent)
    (unspent : Bool) (lease : Lease6Content) (renewed : IsRenewedInTime servers wait lease)
    (valid : IsValidUntil settings.asks wait (asked_when servers lease) lease.ias) (pending : Option Question) where
  abbrev holding : State6 → ClientContent
  holding state = client_of settings last sol_max state (Some lease) plea unspent

  abbrev After : Option Question → Turned6 → Type 0
  After left turned = Firm settings servers wait at turned.client (asked_by at turned.out.say left)

  inputs : (state : State6) (input : Input6) → Stage servers wait at last lease state pending → CarrierStays input
      → NothingIsDenied settings.asks input → IsUndisturbed (holding state) input → GrantsLasting servers wait at (holding state) input
      → After (left_by settings input pending) (takes at salt input (holding state))
  inputs state Quiet stage stays gives calm lasts = firm settings servers wait at salt last sol_max plea unspent lease renewed valid
      (holding state) pending refl stage
  inputs Bound (Hears message) stage stays gives calm lasts =
      bound_hears settings servers wait at salt last sol_max plea unspent lease renewed valid message gives pending stage
  inputs (Renewing exchange) (Hears message) stage stays gives calm lasts =
      renewing_hears settings servers wait at salt last sol_max plea unspent lease renewed valid message gives pending exchange
      (asks_of servers wait at last lease exchange pending stage) (asks_again servers wait at last lease exchange pending stage) lasts
  inputs (Rebinding exchange) (Hears message) stage stays gives calm lasts =
      rebinding_hears settings servers wait at salt last sol_max plea unspent lease renewed valid message gives pending exchange
      (rebinds_of servers wait at lease exchange pending stage) (rebinds_again servers wait at lease exchange pending stage) lasts
  inputs Bound (IsUsed address) stage stays gives calm lasts =
      used_bound settings servers wait at salt last sol_max plea unspent lease renewed valid address pending calm stage
  inputs (Renewing exchange) (IsUsed address) stage stays gives calm lasts =
      used_renewing settings servers wait at salt last sol_max plea unspent lease renewed valid address pending exchange calm stage
  inputs (Rebinding exchange) (IsUsed address) stage stays gives calm lasts =
      used_rebinding settings servers wait at salt last sol_max plea unspent lease renewed valid address pending exchange calm stage
  inputs state Rebinds stage stays gives calm lasts = absurd calm
  inputs state Drops stage stays gives calm lasts = absurd stays
  inputs state (Releases tell) stage stays gives calm lasts = absurd stays
  inputs Off (Hears message) stage stays gives calm lasts = absurd stage
  inputs (Waiting due) (Hears message) stage stays gives calm lasts = absurd stage
  inputs (Soliciting exchange offer) (Hears message) stage stays gives calm lasts = absurd stage
  inputs (Requesting exchange) (Hears message) stage stays gives calm lasts = absurd stage
  inputs (Restarting exchange end since stands) (Hears message) stage stays gives calm lasts = absurd stage
  inputs (Declining exchange) (Hears message) stage stays gives calm lasts = absurd stage
  inputs Off (IsUsed address) stage stays gives calm lasts = absurd stage
  inputs (Waiting due) (IsUsed address) stage stays gives calm lasts = absurd stage
  inputs (Soliciting exchange offer) (IsUsed address) stage stays gives calm lasts = absurd stage
  inputs (Requesting exchange) (IsUsed address) stage stays gives calm lasts = absurd stage
  inputs (Restarting exchange end since stands) (IsUsed address) stage stays gives calm lasts = absurd stage
  inputs (Declining exchange) (IsUsed address) stage stays gives calm lasts = absurd stage

module _ (settings : SettingsContent) (wait now at salt : ℕ) (last : Option ℕ) (sol_max : ℕ) (plea : Option PleaContent)
    (unspent : Bool) (lease : Lease6Content) (pending : Option Question) where
  abbrev resting : State6 → ClientContent
  resting state = client_of settings last sol_max state (Some lease) plea unspent

  ticks : (servers : Answered) (state : State6) → IsRenewedInTime servers wait lease
      → IsValidUntil settings.asks wait (asked_when servers lease) lease.ias
      → Stage servers wait now last lease state pending → NotAfter (due_of (resting state)) now at → Serves servers wait pending at
      → Firm settings servers wait at (tick_turned at salt (resting state)).client (asked_by at (tick_turned at salt (resting state)).out.say pending)
  ticks EachQuestion Bound renewed valid stage prompt served =
      each_bound settings wait at salt last sol_max plea unspent lease now pending renewed valid stage prompt
  ticks EachQuestion (Renewing exchange) renewed valid stage prompt served =
      each_renewing settings wait at salt last sol_max plea unspent lease now pending renewed valid exchange stage served
  ticks EachQuestion (Rebinding exchange) renewed valid stage prompt served = absurd stage
  ticks RebindsAlone Bound renewed valid stage prompt served =
      rebind_bound settings wait at salt last sol_max plea unspent lease now pending valid stage prompt
  ticks RebindsAlone (Renewing exchange) renewed valid stage prompt served =
      rebind_renewing settings wait at salt last sol_max plea unspent lease now pending valid exchange stage prompt
  ticks RebindsAlone (Rebinding exchange) renewed valid stage prompt served =
      rebind_rebinding settings wait at salt last sol_max plea unspent lease now pending valid exchange stage served
  ticks servers Off renewed valid stage prompt served = absurd stage
  ticks servers (Waiting due) renewed valid stage prompt served = absurd stage
  ticks servers (Soliciting exchange offer) renewed valid stage prompt served = absurd stage
  ticks servers (Requesting exchange) renewed valid stage prompt served = absurd stage
  ticks servers (Restarting exchange end since stands) renewed valid stage prompt served = absurd stage
  ticks servers (Declining exchange) renewed valid stage prompt served = absurd stage

-- ---- a client as it is

module _ (settings : SettingsContent) (servers : Answered) (wait at salt : ℕ) (c : ClientContent) (same : c.settings ≡ settings)
    (now : ℕ) (pending : Option Question) (f : Firm settings servers wait now c pending) where
  abbrev at_settings : SettingsContent → Option Lease6Content → ClientContent
  at_settings x kept = client_of x c.last c.sol_max c.state kept c.plea c.fresh

  pub tick_firm : NotAfter (due_of c) now at → Serves servers wait pending at
      → Firm settings servers wait at (tick_turned at salt c).client (asked_by at (tick_turned at salt c).out.say pending)
  tick_firm =
      subst (λ (x : SettingsContent). NotAfter (due_of (at_settings x c.kept)) now at → Serves servers wait pending at
      → Firm settings servers wait at (tick_turned at salt (at_settings x c.kept)).client (asked_by at (tick_turned at salt
      (at_settings x c.kept)).out.say pending))
      (sym same)
      (subst (λ (kept : Option Lease6Content). NotAfter (due_of (at_settings settings kept)) now at → Serves servers wait pending at
      → Firm settings servers wait at (tick_turned at salt (at_settings settings kept)).client
      (asked_by at (tick_turned at salt (at_settings settings kept)).out.say pending)) (sym f.kept)
      (ticks settings wait now at salt c.last c.sol_max c.plea c.fresh f.lease pending servers c.state f.renewed f.valid f.stage))

module _ (settings : SettingsContent) (servers : Answered) (wait at salt : ℕ) (c : ClientContent) (same : c.settings ≡ settings)
    (pending : Option Question) (f : Firm settings servers wait at c pending) (input : Input6) where
  abbrev with_settings : SettingsContent → Option Lease6Content → ClientContent
  with_settings x kept = client_of x c.last c.sol_max c.state kept c.plea c.fresh

  pub input_firm : CarrierStays input → NothingIsDenied settings.asks input → IsUndisturbed c input → GrantsLasting servers wait at c input
      → Firm settings servers wait at (takes at salt input c).client (asked_by at (takes at salt input c).out.say (left_by settings input pending))
  input_firm stays gives =
      subst (λ (x : SettingsContent). IsUndisturbed (with_settings x c.kept) input → GrantsLasting servers wait at (with_settings x c.kept) input
      → Firm settings servers wait at (takes at salt input (with_settings x c.kept)).client
      (asked_by at (takes at salt input (with_settings x c.kept)).out.say (left_by settings input pending))) (sym same)
      (subst (λ (kept : Option Lease6Content). IsUndisturbed (with_settings settings kept) input
      → GrantsLasting servers wait at (with_settings settings kept) input
      → Firm settings servers wait at (takes at salt input (with_settings settings kept)).client
      (asked_by at (takes at salt input (with_settings settings kept)).out.say (left_by settings input pending))) (sym f.kept)
      (inputs settings servers wait at salt c.last c.sol_max c.plea c.fresh f.lease f.renewed f.valid pending c.state input f.stage stays gives))

-- ---- what is held

stage_holds : (servers : Answered) (wait now : ℕ) (last : Option ℕ) (lease : Lease6Content) (state : State6) (pending : Option Question)
    → Stage servers wait now last lease state pending → (holds state ≡ true) × IsStill now wait (asked_when servers lease)
stage_holds servers wait now last lease Off pending stage = absurd stage
stage_holds servers wait now last lease (Waiting due) pending stage = absurd stage
stage_holds servers wait now last lease (Soliciting exchange offer) pending stage = absurd stage
stage_holds servers wait now last lease (Requesting exchange) pending stage = absurd stage
stage_holds EachQuestion wait now last lease Bound pending stage = (refl, still_ahead now wait lease.t1 stage.t1_ahead)
stage_holds RebindsAlone wait now last lease Bound pending stage = (refl, still_ahead now wait lease.t2 stage.t2_ahead)
stage_holds EachQuestion wait now last lease (Renewing exchange) pending stage =
    (refl, subst (IsStill now wait) (sym stage.when_is) (still_asked now stage.asks.asked wait stage.due stage.not_yet stage.in_time))
stage_holds RebindsAlone wait now last lease (Renewing exchange) pending stage = (refl, still_ahead now wait lease.t2 stage.t2_ahead)
stage_holds EachQuestion wait now last lease (Rebinding exchange) pending stage = absurd stage
stage_holds RebindsAlone wait now last lease (Rebinding exchange) pending stage =
    (refl, subst (IsStill now wait) (sym stage.when_is) (still_asked now stage.asks.asked wait stage.due stage.not_yet stage.in_time))
stage_holds servers wait now last lease (Restarting exchange end since stands) pending stage = absurd stage
stage_holds servers wait now last lease (Declining exchange) pending stage = absurd stage

-- ---- all turns

module _ (s : Start) (servers : Answered) (wait : ℕ) where
  abbrev FirmIn : List ClientTurn → Type 0
  FirmIn turns = Firm s.settings servers wait (now_in s turns) (client_run s turns) (question_in s turns)

  holds_item : (turns : List ClientTurn) → FirmIn turns → HoldsItem s turns
  holds_item turns f =
      let h = stage_holds servers wait (now_in s turns) (client_run s turns).last f.lease (client_run s turns).state (question_in s turns) f.stage in
      record {
        lease = f.lease;
        held = ap (λ (b : Bool). cond b (client_run s turns).kept None) h.0 ∙ f.kept;
        valid = valid_now s.settings.asks wait (asked_when servers f.lease) f.lease.ias (now_in s turns) h.1 f.valid;
      }

  one_more : (turn : ClientTurn) (past : List ClientTurn) → FirmIn past → IsPrompt s turn past → IsFair s servers wait turn past
      → IsLasting s servers wait turn past → FirmIn (turn ∷ past)
  one_more turn past f prompt fair lasting =
      let c : ClientContent = client_run s past in
      let ticked : Firm s.settings servers wait turn.at (acts_in turn c).client (asked_by turn.at (acts_in turn c).out.say (question_in s past)) =
      tick_firm s.settings servers wait turn.at turn.salt c (run_settings s past) (now_in s past) (question_in s past) f prompt.in_time fair.serves in
      input_firm s.settings servers wait turn.at turn.salt (acts_in turn c).client ((settings_stay c turn.at turn.salt).tick ∙ run_settings s past)
      (asked_by turn.at (acts_in turn c).out.say (question_in s past)) ticked turn.input fair.stays fair.gives lasting.undisturbed lasting.lasts

  all_firm : (later earlier : List ClientTurn) → FirmIn earlier → Prompt s (later ++ earlier) → Fair s servers wait (later ++ earlier)
      → Lasting s servers wait later earlier → FirmIn (later ++ earlier)
  all_firm [] earlier f prompt fair lasting = f
  all_firm (turn ∷ later) earlier f prompt fair lasting =
      one_more turn (later ++ earlier) (all_firm later earlier f prompt.1 fair.1 lasting.1) prompt.0 fair.0 lasting.0

  begins_firm : (turns : List ClientTurn) → HoldsLasting s servers wait turns → FirmIn turns
  begins_firm turns h = record {
    lease = h.lease;
    kept = sym (ap (λ (state : State6). cond (holds state) (client_run s turns).kept None) h.bound) ∙ h.held;
    renewed = h.lasts.renewed;
    valid = h.lasts.valid;
    stage = subst (λ (state : State6). Stage servers wait (now_in s turns) (client_run s turns).last h.lease state (question_in s turns)) (sym h.bound)
        (record { t1_ahead = h.lasts.t1_ahead; t2_ahead = h.lasts.t2_ahead; none = h.settled });
  }

pub stays_held : StaysHeld
stays_held s servers wait later earlier h prompt fair lasting =
    holds_item s servers wait (later ++ earlier) (all_firm s servers wait later earlier (begins_firm s servers wait earlier h) prompt fair lasting)
