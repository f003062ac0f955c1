-- Over all turns: the first item is pending, or it is held since some turn that came in time.
use Rattle.std.proofs.Common.{◌≡◌, ℕ, ◌+◌, ◌<◌, ◌≤◌, Bool, true, cond, List, [], ◌∷◌, Option, None, inl, inr, refl, sym, ap, subst, ◌∙◌, arith}
use Rattle.std.proofs.lemmas.Bool.{cases_lt}
use Rattle.std.specs.Prelude.{◌⊎◌}
use Rattle.v6_message.specs.declared.kind.ServerKind6.TheVariants.{Advertise, Reply}
use Rattle.v6_retrans.specs.declared.parameters.TheConstants.{SOLICIT}
use Rattle.v6_client.specs.declared.states.Carrier6.TheVariants.{Up, Down}
use Rattle.v6_client.specs.declared.states.State6.{State6}
use Rattle.v6_client.specs.declared.states.Step6.{Step6}
use Rattle.v6_client.specs.declared.turn.Turn6.{Turn6}
use Rattle.v6_client.specs.Calls.{carried_by, due_of, stands_at}
use Rattle.v6_client.specs.Clients.{ClientContent, client_made, turn_of}
use Rattle.v6_client.specs.Runs.{Turned6, carrier_turned, stepped, tick_turned}
use Rattle.v6_client.specs.Saying.{plea_server}
use Rattle.v6_client.specs.Settings.{SettingsContent}
use Rattle.v6_client.specs.Steps.{restarts, to_waiting}
use Rattle.v6_client.specs.Times.{first_delay}
use Rattle.v6_client.proofs.SettingsStay.{settings_stay}
use Rattle.lease6_progress.specs.Acquiring.{Acquires, AcquiresAtOnce, BeginsAnew, HeldBy, IsReply, RepliesAlone, longest_choice, longest_delay}
use Rattle.lease6_progress.specs.ClientTurns.{ClientTurn, Input6, Quiet, Hears, IsUsed, Rebinds, Drops, Releases, Start, acts_in, begun, client_run, now_in, takes}
use Rattle.lease6_progress.specs.GoingWell.{CarrierStays, Fair, EachQuestion, IsFair, IsPrompt, NotAfter, NothingIsDenied, Prompt, Serves}
use Rattle.lease6_progress.specs.Questions.{Question, asked_by, left_by, question_in}
use Rattle.lease6_progress.proofs.Hearing.{MayOffer, input_comes}
use Rattle.lease6_progress.proofs.Stages.{HoldsSome, IsGrantedBy, Limits, Pending, PendingIn, delay_most, further, none_pending, none_pending_at_once}
use Rattle.lease6_progress.proofs.Ticking.{tick_pends}

-- ---- the settings stay

takes_settings : (input : Input6) (at salt : ℕ) (c : ClientContent) → (takes at salt input c).client.settings ≡ c.settings
takes_settings Quiet at salt c = refl
takes_settings (Hears message) at salt c = (settings_stay c at salt).message message tt
takes_settings (IsUsed address) at salt c = (settings_stay c at salt).duplicate address
takes_settings Rebinds at salt c = (settings_stay c at salt).rebind
takes_settings Drops at salt c = (settings_stay c at salt).carrier Down
takes_settings (Releases tell) at salt c = (settings_stay c at salt).release tell

pub run_settings : (s : Start) (turns : List ClientTurn) → (client_run s turns).settings ≡ s.settings
run_settings s [] = (settings_stay (client_made s.settings s.kept) s.at s.salt).carrier Up
run_settings s (turn ∷ past) =
    takes_settings turn.input turn.at turn.salt (acts_in turn (client_run s past)).client
    ∙ (settings_stay (client_run s past) turn.at turn.salt).tick ∙ run_settings s past

-- ---- an offer may come

abbrev Offers : (Offered : Type 0) → Input6 → Type 0
Offers Offered (Hears message) = message.kind ≡ Advertise → Offered
Offers Offered _ = Unit {0}

abbrev AllOffer : (Offered : Type 0) → List ClientTurn → Type 0
AllOffer Offered [] = Unit {0}
AllOffer Offered (turn ∷ past) = Offers Offered turn.input × AllOffer Offered past

any_may : (input : Input6) → Offers (Unit {0}) input
any_may Quiet = tt
any_may (Hears message) = λ is. tt
any_may (IsUsed address) = tt
any_may Rebinds = tt
any_may Drops = tt
any_may (Releases tell) = tt

all_may : (turns : List ClientTurn) → AllOffer (Unit {0}) turns
all_may [] = tt
all_may (turn ∷ past) = (any_may turn.input, all_may past)

unlike : Advertise ≡ Reply → ⊥
unlike e = cc

none_may : (input : Input6) → IsReply input → Offers ⊥ input
none_may Quiet h = tt
none_may (Hears message) h = λ is. unlike (sym is ∙ h)
none_may (IsUsed address) h = tt
none_may Rebinds h = tt
none_may Drops h = tt
none_may (Releases tell) h = tt

replies_alone : (turns : List ClientTurn) → RepliesAlone turns → AllOffer ⊥ turns
replies_alone [] h = tt
replies_alone (turn ∷ past) h = (none_may turn.input h.0, replies_alone past h.1)

-- ---- turns

-- An item is held since a turn in which a Reply granted it.
pub record HeldSince (s : Start) (turns : List ClientTurn) (end : ℕ) : Type 0 where
  pub by : HeldBy s turns end
  pub turn : ClientTurn
  pub past : List ClientTurn
  pub is : by.earlier ≡ turn ∷ past
  pub granted : IsGrantedBy turn.at (acts_in turn (client_run s past)).client turn.input by.lease

module _ (s : Start) (first wait : ℕ) (short : wait ≤ 1000) (Offered : Type 0) (end : ℕ)
    (late : (now : ℕ) (state : State6) (server : Option (List ℕ)) (pending : Option Question) → end < now
    → Pending (record { rapid = s.settings.site.rapid; first = first; wait = wait }) Offered now state server pending → ⊥) where
  abbrev l : Limits
  l = record { rapid = s.settings.site.rapid; first = first; wait = wait }

  abbrev Goes : (at : ℕ) → Option Question → Turned6 → Type 0
  Goes at pending turned = PendingIn l Offered at turned.client (asked_by at turned.out.say pending)

  -- ---- one turn

  tick_goes : (c : ClientContent) → c.settings ≡ s.settings → (now : ℕ) (pending : Option Question) (at salt : ℕ) → PendingIn l Offered now c pending
      → NotAfter (due_of c) now at → Serves EachQuestion wait pending at → Goes at pending (tick_turned at salt c)
  tick_goes c same now pending at salt =
      subst (λ (x : SettingsContent). Pending l Offered now c.state (plea_server c.plea) pending
      → NotAfter (due_of (record c { settings = x })) now at → Serves EachQuestion wait pending at
      → Goes at pending (tick_turned at salt (record c { settings = x }))) (sym same)
      (tick_pends s.settings first wait short Offered at salt c.last c.sol_max c.kept c.plea c.fresh now pending c.state)

  input_goes : (c : ClientContent) → c.settings ≡ s.settings → (pending : Option Question) (at salt : ℕ) (input : Input6) → CarrierStays input
      → NothingIsDenied s.settings.asks input
      → MayOffer s.settings first wait short Offered at salt c.last c.sol_max c.kept c.plea c.fresh input
      → PendingIn l Offered at c pending
      → Goes at (left_by s.settings input pending) (takes at salt input c) ⊎ HoldsSome (IsGrantedBy at c input) (takes at salt input c).client (asked_by at
      (takes at salt input c).out.say (left_by s.settings input pending))
  input_goes c same pending at salt input stays gives offers p =
      subst (λ (x : SettingsContent). Goes at (left_by s.settings input pending) (takes at salt input (record c { settings = x }))
      ⊎ HoldsSome (IsGrantedBy at (record c { settings = x }) input) (takes at salt input (record c { settings = x })).client
      (asked_by at (takes at salt input (record c { settings = x })).out.say (left_by s.settings input pending))) (sym same)
      (input_comes s.settings first wait short Offered at salt c.last c.sol_max c.kept c.plea c.fresh input c.state pending stays gives offers p)

  abbrev So : List ClientTurn → Type 0
  So turns = PendingIn l Offered (now_in s turns) (client_run s turns) (question_in s turns) ⊎ HeldSince s turns end

  by_then : (at : ℕ) (state : State6) (server : Option (List ℕ)) (pending : Option Question) → Pending l Offered at state server pending → at ≤ end
  by_then at state server pending p = elim (cases_lt end at) [
    | inl past ↦ absurd (late at state server pending past p)
    | inr so ↦ so
  ]

  offers_in : (input : Input6) (at salt : ℕ) (c : ClientContent) → Offers Offered input
      → MayOffer s.settings first wait short Offered at salt c.last c.sol_max c.kept c.plea c.fresh input
  offers_in Quiet at salt c h = tt
  offers_in (Hears message) at salt c h = h
  offers_in (IsUsed address) at salt c h = tt
  offers_in Rebinds at salt c h = tt
  offers_in Drops at salt c h = tt
  offers_in (Releases tell) at salt c h = tt

  more : (turn : ClientTurn) (past : List ClientTurn)
      → PendingIn l Offered (now_in s past) (client_run s past) (question_in s past)
      → IsPrompt s turn past → IsFair s EachQuestion wait turn past → Offers Offered turn.input → So (turn ∷ past)
  more turn past p prompt fair offers =
      let c : ClientContent = client_run s past in
      let c1 : ClientContent = (acts_in turn c).client in
      let pending : Option Question = asked_by turn.at (acts_in turn c).out.say (question_in s past) in
      let ticked : PendingIn l Offered turn.at c1 pending =
      tick_goes c (run_settings s past) (now_in s past) (question_in s past) turn.at turn.salt p prompt.in_time fair.serves in
      elim (input_goes c1 ((settings_stay c turn.at turn.salt).tick ∙ run_settings s past) pending turn.at turn.salt turn.input fair.stays fair.gives
      (offers_in turn.input turn.at turn.salt c1 offers) ticked) [
        | inl pending ↦ inl pending
        | inr h ↦ inr (record {
          by = record {
            later = [];
            earlier = turn ∷ past;
            cut = refl;
            in_time = by_then turn.at c1.state (plea_server c1.plea) pending ticked;
            lease = h.lease;
            bound = h.bound;
            held = h.held;
            some_item = h.some_item;
            settled = h.settled;
          };
          turn = turn;
          past = past;
          is = refl;
          granted = h.granted;
        })
      ]

  one_more : (turn : ClientTurn) (past : List ClientTurn) → So past → IsPrompt s turn past → IsFair s EachQuestion wait turn past → Offers Offered turn.input
      → So (turn ∷ past)
  one_more turn past (inl p) prompt fair offers = more turn past p prompt fair offers
  one_more turn past (inr h) prompt fair offers = inr (record {
    by = record {
      later = turn ∷ h.by.later;
      earlier = h.by.earlier;
      cut = ap (λ (turns : List ClientTurn). turn ∷ turns) h.by.cut;
      in_time = h.by.in_time;
      lease = h.by.lease;
      bound = h.by.bound;
      held = h.by.held;
      some_item = h.by.some_item;
      settled = h.by.settled;
    };
    turn = h.turn;
    past = h.past;
    is = h.is;
    granted = h.granted;
  })

  -- ---- all turns

  all_go : (turns : List ClientTurn) → So [] → Prompt s turns → Fair s EachQuestion wait turns → AllOffer Offered turns → So turns
  all_go [] so prompt fair offers = so
  all_go (turn ∷ past) so prompt fair offers =
      one_more turn past (all_go past so prompt.1 fair.1 offers.1) prompt.0 fair.0 offers.0

  pub held_then : (turns : List ClientTurn) → So [] → Prompt s turns → Fair s EachQuestion wait turns → AllOffer Offered turns → end < now_in s turns
      → HeldSince s turns end
  held_then turns so prompt fair offers past = elim (all_go turns so prompt fair offers) [
    | inl p ↦ absurd (late (now_in s turns) (client_run s turns).state (plea_server (client_run s turns).plea) (question_in s turns) past p)
    | inr h ↦ h
  ]

-- ---- the begin

module _ (s : Start) (wait : ℕ) (Offered : Type 0) where
  abbrev first : ℕ
  first = s.at + longest_delay s.settings

  abbrev limits : Limits
  limits = record { rapid = s.settings.site.rapid; first = first; wait = wait }

  abbrev made : ClientContent
  made = client_made s.settings s.kept

  abbrev turn : Turn6
  turn = turn_of s.at s.salt made

  abbrev begin_step : Bool → Step6
  begin_step stays = record (cond stays (restarts turn (stands_at s.at made)) (to_waiting turn)) { spends = true }

  abbrev begin_by : Bool → Turned6
  begin_by stays = stepped (begin_step stays) None (carried_by Up s.at made)

  sum_most : (at delay most : ℕ) → delay ≤ most → at + delay ≤ at + most
  sum_most at delay most h = omega arith

  pub begins_so : BeginsAnew s → PendingIn limits Offered s.at (begun s).client (asked_by s.at (begun s).out.say None)
  unfolding carrier_turned
  begins_so anew =
      subst (λ (b : Bool). PendingIn limits Offered s.at (begin_by b).client (asked_by s.at (begin_by b).out.say None)) (sym anew)
      (record {
        none = refl;
        in_time = sum_most s.at (first_delay turn) (longest_delay s.settings) (delay_most turn);
        not_yet = further s.at
            (first_delay turn);
      })

-- ---- the laws

-- by the turn in which it was granted
pub held_since : (s : Start) (wait : ℕ) (turns : List ClientTurn) → wait ≤ SOLICIT.irt → BeginsAnew s → Prompt s turns
    → Fair s EachQuestion wait turns → s.at + longest_delay s.settings + longest_choice + wait < now_in s turns
    → HeldSince s turns (s.at + longest_delay s.settings + longest_choice + wait)
held_since s wait turns short anew prompt fair past =
    held_then s (s.at + longest_delay s.settings) wait short (Unit {0}) (s.at + longest_delay s.settings + 1100 + wait)
    (λ now state server pending over p. none_pending (limits s wait (Unit {0})) (Unit {0}) now state server pending over p) turns
    (inl (begins_so s wait (Unit {0}) anew)) prompt fair (all_may turns) past

pub acquires : Acquires
acquires s wait turns short anew prompt fair past = (held_since s wait turns short anew prompt fair past).by

pub acquires_at_once : AcquiresAtOnce
acquires_at_once s wait turns short anew prompt fair replies past =
    (held_then s (s.at + longest_delay s.settings) wait short ⊥ (s.at + longest_delay s.settings + wait)
    (λ now state server pending over p. none_pending_at_once (limits s wait ⊥) now state server pending over p) turns
    (inl (begins_so s wait ⊥ anew)) prompt fair (replies_alone turns replies) past).by
