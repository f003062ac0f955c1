-- What the DHCPv4 client of an interface carries of the turns shown, and that a tick keeps it.
use Rattle.std.proofs.Common.{◌≡◌, ℕ, ◌<◌, ◌≤◌, ◌^◌, Bool, true, false, ◌||◌, List, ◌∷◌, map, Option, Some, None, IfSome, refl, sym, ap, subst, ◌∙◌, arith, nat_eq, if◌then◌else◌}
use Rattle.std.specs.List.{list_any, AllByRecursion}
use Rattle.std.specs.Option.{is_some}
use Rattle.machine.specs.Moment.{is_due}
use Rattle.net_types.proofs.CaseLaws.{split, gated}
use Rattle.lease_text.specs.declared.lease.Terms4.{Terms4}
use Rattle.v4_message.specs.Requests.{AskFits}
use Rattle.v4_frames.specs.declared.sent.Sent4.{Sent4}
use Rattle.v4_frames.specs.InRange.{FitsSent}
use Rattle.v4_frames.specs.InRange as sent
use Rattle.v4_client.specs.declared.states.Answer4.{Answer4}
use Rattle.v4_client.specs.declared.states.Answer4.TheVariants as answer
use Rattle.v4_client.specs.declared.states.Exchange4.{Exchange4}
use Rattle.v4_client.specs.declared.states.State4.{State4}
use Rattle.v4_client.specs.declared.states.State4.TheVariants.{Off}
use Rattle.v4_client.specs.declared.states.Step4.{Step4}
use Rattle.v4_client.specs.declared.states.Turn4.{Turn4}
use Rattle.v4_client.specs.Calls.{unsent_step}
use Rattle.v4_client.specs.Clients.{ClientContent, kept_terms, turn_of}
use Rattle.v4_client.specs.Due.{due_of}
use Rattle.v4_client.specs.History.{tick_step}
use Rattle.v4_client.specs.Inputs.{unsent_row}
use Rattle.v4_client.specs.Moves.{moved}
use Rattle.v4_client.specs.Saying.{sent_of}
use Rattle.v4_client.specs.Settings.{SettingsContent}
use Rattle.v4_client.specs.Sound.{IsSound, IsSoundStep}
use Rattle.v4_client.specs.Steps.{rests}
use Rattle.v4_client.specs.Ticks.{tick_row}
use Rattle.v4_client.proofs.SoundClients.{moved_sound}
use Rattle.v4_client.proofs.SoundSteps.{tick_sound, rests_sound, unsent_sound}
use Rattle.evidence_words.specs.ClientModel.Messages.{Said}
use Rattle.evidence_words.specs.ClientModel.ClientSettings.{ask_of, settings_of}
use Rattle.evidence_words.specs.ClientModel.Dhcp4Steps.{said_in}
use Rattle.evidence_words.specs.Entries.{Entry}
use Rattle.evidence_words.specs.Inputs.{Site, index_at, offers_at, carrier_after, has_carrier}
use Rattle.evidence_words.proofs.Offers.{Offered}
use Rattle.lease_evidence.specs.Exchanges.{Numbered, Seen, messages_at, shows, show, seen_in}
use Rattle.lease_evidence.specs.KeptBasis4.{AsksAgain}
use Rattle.lease_evidence.specs.LeaseBasis.{tells_end, Calm}
use Rattle.lease_evidence.specs.OwnMessages.{speaker_of}
use Rattle.lease_evidence.specs.Replies.{reply_at}
use Rattle.lease_evidence.proofs.Observer.{Grant, Kept, kept, unless_ended, if_calm, hears, ended_at, stays_on, stays_at, kept_in, answered_in, Opens, shown_opens}
use Rattle.lease_evidence.proofs.Observed.{observes, goes_on}
use Rattle.lease_evidence.proofs.Watching.{LastXid, On, Watched, WatchedAfter, Lasts, AnyTerms, message_in, ended_by}
use Rattle.lease_evidence.proofs.WatchTicks.{not_due, tick_watched}
use Rattle.lease_evidence.proofs.WatchInputs.{HeardAfter, nothing_said, unsent_watched, any_terms}
use Rattle.lease_evidence.proofs.ProbeTicks.{Bears, BearsAmid, AfterTick, rested_amid, tick_amid}
use Rattle.lease_evidence.proofs.ProbeInputs.{unsent_bears, clean_bears}
use Rattle.lease_evidence.proofs.OwnRows.{HasServer, IsOwn, OwnStepOf, rests_own, speaker_at, tick_own, unsent_names}
use Rattle.lease_evidence.proofs.SayFits as fields
use Rattle.lease_evidence.proofs.SayFits.{FitsFields, FitsStep}
use Rattle.lease_evidence.proofs.Spoken.{message_said, FitsSaid, OwnSaid, AreOther, said_all, messages_are, shows_all, ends_all, asks_all, speaks_all, all_fit, all_own}
use Rattle.lease_evidence.proofs.Standing.{ShowsBoth, StandsSo, StandsAmidSo, still_up, tick_stands, unsent_stands}

pub record Carries (K : Terms4 → Type 0) (site : Site) (clean : Type 0) (c : ClientContent) (past : List Entry) : Type 0 where
  pub settings : c.settings ≡ settings_of site.duid site.managed
  pub sound : IsSound c
  pub fields : FitsFields c.state
  pub names : HasServer c.state
  pub watched : Watched K c.last c.state (seen_in site past) (kept_in site past)
  pub bears : Bears site clean c.state past
  pub stands : StandsSo site past c

-- after a turn at a moment, with what was said in it
pub record Ended (site : Site) (clean : Type 0) (at : ℕ) (said : List Said) (c : ClientContent) (past : List Entry) : Type 0 where
  pub carries : Carries (Lasts at) site clean c past
  pub fit : AllByRecursion FitsSaid said
  pub own : AllByRecursion (OwnSaid (speaker_of site.managed)) said

-- ---- a failed send of the turn before

pub unsent_carries : (K : Terms4 → Type 0) (site : Site) (clean : Type 0) (c : ClientContent) (past : List Entry) (at salt : ℕ) → Carries K site clean c past
    → Carries AnyTerms site (Unit {0}) (unsent_step at salt c) past
unsent_carries K site clean c past at salt h =
    let turn : Turn4 = turn_of at salt c in
    record {
      settings = h.settings;
      sound = moved_sound c (rests turn (unsent_row turn c.state)) h.sound (unsent_sound (kept_terms c) turn c.state h.sound.state);
      fields = fields.unsent_fits turn c.state h.fields;
      names = unsent_names turn c.state h.names;
      watched = record {
        xid = h.watched.xid;
        on = unsent_watched AnyTerms turn (seen_in site past).current (kept_in site past).answered (kept_in site past).grant c.state
            (any_terms K turn (seen_in site past).current (kept_in site past).answered (kept_in site past).grant c.state h.watched.on);
      };
      bears = unsent_bears site clean past turn c.state h.bears;
      stands = unsent_stands site past turn c.may_stand c.state c.kept h.stands;
    }

pub clean_carries : (K : Terms4 → Type 0) (site : Site) (clean : Type 0) (c : ClientContent) (past : List Entry) → clean → Carries K site clean c past
    → Carries AnyTerms site (Unit {0}) c past
clean_carries K site clean c past k h = record {
  settings = h.settings;
  sound = h.sound;
  fields = h.fields;
  names = h.names;
  watched = record {
    xid = h.watched.xid;
    on = any_terms K (turn_of 0 0 c) (seen_in site past).current (kept_in site past).answered (kept_in site past).grant c.state h.watched.on;
  };
  bears = clean_bears site clean past c.state k h.bears;
  stands = h.stands;
}

-- ---- within a turn, after the tick

pub record Amid (site : Site) (clean : Type 0) (e : Entry) (past : List Entry) (one : Step4) (c : ClientContent) : Type 0 where
  pub settings : c.settings ≡ settings_of site.duid site.managed
  pub sound : IsSound c
  pub fields : FitsFields c.state
  pub names : HasServer c.state
  pub say : IfSome one.say (λ say. FitsSent (sent_of say))
  pub own : IfSome one.say (IsOwn c.settings.site)
  pub watched : Watched (Lasts e.moment) c.last c.state (shows e.moment (message_in one) (seen_in site past)) (ended_by one (kept_in site past))
  pub bears : BearsAmid site (ask_of site.duid site.managed) clean e past (said_in one) (tells_end (message_in one)) c.state
  pub stands : StandsAmidSo site past (message_in one) c

-- what the settings say of a turn
pub turn_mac : (site : Site) → sent.FitsMac site.managed.spec.mac → (c : ClientContent) → c.settings ≡ settings_of site.duid site.managed
    → sent.FitsMac c.settings.site.iface.mac
turn_mac site mac c same = subst (λ (s : SettingsContent). sent.FitsMac s.site.iface.mac) (sym same) mac

pub turn_noarp : (site : Site) (c : ClientContent) → c.settings ≡ settings_of site.duid site.managed
    → c.settings.site.flags.noarp ≡ site.managed.conf.flags.noarp
turn_noarp site c same = ap (λ (s : SettingsContent). s.site.flags.noarp) same

pub turn_flag : (site : Site) (c : ClientContent) → c.settings ≡ settings_of site.duid site.managed
    → c.settings.site.flags.persistent ≡ site.managed.conf.flags.persistent
turn_flag site c same = ap (λ (s : SettingsContent). s.site.flags.persistent) same

pub within : (site : Site) (past : List Entry) → (kept_in site past).answered ≤ (seen_in site past).count
within site past = (observes site past).within

pub tick_carries : (site : Site) (clean : Type 0) (e : Entry) (past : List Entry) (salt : ℕ) (c : ClientContent) → sent.FitsMac site.managed.spec.mac
    → e.moment < 10 ^ 15 → Carries AnyTerms site (Unit {0}) c past
    → Amid site clean e past (tick_step e.moment salt c) (moved (tick_step e.moment salt c) c)
tick_carries site clean e past salt c mac early h =
    let turn : Turn4 = turn_of e.moment salt c in
    let due : Bool = is_due (due_of c.state) e.moment in
    let fits : FitsStep (tick_step e.moment salt c) =
    gated FitsStep due (tick_row turn c.state) (rests turn c.state) (fields.tick_fits turn (turn_mac site mac c h.settings) c.state h.fields)
    (record { state = h.fields; say = tt }) in
    let own : OwnStepOf c.settings.site (tick_step e.moment salt c) =
    gated (OwnStepOf c.settings.site) due (tick_row turn c.state) (rests turn c.state) (tick_own turn c.state h.sound.state h.names)
    (rests_own turn c.state h.names) in
    let After : Step4 → Type 0 = λ (step : Step4). WatchedAfter (Lasts e.moment) e.moment (seen_in site past) (kept_in site past) step in
    record {
      settings = h.settings;
      sound = moved_sound c (tick_step e.moment salt c) h.sound
          (gated (IsSoundStep (kept_terms c) c.state) due _ _ (tick_sound (kept_terms c) turn c.state early h.sound.state)
          (rests_sound (kept_terms c) turn c.state h.sound.state));
      fields = fits.state;
      names = own.names;
      say = fits.say;
      own = own.own;
      watched = split (is_due (due_of c.state) e.moment)
          (λ come. subst After (sym (choice_true (tick_row turn c.state) (rests turn c.state) come))
          (tick_watched turn (seen_in site past).count (seen_in site past).current (kept_in site past) (within site past) h.watched.xid c.state h.watched.on))
          (λ rest. subst After (sym (choice_false (tick_row turn c.state) (rests turn c.state) rest))
          (record {
            xid = h.watched.xid;
            on = not_due c.state e.moment (seen_in site past).current (kept_in site past).answered (kept_in site past).grant h.sound.state rest h.watched.on;
          }));
      bears = gated (AfterTick site (ask_of site.duid site.managed) clean e past) due _ _
          (tick_amid site (ask_of site.duid site.managed) clean e past turn refl c.state h.bears)
          (rested_amid site (ask_of site.duid site.managed) clean e past turn c.state h.bears);
      stands = tick_stands site past c.settings.site.iface.name c.fresh c.kept turn c.may_stand c.state h.stands;
    }
  where
    choice_true : {b : Bool} (x y : Step4) → b ≡ true → (if b then x else y) ≡ x
    choice_true x y h = rw h refl

    choice_false : {b : Bool} (x y : Step4) → b ≡ false → (if b then x else y) ≡ y
    choice_false x y h = rw h refl

-- ---- the end of a turn

or_ends : (one two : Bool) (grant : Option Grant) → unless_ended two (unless_ended one grant) ≡ unless_ended (one || two) grant
or_ends true true grant = refl
or_ends true false grant = refl
or_ends false two grant = refl

hears_nothing : (reply : Exchange4 → Answer4) (current : Option Numbered) (k : Kept) → ((exchange : Exchange4) → reply exchange ≡ answer.Nothing)
    → hears reply current k ≡ k
hears_nothing reply None k none = refl
hears_nothing reply (Some x) k none =
    ap (λ (r : Answer4). answered_in x (nat_eq k.answered x.number) r k) (none x.exchange) ∙ nothing_said x (nat_eq k.answered x.number) k

module _ (site : Site) (clean : Type 0) (e : Entry) (past : List Entry) (one : Step4) (c : ClientContent) (amid : Amid site clean e past one c)
    (mac : sent.FitsMac site.managed.spec.mac) (between : List Said) (others : AreOther between) where
  -- what was seen and kept before the input
  abbrev pub seen_amid : Seen
  seen_amid = shows e.moment (message_in one) (seen_in site past)

  abbrev pub kept_amid : Kept
  kept_amid = ended_by one (kept_in site past)

  pub within_amid : kept_amid.answered ≤ seen_amid.count
  within_amid =
      let o : Opens (seen_in site past) seen_amid = shown_opens e.moment (message_in one) (seen_in site past) in
      omega (arith, within site past, o.grows)

  abbrev pub reply : Exchange4 → Answer4
  reply = λ exchange. reply_at site exchange e

  -- the input says nothing in any exchange
  pub silent_heard : (two : Step4) → ((exchange : Exchange4) → reply exchange ≡ answer.Nothing)
      → WatchedAfter (Lasts e.moment) e.moment seen_amid kept_amid two → HeardAfter e.moment reply seen_amid kept_amid two
  silent_heard two none w =
      let after : Seen = shows e.moment (message_in two) seen_amid in
      subst (λ (k : Kept). Watched (Lasts e.moment) two.last two.state after k) (sym (hears_nothing reply after.current (ended_by two kept_amid) none)) w

  abbrev pub OfferedAll : Step4 → List Said → Type 0
  OfferedAll two after = Offered site.managed.spec (ask_of site.duid site.managed) clean (said_all one between two after) (offers_at site e)

  module _ (two : Step4) (before : ClientContent) (after : List Said) (more_others : AreOther after)
      (settings : before.settings ≡ settings_of site.duid site.managed)
      (sound : IsSound (moved two before)) (fits : FitsStep two) (own : OwnStepOf c.settings.site two) (offers : OfferedAll two after) where
    own_so : AllByRecursion (OwnSaid (speaker_of site.managed)) (said_all one between two after)
    own_so =
        subst (λ (s : SettingsContent). AllByRecursion (OwnSaid (speaker_at s.site)) (said_all one between two after)) amid.settings
        (all_own e.moment one two between after others more_others (speaker_at c.settings.site) amid.own own.own)

    messages : messages_at site e ≡ map message_said (said_all one between two after)
    messages =
        messages_are site (subst (λ (s : SettingsContent). AskFits s.ask) amid.settings amid.sound.ask) mac clean (said_all one between two after)
        (offers_at site e) offers
        (all_fit e.moment one two between after others more_others amid.say fits.say) own_so

    seen_now : seen_in site (e ∷ past) ≡ shows e.moment (message_in two) seen_amid
    seen_now =
        ap (λ ms. show e.moment ms (seen_in site past)) messages
        ∙ shows_all e.moment one two between after others more_others (seen_in site past)

    ended_now : ended_at site e ≡ (tells_end (message_in one) || tells_end (message_in two))
    ended_now = ap (λ ms. list_any tells_end ms) messages ∙ ends_all e.moment one two between after others more_others

    abbrev EndsSo : Type 0
    EndsSo = Ended site clean e.moment (said_all one between two after) (moved two before) (e ∷ past)

    -- what the turn shows
    shown_so : stays_at site e past ≡ true → ShowsBoth site e past (message_in one) (message_in two)
    shown_so stays = record {
      stays = goes_on (has_carrier site past) (index_at site) e.event stays;
      up = λ was. subst (λ (u : Bool). carrier_after (index_at site) e.event u ≡ true) (sym was)
          (still_up (index_at site) e.event (subst (λ (u : Bool). stays_on u (index_at site) e.event ≡ true) was stays));
      alone = λ xid address first second.
          subst (λ (ms : List (Option Sent4)). AllByRecursion (λ message. IfSome message (AsksAgain xid address)) ms) (sym messages)
          (asks_all e.moment one two between after others more_others xid address first second);
      speaks_so = ap (λ (ms : List (Option Sent4)). list_any is_some ms) messages ∙ speaks_all e.moment one two between after others more_others;
      seen_so = seen_now;
    }

    finish : Watched (Lasts e.moment) two.last two.state (seen_in site (e ∷ past)) (kept_in site (e ∷ past)) → Bears site clean two.state (e ∷ past)
        → StandsSo site (e ∷ past) (moved two before) → EndsSo
    finish w b s = record {
      carries = record { settings = settings; sound = sound; fields = fits.state; names = own.names; watched = w; bears = b; stands = s };
      fit = all_fit e.moment one two between after others more_others amid.say fits.say;
      own = own_so;
    }

    abbrev WatchedBy : Seen → (stays ended : Bool) → Type 0
    WatchedBy s stays ended =
        Watched (Lasts e.moment) two.last two.state s
        (hears reply s.current (kept (kept_in site past).answered (if_calm stays ended (kept_in site past).grant)))

    watched_now : stays_at site e past ≡ true → HeardAfter e.moment reply seen_amid kept_amid two
        → Watched (Lasts e.moment) two.last two.state (seen_in site (e ∷ past)) (kept_in site (e ∷ past))
    watched_now stays w =
        let after_seen : Seen = shows e.moment (message_in two) seen_amid in
        let w1 : WatchedBy after_seen true (tells_end (message_in one) || tells_end (message_in two)) =
        subst
        (λ (g : Option Grant). Watched (Lasts e.moment) two.last two.state after_seen
        (hears reply after_seen.current (kept (kept_in site past).answered g)))
        (or_ends (tells_end (message_in one)) (tells_end (message_in two)) (kept_in site past).grant) w in
        let w2 : WatchedBy after_seen true (ended_at site e) = subst (λ b. WatchedBy after_seen true b) (sym ended_now) w1 in
        let w3 : WatchedBy after_seen (stays_at site e past) (ended_at site e) = subst (λ b. WatchedBy after_seen b (ended_at site e)) (sym stays) w2 in
        subst (λ (s : Seen). WatchedBy s (stays_at site e past) (ended_at site e)) (sym seen_now) w3

    calm_now : stays_at site e past ≡ true → tells_end (message_in one) ≡ false → tells_end (message_in two) ≡ false → Calm site e past
    calm_now stays first second = record {
      stays = goes_on (has_carrier site past) (index_at site) e.event stays;
      silent = ended_now ∙ ap (λ b. b || tells_end (message_in two)) first ∙ second;
    }

    -- the carrier stays, nothing is given back, and no stop comes
    pub calm_finish : stays_at site e past ≡ true → HeardAfter e.moment reply seen_amid kept_amid two
        → ((tells_end (message_in one) ≡ false → tells_end (message_in two) ≡ false → Calm site e past) → Bears site clean two.state (e ∷ past))
        → (ShowsBoth site e past (message_in one) (message_in two) → StandsSo site (e ∷ past) (moved two before)) → EndsSo
    calm_finish stays w b s = finish (watched_now stays w) (b (calm_now stays)) (s (shown_so stays))

    -- the client is off
    pub off_finish : two.state ≡ Off → WatchedAfter (Lasts e.moment) e.moment seen_amid kept_amid two → StandsSo site (e ∷ past) (moved two before) → EndsSo
    off_finish off w s =
        finish
        (record {
          xid = subst (λ (s : Seen). LastXid two.last s.current) (sym seen_now) w.xid;
          on =
              subst
              (λ (state : State4). On (Lasts e.moment) state (seen_in site (e ∷ past)).current (kept_in site (e ∷ past)).answered
              (kept_in site (e ∷ past)).grant)
              (sym off) tt;
        })
        (subst (λ (state : State4). Bears site clean state (e ∷ past)) (sym off) tt) s
