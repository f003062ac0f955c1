-- A turn of a client: its tick and then its input keep what it carries of the turns shown.
use Rattle.std.proofs.Common.{◌≡◌, ℕ, ◌^◌, ◌<◌, ◌≤◌, true, false, ◌&&◌, List, ◌∷◌, length, Some, None, IfSome, refl, sym, ◌∙◌, subst}
use Rattle.std.specs.List.{AllByRecursion}
use Rattle.v4_frames.specs.InRange.{FitsMac}
use Rattle.net_types.specs.declared.address.Ip6.{Ip6}
use Rattle.v6_message.specs.Replies.{Content6}
use Rattle.v6_client.specs.declared.states.Carrier6.TheVariants.{Up, Down}
use Rattle.v6_client.specs.declared.states.State6.{State6}
use Rattle.v6_client.specs.declared.states.State6.TheVariants.{Off}
use Rattle.v6_client.specs.Answers.{takes_replies}
use Rattle.v6_client.specs.Clients.{ClientContent, holds}
use Rattle.v6_client.specs.Runs.{Turned6, carrier_turned, contested_turned, hears_turned, tick_turned}
use Rattle.v6_client.specs.Saying.{lease_server, plea_server}
use Rattle.v6_client.specs.Sound.{IsSound}
use Rattle.v6_client.proofs.SettingsStay.{settings_stay}
use Rattle.v6_client_laws.proofs.StayingRuns.{sound_stays}
use Rattle.v6_client_laws.proofs.TimedReplies.{grants_fit}
use Rattle.lease_evidence.specs.ClientModel.ClientSettings6.{settings6_of}
use Rattle.lease_evidence.specs.EvidenceWords.Entries.{Entry}
use Rattle.lease_evidence.specs.EvidenceWords.Inputs.{Site}
use Rattle.lease6_evidence.specs.Exchanges6.{Seen6, seen6_in, shows6}
use Rattle.lease6_evidence.specs.Replies6.{asks_at, message6_at}
use Rattle.lease6_evidence.proofs.ExchangeStates.{Watched6, stood}
use Rattle.lease6_evidence.proofs.Calls6.{by_parts, carrier_keeps, contested_keeps, heard_watched, rebind_keeps, release_keeps, silent_watched, tick_keeps}
use Rattle.lease6_evidence.proofs.FieldRuns6.{BytesFor, Fields6, Result6, run_fields, tick_fields}
use Rattle.lease6_evidence.proofs.Fields6.{FitsAsk6}
use Rattle.lease6_evidence.proofs.Hearing6.{finish6}
use Rattle.lease6_evidence.proofs.HeardItems6.{hears_holds}
use Rattle.lease6_evidence.proofs.ItemCalls6.{Holds6, NoFirst, begin_holds, contested_holds, drop_holds, ias_stay, rebind_holds, release_holds, tick_holds}
use Rattle.lease6_evidence.proofs.Spoken6.{FitsOwn}
use Rattle.lease6_evidence.proofs.Steps6.{message_in}
use Rattle.lease6_evidence.proofs.Turns6.{Call6, Begins, Contests, Drops, FitsCall6, Goes6, GoesBut, Hears, Ignores, Rebinds, Releases, Rests, run6}

-- what a client carries: the exchanges that were seen, its numbers, and the basis of what it holds
pub record Carries6 (site : Site) (now : ℕ) (seen : Seen6) (past : List Entry) (c : ClientContent) : Type 0 where
  pub watched : Watched6 site c seen past
  pub sound : IsSound c
  pub fields : Fields6 c
  pub holds : Holds6 site now past c

-- what is known of the interface
pub record FitsSite (site : Site) : Type 0 where
  pub mac : FitsMac site.managed.spec.mac
  pub duid : length site.duid ≤ 130
  pub asks : AllByRecursion FitsAsk6 (asks_at site)

module _ (site : Site) (fits : FitsSite site) where
  abbrev says : Turned6 → Type 0
  says turned = IfSome (message_in site.managed.spec.mac site.duid turned.out) (FitsOwn site)

  -- ---- a tick

  pub tick_result : (at salt : ℕ) (c : ClientContent) → c.settings ≡ settings6_of site.duid site.managed → Fields6 c
      → Result6 site (tick_turned at salt c)
  tick_result at salt c same f =
      by_parts site (λ (d : ClientContent). Fields6 d → Result6 site (tick_turned at salt d)) c same
      (λ f. tick_fields site fits.mac fits.duid fits.asks c.fresh c.last c.sol_max at salt c.state c.kept c.plea f) f

  pub tick_carries : (now at salt : ℕ) (seen : Seen6) (past : List Entry) (c : ClientContent) → Carries6 site now seen past c
      → Carries6 site at (shows6 (message_in site.managed.spec.mac site.duid (tick_turned at salt c).out) seen) past
      (tick_turned at salt c).client
  tick_carries now at salt seen past c k =
      let sound : IsSound (tick_turned at salt c).client = (sound_stays c at salt k.sound).tick in
      record {
        watched = tick_keeps site past at salt c seen k.watched;
        sound = sound;
        fields = (tick_result at salt c k.watched.settings k.fields).client;
        holds = tick_holds site past now at salt c k.watched.settings (settings_stay c at salt).tick sound k.holds;
      }

  -- ---- an input

  pub call_result : (call : Call6) (at salt : ℕ) (c : ClientContent) → BytesFor call
      → c.settings ≡ settings6_of site.duid site.managed → IsSound c → Fields6 c → Result6 site (run6 call at salt c)
  call_result call at salt c octets same sound f =
      by_parts site (λ (d : ClientContent). IsSound d → Fields6 d → Result6 site (run6 call at salt d)) c same
      (λ s f. run_fields site fits.mac fits.duid fits.asks c.fresh c.last c.sol_max at salt call octets c.state c.kept c.plea s.kept f)
      sound f

  module _ (e : Entry) (early : e.moment < 10 ^ 15) (past : List Entry) (salt : ℕ) (seen : Seen6) (c : ClientContent)
      (k : Carries6 site e.moment seen past c) where
    abbrev After : Turned6 → Type 0
    After turned =
        seen6_in site (e ∷ past) ≡ shows6 (message_in site.managed.spec.mac site.duid turned.out) seen
        → Carries6 site e.moment (seen6_in site (e ∷ past)) (e ∷ past) turned.client

    no_first : message6_at site e ≡ None → NoFirst site e past
    no_first none opened message first = absurd (unlike message (sym none ∙ first.good.came))
      where
        unlike : (message : Content6) → None ≡ Some message → ⊥
        unlike message h = cc

    -- a call without a message
    silent_after : (turned : Turned6) → message6_at site e ≡ None
        → Watched6 site turned.client (shows6 (message_in site.managed.spec.mac site.duid turned.out) seen) past
        → IsSound turned.client → Result6 site turned → Holds6 site e.moment (e ∷ past) turned.client → After turned
    silent_after turned none w sound result held same = record {
      watched = silent_watched site e past turned.client (shows6 (message_in site.managed.spec.mac site.duid turned.out) seen)
          none same w;
      sound = sound;
      fields = result.client;
      holds = held;
    }

    result : (call : Call6) → BytesFor call → Result6 site (run6 call e.moment salt c)
    result call octets = call_result call e.moment salt c octets k.watched.settings k.sound k.fields

    rests_holds : Goes6 site e past → message6_at site e ≡ None → Holds6 site e.moment (e ∷ past) c
    rests_holds goes none holding = ias_stay site e past (stood c.state) goes (no_first none) _ (k.holds holding)

    -- a client that is off hears nothing
    off_after : c.state ≡ Off → seen6_in site (e ∷ past) ≡ seen → Carries6 site e.moment (seen6_in site (e ∷ past)) (e ∷ past) c
    off_after off same = record {
      watched = record {
        settings = k.watched.settings;
        follows = finish6 site e past c.last (lease_server c.kept) (plea_server c.plea) c.state seen same k.watched.follows
            (λ x open_one a. absurd (untaking c.state off (a.takes true)));
      };
      sound = k.sound;
      fields = k.fields;
      holds = λ holding. absurd (not_holding c.state off holding);
    }
      where
        untaking : (state : State6) → state ≡ Off → takes_replies (true && site.managed.conf.dhcp6.rapid) state ≡ true → ⊥
        untaking state off h = false_true
            (subst (λ (s : State6). takes_replies (true && site.managed.conf.dhcp6.rapid) s ≡ true) off h)
          where
            false_true : false ≡ true → ⊥
            false_true h = cc

        not_holding : (state : State6) → state ≡ Off → holds state ≡ true → ⊥
        not_holding state off h = false_true (subst (λ (s : State6). holds s ≡ true) off h)
          where
            false_true : false ≡ true → ⊥
            false_true h = cc

    heard_holds : (message : Content6) → message6_at site e ≡ Some message → Goes6 site e past
        → seen6_in site (e ∷ past) ≡ shows6 (message_in site.managed.spec.mac site.duid
        (hears_turned e.moment salt message c).out) seen
        → Holds6 site e.moment (e ∷ past) (hears_turned e.moment salt message c).client
    heard_holds message came goes same =
        by_parts site
        (λ (d : ClientContent). Watched6 site d seen past → IsSound d → Holds6 site e.moment past d
        → seen6_in site (e ∷ past) ≡ shows6 (message_in site.managed.spec.mac site.duid
        (hears_turned e.moment salt message d).out) seen
        → Holds6 site e.moment (e ∷ past) (hears_turned e.moment salt message d).client) c k.watched.settings
        (λ w s held is. hears_holds site e past message came goes c.fresh c.last c.sol_max c.state c.kept c.plea seen s.kept salt
        w.follows.on held is)
        k.watched k.sound k.holds same

    contested_after : (address : Ip6) → GoesBut site e past address → message6_at site e ≡ None
        → Holds6 site e.moment (e ∷ past) (contested_turned address e.moment salt c).client
    contested_after address goes none =
        by_parts site
        (λ (d : ClientContent). IsSound d → Holds6 site e.moment past d
        → Holds6 site e.moment (e ∷ past) (contested_turned address e.moment salt d).client) c k.watched.settings
        (λ s held. contested_holds site e past address salt c.fresh c.last c.sol_max c.state c.kept c.plea goes (no_first none) s.kept
        held) k.sound k.holds

    -- a client that may yet stand keeps what was kept
    begun_after : Goes6 site e past → message6_at site e ≡ None → (c.fresh ≡ true → c.kept ≡ site.kept6)
        → Holds6 site e.moment (e ∷ past) (carrier_turned Up e.moment salt c).client
    begun_after goes none was =
        by_parts site
        (λ (d : ClientContent). (d.fresh ≡ true → d.kept ≡ site.kept6) → Holds6 site e.moment past d
        → Holds6 site e.moment (e ∷ past) (carrier_turned Up e.moment salt d).client) c k.watched.settings
        (λ was held. begin_holds site e past salt c.fresh c.last c.sol_max c.state c.kept c.plea goes (no_first none) was held)
        was k.holds

    pub call_carries : (call : Call6) → FitsCall6 site e past call → BytesFor call → (call ≡ Ignores → c.state ≡ Off)
        → (c.fresh ≡ true → c.kept ≡ site.kept6) → After (run6 call e.moment salt c)
    call_carries Ignores fit octets off was same = off_after (off refl) same
    call_carries Rests fit octets off was same = silent_after (run6 Rests e.moment salt c) fit.1 k.watched k.sound
        (result Rests octets) (rests_holds fit.0 fit.1) same
    call_carries (Hears message) fit octets off was same = record {
      watched = heard_watched site e past e.moment salt c seen message fit.1 same k.watched;
      sound = (sound_stays c e.moment salt k.sound).message message (grants_fit c message e.moment early k.sound octets);
      fields = (result (Hears message) octets).client;
      holds = heard_holds message fit.1 fit.0 same;
    }
    call_carries Begins fit octets off was same =
        silent_after (run6 Begins e.moment salt c) fit.1 (carrier_keeps site past e.moment salt Up c seen k.watched)
        ((sound_stays c e.moment salt k.sound).carrier Up) (result Begins octets)
        (begun_after fit.0 fit.1 was) same
    call_carries Drops fit octets off was same =
        silent_after (run6 Drops e.moment salt c) fit (carrier_keeps site past e.moment salt Down c seen k.watched)
        ((sound_stays c e.moment salt k.sound).carrier Down) (result Drops octets)
        (drop_holds site e past salt c) same
    call_carries (Contests address) fit octets off was same =
        silent_after (run6 (Contests address) e.moment salt c) fit.1 (contested_keeps site past e.moment salt address c seen
        k.watched)
        ((sound_stays c e.moment salt k.sound).duplicate address) (result (Contests address) octets)
        (contested_after address fit.0 fit.1) same
    call_carries (Releases tell) fit octets off was same =
        silent_after (run6 (Releases tell) e.moment salt c) fit (release_keeps site past e.moment salt tell c seen k.watched)
        ((sound_stays c e.moment salt k.sound).release tell) (result (Releases tell) octets)
        (release_holds site e past tell salt c) same
    call_carries Rebinds fit octets off was same =
        silent_after (run6 Rebinds e.moment salt c) fit.1 (rebind_keeps site past e.moment salt c seen k.watched)
        (sound_stays c e.moment salt k.sound).rebind (result Rebinds octets)
        (rebind_holds site e past salt c fit.0 (no_first fit.1) k.holds) same
