-- The words of `live`: what is read is what they say, and what they say is read.
use Rattle.std.proofs.Common.{◌≡◌, ◌≢◌, ℕ, true, false, ◌&&◌, not, cond, List, [], ◌∷◌, length, map, option_and_then, option_map, Option, Some, None, IfSome, refl, sym, ap, subst, ◌∙◌, codes, leb}
use Rattle.std.specs.Fmt.{decimal}
use Rattle.std.specs.List.{list_any}
use Rattle.std.proofs.lemmas.Bool.{and_parts, and_from, not-true, or_from, leb-true, le-leb}
use Rattle.std.proofs.lemmas.List.{length-map}
use Rattle.std.proofs.lemmas.Slice.Eq.{bytes_eq-Decides}
use Rattle.net_types.specs.declared.interface.IfSpec.{IfSpec}
use Rattle.net_types.proofs.ReadsLaws.{guard_passed, passed, some_same}
use Rattle.live_words.specs.declared.reading.LiveWords.{LiveWords}
use Rattle.live_words.specs.LiveWords.{IsPort, iface_word, AsksLive, IsLiveRead, SaysLive}
use Rattle.live_words.specs.LiveReading.{Places, Said, are_places, ifaces_at, is_live, is_option, is_some_text, live_at, places_at, port_at, ports_at, said_at, said_of}
use Rattle.live_words.proofs.PortLaws.{path_sound, path_whole, port_plain, ports_sound, ports_whole}
use Rattle.live_words.proofs.IfaceLaws.{ifaces_plain, ifaces_sound, ifaces_whole}
use Rattle.live_words.proofs.PlainWords.{ArePlain}
use Rattle.live_words.proofs.PlacedWords.{plain_parts}

-- ---- what is read is what the words say

-- the words by their places, after a first one
record AtPlaces (words : List (List ℕ)) (places : Places) : Type 0 where
  pub work : List ℕ
  pub says : words ≡ work ∷ places.port ∷ places.peer ∷ places.folder ∷ places.script ∷ places.interfaces
  pub fit : are_places places ≡ true

at_places : (words : List (List ℕ)) (places : Places) → places_at words ≡ Some places → AtPlaces words places
unfolding places_at
at_places [] places e = cc
at_places (a ∷ []) places e = cc
at_places (a ∷ b ∷ []) places e = cc
at_places (a ∷ b ∷ c ∷ []) places e = cc
at_places (a ∷ b ∷ c ∷ d ∷ []) places e = cc
at_places (work ∷ port ∷ peer ∷ folder ∷ script ∷ words) places e =
    let passes = guard_passed are_places (Some (record { port = port; peer = peer; folder = folder; script = script; interfaces = words })) places e in
    record {
      work = work;
      says = ap (λ (p : Places). work ∷ p.port ∷ p.peer ∷ p.folder ∷ p.script ∷ p.interfaces) (some_same passes.0);
      fit = passes.1;
    }

-- the words are the text of what is said, and the ports are unlike
record SaysSaid (words : List (List ℕ)) (said : Said) : Type 0 where
  pub says : words ≡ codes "live" ∷ decimal said.ports.own ∷ decimal said.ports.peer ∷ said.folder ∷ said.script ∷ map iface_word said.specs
  pub port_is : IsPort said.ports.own
  pub peer_is : IsPort said.ports.peer
  pub unlike : said.ports.own ≢ said.ports.peer

-- the words ask for what is said, and are its text
abbrev AsksSaid : List (List ℕ) → Said → Type 0
AsksSaid words said = AsksLive words said.specs × SaysSaid words said

said_sound : (words : List (List ℕ)) (places : Places) (said : Said) → is_live words ≡ true → list_any is_option words ≡ false → AtPlaces words places
    → said_at places ≡ Some said → AsksSaid words said
unfolding said_at
said_sound words places said live plain has e =
    let one = passed (ports_at (port_at places.port) (port_at places.peer)) _ said e in
    let two = passed (ifaces_at places.interfaces) _ said one.gives in
    let ports = ports_sound places.port places.peer one.value one.was in
    let halves = and_parts (is_some_text places.folder && is_some_text places.script) _ has.fit in
    let paths = and_parts (is_some_text places.folder) (is_some_text places.script) halves.0 in
    let counts = and_parts (leb 1 (length places.interfaces)) (leb (length places.interfaces) 64) halves.1 in
    let ifaces = ifaces_sound places.interfaces two.value (leb-true _ _ counts.0) (leb-true _ _ counts.1) two.was in
    let all : List (List ℕ) = has.work ∷ places.port ∷ places.peer ∷ places.folder ∷ places.script ∷ places.interfaces in
    let plain_words : ArePlain all = plain_parts all (ap (list_any is_option) (sym has.says) ∙ plain) in
    let work_is = (bytes_eq-Decides has.work (codes "live")).0 (ap is_live (sym has.says) ∙ live) in
    let own_is = ports.own_is in
    let other_is = ports.other_is in
    let spelled = ifaces.spelled in
    let has_says = has.says in
    let text : words ≡ codes "live" ∷ decimal one.value.own ∷ decimal one.value.peer ∷ places.folder ∷ places.script ∷ map iface_word two.value = cc in
    subst (λ (s : Said). AsksSaid words s) (some_same two.gives) (
      record {
        port = one.value.own;
        peer = one.value.peer;
        folder = places.folder;
        script = places.script;
        says = text;
        port_is = ports.port_is;
        peer_is = ports.peer_is;
        unlike = ports.unlike;
        folder_is = path_sound places.folder paths.0 plain_words.1.1.1.0;
        script_is = path_sound places.script paths.1 plain_words.1.1.1.1.0;
        some = ifaces.some;
        fit = ifaces.fit;
      },
      record { says = text; port_is = ports.port_is; peer_is = ports.peer_is; unlike = ports.unlike },
    )

live_sound : (words : List (List ℕ)) (said : Said) → live_at words ≡ Some said → AsksSaid words said
unfolding live_at
live_sound words said e =
    elim (is_live words && not (list_any is_option words)) as
    (λ b. (is_live words && not (list_any is_option words)) ≡ b → cond b (option_and_then said_at (places_at words)) None ≡ Some said → AsksSaid words said) [
      | true ↦ λ t q.
          let fronts = and_parts (is_live words) _ t in
          let read = passed (places_at words) said_at said q in
          said_sound words read.value said fronts.0 (not-true _ fronts.1) (at_places words read.value read.was) read.gives
      | false ↦ λ t q. cc
    ] refl e

-- ---- what the words say is read

module _ (words : List (List ℕ)) (specs : List IfSpec) (asks : AsksLive words specs) where
  all : List (List ℕ)
  all = codes "live" ∷ decimal asks.port ∷ decimal asks.peer ∷ asks.folder ∷ asks.script ∷ map iface_word specs

  places : Places
  places = record { port = decimal asks.port; peer = decimal asks.peer; folder = asks.folder; script = asks.script; interfaces = map iface_word specs }

  whole : Said
  whole = record { ports = record { own = asks.port; peer = asks.peer }; folder = asks.folder; script = asks.script; specs = specs }

  all_plain : list_any is_option all ≡ false
  unfolding all
  all_plain =
      or_from _ _ (port_plain asks.port asks.port_is) (or_from _ _ (port_plain asks.peer asks.peer_is)
      (or_from _ _ (path_whole asks.folder asks.folder_is).1 (or_from _ _ (path_whole asks.script asks.script_is).1 (ifaces_plain 1 specs asks.fit.counted))))

  counted : (leb 1 (length (map iface_word specs)) && leb (length (map iface_word specs)) 64) ≡ true
  counted = rw (length-map specs iface_word) (and_from _ _ (le-leb _ _ asks.some) (le-leb _ _ asks.fit.few))

  fit : are_places places ≡ true
  unfolding places
  fit = and_from _ _ (and_from _ _ (path_whole asks.folder asks.folder_is).0 (path_whole asks.script asks.script_is).0) counted

  placed_all : places_at all ≡ Some places
  unfolding places_at all places
  placed_all = ap (λ b. cond b (Some places) None) fit

  said_all : said_at places ≡ Some whole
  unfolding said_at places whole
  said_all = rw (ports_whole asks.port asks.peer asks.port_is asks.peer_is asks.unlike, ifaces_whole specs asks.fit) refl

  live_whole : live_at words ≡ Some whole
  unfolding live_at all
  live_whole =
      ap live_at asks.says
      ∙ ap (λ b. cond (not b) (option_and_then said_at (places_at all)) None) all_plain
      ∙ ap (option_and_then said_at) placed_all
      ∙ said_all

-- ---- what is read, by what the words ask

pub live_read : (words : List (List ℕ)) (found : Option LiveWords) → option_map said_of found ≡ live_at words
    → IsLiveRead words (option_map (λ live. live.interfaces) found)
live_read words (Some live) e = (live_sound words (said_of live) (sym e)).0
live_read words None e = λ specs asks. let both : None ≡ Some (whole words specs asks) = e ∙ live_whole words specs asks in cc

pub live_says : (words : List (List ℕ)) (found : Option LiveWords) → option_map said_of found ≡ live_at words → IfSome found (SaysLive words)
live_says words (Some live) e =
    let said = (live_sound words (said_of live) (sym e)).1 in
    record { says = said.says; port_is = said.port_is; peer_is = said.peer_is; unlike = said.unlike }
live_says words None e = tt
