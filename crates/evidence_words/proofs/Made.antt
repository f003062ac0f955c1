-- What a turn that was made shows: the frames of the client's step with their outcomes, and what the life keeps of them.
use Rattle.std.proofs.Common.{◌≡◌, ℕ, suc, Bool, List, [], ◌∷◌, ◌++◌, length, Option, None, refl, sym, ap, subst, ◌∙◌, append-nil}
use Rattle.std.proofs.lemmas.Grind.{flat_map-append}
use Rattle.std.specs.Prelude.{flat_map}
use Rattle.std.specs.List.{AllByRecursion}
use Rattle.net_types.specs.declared.interface.IfSpec.{IfSpec}
use Rattle.world.specs.HookCalls.{HookCall, Job}
use Rattle.world.specs.HostCalls.{HostCall}
use Rattle.world.specs.StoreCalls.{StoreCall}
use Rattle.world.specs.declared.rows.HostRow.{HostRow}
use Rattle.world.specs.declared.wakes.Begin.{Begin}
use Rattle.world.specs.declared.wakes.Wake.{Wake}
use Rattle.turn_model.specs.IfaceSettings.declared.interfaces.Managed.{Managed}
use Rattle.turn_model.specs.Machine.Moment.{moment_of}
use Rattle.turn_model.specs.ClientModel.ClientSettings6.{some_need_duid}
use Rattle.turn_model.specs.ClientModel.Clients.{ClientStep, Sending, rows_of}
use Rattle.turn_model.specs.DeviceCalls.Calls.{Call, Host, Store, Hook, Dropped}
use Rattle.turn_model.specs.DeviceCalls.Programs.{Asks, Done, after, Answers, calls_with, result_with, Makes}
use Rattle.turn_model.proofs.DeviceCalls.Programs.{MakesBoth, makes_both}
use Rattle.turn_model.specs.HookChild.Supervision.{Supervision}
use Rattle.turn_model.specs.FilesInLife.{AreNamedApart}
use Rattle.turn_model.specs.Hooking.{hooking, polling}
use Rattle.turn_model.specs.KeptFiles.{KeptFile, keeping}
use Rattle.turn_model.specs.Loading.{loading, reading_if, duid_file, FilesLoaded, loading_files}
use Rattle.turn_model.specs.Turns.{Life, Outlook, marked, offering, hosting, acting, step_of, outlook_with, turn_moment, stop_after, turn_asks}
use Rattle.turn_model.specs.Opening.{clearing, outlook_from, opening_step, opening_asks}
use Rattle.evidence_words.specs.Entries.{Offer, offer_in}
use Rattle.evidence_words.specs.HostDuids.{duid_read}
use Rattle.evidence_words.proofs.FilesRead.{IsOther, IsShown, acting_other, clearing_other, duid_is, leases_shown}
use Rattle.evidence_words.proofs.EachCall.{IsNoRead, Each, reading_resolver, done_each, clearing_each, hosting_each, hooking_each, keeping_each, polling_each, reading_each, loading_each, resolver_each}

-- ---- the frames with their outcomes

abbrev pub all_offers : List Sending → List Bool → List Offer
all_offers [] taken = []
all_offers (s ∷ sends) [] = []
all_offers (s ∷ sends) (ok ∷ taken) = record { iface = s.iface.number; bytes = s.bytes; taken = ok } ∷ all_offers sends taken

-- the set of interfaces on which a send failed
abbrev pub marked_all : List Sending → List Bool → ℕ → ℕ
marked_all [] taken set = set
marked_all (s ∷ sends) [] set = set
marked_all (s ∷ sends) (ok ∷ taken) set = marked_all sends taken (marked set s.iface.number ok)

abbrev outcomes : (sends : List Sending) (set : ℕ) → Answers (offering sends set) → List Bool
outcomes [] set answers = []
outcomes (s ∷ sends) set answers = answers.0 ∷ outcomes sends (marked set s.iface.number answers.0) answers.1

outcomes_all : (sends : List Sending) (set : ℕ) (answers : Answers (offering sends set)) → length (outcomes sends set answers) ≡ length sends
outcomes_all [] set answers = refl
outcomes_all (s ∷ sends) set answers = ap suc (outcomes_all sends (marked set s.iface.number answers.0) answers.1)

offers_are : (sends : List Sending) (set : ℕ) (answers : Answers (offering sends set))
    → flat_map offer_in (calls_with (offering sends set) answers) ≡ all_offers sends (outcomes sends set answers)
offers_are [] set answers = refl
offers_are (s ∷ sends) set answers =
    ap (λ (more : List Offer). record { iface = s.iface.number; bytes = s.bytes; taken = answers.0 } ∷ more)
    (offers_are sends (marked set s.iface.number answers.0) answers.1)

set_is : (sends : List Sending) (set : ℕ) (answers : Answers (offering sends set))
    → result_with (offering sends set) answers ≡ marked_all sends (outcomes sends set answers) set
set_is [] set answers = refl
set_is (s ∷ sends) set answers = set_is sends (marked set s.iface.number answers.0) answers.1

-- ---- both in turn

in_turn : (calls first later : List Call) → calls ≡ first ++ later → flat_map offer_in calls ≡ flat_map offer_in first ++ flat_map offer_in later
in_turn calls first later are = ap (flat_map offer_in) are ∙ flat_map-append offer_in first later

silent_first : (calls first later : List Call) → calls ≡ first ++ later → flat_map offer_in first ≡ [] → flat_map offer_in calls ≡ flat_map offer_in later
silent_first calls first later are silent = in_turn calls first later are ∙ ap (λ (front : List Offer). front ++ flat_map offer_in later) silent

-- ---- what offers nothing

abbrev OffersNone : Call → Type 0
OffersNone call = offer_in call ≡ []

none_offered : (calls : List Call) → AllByRecursion OffersNone calls → flat_map offer_in calls ≡ []
none_offered [] none = refl
none_offered (call ∷ calls) none = λ i. none.0 i ++ none_offered calls none.1 i

-- questions that offer nothing, whatever the answers
abbrev Silent : {A : Type 0} → Asks A → Type 0
Silent {A} asks = (calls : List Call) (result : A) → Makes asks calls result → flat_map offer_in calls ≡ []

silent_so : {A : Type 0} (asks : Asks A) → Each OffersNone asks → Silent asks
silent_so asks each calls result makes = none_offered calls (each calls result makes)

both_silent : {A B : Type 0} (asks : Asks A) (more : A → Asks B) → Silent asks → ((x : A) → Silent (more x)) → Silent (after asks more)
both_silent {A} {B} asks more first later calls result makes =
    let both : MakesBoth asks more calls result = makes_both asks more calls result makes in
    silent_first calls both.first both.later both.calls_are (first both.first both.between both.makes_first)
    ∙ later both.between both.later result both.makes_later

host_silent : (call : HostCall) → OffersNone (Host call)
host_silent call = refl

store_silent : (call : StoreCall) → IsNoRead call → OffersNone (Store call)
store_silent call no_read = refl

hook_silent : (number : ℕ) (call : HookCall) → OffersNone (Hook number call)
hook_silent number call = refl

dropped_silent : (job : Job) → OffersNone (Dropped job)
dropped_silent job = refl

polling_silent : (at : ℕ) (s : Supervision) → Silent (polling at s)
polling_silent at s = silent_so (polling at s) (polling_each OffersNone hook_silent dropped_silent at s)

hooking_silent : (at : ℕ) (jobs : List Job) (s : Supervision) → Silent (hooking at jobs s)
hooking_silent at jobs s = silent_so (hooking at jobs s) (hooking_each OffersNone hook_silent dropped_silent at jobs s)

loading_silent : (managed : List Managed) → Silent (loading managed)
loading_silent managed = silent_so (loading managed) (loading_each OffersNone (λ m reading. refl) (λ m reading. refl) managed)

files_silent : (managed : List Managed) → Silent (loading_files managed)
files_silent managed =
    both_silent (reading_if (some_need_duid managed) duid_file) (λ duid. after (loading managed) (λ ifaces. reading_resolver duid ifaces))
    (silent_so (reading_if (some_need_duid managed) duid_file) (reading_each OffersNone (some_need_duid managed) duid_file (λ reading. refl)))
    (λ duid. both_silent (loading managed) (λ ifaces. reading_resolver duid ifaces) (loading_silent managed)
    (λ ifaces. silent_so (reading_resolver duid ifaces) (resolver_each OffersNone duid ifaces (λ reading. refl))))

-- ---- a step of the client

-- what was made of a step
pub record Shown (step : ClientStep) (moment : ℕ) (calls : List Call) (life : Life) : Type 0 where
  pub taken : List Bool
  pub answered : length taken ≡ length step.sends
  pub offers : flat_map offer_in calls ≡ all_offers step.sends taken
  pub client : life.client ≡ step.client
  pub now : life.now ≡ moment
  pub unsent : life.unsent ≡ marked_all step.sends taken 0

module _ (managed : List Managed) (outlook : Outlook) (step : ClientStep) (moment : ℕ) (stop : Option ℕ) where
  abbrev life_with : ℕ → Option (List HostRow) → Supervision → List KeptFile → Life
  life_with unsent known hooks files =
      record { client = step.client; known = known; files = files; hooks = hooks; now = moment; stop = stop; unsent = unsent }

  abbrev to_keep : ℕ → Option (List HostRow) → Supervision → Asks Life
  to_keep unsent known hooks = after (keeping step.client.ifaces outlook.files) (λ files. Done (life_with unsent known hooks files))

  abbrev to_hook : ℕ → Option (List HostRow) → Asks Life
  to_hook unsent known = after (hooking moment step.jobs outlook.hooks) (λ hooks. to_keep unsent known hooks)

  abbrev to_host : ℕ → Asks Life
  to_host unsent = after (hosting managed (rows_of step.client) outlook.known) (λ known. to_hook unsent known)

  rest_silent : (unsent : ℕ) → Silent (to_host unsent)
  rest_silent unsent =
      both_silent (hosting managed (rows_of step.client) outlook.known) (λ known. to_hook unsent known)
      (silent_so (hosting managed (rows_of step.client) outlook.known)
      (hosting_each OffersNone host_silent store_silent managed (rows_of step.client) outlook.known))
      (λ known. both_silent (hooking moment step.jobs outlook.hooks) (λ hooks. to_keep unsent known hooks) (hooking_silent moment step.jobs outlook.hooks)
      (λ hooks. both_silent (keeping step.client.ifaces outlook.files) (λ files. Done (life_with unsent known hooks files))
      (silent_so (keeping step.client.ifaces outlook.files) (keeping_each OffersNone host_silent store_silent step.client.ifaces outlook.files))
      (λ files. silent_so (Done (life_with unsent known hooks files)) (done_each OffersNone (life_with unsent known hooks files)))))

  -- what is made of the rest, whatever it asks
  record Ends (unsent : ℕ) (life : Life) : Type 0 where
    client_is : life.client ≡ step.client
    now_is : life.now ≡ moment
    unsent_is : life.unsent ≡ unsent

  kept_ends : (unsent : ℕ) (known : Option (List HostRow)) (hooks : Supervision) (calls : List Call) (life : Life)
      → Makes (to_keep unsent known hooks) calls life → Ends unsent life
  kept_ends unsent known hooks calls life makes =
      let files : MakesBoth (keeping step.client.ifaces outlook.files) (λ files. Done (life_with unsent known hooks files)) calls life =
      makes_both (keeping step.client.ifaces outlook.files) (λ files. Done (life_with unsent known hooks files)) calls life makes in
      let last : life ≡ life_with unsent known hooks files.between = files.makes_later.result_is in
      record { client_is = ap (λ (l : Life). l.client) last; now_is = ap (λ (l : Life). l.now) last; unsent_is = ap (λ (l : Life). l.unsent) last }

  hooked_ends : (unsent : ℕ) (known : Option (List HostRow)) (calls : List Call) (life : Life) → Makes (to_hook unsent known) calls life → Ends unsent life
  hooked_ends unsent known calls life makes =
      let hooks : MakesBoth (hooking moment step.jobs outlook.hooks) (λ hooks. to_keep unsent known hooks) calls life =
      makes_both (hooking moment step.jobs outlook.hooks) (λ hooks. to_keep unsent known hooks) calls life makes in
      kept_ends unsent known hooks.between hooks.later life hooks.makes_later

  rest_ends : (unsent : ℕ) (calls : List Call) (life : Life) → Makes (to_host unsent) calls life → Ends unsent life
  rest_ends unsent calls life makes =
      let known : MakesBoth (hosting managed (rows_of step.client) outlook.known) (λ known. to_hook unsent known) calls life =
      makes_both (hosting managed (rows_of step.client) outlook.known) (λ known. to_hook unsent known) calls life makes in
      hooked_ends unsent known.between known.later life known.makes_later

  pub acting_shows : (calls : List Call) (life : Life) → Makes (acting managed outlook step moment stop) calls life → Shown step moment calls life
  acting_shows calls life makes =
      let one : MakesBoth (offering step.sends 0) (λ unsent. to_host unsent) calls life =
      makes_both (offering step.sends 0) (λ unsent. to_host unsent) calls life makes in
      let answers : Answers (offering step.sends 0) = one.makes_first.answers in
      let ends : Ends one.between life = rest_ends one.between one.later life one.makes_later in
      record {
        taken = outcomes step.sends 0 answers;
        answered = outcomes_all step.sends 0 answers;
        offers = in_turn calls one.first one.later one.calls_are
            ∙ ap (λ (rest : List Offer). flat_map offer_in one.first ++ rest) (rest_silent one.between one.later life one.makes_later)
            ∙ append-nil (flat_map offer_in one.first)
            ∙ ap (flat_map offer_in) one.makes_first.calls_are ∙ offers_are step.sends 0 answers;
        client = ends.client_is;
        now = ends.now_is;
        unsent = ends.unsent_is ∙ one.makes_first.result_is ∙ set_is step.sends 0 answers;
      }

-- of a turn
pub turn_shows : (managed : List Managed) (life : Life) (wake : Wake) (bytes : List ℕ) (calls : List Call) (next : Life)
    → Makes (turn_asks managed life wake bytes) calls next → Shown (step_of life wake bytes) (turn_moment life wake) calls next
unfolding turn_asks
turn_shows managed life wake bytes calls next makes =
    let at : ℕ = turn_moment life wake in
    let acts : Supervision → Asks Life = λ hooks. acting managed (outlook_with life hooks) (step_of life wake bytes) at (stop_after life.stop wake.event at) in
    let one : MakesBoth (polling at life.hooks) acts calls next = makes_both (polling at life.hooks) acts calls next makes in
    let shown =
    acting_shows managed (outlook_with life one.between) (step_of life wake bytes) at (stop_after life.stop wake.event at) one.later next one.makes_later in
    record {
      taken = shown.taken;
      answered = shown.answered;
      offers = silent_first calls one.first one.later one.calls_are (polling_silent at life.hooks one.first one.between one.makes_first) ∙ shown.offers;
      client = shown.client;
      now = shown.now;
      unsent = shown.unsent;
    }

-- and of an opening, by what reading the files gave
pub record OpeningShown (managed : List Managed) (specs : List IfSpec) (begin : Begin) (calls : List Call) (life : Life) : Type 0 where
  pub files : FilesLoaded
  pub reads : List Call
  pub makes : Makes (loading_files managed) reads files
  -- the DUID's file was read so, and, where no two interfaces have one name, those of their leases
  pub duid : duid_read calls ≡ files.duid
  pub leases : AreNamedApart managed → AllByRecursion (IsShown calls) files.ifaces
  pub shown : Shown (opening_step managed files specs begin) (moment_of begin.at) calls life

pub opening_shows : (managed : List Managed) (specs : List IfSpec) (begin : Begin) (calls : List Call) (life : Life)
    → Makes (opening_asks managed specs begin) calls life → OpeningShown managed specs begin calls life
unfolding opening_asks
opening_shows managed specs begin calls life makes =
    let acts : FilesLoaded → Asks Life =
    λ files. acting managed (outlook_from managed files) (opening_step managed files specs begin) (moment_of begin.at) None in
    let one : MakesBoth clearing (λ _. after (loading_files managed) acts) calls life =
    makes_both clearing (λ _. after (loading_files managed) acts) calls life makes in
    let two : MakesBoth (loading_files managed) acts one.later life = makes_both (loading_files managed) acts one.later life one.makes_later in
    let shown =
    acting_shows managed (outlook_from managed two.between) (opening_step managed two.between specs begin)
    (moment_of begin.at) None two.later life two.makes_later in
    let all : calls ≡ one.first ++ (two.first ++ two.later) = one.calls_are ∙ ap (λ (rest : List Call). one.first ++ rest) two.calls_are in
    let before : (file : List ℕ) → AllByRecursion (IsOther file) one.first = λ file. clearing_other file one.first tt one.makes_first in
    let behind : (file : List ℕ) → AllByRecursion (IsOther file) two.later =
    λ file. acting_other file managed (outlook_from managed two.between) (opening_step managed two.between specs begin)
    (moment_of begin.at) None two.later life two.makes_later in
    record {
      files = two.between;
      reads = two.first;
      makes = two.makes_first;
      duid = ap duid_read all ∙ duid_is managed one.first two.first two.later two.between two.makes_first before behind;
      leases = λ apart. subst (λ (cs : List Call). AllByRecursion (IsShown cs) two.between.ifaces) (sym all)
          (leases_shown managed one.first two.first two.later two.between two.makes_first before behind apart);
      shown = record {
        taken = shown.taken;
        answered = shown.answered;
        offers =
            silent_first calls one.first one.later one.calls_are
            (silent_so clearing (clearing_each OffersNone host_silent store_silent) one.first tt one.makes_first)
            ∙ silent_first one.later two.first two.later two.calls_are (files_silent managed two.first two.between two.makes_first)
            ∙ shown.offers;
        client = shown.client;
        now = shown.now;
        unsent = shown.unsent;
      };
    }
