-- What the answers of `live` come to.
use Rattle.std.specs.Prelude.{IfSome}
use Rattle.std.proofs.Common.{ℕ, ◌≡◌, ◌<◌, ◌≤◌, List, [], length, Option, Some, None, Ok, inl, inr, refl, subst, arith}
use Rattle.net_types.specs.declared.interface.IfSpec.{IfSpec}
use Rattle.script_model.specs.Scripts.{FitInterfaces}
use Rattle.conf_text.specs.Configurations.{Configuration, IsConfOf}
use Rattle.conf_text.specs.Settings.{managed_of}
use Rattle.device_calls.specs.Worlds.{Seen, world_of}
use Rattle.daemon.specs.declared.serving.ServeEnd.{ServeEnd}
use Rattle.daemon.specs.declared.serving.ServeEnd.TheVariants as ends
use Rattle.daemon.specs.Streams.{WritesLines, WritesFront}
use Rattle.daemon.specs.Cuts.{Leaves}
use Rattle.daemon.specs.Filed.{LeavesFiled}
use Rattle.daemon.specs.Served.{Served}
use Rattle.daemon.proofs.CutOffs.{front_none}
use Rattle.replayed_lives.specs.TextWorks.declared.status.Status.{Status}
use Rattle.replayed_lives.specs.TextWorks.declared.status.Status.TheVariants as status
use Rattle.replayed_lives.specs.TextWorks.Checks.{TellsConfiguration}
use Rattle.replayed_lives.specs.TextWorks.Input.{limit, IsInput, IsTooLong}
use Rattle.dhcpcd.specs.Living.{Asked, Around, around, asked, head_of, IsServed, IsCutOff, IsHeadCut, IsLifeAnswer, IsUntouched, IsLived, IsLiveAnswer, HasLinkCause, CompletesLife}
use Rattle.replayed_lives.specs.TextWorks.Refusals.{IsConfRefused}
use Rattle.replayed_lives.specs.TextWorks.Statuses.{HasStatusCause, StopsReading, StopsWriting}
use Rattle.replayed_lives.proofs.TextWorks.Endings.{configured, not_too_long}
use Rattle.replayed_lives.proofs.TextWorks.Refusals.{live_managed}
use Rattle.daemon.proofs.FileEvidence.StoreRuns.{foretold_whole}
use Rattle.daemon.proofs.SafeTexts.PlainConfigurations.{configured_texts_are_safe}
use Rattle.replayed_lives.proofs.FilesRightly.{life_keeps}
use Rattle.replayed_lives.proofs.HostRightly.{life_holds}
use Rattle.dhcpcd.proofs.LivesHeld.{host_held, files_held, held_until_cut}
use Rattle.replayed_lives.proofs.SafelyTold.{life_tells}

-- ---- a life

-- what is configured for it is managed
pub ruleset managed_fit_live = (live_managed)

-- no device was asked, and nothing was written
pub no_head : (ask : Asked) (out : Option (List ℕ)) (seen : Seen) → IsHeadCut ask (around out out seen seen)
no_head ask out seen = record { written = front_none out (head_of ask); unasked = refl }

pub head_cut : (answer : Status) (ask : Asked) (out out_to : Option (List ℕ)) (seen : Seen) → WritesFront out out_to [] (head_of ask) → StopsWriting answer
    → IsLifeAnswer answer ask (around out out_to seen seen)
head_cut answer ask out out_to seen front stops = answers answer stops
  where
    cut : IsHeadCut ask (around out out_to seen seen)
    cut = record { written = front; unasked = refl }

    answers : (answer : Status) → StopsWriting answer → IsLifeAnswer answer ask (around out out_to seen seen)
    answers status.Done stops = absurd stops
    answers status.Usage stops = absurd stops
    answers (status.Script fault) stops = absurd stops
    answers (status.Conf fault) stops = absurd stops
    answers status.ReadFault stops = absurd stops
    answers status.WriteFault stops = inl cut
    answers status.LinkFault stops = absurd stops
    answers status.TurnsOver stops = absurd stops
    answers (status.Lease line) stops = absurd stops
    answers (status.Capture what) stops = absurd stops
    answers (status.Schedule line) stops = absurd stops
    answers (status.Transcript line) stops = absurd stops
    answers status.Unjustified stops = absurd stops
    answers status.TooLong stops = absurd stops
    answers status.NoMemory stops = inl cut

pub served_whole : (ask : Asked) (out middle out_to : Option (List ℕ)) (seen seen_to : Seen) → IsConfOf ask.text (Ok ask.conf) → FitInterfaces ask.specs
    → WritesLines out middle (head_of ask) → Served ask.turns (managed_of ask.conf ask.specs) ask.specs seen seen_to middle out_to
    → LeavesFiled (managed_of ask.conf ask.specs) ask.specs seen seen_to
    → IsServed ask (around out out_to seen seen_to)
served_whole ask out middle out_to seen seen_to is fits head served files = record {
  middle = middle;
  head = head;
  served = served;
  files = files;
  host = host_held ask.text ask.conf is ask.specs fits ask.turns seen seen_to middle out_to served;
  kept = files_held ask.text ask.conf is ask.specs fits ask.turns seen seen_to middle out_to served;
}

pub cut_off : (end : ServeEnd) (ask : Asked) (out middle out_to : Option (List ℕ)) (seen seen_to : Seen) → IsConfOf ask.text (Ok ask.conf)
    → FitInterfaces ask.specs → WritesLines out middle (head_of ask)
    → Leaves end ask.turns (managed_of ask.conf ask.specs) ask.specs seen seen_to middle out_to
    → LeavesFiled (managed_of ask.conf ask.specs) ask.specs seen seen_to
    → IsCutOff end ask (around out out_to seen seen_to)
cut_off end ask out middle out_to seen seen_to is fits head left files = record {
  middle = middle;
  head = head;
  left = left;
  files = files;
  held = held_until_cut ask.text ask.conf is ask.specs fits ask.turns seen seen_to middle out_to end;
}

pub out_of_memory : (ask : Asked) (out middle out_to : Option (List ℕ)) (seen seen_to : Seen) → IsConfOf ask.text (Ok ask.conf) → FitInterfaces ask.specs
    → WritesLines out middle (head_of ask)
    → Leaves ends.NoMemory ask.turns (managed_of ask.conf ask.specs) ask.specs seen seen_to middle out_to
    → LeavesFiled (managed_of ask.conf ask.specs) ask.specs seen seen_to → IsLifeAnswer status.NoMemory ask (around out out_to seen seen_to)
out_of_memory ask out middle out_to seen seen_to is fits head left files =
    inr (cut_off ends.NoMemory ask out middle out_to seen seen_to is fits head left files)

-- ---- the answers

if_told : {A : Type 0} (told : Option A) (P : A → Type 0) → ((a : A) → P a) → IfSome told P
if_told None P all = tt
if_told (Some a) P all = all a

module _ (text : List ℕ) (conf : Configuration) (is : IsConfOf text (Ok conf)) (specs : List IfSpec) (fits : FitInterfaces specs) (turns : ℕ) where
  module _ (input : Option (List ℕ)) (read : IsInput input text) (within : length text ≤ limit) (told : Around) where
    pub lived : (answer : Status) → IsLifeAnswer answer (asked text conf specs turns) told → IsLived answer specs turns input told
    lived answer life = record {
      text = text;
      conf = conf;
      read = read;
      in_limit = within;
      configured = is;
      lived = life;
      plain = configured_texts_are_safe text conf is specs;
      host = if_told (world_of told.seen_from) _ (λ world sound. life_holds text conf is specs fits world sound.rows sound.coming);
      files = if_told (world_of told.seen_from) _ (λ world sound. life_keeps text conf is specs fits world sound.files);
      safe = if_told (world_of told.seen_from) _ (λ world sound. life_tells text conf is specs fits world sound.coming);
      whole = if_told (world_of told.seen_from) _ (λ world sound. foretold_whole (managed_of conf specs) specs world sound);
    }

    pub live_answer : (answer : Status) → IsLifeAnswer answer (asked text conf specs turns) told → IsLiveAnswer answer specs turns input told
    live_answer status.Done life = lived status.Done life
    live_answer status.Usage life = absurd life
    live_answer (status.Script fault) life = absurd life
    live_answer (status.Conf fault) life = absurd life
    live_answer status.ReadFault life = absurd life
    live_answer status.WriteFault life = lived status.WriteFault life
    live_answer status.LinkFault life = lived status.LinkFault life
    live_answer status.TurnsOver life = lived status.TurnsOver life
    live_answer (status.Lease line) life = absurd life
    live_answer (status.Capture what) life = absurd life
    live_answer (status.Schedule line) life = absurd life
    live_answer (status.Transcript line) life = absurd life
    live_answer status.Unjustified life = absurd life
    live_answer status.TooLong life = absurd life
    live_answer status.NoMemory life = inr (lived status.NoMemory life)

-- the input couldn't be read
pub unread_live : (answer : Status) (specs : List IfSpec) (turns : ℕ) (input : Option (List ℕ)) (told : Around) → IsUntouched told
    → StopsReading answer → (answer ≡ status.TooLong → IsTooLong input) → IsLiveAnswer answer specs turns input told
unread_live status.Done specs turns input told same stops long = absurd stops
unread_live status.Usage specs turns input told same stops long = absurd stops
unread_live (status.Script fault) specs turns input told same stops long = absurd stops
unread_live (status.Conf fault) specs turns input told same stops long = absurd stops
unread_live status.ReadFault specs turns input told same stops long = same
unread_live status.WriteFault specs turns input told same stops long = absurd stops
unread_live status.LinkFault specs turns input told same stops long = absurd stops
unread_live status.TurnsOver specs turns input told same stops long = absurd stops
unread_live (status.Lease line) specs turns input told same stops long = absurd stops
unread_live (status.Capture what) specs turns input told same stops long = absurd stops
unread_live (status.Schedule line) specs turns input told same stops long = absurd stops
unread_live (status.Transcript line) specs turns input told same stops long = absurd stops
unread_live status.Unjustified specs turns input told same stops long = absurd stops
unread_live status.TooLong specs turns input told same stops long = (long refl, same)
unread_live status.NoMemory specs turns input told same stops long = inl same

-- it is no configuration
pub refused_live : (answer : Status) (specs : List IfSpec) (turns : ℕ) (input : Option (List ℕ)) (told : Around) (text : List ℕ) → IsUntouched told
    → IsInput input text → length text ≤ limit → IsConfRefused text answer → IsLiveAnswer answer specs turns input told
refused_live status.Done specs turns input told text same read within refused = absurd refused
refused_live status.Usage specs turns input told text same read within refused = absurd refused
refused_live (status.Script fault) specs turns input told text same read within refused = absurd refused
refused_live (status.Conf fault) specs turns input told text same read within refused =
    (record { bytes = text; read = read; in_limit = within; why = refused; unwritten = same.0 }, same.1)
refused_live status.ReadFault specs turns input told text same read within refused = absurd refused
refused_live status.WriteFault specs turns input told text same read within refused = absurd refused
refused_live status.LinkFault specs turns input told text same read within refused = absurd refused
refused_live status.TurnsOver specs turns input told text same read within refused = absurd refused
refused_live (status.Lease line) specs turns input told text same read within refused = absurd refused
refused_live (status.Capture what) specs turns input told text same read within refused = absurd refused
refused_live (status.Schedule line) specs turns input told text same read within refused = absurd refused
refused_live (status.Transcript line) specs turns input told text same read within refused = absurd refused
refused_live status.Unjustified specs turns input told text same read within refused = absurd refused
refused_live status.TooLong specs turns input told text same read within refused = absurd refused
refused_live status.NoMemory specs turns input told text same read within refused = inl same

-- a link of which no call failed more often than before has no fault
pub no_link_fault : (answer : Status) (l m : ℕ) → HasLinkCause answer l m → m ≡ l → answer ≡ status.LinkFault → ⊥
no_link_fault answer l m cause same is =
    let rose : l < m = subst (λ (a : Status). HasLinkCause a l m) is cause in
    omega (arith, same, rose)

-- A good configuration over streams that didn't fail, and a link that has no fault, is lived for as many turns as are allowed, or
-- memory was wanted.
pub live_completes : (answer : Status) (specs : List IfSpec) (turns : ℕ) (input : Option (List ℕ)) (told : Around) (a b p q : ℕ) → TellsConfiguration input
    → b ≡ a → q ≡ p
    → (answer ≡ status.LinkFault → ⊥) → IsLiveAnswer answer specs turns input told → HasStatusCause answer a b p q → CompletesLife answer
live_completes status.Done specs turns input told a b p q tells read wrote linked answer cause = tt
live_completes status.Usage specs turns input told a b p q tells read wrote linked answer cause = absurd answer
live_completes (status.Script fault) specs turns input told a b p q tells read wrote linked answer cause = absurd answer
live_completes (status.Conf fault) specs turns input told a b p q tells read wrote linked answer cause =
    configured input answer.0.bytes fault tells answer.0.read answer.0.why
live_completes status.ReadFault specs turns input told a b p q tells read wrote linked answer cause = absurd (omega (arith, read, cause.0))
live_completes status.WriteFault specs turns input told a b p q tells read wrote linked answer cause = absurd (omega (arith, wrote, cause.1))
live_completes status.LinkFault specs turns input told a b p q tells read wrote linked answer cause = absurd (linked refl)
live_completes status.TurnsOver specs turns input told a b p q tells read wrote linked answer cause = tt
live_completes (status.Lease line) specs turns input told a b p q tells read wrote linked answer cause = absurd answer
live_completes (status.Capture what) specs turns input told a b p q tells read wrote linked answer cause = absurd answer
live_completes (status.Schedule line) specs turns input told a b p q tells read wrote linked answer cause = absurd answer
live_completes (status.Transcript line) specs turns input told a b p q tells read wrote linked answer cause = absurd answer
live_completes status.Unjustified specs turns input told a b p q tells read wrote linked answer cause = absurd answer
live_completes status.TooLong specs turns input told a b p q tells read wrote linked answer cause =
    absurd (not_too_long input tells.bytes tells.told tells.in_limit answer.0)
live_completes status.NoMemory specs turns input told a b p q tells read wrote linked answer cause = tt

-- what a life comes to
pub ruleset lives_end = (no_head, head_cut, served_whole, cut_off, out_of_memory)

-- what `live` answers
pub ruleset live_answers = (lived, live_answer, unread_live, refused_live)
