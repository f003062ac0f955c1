-- What `live` writes and answers: a configuration is read, and one life is lived over the devices.
use Rattle.std.specs.Prelude.{ℕ, ◌≡◌, ◌<◌, ◌≤◌, ◌⊎◌, List, [], length, Option, Ok, Err, IfSome}
use Rattle.std.specs.List.{AllByRecursion}
use Rattle.net_types.specs.declared.interface.IfSpec.{IfSpec}
use Rattle.world.specs.SoundStores as stores
use Rattle.script_model.specs.Lines.{Line}
use Rattle.conf_text.specs.Configurations.{Configuration, IsConfOf}
use Rattle.conf_text.specs.Settings.{managed_of}
use Rattle.device_calls.specs.Worlds.{Seen, world_of}
use Rattle.daemon.specs.FileEvidence.WholeFiles.{LivesWhole}
use Rattle.live_words.specs.LiveWords.{AsksLive}
use Rattle.daemon.specs.SafeTexts.ConfiguredTexts.{IsPlainlyConfigured}
use Rattle.daemon.specs.declared.serving.ServeEnd.{ServeEnd}
use Rattle.daemon.specs.declared.serving.ServeEnd.TheVariants as ends
use Rattle.daemon.specs.Streams.{WritesLines, WritesFront}
use Rattle.daemon.specs.Served.{Served}
use Rattle.daemon.specs.Cuts.{Leaves}
use Rattle.daemon.specs.Filed.{LeavesFiled}
use Rattle.replayed_lives.specs.TextWorks.declared.status.Status.{Status}
use Rattle.replayed_lives.specs.TextWorks.declared.status.Status.TheVariants as status
use Rattle.replayed_lives.specs.TextWorks.Input.{limit, IsInput, IsTooLong}
use Rattle.replayed_lives.specs.TextWorks.Refusals.{IsRefusal}
use Rattle.replayed_lives.specs.TextWorks.Heads.{live_head}
use Rattle.replayed_lives.specs.Sound.{IsSound}
use Rattle.replayed_lives.specs.HostHeld.{HoldsRightly}
use Rattle.dhcpcd.specs.HeldThrough.{HostHeldThrough, FilesHeldThrough, HeldUntilCut}
use Rattle.replayed_lives.specs.FilesHeld.{KeepsRightly}
use Rattle.replayed_lives.specs.ToldSafely.{TellsSafely}

-- ---- one life

-- what is told before and after it, of the output and of the devices
pub record Around : Type 0 where
  pub out_from : Option (List ℕ)
  pub out_to : Option (List ℕ)
  pub seen_from : Seen
  pub seen_to : Seen

abbrev pub around : (out_from out_to : Option (List ℕ)) → (seen_from seen_to : Seen) → Around
around out_from out_to seen_from seen_to =
    record { out_from = out_from; out_to = out_to; seen_from = seen_from; seen_to = seen_to }

-- what is asked for: the text of a configuration with what it says, the interfaces, and how many turns are allowed
pub record Asked : Type 0 where
  pub text : List ℕ
  pub conf : Configuration
  pub specs : List IfSpec
  pub turns : ℕ

abbrev pub asked : List ℕ → Configuration → List IfSpec → ℕ → Asked
asked text conf specs turns = record { text = text; conf = conf; specs = specs; turns = turns }

abbrev pub head_of : Asked → List Line
head_of ask = live_head ask.text ask.conf.notices ask.specs

-- The head was written, and then the life was lived to its end and its lines written. At each moment its files were
-- whole. A host that tells its rows, and a store that tells its files, held what they shall after the opening and after
-- each turn.
pub record IsServed (ask : Asked) (told : Around) : Type 0 where
  pub middle : Option (List ℕ)
  pub head : WritesLines told.out_from middle (head_of ask)
  pub served : Served ask.turns (managed_of ask.conf ask.specs) ask.specs told.seen_from told.seen_to middle told.out_to
  pub files : LeavesFiled (managed_of ask.conf ask.specs) ask.specs told.seen_from told.seen_to
  pub host : HostHeldThrough (managed_of ask.conf ask.specs) ask.specs served.opening served.mets served.last
      told.seen_from.host.told told.seen_to.host.told
  pub kept : FilesHeldThrough (managed_of ask.conf ask.specs) served.opening served.mets served.last
      told.seen_from.store.failing told.seen_from.store.told told.seen_to.store.told

-- The head was written, and then the life was cut off. Up to then its files were whole, and host and store held what
-- they shall.
pub record IsCutOff (end : ServeEnd) (ask : Asked) (told : Around) : Type 0 where
  pub middle : Option (List ℕ)
  pub head : WritesLines told.out_from middle (head_of ask)
  pub left : Leaves end ask.turns
      (managed_of ask.conf ask.specs) ask.specs told.seen_from told.seen_to middle told.out_to
  pub files : LeavesFiled (managed_of ask.conf ask.specs) ask.specs told.seen_from told.seen_to
  pub held : HeldUntilCut end ask.turns (managed_of ask.conf ask.specs) ask.specs told.seen_from told.seen_to middle
      told.out_to

-- a front of the head was written, maybe none of it, and no device was asked
pub record IsHeadCut (ask : Asked) (told : Around) : Type 0 where
  pub written : WritesFront told.out_from told.out_to [] (head_of ask)
  pub unasked : told.seen_to ≡ told.seen_from

-- what becomes of a life that is asked for, by what is answered
abbrev pub IsLifeAnswer : Status → Asked → Around → Type 0
IsLifeAnswer status.Done ask told = IsServed ask told
IsLifeAnswer status.WriteFault ask told = IsHeadCut ask told ⊎ IsCutOff ends.WriteFault ask told
IsLifeAnswer status.LinkFault ask told = IsCutOff ends.LinkFault ask told
IsLifeAnswer status.TurnsOver ask told = IsCutOff ends.TurnsOver ask told
IsLifeAnswer status.NoMemory ask told = IsHeadCut ask told ⊎ IsCutOff ends.NoMemory ask told
IsLifeAnswer other ask told = ⊥

-- ---- the answers

-- nothing was written, and no device was asked
abbrev pub IsUntouched : Around → Type 0
IsUntouched told = (told.out_to ≡ told.out_from) × (told.seen_to ≡ told.seen_from)

-- The input was a configuration, and this became of its life. What is configured for hooks and the resolver is plain,
-- and so is what the life told them. Over devices that tell what they hold, the host and the store hold what they
-- shall, and hooks and the resolver are told what is safe to read; over a sound store files are whole at each moment.
pub record IsLived (answer : Status) (specs : List IfSpec) (turns : ℕ) (input : Option (List ℕ))
    (told : Around) : Type 0 where
  pub text : List ℕ
  pub conf : Configuration
  pub read : IsInput input text
  pub in_limit : length text ≤ limit
  pub configured : IsConfOf text (Ok conf)
  pub lived : IsLifeAnswer answer (asked text conf specs turns) told
  pub plain : AllByRecursion IsPlainlyConfigured (managed_of conf specs)
  pub host : IfSome (world_of told.seen_from)
      (λ world. IsSound world → HoldsRightly (managed_of conf specs) specs world)
  pub files : IfSome (world_of told.seen_from)
      (λ world. IsSound world → KeepsRightly (managed_of conf specs) specs world)
  pub safe : IfSome (world_of told.seen_from) (λ world. IsSound world → TellsSafely (managed_of conf specs) specs world)
  pub whole : IfSome (world_of told.seen_from)
      (λ world. stores.IsSound world.store.told → LivesWhole (managed_of conf specs) specs world)

-- the configuration was refused, for this
abbrev pub IsLiveRefusal : (because : List ℕ → Type 0) → Option (List ℕ) → Around → Type 0
IsLiveRefusal because input told = IsRefusal because input told.out_from told.out_to × (told.seen_to ≡ told.seen_from)

-- what live answers, by the input and by what is told before and after; a fault is the first of the configuration
abbrev pub IsLiveAnswer : Status → (specs : List IfSpec) → (turns : ℕ) → Option (List ℕ) → Around → Type 0
IsLiveAnswer status.Usage specs turns input told = ⊥
IsLiveAnswer (status.Script fault) specs turns input told = ⊥
IsLiveAnswer (status.Conf fault) specs turns input told = IsLiveRefusal (λ text. IsConfOf text (Err fault)) input told
IsLiveAnswer status.ReadFault specs turns input told = IsUntouched told
IsLiveAnswer (status.Lease line) specs turns input told = ⊥
IsLiveAnswer (status.Capture cause) specs turns input told = ⊥
IsLiveAnswer (status.Schedule line) specs turns input told = ⊥
IsLiveAnswer (status.Transcript line) specs turns input told = ⊥
IsLiveAnswer status.Unjustified specs turns input told = ⊥
IsLiveAnswer status.TooLong specs turns input told = IsTooLong input × IsUntouched told
IsLiveAnswer status.NoMemory specs turns input told = IsUntouched told ⊎ IsLived status.NoMemory specs turns input told
IsLiveAnswer answer specs turns input told = IsLived answer specs turns input told

-- the words ask for a life over these interfaces, and this was answered
pub record IsAnsweredLive (words : List (List ℕ)) (answer : Status) (turns : ℕ) (input : Option (List ℕ))
    (told : Around) : Type 0 where
  pub specs : List IfSpec
  pub asks : AsksLive words specs
  pub answers : IsLiveAnswer answer specs turns input told

-- the link's fault comes only where the count of its beginnings and waits that failed rose
abbrev pub HasLinkCause : Status → ℕ → ℕ → Type 0
HasLinkCause status.LinkFault link link' = link < link'
HasLinkCause other link link' = link ≤ link'

-- the answers to a good configuration over devices of which none that matters fails
abbrev pub CompletesLife : Status → Type 0
CompletesLife status.Done = Unit {0}
CompletesLife status.TurnsOver = Unit {0}
CompletesLife status.NoMemory = Unit {0}
CompletesLife other = ⊥
