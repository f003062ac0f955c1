-- How the lines of a schedule are read, one after another.
use Rattle.std.specs.Prelude.{ℕ, ◌≡◌, ◌&&◌, List, [], ◌∷◌, ◌++◌, length, codes, bytes_eq, Option, Some, None, option_map, if◌then◌else◌}
use Rattle.std.specs.List.{AllByRecursion}
use Rattle.net_types.specs.declared.interface.IfSpec.{IfSpec}
use Rattle.net_types.specs.Cutting.{Choices, after_word, choose_at, guarded}
use Rattle.net_types.specs.Marks.{Lacks}
use Rattle.net_types.specs.TextLines.{Line, ended, lines_text}
use Rattle.script_model.specs.Scripts.{FitInterfaces}
use Rattle.replay_text.specs.Carriers.{begin_at}
use Rattle.replay_text.specs.LineReading.{spec_at}
use Rattle.replay_text.specs.NextLines.{fits_next}
use Rattle.replay_text.specs.NextWords.{none_of}
use Rattle.lab_peer.specs.declared.pool.Pool.{Pool}
use Rattle.lab_schedule.specs.Schedules.{Schedule, SpellsSchedule, FitsPool, head_line, heading, pool_text}
use Rattle.lab_schedule.specs.LineReading.{event_at, is_on, lacks_feed, pool_at}

-- what the lines before the pool said
pub record Head : Type 0 where
  -- the configuration's lines, each with its line feed
  pub conf : List ℕ
  pub ifaces : List IfSpec

-- what the lines so far said: none, those before the pool, those to the pool, those to the start and after it
pub data Reading : Type 0 where
  Nothing : Reading
  Heading : (head : Head) → Reading
  Pooled : (head : Head) → (pool : Pool) → Reading
  Begun : (schedule : Schedule) → Reading

abbrev pub nothing_read : Head
nothing_read = record { conf = []; ifaces = [] }

-- ---- a line more

abbrev pub conf_more : Head → List ℕ → Option Head
conf_more head text =
    if none_of head.ifaces && lacks_feed text then Some (record head { conf = head.conf ++ ended text }) else None

abbrev pub iface_more : Head → List ℕ → Option Head
iface_more head rest =
    option_map (λ spec. record head { ifaces = head.ifaces ++ spec ∷ [] })
    (guarded (fits_next head.ifaces) (spec_at rest))

abbrev pub heads : Head → Choices Reading
heads head =
    (codes "c:", λ text. option_map Heading (conf_more head text))
    ∷ (codes "if ", λ rest. option_map Heading (iface_more head rest))
    ∷ (codes "pool ", λ rest. option_map (Pooled head) (pool_at rest))
    ∷ []

unfoldable pub after_head : Head → Line → Option Reading
after_head head line = choose_at (heads head) line

unfoldable pub after_pool : Head → Pool → Line → Option Reading
after_pool head pool line =
    option_map
    (λ begin. Begun (record { conf = head.conf; ifaces = head.ifaces; pool = pool; begin = begin; events = [] }))
    (after_word (codes "start ") (begin_at (length head.ifaces)) line)

unfoldable pub after_start : Schedule → Line → Option Reading
after_start schedule line =
    option_map (λ event. Begun (record schedule { events = schedule.events ++ event ∷ [] }))
    (guarded (is_on (length schedule.ifaces)) (event_at line))

abbrev pub step : Reading → Line → Option Reading
step Nothing line = if bytes_eq line head_line then Some (Heading nothing_read) else None
step (Heading head) line = after_head head line
step (Pooled head pool) line = after_pool head pool line
step (Begun schedule) line = after_start schedule line

-- a schedule has a start
abbrev pub given : Reading → Option Schedule
given (Begun schedule) = Some schedule
given other = None

-- ---- what was read of these lines

pub record AfterHead (head : Head) (lines : List Line) : Type 0 where
  pub conf : List Line
  pub configured : head.conf ≡ lines_text conf
  pub each : AllByRecursion (Lacks 10) conf
  pub are : lines ≡ heading conf head.ifaces
  pub fits : FitInterfaces head.ifaces

pub record AfterPool (head : Head) (pool : Pool) (lines : List Line) : Type 0 where
  pub before : List Line
  pub told : AfterHead head before
  pub are : lines ≡ before ++ pool_text pool ∷ []
  pub fits : FitsPool pool

abbrev pub After : Reading → List Line → Type 0
After Nothing lines = lines ≡ []
After (Heading head) lines = AfterHead head lines
After (Pooled head pool) lines = AfterPool head pool lines
After (Begun schedule) lines = SpellsSchedule schedule lines
