-- What a transcript tells, and its lines.
use Rattle.std.specs.Prelude.{ℕ, ◌+◌, List, [], ◌∷◌, ◌++◌, map, flat_map}
use Rattle.net_types.specs.declared.interface.IfSpec.{IfSpec}
use Rattle.world.specs.declared.wakes.Begin.{Begin}
use Rattle.world.specs.declared.wakes.Event.{Event}
use Rattle.conf_text.specs.Configurations.{Configuration, NoticeContent}
use Rattle.script_model.specs.Lines.{Line, Head, Conf, Notice, Interface, Life, Start, Turn, EndOfLife}

-- a turn: its moment in milliseconds since 1970, its random word, what came with the bytes of a frame, and what was
-- asked and answered
pub record TurnTold : Type 0 where
  pub at : ℕ
  pub salt : ℕ
  pub event : Event
  pub bytes : List ℕ
  pub lines : List Line

-- a life: how it began, what was asked and answered at its opening, and its turns
pub record LifeTold : Type 0 where
  pub begin : Begin
  pub opening : List Line
  pub turns : List TurnTold

pub record BodyTold : Type 0 where
  pub ifaces : List IfSpec
  pub lives : List LifeTold

pub record Told : Type 0 where
  -- the lines of the configuration, and what they say
  pub conf : List (List ℕ)
  pub configuration : Configuration
  pub body : BodyTold

-- ---- the lines

abbrev pub notice_line : NoticeContent → Line
notice_line notice = Notice notice.line notice.word

abbrev pub head_lines : List (List ℕ) → Configuration → List Line
head_lines conf configuration = Head ∷ (map Conf conf ++ map notice_line configuration.notices)

abbrev pub turn_lines : TurnTold → List Line
turn_lines turn = Turn turn.at turn.salt turn.event turn.bytes ∷ turn.lines

-- between the start and the end
abbrev pub lines_within : LifeTold → List Line
lines_within life = life.opening ++ flat_map turn_lines life.turns

abbrev pub life_lines : ℕ → LifeTold → List Line
life_lines number life = Life number ∷ Start life.begin ∷ (lines_within life ++ EndOfLife ∷ [])

-- the lives are counted
abbrev pub lives_lines : ℕ → List LifeTold → List Line
lives_lines number [] = []
lives_lines number (life ∷ lives) = life_lines number life ++ lives_lines (number + 1) lives

abbrev pub body_lines : BodyTold → List Line
body_lines body = map Interface body.ifaces ++ lives_lines 1 body.lives
