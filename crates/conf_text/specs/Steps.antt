-- How the reader takes a configuration line by line.
use Rattle.std.specs.Prelude.{◌≡◌, ℕ, suc, ◌+◌, ◌<◌, ◌^◌, Bool, ◌||◌, List, [], ◌∷◌, ◌++◌, length, map, slice_get, slice_set, nat_le, Option, Some, None, option_map, Result, Ok, Err, IfSome, if◌then◌else◌}
use Rattle.std.specs.Option.{option_or}
use Rattle.net_types.specs.declared.interface.Name.{Name}
use Rattle.conf_words.specs.Directives.{Directive}
use Rattle.conf_directives.specs.declared.names.InterfaceList.TheVariants.{Allowed, Denied}
use Rattle.conf_directives.specs.declared.values.Directive.{Directive as RustDirective}
use Rattle.conf_directives.specs.declared.values.IaLine.{IaLine}
use Rattle.conf_directives.specs.Contents.{directive_content, ia_content, DirectiveContent, SaidContent}
use Rattle.conf_directives.specs.Says.{Says}
use Rattle.conf_text.specs.declared.answers.ConfAnswer.{ConfAnswer}
use Rattle.conf_text.specs.declared.answers.ConfAnswer.TheVariants.{Bad, NoMemory}
use Rattle.conf_text.specs.declared.answers.ConfCause.{ConfCause}
use Rattle.conf_text.specs.declared.answers.ConfCause.TheVariants.{BadArgument, TooMany}
use Rattle.conf_scopes.specs.declared.counting.Counts.{Counts}
use Rattle.conf_scopes.specs.declared.counting.TheConstants.{MOST_BLOCKS}
use Rattle.conf_text.specs.declared.reader.Reader.{Reader}
use Rattle.conf_text.specs.declared.reader.Spot.{Spot}
use Rattle.conf_text.specs.declared.reader.Spot.TheVariants as Spots
use Rattle.conf_text.specs.Contents.{configuration}
use Rattle.conf_text.specs.Configurations.{BlockContent, Configuration, configured, notice_of}
use Rattle.conf_text.specs.Faults.{cause_from}
use Rattle.conf_text.specs.Numbering.{line_number}
use Rattle.conf_text.specs.Places.{Place, Global, Block, Skipped, is_named}
use Rattle.conf_text.specs.Standings.{Standing, Stands}
use Rattle.conf_scopes.specs.Values.{interfaces_said, script_said}
use Rattle.conf_scopes.specs.Scopes.{ScopeContent, scope_of}
use Rattle.conf_scopes.specs.ScopeSteps.{FitsWords, both_counts, list_on, scope_counts, scope_with}

-- ---- a configuration with one line more

abbrev pub conf_counts : Configuration → Counts
conf_counts conf = record (scope_counts conf.global) { allowed = length conf.allowed; denied = length conf.denied }

abbrev pub notices_with : ℕ → List (List ℕ) → Configuration → Configuration
notices_with number words conf = record conf { notices = conf.notices ++ map (notice_of (line_number number)) words }

abbrev pub global_with : DirectiveContent → Configuration → Configuration
global_with said conf = record conf {
  global = scope_with conf.global said;
  allowed = list_on conf.allowed (interfaces_said Allowed said);
  denied = list_on conf.denied (interfaces_said Denied said);
  script = option_or (script_said said) conf.script;
}

abbrev pub block_with : DirectiveContent → BlockContent → BlockContent
block_with said block = record block { scope = scope_with block.scope said }

abbrev pub set_to : List BlockContent → ℕ → Option BlockContent → List BlockContent
set_to blocks index None = blocks
set_to blocks index (Some block) = slice_set blocks index block

-- the block at a place with one line more
abbrev pub say_at : ℕ → DirectiveContent → List BlockContent → List BlockContent
say_at index said blocks = set_to blocks index (option_map (block_with said) (slice_get blocks index))

-- ---- the reader

pub record ReadSoFar : Type 0 where
  pub conf : Configuration
  pub spot : Spot

-- the place of the first that passes the test
abbrev pub first_place : {X : Type 0} → (X → Bool) → List X → Option ℕ
first_place test [] = None
first_place test (x ∷ xs) = if test x then Some 0 else option_map suc (first_place test xs)

abbrev pub read_so_far : Reader → ReadSoFar
read_so_far reader = record { conf = configuration reader.conf; spot = reader.spot }

abbrev pub begin_reading : ReadSoFar
begin_reading = record { conf = configured []; spot = Spots.Global }

abbrev pub with_block : Name → ReadSoFar → ReadSoFar
with_block name so_far = record {
  conf = record so_far.conf { blocks = so_far.conf.blocks ++ record { name = name; scope = scope_of [] } ∷ [] };
  spot = Spots.Block (length so_far.conf.blocks);
}

abbrev pub entered : ReadSoFar → Name → Option ℕ → Result ReadSoFar ConfCause
entered so_far name (Some place) = Ok (record { conf = so_far.conf; spot = Spots.Block place })
entered so_far name None =
    if nat_le MOST_BLOCKS (length so_far.conf.blocks) then Err TooMany else Ok (with_block name so_far)

abbrev pub enter : ReadSoFar → Name → Result ReadSoFar ConfCause
enter so_far name = entered so_far name (first_place (λ block. is_named name block.name) so_far.conf.blocks)

abbrev pub scope_or_empty : Option BlockContent → ScopeContent
scope_or_empty None = scope_of []
scope_or_empty (Some block) = block.scope

-- the block where lines stand
abbrev pub block_at : List BlockContent → Spot → Option BlockContent
block_at blocks (Spots.Block place) = slice_get blocks place
block_at blocks _ = None

abbrev pub block_now : ReadSoFar → Option BlockContent
block_now so_far = block_at so_far.conf.blocks so_far.spot

-- what the words of options come to can be counted
abbrev pub FitsNow : ReadSoFar → DirectiveContent → Type 0
FitsNow so_far said =
    FitsWords so_far.conf.global said × IfSome (block_now so_far) (λ block. FitsWords block.scope said)

-- what is wrong with a directive after these associations and so much, of global lines and of a block
abbrev pub cause_between : List IaLine × List IaLine → Counts × Counts → RustDirective → Option ConfCause
cause_between ias counts directive =
    cause_from (map ia_content ias.0 ++ map ia_content ias.1) (both_counts counts.0 counts.1)
    (directive_content directive)

abbrev pub cause_now : ReadSoFar → DirectiveContent → Option ConfCause
cause_now so_far said =
    let block = scope_or_empty (block_now so_far) in
    cause_from (so_far.conf.global.ias ++ block.ias) (both_counts (conf_counts so_far.conf) (scope_counts block)) said

abbrev pub say_now : Spot → DirectiveContent → Configuration → Configuration
say_now Spots.Global said conf = global_with said conf
say_now (Spots.Block place) said conf = record conf { blocks = say_at place said conf.blocks }
say_now Spots.Skipped said conf = conf

abbrev pub taken : ReadSoFar → DirectiveContent → Option ConfCause → Result ReadSoFar ConfCause
taken so_far said (Some cause) = Err cause
taken so_far said None = Ok (record so_far { conf = say_now so_far.spot said so_far.conf })

unfoldable pub take_step : ReadSoFar → DirectiveContent → Result ReadSoFar ConfCause
take_step so_far said = taken so_far said (cause_now so_far said)

abbrev pub directive_step : ReadSoFar → Option DirectiveContent → Result ReadSoFar ConfCause
directive_step so_far None = Ok so_far
directive_step so_far (Some said) = take_step so_far said

abbrev pub enter_by : ReadSoFar → Option Name → Result ReadSoFar ConfCause
enter_by so_far None = Err BadArgument
enter_by so_far (Some name) = enter so_far name

abbrev pub skip : ReadSoFar → Directive → ReadSoFar
skip so_far line = record { conf = notices_with line.number (line.word ∷ []) so_far.conf; spot = Spots.Skipped }

abbrev pub notice_line : ReadSoFar → Directive → ReadSoFar
notice_line so_far line = record so_far { conf = notices_with line.number (line.word ∷ []) so_far.conf }

abbrev pub noticed_step : ℕ → List (List ℕ) → Result ReadSoFar ConfCause → Result ReadSoFar ConfCause
noticed_step number words (Err cause) = Err cause
noticed_step number words (Ok so_far) = Ok (record so_far { conf = notices_with number words so_far.conf })

abbrev pub begin_step : ReadSoFar → Option DirectiveContent → Option Place → Result ReadSoFar ConfCause
begin_step so_far said None = directive_step so_far said
begin_step so_far said (Some Global) = Ok (record so_far { spot = Spots.Global })
begin_step so_far said (Some (Block name)) = enter so_far name
begin_step so_far said (Some Skipped) = Ok (record so_far { spot = Spots.Skipped })

abbrev pub step_by : ReadSoFar → ℕ → Option Place → Option SaidContent → Result ReadSoFar ConfCause
step_by so_far number begins None = Err BadArgument
step_by so_far number begins (Some said) = noticed_step number said.notices (begin_step so_far said.directive begins)

-- one line more
unfoldable pub step : ReadSoFar → Standing → Result ReadSoFar ConfCause
step so_far stands = step_by so_far stands.number stands.begins stands.said

-- ---- what the reader makes of a line

-- the reader is where lines stand
abbrev pub IsAt : Place → Spot → Type 0
IsAt Global Spots.Global = Unit {0}
IsAt (Block name) (Spots.Block place) = Unit {0}
IsAt Skipped Spots.Skipped = Unit {0}
IsAt _ _ = ⊥

-- it takes what a line says
abbrev pub TakesSaid : ReadSoFar → Directive → Result ReadSoFar ConfCause → Type 0
TakesSaid so_far line outcome =
    (said : Option SaidContent) × Says line.word line.about said × (outcome ≡ step_by so_far line.number None said)

abbrev pub TakesLine : ReadSoFar → Directive → Result ReadSoFar ConfCause → Type 0
TakesLine so_far line outcome =
    (place : Place) → IsAt place so_far.spot
    → (stands : Standing) × Stands place line stands × (outcome ≡ step so_far stands)

-- an answer is of the line's cause
abbrev pub AnswersWith : (Result ReadSoFar ConfCause → Type 0) → ℕ → ConfAnswer → Type 0
AnswersWith Takes number (Bad fault) = Takes (Err fault.cause) × (fault.line ≡ line_number number)
AnswersWith Takes number NoMemory = Unit {0}
