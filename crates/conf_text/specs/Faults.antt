-- The first fault of a configuration: the first line for which a cause holds, and the first of its causes.
use Rattle.std.specs.Prelude.{ℕ, Bool, false, not, ◌&&◌, List, [], ◌∷◌, ◌++◌, length, Option, Some, None, option_map, nat_le, if◌then◌else◌}
use Rattle.std.specs.Option.{option_or}
use Rattle.std.specs.List.{filter_map, list_any}
use Rattle.net_types.specs.declared.interface.Name.{Name}
use Rattle.conf_directives.specs.Contents.{DirectiveContent, IaContent, SaidContent}
use Rattle.conf_text.specs.declared.answers.ConfCause.{ConfCause}
use Rattle.conf_text.specs.declared.answers.ConfCause.TheVariants.{NotText, BadArgument, Repeated, TooMany}
use Rattle.conf_text.specs.declared.answers.ConfFault.{ConfFault}
use Rattle.conf_scopes.specs.declared.counting.Counts.{Counts}
use Rattle.conf_scopes.specs.declared.counting.TheConstants.{MOST_BLOCKS}
use Rattle.conf_text.specs.Places.{Place, Global, is_named, interface_of}
use Rattle.conf_text.specs.Standings.{Standing}
use Rattle.conf_text.specs.Sayings.{said_at_place, said_for}
use Rattle.conf_scopes.specs.Values.{ia_said}
use Rattle.conf_scopes.specs.Limits.{is_repeated, counts_of, is_too_much}
use Rattle.conf_text.specs.Numbering.{line_number}

abbrev pub added : List Name → Name → List Name
added names name = if list_any (is_named name) names then names else names ++ name ∷ []

-- names after these, each at its first place
abbrev pub unlike_after : (before names : List Name) → List Name
unlike_after before [] = before
unlike_after before (name ∷ names) = unlike_after (added before name) names

-- the interfaces that have blocks, in the order in which these begin
abbrev pub names_in : List Standing → List Name
names_in lines = unlike_after [] (filter_map (λ stands. interface_of stands.begins) lines)

-- the block of one interface more than there may be
abbrev pub is_one_too_many : List Name → Option Name → Bool
is_one_too_many names None = false
is_one_too_many names (Some name) = nat_le MOST_BLOCKS (length names) && not (list_any (is_named name) names)

-- after associations and as much as is said already
abbrev pub cause_from : List IaContent → Counts → DirectiveContent → Option ConfCause
cause_from ias counts said =
    if is_repeated ias said then Some Repeated
    else if is_too_much counts said then Some TooMany
    else None

abbrev pub cause_of : (global before : List DirectiveContent) → DirectiveContent → Option ConfCause
cause_of global before said = cause_from (filter_map ia_said before) (counts_of global before) said

abbrev pub cause_of_said : (global before : List DirectiveContent) → Option DirectiveContent → Option ConfCause
cause_of_said global before None = None
cause_of_said global before (Some said) = cause_of global before said

abbrev pub cause_of_heading : List Name → Option Name → Option ConfCause
cause_of_heading names name = if is_one_too_many names name then Some TooMany else None

abbrev pub cause_among : List Standing → Standing → Option Place → SaidContent → Option ConfCause
cause_among front stands None said =
    cause_of_said (said_at_place Global front) (said_for stands.place front) said.directive
cause_among front stands (Some place) said = cause_of_heading (names_in front) (interface_of (Some place))

abbrev pub cause_by : List Standing → Standing → Option SaidContent → Option ConfCause
cause_by front stands None = Some BadArgument
cause_by front stands (Some said) = cause_among front stands stands.begins said

-- what is wrong with a line of text after those in front of it, and the first of that
unfoldable pub cause_at : List Standing → Standing → Option ConfCause
cause_at front stands = cause_by front stands stands.said

abbrev pub fault : ℕ → ConfCause → ConfFault
fault number cause = record { line = line_number number; cause = cause }

abbrev pub fault_at : List Standing → Standing → Option ConfFault
fault_at front stands = option_map (fault stands.number) (cause_at front stands)

-- the first fault of lines that stand after those in front
abbrev pub first_from : (front lines : List Standing) → Option ConfFault
first_from front [] = None
first_from front (stands ∷ lines) = option_or (fault_at front stands) (first_from (front ++ stands ∷ []) lines)

abbrev pub first_fault : List Standing → Option ConfFault
first_fault lines = first_from [] lines

-- the first line that isn't text
abbrev pub not_text : Option ℕ → Option ConfFault
not_text number = option_map (λ n. fault n NotText) number
