-- What the lines at a place say.
use Rattle.std.specs.Prelude.{List, ◌++◌, Option, Some, None, unwrap_or, if◌then◌else◌}
use Rattle.std.specs.List.{filter_map}
use Rattle.conf_directives.specs.Contents.{DirectiveContent, SaidContent}
use Rattle.conf_text.specs.Places.{Place, Global, Block, Skipped, is_place}
use Rattle.conf_text.specs.Standings.{Standing, nothing}

abbrev pub said_of : Standing → SaidContent
said_of stands = unwrap_or stands.said nothing

-- a heading has no directive
abbrev pub directive_by : Option Place → Option DirectiveContent → Option DirectiveContent
directive_by None directive = directive
directive_by (Some place) directive = None

abbrev pub directive_of : Standing → Option DirectiveContent
directive_of stands = directive_by stands.begins (said_of stands).directive

abbrev pub said_there : Place → Standing → Option DirectiveContent
said_there place stands = if is_place place stands.place then directive_of stands else None

-- in their order
abbrev pub said_at_place : Place → List Standing → List DirectiveContent
said_at_place place lines = filter_map (said_there place) lines

-- what is in force for the lines at a place: what the global ones say, and then what those in the block do
abbrev pub said_for : Place → List Standing → List DirectiveContent
said_for Global lines = said_at_place Global lines
said_for (Block name) lines = said_at_place Global lines ++ said_at_place (Block name) lines
said_for Skipped lines = said_at_place Global lines
