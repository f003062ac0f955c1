-- The command whose words are those of `live`.
use Rattle.std.specs.Prelude.{true, Some, codes}
use Rattle.clap.specs.Words.{App, Rule, Text, new_app, new_rule, with_rule}
use Rattle.clap.specs.Simple.{on_top}
use Rattle.clap.specs.declared.builder.value_parser.ValueParser.TheVariants.{NonEmptyString}

-- a word that has to be there
abbrev pub place_rule : Text → Rule
place_rule id = record (new_rule id) { required = true }

-- and isn't empty
abbrev pub path_rule : Text → Rule
path_rule id = record (place_rule id) { parser = Some NonEmptyString }

-- the last words, 1 to 64 of them
abbrev pub interfaces_rule : Rule
interfaces_rule =
    record (place_rule (codes "IFACE")) { range = Some (record { start_inclusive = 1; end_inclusive = 64 }) }

abbrev pub live_command : App
live_command =
    with_rule (with_rule (with_rule (with_rule (with_rule
    (on_top (λ shape. record shape { disable_help_flag = true }) (new_app (codes "live")))
    (place_rule (codes "PORT"))) (place_rule (codes "PEER"))) (path_rule (codes "DIR"))) (path_rule (codes "SCRIPT")))
    interfaces_rule
