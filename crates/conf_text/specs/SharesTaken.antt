-- What is true of the shares of a line that are taken (RFC 3633, section 12.1).
use Rattle.std.specs.Prelude.{◌≡◌, ℕ, true, List, filter_map}
use Rattle.net_types.specs.declared.interface.IfSpec.{IfSpec}
use Rattle.prefix_share.specs.Rules.{is_plan}
use Rattle.conf_directives.specs.declared.values.ShareLine.{ShareLine}
use Rattle.conf_text.specs.Shares.{share_of, shares_taken}

-- they obey the rules
abbrev pub TakenArePlanned : Type 0
TakenArePlanned =
    (specs : List IfSpec) (hint : ℕ) (lines : List ShareLine) → is_plan (shares_taken specs hint lines) ≡ true

-- where all obey the rules, none is left out
abbrev pub PlannedAreTaken : Type 0
PlannedAreTaken = (specs : List IfSpec) (hint : ℕ) (lines : List ShareLine)
    → is_plan (filter_map (share_of specs hint) lines) ≡ true
    → shares_taken specs hint lines ≡ filter_map (share_of specs hint) lines
