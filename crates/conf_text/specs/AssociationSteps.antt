-- How the identity associations of an interface, and what it shares of its prefixes, are made line by line.
use Rattle.std.specs.Prelude.{ℕ, Bool, not, ◌||◌, List, [], ◌∷◌, ◌++◌, map, flat_map, Option, Some, None, if◌then◌else◌}
use Rattle.std.specs.List.{list_any}
use Rattle.prefix_share.specs.declared.share.Share.{Share}
use Rattle.settings.specs.declared.dhcp6_conf.IaConf.{IaConf}
use Rattle.settings.specs.declared.dhcp6_conf.ShareConf.{ShareConf}
use Rattle.conf_directives.specs.declared.values.IaLine.{IaLine}
use Rattle.conf_directives.specs.Contents.{IaContent, ia_content}
use Rattle.conf_text.specs.declared.associations.Found.{Found}
use Rattle.conf_text.specs.declared.subject.Subject.{Subject}
use Rattle.conf_text.specs.Associations.{Association, association, is_kept, is_same_ia}
use Rattle.conf_scopes.specs.ScopeContents.{scope_content}
use Rattle.conf_text.specs.Contents.{configuration}
use Rattle.conf_text.specs.Shares.{shared_by, taken_with}

-- what global lines and then those of a block say
abbrev pub contents : List IaLine × List IaLine → List IaContent
contents lines = map ia_content lines.0 ++ map ia_content lines.1

-- one more, where none of them is the same
abbrev pub once_more : List Association → Association → List Association
once_more all one = if list_any (λ other. is_same_ia other.ia one.ia) all then all else all ++ one ∷ []

-- what lines came to
pub record FoundContent : Type 0 where
  pub ias : List IaConf
  pub shares : List ShareConf

abbrev pub found_content : Found → FoundContent
found_content found = record { ias = found.ias.items; shares = found.shares.items }

-- what associations come to
abbrev pub found_of : (Association → List ShareConf) → List Association → FoundContent
found_of shared all = record { ias = map (λ one. one.ia) all; shares = flat_map shared all }

abbrev pub with_association : (Association → List ShareConf) → Association → FoundContent → FoundContent
with_association shared one found = record { ias = found.ias ++ one.ia ∷ []; shares = found.shares ++ shared one }

-- one line more, of which something is kept or not
abbrev pub with_line : (index : ℕ) → (keeps : IaContent → Bool) → (Association → List ShareConf) → FoundContent
    → IaContent → FoundContent
with_line index keeps shared found line =
    if not (keeps line) || list_any (λ one. is_same_ia one (association index line).ia) found.ias
    then found
    else with_association shared (association index line) found

abbrev pub with_lines : (index : ℕ) → (keeps : IaContent → Bool) → (Association → List ShareConf) → FoundContent
    → List IaContent → FoundContent
with_lines index keeps shared found [] = found
with_lines index keeps shared found (line ∷ lines) =
    with_lines index keeps shared (with_line index keeps shared found line) lines

-- ---- those of an interface

-- its global lines, and then those of its block
abbrev pub lines_of : Subject → List IaContent
lines_of subject = (configuration subject.conf.now).global.ias ++ (scope_content subject.block.now).ias

abbrev pub keeps_in : Subject → IaContent → Bool
keeps_in subject line = is_kept subject.spec.now.index.number (lines_of subject) line

abbrev pub shared_in : Subject → Association → List ShareConf
shared_in subject one = shared_by (configuration subject.conf.now) subject.ifaces.now subject.spec.now.name one

abbrev pub line_in : Subject → FoundContent → IaContent → FoundContent
line_in subject found line = with_line subject.spec.now.index.number (keeps_in subject) (shared_in subject) found line

abbrev pub lines_in : Subject → FoundContent → List IaContent → FoundContent
lines_in subject found lines =
    with_lines subject.spec.now.index.number (keeps_in subject) (shared_in subject) found lines

-- ---- shares of a line

abbrev pub taken_on : List Share → Option Share → List Share
taken_on taken None = taken
taken_on taken (Some share) = taken_with taken share
