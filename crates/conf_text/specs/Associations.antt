-- Which identity associations are asked for on an interface (RFC 8415, section 12).
use Rattle.std.specs.Prelude.{ℕ, Bool, not, ◌&&◌, ◌||◌, ◌==◌, List, [], ◌∷◌, map, unwrap_or}
use Rattle.std.specs.List.{filter, list_any}
use Rattle.std.specs.Option.{is_some}
use Rattle.settings.specs.declared.dhcp6_conf.IaConf.{IaConf}
use Rattle.conf_directives.specs.declared.values.ShareLine.{ShareLine}
use Rattle.conf_directives.specs.Contents.{IaContent}
use Rattle.conf_scopes.specs.Limits.{is_ia, is_same_kind}

-- what is asked for, and the shares of its line
pub record Association : Type 0 where
  pub ia : IaConf
  pub shares : List ShareLine

-- one whose IAID isn't written has the interface's index
abbrev pub ia_with : (index : ℕ) → IaContent → IaConf
ia_with index line = record { kind = line.kind; iaid = unwrap_or line.iaid index; hint = line.hint }

abbrev pub association : (index : ℕ) → IaContent → Association
association index line = record { ia = ia_with index line; shares = line.shares }

-- one whose IAID isn't written goes where the index is written as the IAID of another of its kind, before or after it
abbrev pub is_kept : (index : ℕ) → (lines : List IaContent) → IaContent → Bool
is_kept index lines line = is_some line.iaid || not (list_any (is_ia line.kind index) lines)

abbrev pub is_same_ia : IaConf → IaConf → Bool
is_same_ia one other = is_same_kind one.kind other.kind && one.iaid == other.iaid

-- of those that are the same the first
abbrev pub each_once : List Association → List Association
each_once [] = []
each_once (first ∷ others) = first ∷ filter (λ other. not (is_same_ia first.ia other.ia)) (each_once others)

-- lines of `ia_na` and `ia_pd` come to these, in their order
abbrev pub associations : (index : ℕ) → (lines : List IaContent) → List Association
associations index lines = each_once (map (association index) (filter (is_kept index lines) lines))

abbrev pub ias_of : (index : ℕ) → (lines : List IaContent) → List IaConf
ias_of index lines = map (λ one. one.ia) (associations index lines)
