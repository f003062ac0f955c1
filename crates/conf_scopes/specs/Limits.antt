-- How much a configuration may say. What is said in a block counts together with the global lines.
use Rattle.std.specs.Prelude.{ℕ, ◌+◌, Bool, true, false, ◌||◌, ◌&&◌, ◌==◌, List, length, nat_lt, Option, Some, None}
use Rattle.std.specs.List.{filter_map, list_any, sum_by}
use Rattle.v6_options.specs.declared.ia.IaKind.{IaKind}
use Rattle.v6_options.specs.declared.ia.IaKind.TheVariants.{Na, Pd}
use Rattle.conf_directives.specs.declared.names.CodeList.{CodeList}
use Rattle.conf_directives.specs.declared.names.CodeList.TheVariants.{Asked, Refused, Required}
use Rattle.conf_directives.specs.declared.names.InterfaceList.{InterfaceList}
use Rattle.conf_directives.specs.declared.names.InterfaceList.TheVariants.{Allowed, Denied}
use Rattle.conf_directives.specs.Contents.{DirectiveContent, Codes, Static, Ia, Variable, Blacklist, Interfaces, StaticContent, Routers, NameServers, DomainSearch, IaContent}
use Rattle.conf_scopes.specs.declared.counting.TheConstants.{MOST_WORDS, MOST_IAS, MOST_SHARES, MOST_MEMBERS}
use Rattle.conf_scopes.specs.declared.counting.Counts.{Counts}
use Rattle.conf_scopes.specs.Values.{codes_said, ia_said, env_said, blacklist_said, interfaces_said}

-- ---- what may stand once

abbrev pub is_same_kind : IaKind → IaKind → Bool
is_same_kind Na Na = true
is_same_kind Pd Pd = true
is_same_kind _ _ = false

-- whether the association has this kind and this IAID written
abbrev pub is_ia : IaKind → ℕ → IaContent → Bool
is_ia kind iaid ia = is_same_kind kind ia.kind && has_iaid iaid ia.iaid
  where
    has_iaid : ℕ → Option ℕ → Bool
    has_iaid iaid None = false
    has_iaid iaid (Some other) = iaid == other

abbrev pub repeats_ia : List IaContent → IaKind → Option ℕ → Bool
repeats_ia ias kind None = false
repeats_ia ias kind (Some iaid) = list_any (is_ia kind iaid) ias

-- an association whose kind and written IAID stand already
abbrev pub is_repeated : List IaContent → DirectiveContent → Bool
is_repeated ias (Ia ia) = repeats_ia ias ia.kind ia.iaid
is_repeated ias _ = false

-- ---- what may stand so often

abbrev pub words_in : CodeList → List DirectiveContent → ℕ
words_in list lines = sum_by (λ said. said.words) (filter_map (codes_said list) lines)

abbrev pub patterns_in : InterfaceList → List DirectiveContent → ℕ
patterns_in list lines = sum_by length (filter_map (interfaces_said list) lines)

-- how much of each kind global lines say, and they with those of a block
abbrev pub counts_of : (global lines : List DirectiveContent) → Counts
counts_of global lines = record {
  asked = words_in Asked lines;
  refused = words_in Refused lines;
  required = words_in Required lines;
  ias = length (filter_map ia_said lines);
  env = length (filter_map env_said lines);
  blacklist = sum_by length (filter_map blacklist_said lines);
  allowed = patterns_in Allowed global;
  denied = patterns_in Denied global;
}

abbrev pub words_counted : CodeList → Counts → ℕ
words_counted Asked counts = counts.asked
words_counted Refused counts = counts.refused
words_counted Required counts = counts.required

abbrev pub patterns_counted : InterfaceList → Counts → ℕ
patterns_counted Allowed counts = counts.allowed
patterns_counted Denied counts = counts.denied

abbrev pub members : StaticContent → ℕ
members (Routers addresses) = length addresses
members (NameServers addresses) = length addresses
members (DomainSearch names) = length names
members _ = 1

-- whether one line more says too much, after lines that say so much
abbrev pub is_too_much : Counts → DirectiveContent → Bool
is_too_much counts (Codes list said) = nat_lt MOST_WORDS (words_counted list counts + said.words)
is_too_much counts (Static value) = nat_lt MOST_MEMBERS (members value)
is_too_much counts (Ia ia) = nat_lt MOST_IAS (counts.ias + 1) || nat_lt MOST_SHARES (length ia.shares)
is_too_much counts (Variable env) = nat_lt MOST_WORDS (counts.env + 1)
is_too_much counts (Blacklist nets) = nat_lt MOST_WORDS (counts.blacklist + length nets)
is_too_much counts (Interfaces list patterns) = nat_lt MOST_WORDS (patterns_counted list counts + length patterns)
is_too_much counts _ = false
