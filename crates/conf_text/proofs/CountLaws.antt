-- How much global lines and those of a block say together.
use Rattle.std.proofs.Common.{◌≡◌, ◌+◌, List, [], ◌++◌, length, filter_map, Option, sym, ap, ◌∙◌, add-zero, length-append}
use Rattle.std.specs.List.{flat_map, sum_by}
use Rattle.std.proofs.lemmas.List.{append-nil}
use Rattle.std.proofs.lemmas.List.Concat.{length-flat_map}
use Rattle.std.proofs.lemmas.List.Elements.{filter_map-append}
use Rattle.std.proofs.lemmas.List.Sums.{sum_by-append}
use Rattle.conf_directives.specs.declared.names.CodeList.{CodeList}
use Rattle.conf_directives.specs.declared.names.CodeList.TheVariants.{Asked, Refused, Required}
use Rattle.conf_directives.specs.declared.names.InterfaceList.{InterfaceList}
use Rattle.conf_directives.specs.declared.names.InterfaceList.TheVariants.{Allowed, Denied}
use Rattle.conf_directives.specs.Contents.{DirectiveContent, CodesContent}
use Rattle.conf_scopes.specs.declared.counting.Counts.{Counts}
use Rattle.conf_text.specs.Configurations.{interfaces_of}
use Rattle.conf_text.specs.Faults.{cause_from, cause_of}
use Rattle.conf_scopes.specs.Limits.{counts_of, words_in, patterns_in}
use Rattle.conf_scopes.specs.Scopes.{scope_of}
use Rattle.conf_scopes.specs.ScopeSteps.{both_counts, scope_counts}
use Rattle.conf_scopes.specs.Values.{codes_said, ia_said, env_said, blacklist_said, interfaces_said}

words_join : (list : CodeList) (global block : List DirectiveContent) → words_in list global + words_in list block ≡ words_in list (global ++ block)
words_join list global block =
    sym
    (ap (sum_by (λ (said : CodesContent). said.words)) (filter_map-append (codes_said list) global block)
    ∙ sum_by-append (λ (said : CodesContent). said.words) (filter_map (codes_said list) global) (filter_map (codes_said list) block))

found_join : {X : Type 0} (f : DirectiveContent → Option X) (global block : List DirectiveContent)
    → length (filter_map f global) + length (filter_map f block) ≡ length (filter_map f (global ++ block))
found_join f global block = sym (ap length (filter_map-append f global block) ∙ length-append (filter_map f global) (filter_map f block))

lists_length : {X : Type 0} (lists : List (List X)) → length (flat_map (λ (list : List X). list) lists) ≡ sum_by length lists
lists_length {X} lists = length-flat_map (λ (list : List X). list) lists

blacklist_join : (global block : List DirectiveContent)
    → length (flat_map (λ nets. nets) (filter_map blacklist_said global)) + length (flat_map (λ nets. nets) (filter_map blacklist_said block))
    ≡ sum_by length (filter_map blacklist_said (global ++ block))
blacklist_join global block =
    ap (λ n. n + length (flat_map (λ nets. nets) (filter_map blacklist_said block))) (lists_length (filter_map blacklist_said global))
    ∙ ap (λ n. sum_by length (filter_map blacklist_said global) + n) (lists_length (filter_map blacklist_said block))
    ∙ sym
    (ap (sum_by length) (filter_map-append blacklist_said global block)
    ∙ sum_by-append length (filter_map blacklist_said global) (filter_map blacklist_said block))

patterns_counted_so : (list : InterfaceList) (global : List DirectiveContent) → length (interfaces_of list global) + 0 ≡ patterns_in list global
patterns_counted_so list global = add-zero (length (interfaces_of list global)) ∙ lists_length (filter_map (interfaces_said list) global)

-- what global lines count
abbrev pub global_counts : List DirectiveContent → Counts
global_counts global =
    record (scope_counts (scope_of global)) { allowed = length (interfaces_of Allowed global); denied = length (interfaces_of Denied global) }

pub counts_join : (global block : List DirectiveContent)
    → both_counts (global_counts global) (scope_counts (scope_of block)) ≡ counts_of global (global ++ block)
counts_join global block =
    let asked = words_join Asked global block in
    let refused = words_join Refused global block in
    let required = words_join Required global block in
    let ias = found_join ia_said global block in
    let env = found_join env_said global block in
    let blacklist = blacklist_join global block in
    let allowed = patterns_counted_so Allowed global in
    let denied = patterns_counted_so Denied global in
    cc

pub cause_join : (global block : List DirectiveContent) (said : DirectiveContent)
    → cause_from ((scope_of global).ias ++ (scope_of block).ias) (both_counts (global_counts global) (scope_counts (scope_of block))) said
    ≡ cause_of global (global ++ block) said
cause_join global block said =
    ap (λ ias. cause_from ias (both_counts (global_counts global) (scope_counts (scope_of block))) said) (sym (filter_map-append ia_said global block))
    ∙ ap (λ counts. cause_from (filter_map ia_said (global ++ block)) counts said) (counts_join global block)

pub cause_alone : (global : List DirectiveContent) (said : DirectiveContent)
    → cause_from ((scope_of global).ias ++ (scope_of []).ias) (both_counts (global_counts global) (scope_counts (scope_of []))) said
    ≡ cause_of global global said
cause_alone global said = cause_join global [] said ∙ ap (λ (lines : List DirectiveContent). cause_of global lines said) (append-nil global)
