-- What a scope says with one line more.
use Rattle.std.proofs.Common.{◌≡◌, ℕ, ◌+◌, Bool, true, false, ◌||◌, List, [], ◌∷◌, ◌++◌, filter_map, refl, ap, ◌∙◌, arith}
use Rattle.std.specs.List.{sum_by}
use Rattle.std.proofs.Math.Bool.{or-false}
use Rattle.std.proofs.lemmas.Grind.{common_steps, flat_map-append}
use Rattle.std.proofs.lemmas.List.{append-nil}
use Rattle.std.proofs.lemmas.List.Folds.{list_any-append}
use Rattle.std.proofs.lemmas.List.Sums.{sum_by-append}
use Rattle.conf_directives.specs.declared.names.FlagName.{FlagName}
use Rattle.conf_directives.specs.declared.names.FlagName.TheVariants.{Ipv4Only, Ipv6Only, NoDhcp, NoDhcp6, NoIpv4ll, NoArp, NoDelay, Broadcast, Release, Persistent}
use Rattle.conf_directives.specs.declared.names.SecondsName.{SecondsName}
use Rattle.conf_directives.specs.declared.names.SecondsName.TheVariants.{Timeout, Reboot}
use Rattle.conf_directives.specs.declared.names.CodeList.{CodeList}
use Rattle.conf_directives.specs.declared.names.CodeList.TheVariants.{Asked, Refused, Required}
use Rattle.conf_directives.specs.Contents.{DirectiveContent, CodesContent, StaticContent, Address, Routers, NameServers, DomainName, DomainSearch, Address6}
use Rattle.conf_scopes.specs.Flags.{flags_of, flags_with, with_flag}
use Rattle.conf_scopes.specs.Times.{times_of, times_with, with_seconds}
use Rattle.conf_scopes.specs.Values.{flag_said, seconds_said, metric_said, host_said, vendor_said, identifier_said, codes_said, static_said, ia_said, env_said, blacklist_said}
use Rattle.conf_scopes.specs.Scopes.{codes_together, statics_together, scope_of}
use Rattle.conf_scopes.specs.ScopeSteps.{both_codes, codes_with, with_static, statics_with, scope_with}
use Rattle.conf_text.proofs.ListLaws.{last_found, list_found, lists_found, with_found}

or-true : (b : Bool) → (b || true) ≡ true
or-true true = refl
or-true false = refl

flags_more : (names : List FlagName) (name : FlagName) → flags_of (names ++ name ∷ []) ≡ with_flag name (flags_of names)
flags_more names Ipv4Only = simp (list_any-append, or-false, or-true)
flags_more names Ipv6Only = simp (list_any-append, or-false, or-true)
flags_more names NoDhcp = simp (list_any-append, or-false, or-true)
flags_more names NoDhcp6 = simp (list_any-append, or-false, or-true)
flags_more names NoIpv4ll = simp (list_any-append, or-false, or-true)
flags_more names NoArp = simp (list_any-append, or-false, or-true)
flags_more names NoDelay = simp (list_any-append, or-false, or-true)
flags_more names Broadcast = simp (list_any-append, or-false, or-true)
flags_more names Release = simp (list_any-append, or-false, or-true)
flags_more names Persistent = simp (list_any-append, or-false, or-true)

times_more : (lines : List (SecondsName × ℕ)) (line : SecondsName × ℕ) → times_of (lines ++ line ∷ []) ≡ with_seconds line (times_of lines)
times_more lines (Timeout, seconds) = simp last_found
times_more lines (Reboot, seconds) = simp last_found

sum_one : (said : CodesContent) → sum_by (λ (said : CodesContent). said.words) (said ∷ []) ≡ said.words
sum_one said = grind (arith, common_steps)

codes_more : (lines : List CodesContent) (said : CodesContent) → codes_together (lines ++ said ∷ []) ≡ both_codes (codes_together lines) said
codes_more lines said =
    let words = sum_by-append (λ said. said.words) lines (said ∷ []) ∙ ap (λ n. sum_by (λ (said : CodesContent). said.words) lines + n) (sum_one said) in
    rw words (simp (flat_map-append, list_any-append, append-nil, or-false))

statics_more : (values : List StaticContent) (value : StaticContent) → statics_together (values ++ value ∷ []) ≡ with_static value (statics_together values)
statics_more values (Address net) = simp last_found
statics_more values (Routers addresses) = simp last_found
statics_more values (NameServers addresses) = simp last_found
statics_more values (DomainName name) = simp last_found
statics_more values (DomainSearch names) = simp last_found
statics_more values (Address6 net) = simp last_found

codes_found : (list : CodeList) (lines : List DirectiveContent) (said : DirectiveContent)
    → codes_together (filter_map (codes_said list) (lines ++ said ∷ []))
    ≡ codes_with (codes_together (filter_map (codes_said list) lines)) (codes_said list said)
codes_found list lines said = with_found (codes_said list) codes_together codes_with (λ xs. refl) codes_more lines said

pub scope_more : (lines : List DirectiveContent) (said : DirectiveContent) → scope_of (lines ++ said ∷ []) ≡ scope_with (scope_of lines) said
unfolding scope_with
scope_more lines said =
    let flags = with_found flag_said flags_of flags_with (λ xs. refl) flags_more lines said in
    let times = with_found seconds_said times_of times_with (λ xs. refl) times_more lines said in
    let metric = last_found metric_said lines said in
    let host = last_found host_said lines said in
    let vendor = last_found vendor_said lines said in
    let identifier = last_found identifier_said lines said in
    let asked = codes_found Asked lines said in
    let refused = codes_found Refused lines said in
    let required = codes_found Required lines said in
    let statics = with_found static_said statics_together statics_with (λ xs. refl) statics_more lines said in
    let ias = list_found ia_said lines said in
    let env = list_found env_said lines said in
    let blacklist = lists_found blacklist_said lines said in
    cc
