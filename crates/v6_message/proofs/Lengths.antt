-- A client's message fits a datagram.
use Rattle.std.proofs.Common.{◌≡◌, ℕ, ◌+◌, ◌*◌, ◌≤◌, Bool, true, false, List, [], ◌∷◌, ◌++◌, length, map, Option, Some, None, refl, arith}
use Rattle.std.specs.Option.{option_map}
use Rattle.std.proofs.lemmas.List.{length-append}
use Rattle.v6_options.specs.declared.duid.Duid.{Duid}
use Rattle.v6_options.specs.declared.ia.IaKind.{IaKind}
use Rattle.v6_options.specs.declared.ia.IaKind.TheVariants.{Na, Pd}
use Rattle.v6_options.specs.OptionArea.{Instance}
use Rattle.v6_options.specs.OptionGrammar.{word_text}
use Rattle.v6_message.specs.declared.kind.Kind6.{Kind6}
use Rattle.v6_message.specs.declared.kind.Kind6.TheVariants.{Solicit, Request, Renew, Rebind, Release, Decline}
use Rattle.v6_message.specs.declared.said.IaAsked.{IaAsked}
use Rattle.v6_message.specs.declared.said.Said6.{Said6}
use Rattle.v6_message.specs.Requests.{asked_content, said_content, item_len, options_text, ia_option, server_options, rapid_options, wanted_in, said_options, message6_text}
use Rattle.v6_message.proofs.OptionLists.{ia_value_len}

-- how long options are
abbrev total : List Instance → ℕ
total [] = 0
total (i ∷ instances) = 4 + length i.1 + total instances

total_is : (instances : List Instance) → length (options_text instances) ≡ total instances
total_is [] = omega arith
total_is (i ∷ instances) =
    let rest = total_is instances in
    let both = length-append i.1 (options_text instances) in
    omega (arith, rest, both)

total_append : (xs ys : List Instance) → total (xs ++ ys) ≡ total xs + total ys
total_append [] ys = omega arith
total_append (x ∷ xs) ys = let rest = total_append xs ys in omega (arith, rest)

server_short : (server : Option Duid) → total (server_options (option_map (λ d. d.bytes.items) server)) ≤ 134
server_short None = omega arith
server_short (Some d) = let most = d.most in omega (arith, most)

rapid_short : (rapid : Bool) → total (rapid_options rapid) ≤ 4
rapid_short false = omega arith
rapid_short true = omega arith

wanted_short : (kind : Kind6) → total (wanted_in kind) ≤ 10
wanted_short Solicit = omega arith
wanted_short Request = omega arith
wanted_short Renew = omega arith
wanted_short Rebind = omega arith
wanted_short Release = omega arith
wanted_short Decline = omega arith

items_short : (n : ℕ) (kind : IaKind) → n ≤ 4 → n * item_len kind ≤ 116
items_short n Na h = omega arith
items_short n Pd h = omega arith

ias_short : (ias : List IaAsked) → total (map ia_option (map asked_content ias)) ≤ 132 * length ias
ias_short [] = omega arith
ias_short (ia ∷ ias) =
    let rest = ias_short ias in
    let size = ia_value_len (asked_content ia) in
    let few = ia.few in
    let items = items_short (length ia.items.items) ia.kind few in
    omega (arith, rest, size, items)

-- the options of a message together
all_options : (client elapsed : List ℕ) (server rapid ias last : List Instance)
    → total ((1, client) ∷ (server ++ ((8, elapsed) ∷ (rapid ++ (ias ++ last)))))
    ≡ 8 + length client + length elapsed + total server + total rapid + total ias + total last
all_options client elapsed server rapid ias last =
    let one = total_append server ((8, elapsed) ∷ (rapid ++ (ias ++ last))) in
    let two = total_append rapid (ias ++ last) in
    let three = total_append ias last in
    omega (arith, one, two, three)

few_ias : (said : Said6) → length said.ias.items ≤ 6
few_ias said = said.few

least_sum : (all text client elapsed server rapid ias last count : ℕ) → text ≡ all → all ≡ 8 + client + elapsed + server + rapid + ias + last
    → client ≤ 130 → elapsed ≡ 2 → server ≤ 134 → rapid ≤ 4 → ias ≤ 132 * count → count ≤ 6 → last ≤ 10 → 4 + text ≤ 1472
least_sum all text client elapsed server rapid ias last count a b c d e f g h i = omega arith

pub said_short : (said : Said6) (client : Duid) → length (message6_text (said_content said client)) ≤ 1472
said_short said client =
    let content = said_content said client in
    let text = length (options_text (said_options content)) in
    let sum =
    least_sum (total (said_options content)) text (length client.bytes.items) 2 (total (server_options content.server)) (total (rapid_options said.rapid))
    (total (map ia_option content.ias)) (total (wanted_in said.kind)) (length said.ias.items)
    (total_is (said_options content))
    (all_options client.bytes.items (word_text said.elapsed) (server_options content.server) (rapid_options said.rapid) (map ia_option content.ias)
    (wanted_in said.kind))
    client.most refl (server_short said.server) (rapid_short said.rapid) (ias_short said.ias.items) (few_ias said) (wanted_short said.kind) in
    omega (arith, sum)
