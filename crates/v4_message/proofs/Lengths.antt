-- A client's message fits the largest datagram.
use Rattle.std.proofs.Common.{◌≡◌, ℕ, ◌+◌, ◌-◌, ◌<◌, ◌≤◌, List, [], ◌∷◌, ◌++◌, length, replicate, Option, Some, None, refl, arith}
use Rattle.std.proofs.lemmas.List.{length-append, length-replicate}
use Rattle.net_types.specs.declared.address.Ip4.{Ip4}
use Rattle.v4_options.specs.OptionArea.{Instance}
use Rattle.v4_message.specs.Requests.{AskContent, AskFits, address_option, text_option, asked_for, asked_for_in, said_options, options_text, fixed_fields, message_text, padded}
use Rattle.v4_message.specs.declared.writing.Kind4.{Kind4}
use Rattle.v4_message.specs.declared.writing.Kind4.TheVariants.{Discover, Request, Decline, Release}
use Rattle.v4_message.specs.declared.writing.Said4.{Said4}

-- each option takes its code, its length and its value
abbrev bytes_of : List Instance → ℕ
bytes_of [] = 0
bytes_of (i ∷ instances) = 2 + length i.1 + bytes_of instances

text_len : (instances : List Instance) → length (options_text instances) ≡ bytes_of instances
text_len [] = refl
text_len (i ∷ instances) =
    let rest = text_len instances in
    let both = length-append i.1 (options_text instances) in
    omega (arith, rest, both)

bytes_append : (xs ys : List Instance) → bytes_of (xs ++ ys) ≡ bytes_of xs + bytes_of ys
bytes_append [] ys = omega arith
bytes_append (x ∷ xs) ys =
    let rest = bytes_append xs ys in
    omega (arith, rest)

address_most : (code : ℕ) (address : Option Ip4) → bytes_of (address_option code address) ≤ 6
address_most code None = omega arith
address_most code (Some address) = omega arith

text_most : (code : ℕ) (text : List ℕ) → length text < 256 → bytes_of (text_option code text) ≤ 257
text_most code [] h = omega arith
text_most code (b ∷ text) h = omega arith

asked_most : (ask : AskContent) → AskFits ask → bytes_of (asked_for ask) ≤ 775
asked_most ask fits =
    let vendor = text_most 60 ask.vendor fits.vendor in
    let host = text_most 12 ask.host fits.host in
    let list = fits.list in
    let three = bytes_append (text_option 60 ask.vendor ++ text_option 12 ask.host) ((55, ask.list) ∷ []) in
    let two = bytes_append (text_option 60 ask.vendor) (text_option 12 ask.host) in
    omega (arith, vendor, host, list, three, two)

asked_in_most : (kind : Kind4) (ask : AskContent) → AskFits ask → bytes_of (asked_for_in kind ask) ≤ 775
asked_in_most Discover ask fits = asked_most ask fits
asked_in_most Request ask fits = asked_most ask fits
asked_in_most Decline ask fits = omega arith
asked_in_most Release ask fits = omega arith

options_most : (said : Said4) (ask : AskContent) → AskFits ask → length (options_text (said_options said ask)) ≤ 1050
options_most said ask fits =
    let client = fits.client_id in
    let asked = address_most 50 said.asked in
    let server = address_most 54 said.server in
    let more = asked_in_most said.kind ask fits in
    let three = bytes_append (address_option 50 said.asked ++ address_option 54 said.server) (asked_for_in said.kind ask) in
    let two = bytes_append (address_option 50 said.asked) (address_option 54 said.server) in
    let all = text_len (said_options said ask) in
    omega (arith, client, asked, server, more, three, two, all)

pub message_most : (said : Said4) (ask : AskContent) → AskFits ask → length (fixed_fields said) ≡ 240 → length (padded (message_text said ask)) ≤ 1472
message_most said ask fits fixed =
    let options = options_most said ask fits in
    let whole = length-append (fixed_fields said ++ options_text (said_options said ask)) (255 ∷ []) in
    let front = length-append (fixed_fields said) (options_text (said_options said ask)) in
    let both = length-append (message_text said ask) (replicate (300 - length (message_text said ask)) 0) in
    let zeros = length-replicate {A = ℕ} (300 - length (message_text said ask)) 0 in
    omega (arith, options, whole, front, both, zeros, fixed)
