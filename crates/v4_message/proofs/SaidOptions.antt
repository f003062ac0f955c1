-- A message that is written holds exactly its options.
use Rattle.std.proofs.Common.{◌≡◌, ℕ, ◌-◌, ◌<◌, false, List, [], ◌∷◌, ◌++◌, length, map, drop, replicate, Option, Some, None, refl, ap, ◌∙◌, append_assoc, arith, eqb}
use Rattle.std.specs.List.{flat_map, AllByRecursion}
use Rattle.std.specs.Int.{w32, to_be_bytes}
use Rattle.std.proofs.lemmas.List.{append-nil, drop_at, length-append}
use Rattle.net_types.specs.declared.address.Ip4.{Ip4}
use Rattle.v4_options.specs.OptionArea.{Instance, instances_in}
use Rattle.v4_options.specs.OptionValue.{pieces}
use Rattle.v4_options.specs.declared.overload.Overload.TheVariants.{Neither}
use Rattle.v4_options.specs.Overload.{overload_in}
use Rattle.v4_options.specs.AreaGrammar.{option, FitsPart, part_instances, IsArea}
use Rattle.v4_options.proofs.AreaLaws.{area_instances, area_whole}
use Rattle.v4_message.specs.declared.writing.Kind4.{Kind4}
use Rattle.v4_message.specs.declared.writing.Kind4.TheVariants.{Discover, Request, Decline, Release}
use Rattle.v4_message.specs.declared.writing.Said4.{Said4}
use Rattle.v4_message.specs.Message.{options_area, message_instances, malformed_place}
use Rattle.v4_message.specs.Requests.{AskContent, AskFits, address_option, text_option, number_of_kind, asked_for, asked_for_in, said_options, option_part, options_text, fixed_fields, message_text, padded}

-- an option that fits the grammar and isn't the overload
abbrev IsPlain : Instance → Type 0
IsPlain i = (eqb i.0 52 ≡ false) × FitsPart (option i.0 i.1)

abbrev ArePlain : List Instance → Type 0
ArePlain instances = AllByRecursion IsPlain instances

plain_append : (xs ys : List Instance) → ArePlain xs → ArePlain ys → ArePlain (xs ++ ys)
plain_append [] ys p q = q
plain_append (x ∷ xs) ys p q = (p.0, plain_append xs ys p.1 q)

plain : (code : ℕ) (value : List ℕ) → eqb code 52 ≡ false → 0 < code → code < 255 → length value < 256 → IsPlain (code, value)
plain code value other some below short = (other, (λ e. omega arith, λ e. omega arith, short))

plain_address : (code : ℕ) (address : Option Ip4) → eqb code 52 ≡ false → 0 < code → code < 255 → ArePlain (address_option code address)
plain_address code None other some below = tt
plain_address code (Some address) other some below = (plain code (to_be_bytes w32 address.number) other some below (omega arith), tt)

plain_text : (code : ℕ) (text : List ℕ) → eqb code 52 ≡ false → 0 < code → code < 255 → length text < 256 → ArePlain (text_option code text)
plain_text code [] other some below short = tt
plain_text code (b ∷ text) other some below short = (plain code (b ∷ text) other some below short, tt)

plain_asked : (ask : AskContent) → AskFits ask → ArePlain (asked_for ask)
plain_asked ask fits = (
  plain 57 (5 ∷ 192 ∷ []) refl (omega arith) (omega arith) (omega arith),
  plain_append (text_option 60 ask.vendor ++ text_option 12 ask.host) ((55, ask.list) ∷ [])
      (plain_append (text_option 60 ask.vendor) (text_option 12 ask.host)
      (plain_text 60 ask.vendor refl (omega arith) (omega arith) fits.vendor)
      (plain_text 12 ask.host refl (omega arith) (omega arith) fits.host))
      (plain 55 ask.list refl (omega arith) (omega arith) fits.list, tt),
)

plain_asked_in : (kind : Kind4) (ask : AskContent) → AskFits ask → ArePlain (asked_for_in kind ask)
plain_asked_in Discover ask fits = plain_asked ask fits
plain_asked_in Request ask fits = plain_asked ask fits
plain_asked_in Decline ask fits = tt
plain_asked_in Release ask fits = tt

plain_said : (said : Said4) (ask : AskContent) → AskFits ask → ArePlain (said_options said ask)
plain_said said ask fits = (
  plain 53 (number_of_kind said.kind ∷ []) refl (omega arith) (omega arith) (omega arith),
  (
    plain 61 ask.client_id refl (omega arith) (omega arith) fits.client_id,
    plain_append (address_option 50 said.asked ++ address_option 54 said.server) (asked_for_in said.kind ask)
        (plain_append (address_option 50 said.asked) (address_option 54 said.server)
        (plain_address 50 said.asked refl (omega arith) (omega arith))
        (plain_address 54 said.server refl (omega arith) (omega arith)))
        (plain_asked_in said.kind ask fits),
  ),
)

parts_fit : (instances : List Instance) → ArePlain instances → AllByRecursion FitsPart (map option_part instances)
parts_fit [] p = tt
parts_fit (i ∷ instances) p = (p.0.1, parts_fit instances p.1)

parts_instances : (instances : List Instance) → flat_map part_instances (map option_part instances) ≡ instances
parts_instances [] = refl
parts_instances (i ∷ instances) = ap (λ (more : List Instance). i ∷ more) (parts_instances instances)

no_overload : (instances : List Instance) → ArePlain instances → pieces 52 instances ≡ []
no_overload [] p = refl
no_overload (i ∷ instances) p = rw p.0.0 (no_overload instances p.1)

pub fixed_len : (said : Said4) → length said.mac.bytes ≡ 6 → length (fixed_fields said) ≡ 240
fixed_len said mac = simp length-append (omega (arith, mac))

-- what stands after the fixed fields
area_said : (said : Said4) (ask : AskContent) → length (fixed_fields said) ≡ 240
    → options_area (padded (message_text said ask)) ≡ options_text (said_options said ask) ++ (255 ∷ replicate (300 - length (message_text said ask)) 0)
area_said said ask fixed =
    let zeros = replicate (300 - length (message_text said ask)) 0 in
    let grouped : padded (message_text said ask) ≡ fixed_fields said ++ (options_text (said_options said ask) ++ (255 ∷ zeros)) =
    append_assoc (fixed_fields said ++ options_text (said_options said ask)) (255 ∷ []) zeros
    ∙ append_assoc (fixed_fields said) (options_text (said_options said ask)) (255 ∷ zeros) in
    ap (λ (bytes : List ℕ). drop 240 bytes) grouped
    ∙ drop_at (fixed_fields said) (options_text (said_options said ask) ++ (255 ∷ zeros)) 240 fixed

is_area : (said : Said4) (ask : AskContent) → AskFits ask → length (fixed_fields said) ≡ 240
    → IsArea (options_area (padded (message_text said ask))) (map option_part (said_options said ask))
is_area said ask fits fixed = record {
  rest = 255 ∷ replicate (300 - length (message_text said ask)) 0;
  text = area_said said ask fixed;
  fit = parts_fit (said_options said ask) (plain_said said ask fits);
  ends = refl;
}

area_holds : (said : Said4) (ask : AskContent) → AskFits ask → length (fixed_fields said) ≡ 240
    → instances_in (options_area (padded (message_text said ask))) ≡ said_options said ask
area_holds said ask fits fixed =
    area_instances (options_area (padded (message_text said ask))) (map option_part (said_options said ask)) (is_area said ask fits fixed)
    ∙ parts_instances (said_options said ask)

not_overloaded : (said : Said4) (ask : AskContent) → AskFits ask → length (fixed_fields said) ≡ 240
    → overload_in (options_area (padded (message_text said ask))) ≡ Neither
unfolding overload_in
not_overloaded said ask fits fixed = rw (area_holds said ask fits fixed, no_overload (said_options said ask) (plain_said said ask fits)) refl

pub said_is_read : (said : Said4) (ask : AskContent) → AskFits ask → length (fixed_fields said) ≡ 240
    → message_instances (padded (message_text said ask)) ≡ said_options said ask
unfolding message_instances
said_is_read said ask fits fixed =
    rw (not_overloaded said ask fits fixed, area_holds said ask fits fixed) (append-nil (said_options said ask ++ []) ∙ append-nil (said_options said ask))

pub said_is_whole : (said : Said4) (ask : AskContent) → AskFits ask → length (fixed_fields said) ≡ 240 → malformed_place (padded (message_text said ask)) ≡ None
unfolding malformed_place
said_is_whole said ask fits fixed =
    rw (
      not_overloaded said ask fits fixed,
      area_whole 240 (options_area (padded (message_text said ask))) (map option_part (said_options said ask)) (is_area said ask fits fixed),
    )
    refl
