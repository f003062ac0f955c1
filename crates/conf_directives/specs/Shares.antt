-- Identity associations, and shares of the prefixes that they delegate (RFC 8415, section 6.3).
use Rattle.std.specs.Prelude.{ℕ, ◌^◌, Bool, nat_le, List, [], ◌∷◌, flat_map, filter_map, Option, Some, None, option_map, if◌then◌else◌}
use Rattle.std.specs.List.{cons_option}
use Rattle.net_types.specs.Cutting.{◌>>=◌, guarded, read_all, split_at_byte}
use Rattle.net_types.specs.Ip6Text.{ip6_at}
use Rattle.net_types.specs.NameText.{name_at}
use Rattle.net_types.specs.Numbers.{number_at}
use Rattle.prefix_share.specs.declared.share.Share.{Share}
use Rattle.prefix_share.specs.Rules.{is_plan}
use Rattle.v6_options.specs.declared.ia.IaKind.{IaKind}
use Rattle.v6_options.specs.declared.ia.IaKind.TheVariants.{Na, Pd}
use Rattle.conf_directives.specs.declared.values.ShareLine.{ShareLine}
use Rattle.conf_directives.specs.declared.shares.Asked.{Asked}
use Rattle.conf_directives.specs.declared.shares.TheConstants.{LEAST_HINT, LEN_LIMIT, USUAL_LEN}
use Rattle.conf_values.specs.Words.{slash, slash_parts}
use Rattle.conf_directives.specs.Contents.{IaContent, SaidContent, taken}
use Rattle.conf_directives.specs.Contents as contents

-- a number of 32 bits: an IAID, an SLA id
abbrev pub id_at : List ℕ → Option ℕ
id_at text = number_at (2 ^ 32) text

-- ---- shares

abbrev pub share_of : (name : List ℕ) → Option ℕ → ℕ → Option ShareLine
share_of name sla len = option_map (λ interface. record { name = interface; sla = sla; len = len }) (name_at name)

abbrev pub len_at : List ℕ → Option ℕ
len_at text = guarded (nat_le 1) (number_at LEN_LIMIT text)

abbrev pub share_with : (name sla len : List ℕ) → Option ShareLine
share_with name sla len = do
  id ← id_at sla
  bits ← len_at len
  share_of name (Some id) bits

-- the name of an interface, its SLA id, the length of its prefix, and a part that isn't taken
abbrev pub share_by : List (List ℕ) → Option ShareLine
share_by (name ∷ []) = share_of name None USUAL_LEN
share_by (name ∷ sla ∷ []) = id_at sla >>= λ id. share_of name (Some id) USUAL_LEN
share_by (name ∷ sla ∷ len ∷ []) = share_with name sla len
share_by (name ∷ sla ∷ len ∷ more ∷ []) = share_with name sla len
share_by _ = None

abbrev pub share : List ℕ → Option ShareLine
share word = share_by (slash_parts word)

-- what stands after the third slash
abbrev pub fourth_part : List ℕ → Option (List ℕ)
fourth_part word = do
  name ← split_at_byte slash word
  sla ← split_at_byte slash name.1
  len ← split_at_byte slash sla.1
  Some len.1

abbrev pub left_over : List ℕ → List (List ℕ)
left_over word = cons_option (fourth_part word) []

-- ---- identity associations

-- an IAID, and the length of the prefix that is asked for, 0 for none; its other bits aren't asked for
abbrev pub asked : ℕ → ℕ → Asked
asked iaid hint = record { iaid = iaid; hint = hint }

abbrev pub hint_at : (prefix len : List ℕ) → Option ℕ
hint_at prefix len = do
  address ← ip6_at prefix
  guarded (nat_le LEAST_HINT) (number_at LEN_LIMIT len)

abbrev pub asked_by : List (List ℕ) → Option Asked
asked_by (iaid ∷ []) = do
  id ← id_at iaid
  Some (asked id 0)
asked_by (iaid ∷ prefix ∷ len ∷ []) = do
  id ← id_at iaid
  hint ← hint_at prefix len
  Some (asked id hint)
asked_by _ = None

abbrev pub ia : IaKind → Option ℕ → (hint : ℕ) → List ShareLine → IaContent
ia kind iaid hint shares = record { kind = kind; iaid = iaid; hint = hint; shares = shares }

-- addresses are asked for by an IAID alone
abbrev pub addresses : List (List ℕ) → Option IaContent
addresses [] = Some (ia Na None 0 [])
addresses (text ∷ []) = option_map (λ id. ia Na (Some id) 0 []) (id_at text)
addresses _ = None

-- the rules judge shares whose SLA ids are written
abbrev pub planned : (hint : ℕ) → ShareLine → Option Share
planned hint line = option_map (λ sla. record { name = line.name; sla = sla; len = line.len; hint = hint }) line.sla

abbrev pub are_planned : (hint : ℕ) → List ShareLine → Bool
are_planned hint shares = is_plan (filter_map (planned hint) shares)

abbrev pub prefix : Asked → List ShareLine → IaContent
prefix asked shares = ia Pd (Some asked.iaid) asked.hint shares

abbrev pub prefix_by : List (List ℕ) → Asked → List ShareLine → Option SaidContent
prefix_by words asked shares =
    if are_planned asked.hint shares
    then Some (record { directive = Some (contents.Ia (prefix asked shares)); notices = flat_map left_over words })
    else None

-- what is asked for, then shares of it
abbrev pub prefixes : List (List ℕ) → Option SaidContent
prefixes [] = Some (taken (contents.Ia (ia Pd None 0 [])))
prefixes (text ∷ words) = do
  asked ← asked_by (slash_parts text)
  shares ← read_all share words
  prefix_by words asked shares
