-- Each field of a server's message is found among its options.
use Rattle.std.proofs.Common.{◌≡◌, ℕ, ◌<◌, ◌^◌, inl, inr, Bool, true, false, List, [], ◌∷◌, ◌++◌, map, Option, Some, None, refl, ap, ◌∙◌, append_assoc, eqb}
use Rattle.std.specs.Prelude.{IfSome, unwrap_or, is_some, ◌==◌, if◌then◌else◌}
use Rattle.std.specs.Option.{option_map, option_and_then}
use Rattle.std.specs.List.{AllByRecursion, filter_map}
use Rattle.std.proofs.lemmas.Nat.{from_be_bytes-to_be_bytes_4}
use Rattle.net_types.specs.declared.address.Ip6.{Ip6}
use Rattle.net_types.specs.Fields.{u32_octets}
use Rattle.v6_options.specs.declared.ia.IaKind.{IaKind}
use Rattle.v6_options.specs.declared.ia.IaKind.TheVariants.{Na, Pd}
use Rattle.v6_options.specs.OptionArea.{Instance}
use Rattle.v6_options.specs.OptionWalk.{first_of}
use Rattle.v6_options.specs.Ias.{ia_by}
use Rattle.v6_options.proofs.Fronts.{cases_bool}
use Rattle.v6_message.specs.Replies.{preference_by, seconds_by}
use Rattle.server_data6.specs.Spoken.{GivenIa, Reply6}
use Rattle.server_data6.specs.ReplyTexts.{if_said, ia_code, ia_value, ia_option, servers_text, servers_value, rapid_value, Field, reply6_fields, fields_options, reply6_options}

abbrev first_or : Option (List ℕ) → Option (List ℕ) → Option (List ℕ)
first_or None later = later
first_or (Some value) later = Some value

pub or_nothing : (value : Option (List ℕ)) → first_or value None ≡ value
or_nothing None = refl
or_nothing (Some value) = refl

-- the value of a code among fields
abbrev pub look : ℕ → List Field → Option (List ℕ)
look code [] = None
look code (field ∷ fields) = if field.0 == code then first_or field.1 (look code fields) else look code fields

looked_field : (code c : ℕ) (value : Option (List ℕ)) (fields : List Field) (more : List Instance)
    → first_of code (fields_options fields ++ more) ≡ first_or (look code fields) (first_of code more)
    → first_of code (fields_options ((c, value) ∷ fields) ++ more) ≡ first_or (look code ((c, value) ∷ fields)) (first_of code more)
looked_field code c None fields more later =
    elim (cases_bool (eqb c code)) [
      | inl same ↦ rw same later
      | inr other ↦ rw other later
    ]
looked_field code c (Some value) fields more later =
    elim (cases_bool (eqb c code)) [
      | inl same ↦ rw same refl
      | inr other ↦ rw other later
    ]

looked : (code : ℕ) (fields : List Field) (more : List Instance)
    → first_of code (fields_options fields ++ more) ≡ first_or (look code fields) (first_of code more)
looked code [] more = refl
looked code (field ∷ fields) more = looked_field code field.0 field.1 fields more (looked code fields more)

past_ia : (code : ℕ) (kind : IaKind) (value : List ℕ) (more : List Instance) → eqb 3 code ≡ false → eqb 25 code ≡ false
    → first_of code ((ia_code kind, value) ∷ more) ≡ first_of code more
past_ia code Na value more no_na no_pd = rw no_na refl
past_ia code Pd value more no_na no_pd = rw no_pd refl

past_ias : (code : ℕ) (ias : List GivenIa) → eqb 3 code ≡ false → eqb 25 code ≡ false → first_of code (map ia_option ias) ≡ None
past_ias code [] no_na no_pd = refl
past_ias code (ia ∷ ias) no_na no_pd = past_ia code ia.kind (ia_value ia) (map ia_option ias) no_na no_pd ∙ past_ias code ias no_na no_pd

pub field_of : (code : ℕ) (reply : Reply6) → eqb 3 code ≡ false → eqb 25 code ≡ false → first_of code (reply6_options reply) ≡ look code (reply6_fields reply)
field_of code reply no_na no_pd =
    looked code (reply6_fields reply) (map ia_option reply.ias)
    ∙ ap (first_or (look code (reply6_fields reply))) (past_ias code reply.ias no_na no_pd)
    ∙ or_nothing (look code (reply6_fields reply))

-- ---- their values

pub preference_back : (preference : Option ℕ) → preference_by (option_map (λ (value : ℕ). value ∷ []) preference) ≡ unwrap_or preference 0
preference_back None = refl
preference_back (Some value) = refl

pub rapid_back : (rapid : Bool) → is_some (rapid_value rapid) ≡ rapid
rapid_back false = refl
rapid_back true = refl

pub servers_back : (servers : List Ip6) → unwrap_or (servers_value servers) [] ≡ servers_text servers
servers_back [] = refl
servers_back (first ∷ others) = refl

pub seconds_back : (seconds : Option ℕ) → IfSome seconds (λ n. n < 2 ^ 32) → option_and_then seconds_by (option_map u32_octets seconds) ≡ seconds
seconds_back None fits = refl
seconds_back (Some n) fits = ap (λ (k : ℕ). Some k) (from_be_bytes-to_be_bytes_4 n fits)

-- ---- none of them is an IA

abbrev NoIa : Field → Type 0
NoIa field = (value : List ℕ) → ia_by (field.0, value) ≡ None

past_field : (code : ℕ) (value : Option (List ℕ)) (more : List Instance) → NoIa (code, value)
    → filter_map ia_by (if_said code value ++ more) ≡ filter_map ia_by more
past_field code None more none = refl
past_field code (Some value) more none = rw (none value) refl

past_fields : (fields : List Field) (more : List Instance) → AllByRecursion NoIa fields
    → filter_map ia_by (fields_options fields ++ more) ≡ filter_map ia_by more
past_fields [] more none = refl
past_fields (field ∷ fields) more none =
    ap (filter_map ia_by) (append_assoc (if_said field.0 field.1) (fields_options fields) more)
    ∙ past_field field.0 field.1 (fields_options fields ++ more) none.0 ∙ past_fields fields more none.1

pub ias_among : (reply : Reply6) → filter_map ia_by (reply6_options reply) ≡ filter_map ia_by (map ia_option reply.ias)
ias_among reply =
    past_fields (reply6_fields reply) (map ia_option reply.ias)
    (λ value. refl, (λ value. refl, (λ value. refl, (λ value. refl, (λ value. refl, (λ value. refl, (λ value. refl, (λ value. refl, tt))))))))
