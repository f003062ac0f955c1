-- The value of each option has the form that its code tells.
use Rattle.std.proofs.Common.{◌≡◌, ◌≢◌, ℕ, zero, suc, ◌%◌, ◌/◌, ◌+◌, ◌^◌, ◌<◌, true, ◌&&◌, List, [], ◌∷◌, map, length, Option, Some, None, refl, arith, eqb, ltb, decimal}
use Rattle.std.proofs.lemmas.Bool.{and_parts, eqb-true, false≢true, ltb-true}
use Rattle.std.specs.Prelude.{IfSome}
use Rattle.std.specs.Option.{option_and_then, option_map}
use Rattle.hook_env.specs.Lists.{listed, route_text}
use Rattle.hook_env.specs.ValueTexts.{names6_text, servers6_text, value_text}
use Rattle.v4_options.specs.declared.form.ValueForm.{ValueForm}
use Rattle.v4_options.specs.declared.form.ValueForm.TheVariants.{Address, Addresses, Number16, Number32, DomainName, DomainNames, Routes, Opaque}
use Rattle.net_types.proofs.CaseLaws.{gated}
use Rattle.net_types.specs.AddressText.{ip4_text, ip6_text}
use Rattle.net_types.specs.declared.address.Ip4.{Ip4}
use Rattle.net_types.specs.declared.address.Ip6.{Ip6}
use Rattle.v4_options.specs.declared.routes.ClasslessRoute.{ClasslessRoute}
use Rattle.v4_options.specs.Numbers.{addr_in, address, addresses, addrs_in, u16_in, u32_in}
use Rattle.v4_options.specs.Routes.{all_routes, has_route, route_of, routes_after, routes_in, sent_bytes}
use Rattle.v6_options.specs.Readers.{addresses_in, dns6_in, search6_in}
use Rattle.domain_names.specs.SearchList.{search_in}
use Rattle.safe_texts.specs.Grammars.{Form, HasForm, HasGrammar, IsListOf, One, Several, Number, Address4, Route4, Address6}
use Rattle.safe_texts.specs.Grammars as grammar
use Rattle.safe_texts.specs.SafeVariables.{option_form}
use Rattle.safe_texts.proofs.NumberTexts.{chosen_by, decimal_made}
use Rattle.safe_texts.proofs.AddressBytes.{ip4_made, ip6_made, route_made}
use Rattle.safe_texts.proofs.DomainTexts.{AreSomeNames, search6_named, search_named, text_named}
use Rattle.safe_texts.proofs.TextLists.{values_listed}

-- what holds of each value that is read holds of its text
abbrev pub Filled : {A : Type 0} → List A → Type 0
Filled xs = xs ≢ []

pub of_read : {A : Type 0} (P : A → Type 0) (Q : List ℕ → Type 0) (text_of : A → List ℕ) → ((x : A) → P x → Q (text_of x)) → (found : Option A) → IfSome found P
    → IfSome (option_map text_of found) Q
of_read P Q text_of each None h = tt
of_read P Q text_of each (Some x) h = each x h

any_read : {A : Type 0} (Q : List ℕ → Type 0) (text_of : A → List ℕ) → ((x : A) → Q (text_of x)) → (found : Option A) → IfSome (option_map text_of found) Q
any_read Q text_of each None = tt
any_read Q text_of each (Some x) = each x

filled : {A : Type 0} (x : A) (xs : List A) → x ∷ xs ≢ []
filled x xs e = absurd cc

-- ---- one value or more

addresses_some : (value : List ℕ) → (ltb 0 (length value) && eqb (length value % 4) 0) ≡ true → addresses value ≢ []
unfolding addresses
addresses_some [] e = absurd (false≢true e)
addresses_some (a ∷ []) e = absurd (false≢true e)
addresses_some (a ∷ b ∷ []) e = absurd (false≢true e)
addresses_some (a ∷ b ∷ c ∷ []) e = absurd (false≢true e)
addresses_some (a ∷ b ∷ c ∷ d ∷ rest) e = filled (address (a ∷ b ∷ c ∷ d ∷ [])) (addresses rest)

pub addrs_some : (value : List ℕ) → IfSome (addrs_in value) Filled
addrs_some value =
    chosen_by (λ (o : Option (List Ip4)). IfSome o Filled) (ltb 0 (length value) && eqb (length value % 4) 0) (Some (addresses value)) None
    (addresses_some value) (λ e. tt)

more_some : {A : Type 0} (x : A) (found : Option (List A)) → IfSome (option_map (λ xs. x ∷ xs) found) Filled
more_some x None = tt
more_some x (Some xs) = filled x xs

pub routes_some : (value : List ℕ) → IfSome (routes_in value) Filled
unfolding all_routes
routes_some [] = tt
routes_some (width ∷ rest) =
    gated (λ (o : Option (List ClasslessRoute)). IfSome o Filled) (ltb 0 (length (width ∷ rest))) (routes_after 0 (width ∷ rest)) None
    (gated (λ (o : Option (List ClasslessRoute)). IfSome o Filled) (has_route width rest)
    (option_map (λ routes. route_of width rest ∷ routes) (routes_after (sent_bytes width + 4) rest)) None
    (more_some (route_of width rest) (routes_after (sent_bytes width + 4) rest)) tt) tt

counted_some : (count : ℕ) (value : List ℕ) → 0 < count → addresses_in count value ≢ []
counted_some zero value some = absurd (omega arith)
counted_some (suc count) value some = filled _ _

sixteen : (n : ℕ) → (ltb 0 n && eqb (n % 16) 0) ≡ true → 0 < n / 16
sixteen n e =
    let parts = and_parts (ltb 0 n) (eqb (n % 16) 0) e in
    let some : 0 < n = ltb-true 0 n parts.0 in
    let whole : n % 16 ≡ 0 = eqb-true (n % 16) 0 parts.1 in
    omega arith

pub dns6_some : (value : List ℕ) → IfSome (dns6_in value) Filled
dns6_some value =
    chosen_by (λ (o : Option (List Ip6)). IfSome o Filled) (ltb 0 (length value) && eqb (length value % 16) 0)
    (Some (addresses_in (length value / 16) value)) None
    (λ e. counted_some (length value / 16) value (sixteen (length value) e)) (λ e. tt)

-- ---- the texts

pub names_listed : (names : List (List ℕ)) → AreSomeNames names → IsListOf (HasGrammar grammar.DomainName) (listed names)
names_listed names are = record { texts = names; some = are.some; listed = refl; each = are.each }

pub value_formed : (form : ValueForm) (value : List ℕ) → IfSome (value_text form value) (HasForm (option_form form))
value_formed Address value = any_read (HasForm (One Address4)) ip4_text ip4_made (addr_in value)
value_formed Addresses value =
    of_read Filled (IsListOf (HasGrammar Address4)) (λ (found : List Ip4). listed (map ip4_text found)) (values_listed (HasGrammar Address4) ip4_text ip4_made)
    (addrs_in value)
    (addrs_some value)
value_formed Number16 value = any_read (HasForm (One (Number (2 ^ 16)))) decimal decimal_made (u16_in value)
value_formed Number32 value = any_read (HasForm (One (Number (2 ^ 32)))) decimal decimal_made (u32_in value)
value_formed DomainName value = text_named value
value_formed DomainNames value = of_read AreSomeNames (IsListOf (HasGrammar grammar.DomainName)) listed names_listed (search_in value) (search_named value)
value_formed Routes value =
    of_read Filled (IsListOf (HasGrammar Route4)) (λ (routes : List ClasslessRoute). listed (map route_text routes))
    (values_listed (HasGrammar Route4) route_text route_made)
    (routes_in value) (routes_some value)
value_formed Opaque value = tt

pub servers6_formed : (value : List ℕ) → IfSome (servers6_text value) (IsListOf (HasGrammar Address6))
servers6_formed value =
    of_read Filled (IsListOf (HasGrammar Address6)) (λ (servers : List Ip6). listed (map ip6_text servers))
    (values_listed (HasGrammar Address6) ip6_text ip6_made) (dns6_in value)
    (dns6_some value)

pub names6_formed : (value : List ℕ) → IfSome (names6_text value) (IsListOf (HasGrammar grammar.DomainName))
names6_formed value = of_read AreSomeNames (IsListOf (HasGrammar grammar.DomainName)) listed names_listed (search6_in value) (search6_named value)

-- of a value, where there is one
pub found_formed : (Q : List ℕ → Type 0) (reading : List ℕ → Option (List ℕ)) → ((value : List ℕ) → IfSome (reading value) Q) → (found : Option (List ℕ))
    → IfSome (option_and_then reading found) Q
found_formed Q reading each None = tt
found_formed Q reading each (Some value) = each value
