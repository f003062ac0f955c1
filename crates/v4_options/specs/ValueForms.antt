-- The form that the value of an option must have (RFC 2132, RFC 3397, RFC 3442).
use Rattle.std.specs.Prelude.{ℕ, Bool, true, List}
use Rattle.std.specs.Option.{is_some}
use Rattle.domain_names.specs.NameText.{text_in}
use Rattle.domain_names.specs.SearchList.{search_in}
use Rattle.v4_options.specs.Numbers.{addr_in, addrs_in, u16_in, u32_in}
use Rattle.v4_options.specs.OptionTable.{form_of}
use Rattle.v4_options.specs.Routes.{routes_in}
use Rattle.v4_options.specs.declared.form.ValueForm.{ValueForm}
use Rattle.v4_options.specs.declared.form.ValueForm.TheVariants.{Address, Addresses, Number16, Number32, DomainName, DomainNames, Routes, Opaque}

abbrev pub has_form : ValueForm → List ℕ → Bool
has_form Address value = is_some (addr_in value)
has_form Addresses value = is_some (addrs_in value)
has_form Number16 value = is_some (u16_in value)
has_form Number32 value = is_some (u32_in value)
has_form DomainName value = is_some (text_in value)
has_form DomainNames value = is_some (search_in value)
has_form Routes value = is_some (routes_in value)
has_form Opaque value = true

abbrev pub is_well_formed : (code : ℕ) → List ℕ → Bool
is_well_formed code value = has_form (form_of code) value
