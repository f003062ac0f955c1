-- Which variables a hook is given of an event, their forms, and that the values are made of the bytes of these
-- (dhcpcd-run-hooks(8)).
use Rattle.std.specs.Prelude.{ℕ, ◌^◌, ◌≡◌, true, List, [], ◌∷◌, ◌++◌, codes}
use Rattle.std.specs.List.{AllByRecursion, Contains}
use Rattle.net_types.specs.Marks.{IsPrintable}
use Rattle.net_types.specs.NameText.{FitsName}
use Rattle.v4_options.specs.declared.form.ValueForm.{ValueForm}
use Rattle.v4_options.specs.declared.form.ValueForm.TheVariants as values
use Rattle.v4_options.specs.declared.table.OptionRow.{OptionRow}
use Rattle.v4_options.specs.declared.table.TheConstants.{OPTIONS}
use Rattle.v4_options.specs.OptionTable.{option_name}
use Rattle.world.specs.HookCalls.{Variable}
use Rattle.hook_env.specs.declared.situation.Stage.{Stage}
use Rattle.hook_env.specs.Jobs.{made_variables}
use Rattle.hook_env.specs.Situations.{SituationContent}
use Rattle.hook_env.specs.Stages.{prefix}
use Rattle.safe_texts.specs.Grammars.{Form, HasForm, One, Several, OneOf, Number, InterfaceName, DomainName, Address4, Route4, Address6, Network6}

-- the reasons of jobs
abbrev pub REASONS : List (List ℕ)
REASONS =
    codes "PREINIT" ∷ codes "CARRIER" ∷ codes "NOCARRIER" ∷ codes "STATIC" ∷ codes "BOUND" ∷ codes "REBOOT"
    ∷ codes "RENEW"
    ∷ codes "REBIND" ∷ codes "NAK" ∷ codes "EXPIRE" ∷ codes "TIMEOUT" ∷ codes "IPV4LL" ∷ codes "STOP" ∷ codes "STOP6"
    ∷ codes "STOPPED" ∷ codes "BOUND6" ∷ codes "REBOOT6" ∷ codes "RENEW6" ∷ codes "REBIND6" ∷ codes "EXPIRE6"
    ∷ codes "DELEGATED6" ∷ []

-- of the interface and the event
abbrev pub JOB_FORMS : List (List ℕ × Form)
JOB_FORMS =
    (codes "interface", One InterfaceName)
    ∷ (codes "reason", One (OneOf REASONS))
    ∷ (codes "ifcarrier", One (OneOf (codes "up" ∷ codes "down" ∷ [])))
    ∷ (codes "ifmetric", One (Number (2 ^ 32)))
    ∷ []

-- of what was held, with `old_` before the name, and of what is held, with `new_`; the options of a lease come beside
-- them
abbrev pub HELD_FORMS : List (List ℕ × Form)
HELD_FORMS =
    (codes "ip_address", One Address4)
    ∷ (codes "subnet_cidr", One (Number 33))
    ∷ (codes "subnet_mask", One Address4)
    ∷ (codes "dhcp_lease_time", One (Number (2 ^ 32)))
    ∷ (codes "dhcp_server_identifier", One Address4)
    ∷ (codes "dhcp6_addresses", Several Address6)
    ∷ (codes "dhcp6_prefixes", Several Network6)
    ∷ (codes "dhcp6_name_servers", Several Address6)
    ∷ (codes "dhcp6_domain_search", Several DomainName)
    ∷ (codes "delegated_address", One Network6)
    ∷ []

-- the form of the variable that is an option's value; no option of the table that a lease keeps has a value of any
-- bytes, which would have no text
abbrev pub option_form : ValueForm → Form
option_form values.Address = One Address4
option_form values.Addresses = Several Address4
option_form values.Number16 = One (Number (2 ^ 16))
option_form values.Number32 = One (Number (2 ^ 32))
option_form values.DomainName = One DomainName
option_form values.DomainNames = Several DomainName
option_form values.Routes = Several Route4
option_form values.Opaque = One (Number (2 ^ 32))

-- the variable of this name has a value of this form
pub data IsNamed : (name : List ℕ) → Form → Type 0 where
  OfJob : (word : List ℕ) (form : Form) → Contains JOB_FORMS (word, form) → IsNamed word form
  OfHeld : (stage : Stage) (word : List ℕ) (form : Form) → Contains HELD_FORMS (word, form)
      → IsNamed (prefix stage ++ word) form
  -- of an option of the table that a lease keeps
  OfOption : (stage : Stage) (row : OptionRow) → Contains OPTIONS row → row.kept ≡ true
      → IsNamed (prefix stage ++ option_name row.code) (option_form row.form)

-- The name is one of these, and the value is made of the bytes of its form: it has no control character, and no byte
-- past ASCII.
pub record IsSafe (variable : Variable) : Type 0 where
  pub form : Form
  pub named : IsNamed variable.name form
  pub formed : HasForm form variable.value
  pub printable : IsPrintable variable.value

abbrev pub AreSafe : List Variable → Type 0
AreSafe variables = AllByRecursion IsSafe variables

-- What is made of an event is so, whatever is held and whoever granted it.
abbrev pub MadeVariablesAreSafe : Type 0
MadeVariablesAreSafe =
    (situation : SituationContent) → FitsName situation.interface.name → AreSafe (made_variables situation)
