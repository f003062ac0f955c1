-- What is made of an event is safe.
use Rattle.std.proofs.Common.{ℕ, ◌^◌, Bool, true, false, List, [], ◌∷◌, ◌++◌, map, flat_map, Option, Some, None, refl, arith, codes, decimal}
use Rattle.std.specs.Prelude.{IfSome}
use Rattle.std.specs.Char.{is_ascii_alphanumeric}
use Rattle.std.specs.List.{AllByRecursion, Contains}
use Rattle.std.proofs.lemmas.List.Elements.{Contains-append_right}
use Rattle.net_types.proofs.AllLaws.{all_join}
use Rattle.net_types.specs.AddressText.{ip4_text, net6_text}
use Rattle.net_types.specs.declared.address.Net4.{Net4}
use Rattle.net_types.specs.Marks.{Only}
use Rattle.net_types.specs.NameText.{FitsName, name_text}
use Rattle.net_types.specs.Networks.{mask_of}
use Rattle.world.specs.HookCalls.{Variable}
use Rattle.world.specs.Reasons.{reason_word}
use Rattle.world.specs.declared.reasons.Reason.{Reason}
use Rattle.world.specs.declared.reasons.Reason.TheVariants.{Preinit, Carrier, NoCarrier, StaticLine, Bound, Reboot, Renew, Rebind, Nak, Expire, Timeout, Ipv4ll, Stop, Stop6, Stopped, Bound6, Reboot6, Renew6, Rebind6, Expire6, Delegated6}
use Rattle.lease_text.specs.Leases.{LeaseContent, ValueContent}
use Rattle.v4_options.specs.declared.table.OptionRow.{OptionRow}
use Rattle.v4_options.specs.declared.table.TheConstants.{OPTIONS}
use Rattle.v4_options.specs.OptionTable.{option_name}
use Rattle.lease6_text.specs.declared.lease.Item6.{Item6}
use Rattle.lease6_text.specs.Leases.{Lease6Content}
use Rattle.v6_options.specs.declared.code.TheConstants.{DNS_SERVERS, DOMAIN_LIST}
use Rattle.v6_options.specs.declared.ia.IaKind.{IaKind}
use Rattle.v6_options.specs.declared.ia.IaKind.TheVariants.{Na, Pd}
use Rattle.hook_env.specs.declared.situation.Stage.{Stage}
use Rattle.hook_env.specs.declared.situation.Stage.TheVariants.{Before, Now}
use Rattle.hook_env.specs.declared.variables.JobVariable.{JobVariable}
use Rattle.hook_env.specs.declared.variables.JobVariable.TheVariants as job
use Rattle.hook_env.specs.declared.variables.NetVariable.{NetVariable}
use Rattle.hook_env.specs.declared.variables.NetVariable.TheVariants as net
use Rattle.hook_env.specs.declared.variables.Lease6Variable.{Lease6Variable}
use Rattle.hook_env.specs.declared.variables.Lease6Variable.TheVariants as lease6
use Rattle.hook_env.specs.declared.variables.TheConstants.{JOB_VARIABLES, LEASE6_VARIABLES, NET_VARIABLES}
use Rattle.hook_env.specs.Jobs.{carrier_word, held_variables, job_said, made_variables, variables_if}
use Rattle.hook_env.specs.Lease6Variables.{address_item, addresses_in, ia_addresses, ia_prefixes, lease6_told, lease6_value, prefix_item, prefixes_in}
use Rattle.hook_env.specs.LeaseVariables.{lease_variables, net_told, net_variables, option_told, option_value, option_variables, term_variables, told, told_if}
use Rattle.hook_env.specs.Situations.{HeldContent, SituationContent, Nothing, Leased4, Address4, Leased6, Delegated}
use Rattle.hook_env.specs.Stages.{prefix, tells_before, tells_now}
use Rattle.hook_env.specs.ValueTexts.{names6_text, servers6_text, value_in, value_text}
use Rattle.hook_env.specs.Words.{delegated_word, job_word, lease6_word, lease_time_word, net_word, server_word}
use Rattle.safe_texts.specs.Grammars.{Form, HasForm, HasGrammar, IsMadeOf, One, Several, OneOf, Number}
use Rattle.safe_texts.specs.Grammars as grammar
use Rattle.safe_texts.specs.SafeVariables.{AreSafe, HELD_FORMS, IsNamed, IsSafe, JOB_FORMS, MadeVariablesAreSafe, OfHeld, OfJob, OfOption, REASONS, option_form}
use Rattle.safe_texts.proofs.AddressBytes.{ip4_made, ip6_made, net6_made}
use Rattle.safe_texts.proofs.FormedValues.{found_formed, names6_formed, servers6_formed, value_formed}
use Rattle.safe_texts.proofs.NumberTexts.{chosen_by, decimal_made, filled}
use Rattle.safe_texts.proofs.PrintableForms.{form_printable}
use Rattle.safe_texts.proofs.TextLists.{mapped_all, texts_listed}

-- ---- lists of variables

all_flat : {A : Type 0} (f : A → List Variable) → ((x : A) → AreSafe (f x)) → (xs : List A) → AreSafe (flat_map f xs)
all_flat f each [] = tt
all_flat f each (x ∷ xs) = all_join IsSafe (f x) (flat_map f xs) (each x) (all_flat f each xs)

-- the same, where each is one of the list
pub flat_among : {A : Type 0} (P : Variable → Type 0) (f : A → List Variable) (xs : List A) → ((x : A) → Contains xs x → AllByRecursion P (f x))
    → AllByRecursion P (flat_map f xs)
flat_among P f [] each = tt
flat_among P f (x ∷ xs) each =
    all_join P (f x) (flat_map f xs) (each x (0, omega arith, refl)) (flat_among P f xs (λ y among. each y (Contains-append_right (x ∷ []) xs y among)))

all_mapped : {A : Type 0} (f : A → Variable) → ((x : A) → IsSafe (f x)) → (xs : List A) → AreSafe (map f xs)
all_mapped f each [] = tt
all_mapped f each (x ∷ xs) = (each x, all_mapped f each xs)

-- ---- of what is held

named_safe : (stage : Stage) (word value : List ℕ) (form : Form) → IsNamed (prefix stage ++ word) form → HasForm form value → IsSafe (told stage word value)
named_safe stage word value form named formed = record {
  form = form;
  named = named;
  formed = formed;
  printable = form_printable form value formed;
}

told_safe : (stage : Stage) (word value : List ℕ) (form : Form) → Contains HELD_FORMS (word, form) → HasForm form value → IsSafe (told stage word value)
told_safe stage word value form among formed = named_safe stage word value form (OfHeld stage word form among) formed

told_if_safe : (stage : Stage) (word : List ℕ) (found : Option (List ℕ)) (form : Form) → IsNamed (prefix stage ++ word) form → IfSome found (HasForm form)
    → AreSafe (told_if stage word found)
told_if_safe stage word None form named formed = tt
told_if_safe stage word (Some value) form named formed = (named_safe stage word value form named formed, tt)

net_safe : (stage : Stage) (held : Net4) (variable : NetVariable) → IsSafe (net_told stage held variable)
net_safe stage held net.Address = told_safe stage (net_word net.Address) _ (One grammar.Address4) (0, omega arith, refl) (ip4_made held.ip)
net_safe stage held net.Length = told_safe stage (net_word net.Length) _ (One (Number 33)) (1, omega arith, refl) (decimal_made held.len)
net_safe stage held net.Mask = told_safe stage (net_word net.Mask) _ (One grammar.Address4) (2, omega arith, refl) (ip4_made (mask_of held.len))

nets_safe : (stage : Stage) (held : Net4) → AreSafe (net_variables stage held)
nets_safe stage held = all_mapped (net_told stage held) (net_safe stage held) NET_VARIABLES

option_safe : (stage : Stage) (values : List ValueContent) (row : OptionRow) → Contains OPTIONS row → AreSafe (option_told stage values row)
option_safe stage values row among =
    chosen_by AreSafe row.kept (told_if stage (option_name row.code) (option_value values row)) []
    (λ kept. told_if_safe stage (option_name row.code) (option_value values row) (option_form row.form) (OfOption stage row among kept)
    (found_formed (HasForm (option_form row.form)) (value_text row.form) (value_formed row.form) (value_in row.code values)))
    (λ e. tt)

options_safe : (stage : Stage) (values : List ValueContent) → AreSafe (option_variables stage values)
options_safe stage values = flat_among IsSafe (option_told stage values) OPTIONS (option_safe stage values)

terms_safe : (stage : Stage) (lease : LeaseContent) → AreSafe (term_variables stage lease)
terms_safe stage lease = (
  told_safe stage lease_time_word (decimal lease.lease) (One (Number (2 ^ 32))) (3, omega arith, refl) (decimal_made lease.lease),
  (told_safe stage server_word (ip4_text lease.server) (One grammar.Address4) (4, omega arith, refl) (ip4_made lease.server), tt),
)

lease_safe : (stage : Stage) (lease : LeaseContent) → AreSafe (lease_variables stage lease)
lease_safe stage lease =
    all_join IsSafe (net_variables stage lease.net) (option_variables stage lease.values ++ term_variables stage lease) (nets_safe stage lease.net)
    (all_join IsSafe (option_variables stage lease.values) (term_variables stage lease) (options_safe stage lease.values) (terms_safe stage lease))

-- ---- of IPv6

pub texts_flat : {A : Type 0} (P : List ℕ → Type 0) (f : A → List (List ℕ)) → ((x : A) → AllByRecursion P (f x)) → (xs : List A)
    → AllByRecursion P (flat_map f xs)
texts_flat P f each [] = tt
texts_flat P f each (x ∷ xs) = all_join P (f x) (flat_map f xs) (each x) (texts_flat P f each xs)

addresses_made : (kind : IaKind) (items : List Item6) → AllByRecursion (HasGrammar grammar.Address6) (addresses_in kind items)
addresses_made Na items = mapped_all (HasGrammar grammar.Address6) address_item (λ item. ip6_made item.net.ip) items
addresses_made Pd items = tt

prefixes_made : (kind : IaKind) (items : List Item6) → AllByRecursion (HasGrammar grammar.Network6) (prefixes_in kind items)
prefixes_made Na items = tt
prefixes_made Pd items = mapped_all (HasGrammar grammar.Network6) prefix_item (λ item. net6_made item.net) items

lease6_safe : (stage : Stage) (lease : Lease6Content) (variable : Lease6Variable) → AreSafe (lease6_told stage lease variable)
lease6_safe stage lease lease6.Addresses =
    told_if_safe stage (lease6_word lease6.Addresses) (lease6_value lease lease6.Addresses) (Several grammar.Address6)
    (OfHeld stage (lease6_word lease6.Addresses) (Several grammar.Address6) (5, omega arith, refl))
    (texts_listed (HasGrammar grammar.Address6) (flat_map ia_addresses lease.ias)
    (texts_flat (HasGrammar grammar.Address6) ia_addresses (λ ia. addresses_made ia.kind ia.items) lease.ias))
lease6_safe stage lease lease6.Prefixes =
    told_if_safe stage (lease6_word lease6.Prefixes) (lease6_value lease lease6.Prefixes) (Several grammar.Network6)
    (OfHeld stage (lease6_word lease6.Prefixes) (Several grammar.Network6) (6, omega arith, refl))
    (texts_listed (HasGrammar grammar.Network6) (flat_map ia_prefixes lease.ias)
    (texts_flat (HasGrammar grammar.Network6) ia_prefixes (λ ia. prefixes_made ia.kind ia.items) lease.ias))
lease6_safe stage lease lease6.NameServers =
    told_if_safe stage (lease6_word lease6.NameServers) (lease6_value lease lease6.NameServers) (Several grammar.Address6)
    (OfHeld stage (lease6_word lease6.NameServers) (Several grammar.Address6) (7, omega arith, refl))
    (found_formed (HasForm (Several grammar.Address6)) servers6_text servers6_formed (value_in DNS_SERVERS lease.values))
lease6_safe stage lease lease6.DomainSearch =
    told_if_safe stage (lease6_word lease6.DomainSearch) (lease6_value lease lease6.DomainSearch) (Several grammar.DomainName)
    (OfHeld stage (lease6_word lease6.DomainSearch) (Several grammar.DomainName) (8, omega arith, refl))
    (found_formed (HasForm (Several grammar.DomainName)) names6_text names6_formed (value_in DOMAIN_LIST lease.values))

held_safe : (stage : Stage) (held : HeldContent) → AreSafe (held_variables stage held)
held_safe stage Nothing = tt
held_safe stage (Leased4 lease) = lease_safe stage lease
held_safe stage (Address4 held) = nets_safe stage held
held_safe stage (Leased6 lease) = all_flat (lease6_told stage lease) (lease6_safe stage lease) LEASE6_VARIABLES
held_safe stage (Delegated held) = (told_safe stage delegated_word (net6_text held) (One grammar.Network6) (9, omega arith, refl) (net6_made held), tt)

if_told_safe : (tells : Bool) (stage : Stage) (held : HeldContent) → AreSafe (variables_if tells stage held)
if_told_safe true stage held = held_safe stage held
if_told_safe false stage held = tt

-- ---- of the interface and the event

word_made : (byte : ℕ) (text : List ℕ) → Only is_ascii_alphanumeric (byte ∷ text) → IsMadeOf is_ascii_alphanumeric (byte ∷ text)
word_made byte text only = record { some = filled byte text; only = only }

pub reason_made : (reason : Reason) → IsMadeOf is_ascii_alphanumeric (reason_word reason)
reason_made Preinit = word_made _ _ refl
reason_made Carrier = word_made _ _ refl
reason_made NoCarrier = word_made _ _ refl
reason_made StaticLine = word_made _ _ refl
reason_made Bound = word_made _ _ refl
reason_made Reboot = word_made _ _ refl
reason_made Renew = word_made _ _ refl
reason_made Rebind = word_made _ _ refl
reason_made Nak = word_made _ _ refl
reason_made Expire = word_made _ _ refl
reason_made Timeout = word_made _ _ refl
reason_made Ipv4ll = word_made _ _ refl
reason_made Stop = word_made _ _ refl
reason_made Stop6 = word_made _ _ refl
reason_made Stopped = word_made _ _ refl
reason_made Bound6 = word_made _ _ refl
reason_made Reboot6 = word_made _ _ refl
reason_made Renew6 = word_made _ _ refl
reason_made Rebind6 = word_made _ _ refl
reason_made Expire6 = word_made _ _ refl
reason_made Delegated6 = word_made _ _ refl

pub carrier_made : (up : Bool) → IsMadeOf is_ascii_alphanumeric (carrier_word up)
carrier_made true = word_made _ _ refl
carrier_made false = word_made _ _ refl

of_job : (word value : List ℕ) (form : Form) → Contains JOB_FORMS (word, form) → HasForm form value → IsSafe (record { name = word; value = value })
of_job word value form among formed = record {
  form = form;
  named = OfJob word form among;
  formed = formed;
  printable = form_printable form value formed;
}

module _ (situation : SituationContent) (fits : FitsName situation.interface.name) where
  job_safe : (variable : JobVariable) → IsSafe (job_said situation variable)
  job_safe job.Interface = of_job (job_word job.Interface) (name_text situation.interface.name) (One grammar.InterfaceName) (0, omega arith, refl) fits.spelled
  job_safe job.Reason = of_job (job_word job.Reason) (reason_word situation.reason) (One (OneOf REASONS)) (1, omega arith, refl) (reason_made situation.reason)
  job_safe job.Carrier =
      of_job (job_word job.Carrier) (carrier_word situation.up) (One (OneOf (codes "up" ∷ codes "down" ∷ []))) (2, omega arith, refl)
      (carrier_made situation.up)
  job_safe job.Metric = of_job (job_word job.Metric) (decimal situation.metric) (One (Number (2 ^ 32))) (3, omega arith, refl) (decimal_made situation.metric)

  made_safe : AreSafe (made_variables situation)
  made_safe =
      all_join IsSafe (map (job_said situation) JOB_VARIABLES) _ (all_mapped (job_said situation) job_safe JOB_VARIABLES)
      (all_join IsSafe (variables_if (tells_before situation.reason) Before situation.held_before)
      (variables_if (tells_now situation.reason) Now situation.held_now)
      (if_told_safe (tells_before situation.reason) Before situation.held_before) (if_told_safe (tells_now situation.reason) Now situation.held_now))

pub made_variables_are_safe : MadeVariablesAreSafe
made_variables_are_safe situation fits = made_safe situation fits
