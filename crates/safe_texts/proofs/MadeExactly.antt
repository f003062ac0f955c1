-- What is made of an event within its bounds is what its forms say.
use Rattle.std.proofs.Common.{ℕ, ◌^◌, ◌<◌, ◌≤◌, Bool, true, false, List, [], ◌∷◌, ◌++◌, map, flat_map, find, Option, Some, None, IfSome, refl, arith, codes, decimal}
use Rattle.std.specs.Prelude.{◌==◌}
use Rattle.std.specs.List.{AllByRecursion, Contains}
use Rattle.std.specs.Option.{option_and_then, option_map}
use Rattle.net_types.proofs.AllLaws.{all_both, all_join}
use Rattle.net_types.proofs.CaseLaws.{gated}
use Rattle.net_types.specs.AddressText.{FitsIp6, FitsNet4, ip4_text, net6_text}
use Rattle.net_types.specs.Marks.{AreBytes}
use Rattle.net_types.specs.NameText.{name_text}
use Rattle.net_types.specs.Networks.{mask_of}
use Rattle.net_types.specs.declared.address.Net4.{Net4}
use Rattle.world.specs.HookCalls.{Variable}
use Rattle.world.specs.Reasons.{reason_word}
use Rattle.world.specs.declared.reasons.Reason.{Reason}
use Rattle.world.specs.declared.reasons.Reason.TheVariants.{Preinit, Carrier, NoCarrier, StaticLine, Bound, Reboot, Renew, Rebind, Nak, Expire, Timeout, Ipv4ll, Stop, Stop6, Stopped, Bound6, Reboot6, Renew6, Rebind6, Expire6, Delegated6}
use Rattle.lease_text.specs.Bounds.{HasText}
use Rattle.lease_text.specs.Leases.{LeaseContent, ValueContent}
use Rattle.v4_options.specs.declared.table.OptionRow.{OptionRow}
use Rattle.v4_options.specs.declared.table.TheConstants.{OPTIONS}
use Rattle.v4_options.specs.OptionTable.{option_name}
use Rattle.lease6_text.specs.Bounds.{FitsIa, FitsItem, HasText6, IsTypedIa}
use Rattle.lease6_text.specs.declared.lease.Item6.{Item6}
use Rattle.lease6_text.specs.Leases.{IaLeaseContent, Lease6Content}
use Rattle.v6_options.specs.declared.code.TheConstants.{DNS_SERVERS, DOMAIN_LIST}
use Rattle.v6_options.specs.declared.ia.IaKind.{IaKind}
use Rattle.v6_options.specs.declared.ia.IaKind.TheVariants.{Na, Pd}
use Rattle.hook_env.specs.declared.situation.Stage.{Stage}
use Rattle.hook_env.specs.declared.situation.Stage.TheVariants.{Before, Now}
use Rattle.hook_env.specs.declared.variables.JobVariable.{JobVariable}
use Rattle.hook_env.specs.declared.variables.JobVariable.TheVariants as job
use Rattle.hook_env.specs.declared.variables.NetVariable.{NetVariable}
use Rattle.hook_env.specs.declared.variables.NetVariable.TheVariants as net
use Rattle.hook_env.specs.declared.variables.Lease6Variable.{Lease6Variable}
use Rattle.hook_env.specs.declared.variables.Lease6Variable.TheVariants as lease6
use Rattle.hook_env.specs.declared.variables.TheConstants.{JOB_VARIABLES, LEASE6_VARIABLES, NET_VARIABLES}
use Rattle.hook_env.specs.Jobs.{carrier_word, held_variables, job_said, made_variables, variables_if}
use Rattle.hook_env.specs.Lease6Variables.{address_item, addresses_in, ia_addresses, ia_prefixes, lease6_told, lease6_value, prefix_item, prefixes_in}
use Rattle.hook_env.specs.LeaseVariables.{lease_variables, net_told, net_variables, option_told, option_value, option_variables, term_variables, told, told_if}
use Rattle.hook_env.specs.Situations.{HeldContent, SituationContent, Nothing, Leased4, Address4, Leased6, Delegated}
use Rattle.hook_env.specs.Stages.{prefix, tells_before, tells_now}
use Rattle.hook_env.specs.ValueTexts.{names6_text, servers6_text, value_in, value_text}
use Rattle.hook_env.specs.Words.{delegated_word, job_word, lease6_word, lease_time_word, net_word, server_word}
use Rattle.safe_texts.specs.Grammars.{Form, IsOfForm, IsOneOf, One, Several, OneOf, Number, Spells}
use Rattle.safe_texts.specs.Grammars as grammar
use Rattle.safe_texts.specs.ExactVariables.{AreExact, FitsHeld, FitsSituation, IsExact, MadeVariablesAreExact}
use Rattle.safe_texts.specs.SafeVariables.{HELD_FORMS, IsNamed, JOB_FORMS, OfHeld, OfJob, OfOption, REASONS, option_form}
use Rattle.safe_texts.proofs.NumberTexts.{chosen_by}
use Rattle.safe_texts.proofs.MadeOfEvents.{carrier_made, flat_among, reason_made}
use Rattle.safe_texts.proofs.SpelledValues.{host_fits, ip4_spelled, ip6_spelled, mask_fits, names6_spelled, net6_spelled, number_below, servers6_spelled, value_spelled}
use Rattle.safe_texts.proofs.TextLists.{all_mapped_so, texts_listed}

-- ---- lists of variables

all_flat : {A : Type 0} (f : A → List Variable) → ((x : A) → AreExact (f x)) → (xs : List A) → AreExact (flat_map f xs)
all_flat f each [] = tt
all_flat f each (x ∷ xs) = all_join IsExact (f x) (flat_map f xs) (each x) (all_flat f each xs)

all_mapped : {A : Type 0} (f : A → Variable) → ((x : A) → IsExact (f x)) → (xs : List A) → AreExact (map f xs)
all_mapped f each [] = tt
all_mapped f each (x ∷ xs) = (each x, all_mapped f each xs)

-- ---- of what is held

named_exact : (stage : Stage) (word value : List ℕ) (form : Form) → IsNamed (prefix stage ++ word) form → IsOfForm form value
    → IsExact (told stage word value)
named_exact stage word value form named exact = record { form = form; named = named; exact = exact }

told_exact : (stage : Stage) (word value : List ℕ) (form : Form) → Contains HELD_FORMS (word, form) → IsOfForm form value → IsExact (told stage word value)
told_exact stage word value form among exact = named_exact stage word value form (OfHeld stage word form among) exact

told_if_exact : (stage : Stage) (word : List ℕ) (found : Option (List ℕ)) (form : Form) → IsNamed (prefix stage ++ word) form → IfSome found (IsOfForm form)
    → AreExact (told_if stage word found)
told_if_exact stage word None form named exact = tt
told_if_exact stage word (Some value) form named exact = (named_exact stage word value form named exact, tt)

below_next : (len : ℕ) → len ≤ 32 → len < 33
below_next len short = omega (arith, short)

net_exact : (stage : Stage) (held : Net4) → FitsNet4 held → (variable : NetVariable) → IsExact (net_told stage held variable)
net_exact stage held fits net.Address =
    told_exact stage (net_word net.Address) _ (One grammar.Address4) (0, omega arith, refl) (ip4_spelled held.ip fits.address)
net_exact stage held fits net.Length =
    told_exact stage (net_word net.Length) _ (One (Number 33)) (1, omega arith, refl) (number_below 33 held.len (below_next held.len fits.prefix))
net_exact stage held fits net.Mask =
    told_exact stage (net_word net.Mask) _ (One grammar.Address4) (2, omega arith, refl) (ip4_spelled (mask_of held.len) (mask_fits held.len))

nets_exact : (stage : Stage) (held : Net4) → FitsNet4 held → AreExact (net_variables stage held)
nets_exact stage held fits = all_mapped (net_told stage held) (net_exact stage held fits) NET_VARIABLES

-- a value that is kept is bytes
abbrev HasBytes : ValueContent → Type 0
HasBytes value = AreBytes value.bytes

found_bytes : (code : ℕ) (values : List ValueContent) → AllByRecursion HasBytes values → IfSome (find (λ value. value.code == code) values) HasBytes
found_bytes code [] all = tt
found_bytes code (value ∷ values) all =
    gated (λ (o : Option ValueContent). IfSome o HasBytes) (value.code == code) (Some value) (find (λ value. value.code == code) values) all.0
    (found_bytes code values all.1)

bytes_of : (found : Option ValueContent) → IfSome found HasBytes → IfSome (option_map (λ value. value.bytes) found) AreBytes
bytes_of None h = tt
bytes_of (Some value) h = h

value_bytes : (code : ℕ) (values : List ValueContent) → AllByRecursion HasBytes values → IfSome (value_in code values) AreBytes
value_bytes code values all = bytes_of (find (λ value. value.code == code) values) (found_bytes code values all)

of_bytes : (Q : List ℕ → Type 0) (reading : List ℕ → Option (List ℕ)) → ((value : List ℕ) → AreBytes value → IfSome (reading value) Q)
    → (found : Option (List ℕ))
    → IfSome found AreBytes → IfSome (option_and_then reading found) Q
of_bytes Q reading each None h = tt
of_bytes Q reading each (Some value) h = each value h

option_exact : (stage : Stage) (values : List ValueContent) → AllByRecursion HasBytes values → (row : OptionRow) → Contains OPTIONS row
    → AreExact (option_told stage values row)
option_exact stage values all row among =
    chosen_by AreExact row.kept (told_if stage (option_name row.code) (option_value values row)) []
    (λ kept. told_if_exact stage (option_name row.code) (option_value values row) (option_form row.form) (OfOption stage row among kept)
    (of_bytes (IsOfForm (option_form row.form)) (value_text row.form) (value_spelled row.form) (value_in row.code values) (value_bytes row.code values all)))
    (λ e. tt)

options_exact : (stage : Stage) (values : List ValueContent) → AllByRecursion HasBytes values → AreExact (option_variables stage values)
options_exact stage values all = flat_among IsExact (option_told stage values) OPTIONS (option_exact stage values all)

within : (n : ℕ) → n ≤ 4294967295 → n < 4294967296
within n small = omega (arith, small)

terms_exact : (stage : Stage) (lease : LeaseContent) → HasText lease → AreExact (term_variables stage lease)
terms_exact stage lease has = (
  told_exact stage lease_time_word (decimal lease.lease) (One (Number (2 ^ 32))) (3, omega arith, refl)
      (number_below (2 ^ 32) lease.lease (within lease.lease has.typed.time)),
  (told_exact stage server_word (ip4_text lease.server) (One grammar.Address4) (4, omega arith, refl) (ip4_spelled lease.server has.typed.server), tt),
)

lease_exact : (stage : Stage) (lease : LeaseContent) → HasText lease → AreExact (lease_variables stage lease)
lease_exact stage lease has =
    all_join IsExact (net_variables stage lease.net) (option_variables stage lease.values ++ term_variables stage lease)
    (nets_exact stage lease.net (record { address = host_fits lease.net.ip has.fits.terms.address; prefix = has.fits.terms.len }))
    (all_join IsExact (option_variables stage lease.values) (term_variables stage lease) (options_exact stage lease.values has.typed.values)
    (terms_exact stage lease has))

-- ---- of IPv6

-- an item of an IA of this kind
record FitsKind (kind : IaKind) (item : Item6) : Type 0 where
  fits : FitsItem kind item
  typed : FitsIp6 item.net.ip

record FitsIaTexts (ia : IaLeaseContent) : Type 0 where
  each : AllByRecursion (FitsKind ia.kind) ia.items

ia_fits : (ia : IaLeaseContent) → FitsIa ia → IsTypedIa ia → FitsIaTexts ia
ia_fits ia fits typed = record {
  each =
      all_both (FitsItem ia.kind) (λ (item : Item6). FitsIp6 item.net.ip) (FitsKind ia.kind)
      (λ item f t. record { fits = f; typed = t }) ia.items fits.each typed.items;
}

address_spelled : (item : Item6) → FitsKind Na item → Spells grammar.Address6 (address_item item)
address_spelled item fits = ip6_spelled item.net.ip fits.typed

longest : (len : ℕ) → len ≤ 127 → len ≤ 128
longest len short = omega (arith, short)

prefix_spelled : (item : Item6) → FitsKind Pd item → Spells grammar.Network6 (prefix_item item)
prefix_spelled item fits = net6_spelled item.net (record { address = fits.typed; prefix = longest item.net.len fits.fits.len.1 })

addresses_spelled : (kind : IaKind) (items : List Item6) → AllByRecursion (FitsKind kind) items
    → AllByRecursion (Spells grammar.Address6) (addresses_in kind items)
addresses_spelled Na items all = all_mapped_so (FitsKind Na) (Spells grammar.Address6) address_item address_spelled items all
addresses_spelled Pd items all = tt

prefixes_spelled : (kind : IaKind) (items : List Item6) → AllByRecursion (FitsKind kind) items
    → AllByRecursion (Spells grammar.Network6) (prefixes_in kind items)
prefixes_spelled Na items all = tt
prefixes_spelled Pd items all = all_mapped_so (FitsKind Pd) (Spells grammar.Network6) prefix_item prefix_spelled items all

texts_of_all : {A : Type 0} (Q : A → Type 0) (P : List ℕ → Type 0) (f : A → List (List ℕ)) → ((x : A) → Q x → AllByRecursion P (f x)) → (xs : List A)
    → AllByRecursion Q xs → AllByRecursion P (flat_map f xs)
texts_of_all Q P f each [] all = tt
texts_of_all Q P f each (x ∷ xs) all = all_join P (f x) (flat_map f xs) (each x all.0) (texts_of_all Q P f each xs all.1)

ias_fit : (lease : Lease6Content) → HasText6 lease → AllByRecursion FitsIaTexts lease.ias
ias_fit lease has = all_both FitsIa IsTypedIa FitsIaTexts ia_fits lease.ias has.fits.ias.each has.typed.ias

lease6_exact : (stage : Stage) (lease : Lease6Content) → HasText6 lease → (variable : Lease6Variable) → AreExact (lease6_told stage lease variable)
lease6_exact stage lease has lease6.Addresses =
    told_if_exact stage (lease6_word lease6.Addresses) (lease6_value lease lease6.Addresses) (Several grammar.Address6)
    (OfHeld stage (lease6_word lease6.Addresses) (Several grammar.Address6) (5, omega arith, refl))
    (texts_listed (Spells grammar.Address6) (flat_map ia_addresses lease.ias)
    (texts_of_all FitsIaTexts (Spells grammar.Address6) ia_addresses (λ ia fits. addresses_spelled ia.kind ia.items fits.each) lease.ias (ias_fit lease has)))
lease6_exact stage lease has lease6.Prefixes =
    told_if_exact stage (lease6_word lease6.Prefixes) (lease6_value lease lease6.Prefixes) (Several grammar.Network6)
    (OfHeld stage (lease6_word lease6.Prefixes) (Several grammar.Network6) (6, omega arith, refl))
    (texts_listed (Spells grammar.Network6) (flat_map ia_prefixes lease.ias)
    (texts_of_all FitsIaTexts (Spells grammar.Network6) ia_prefixes (λ ia fits. prefixes_spelled ia.kind ia.items fits.each) lease.ias (ias_fit lease has)))
lease6_exact stage lease has lease6.NameServers =
    told_if_exact stage (lease6_word lease6.NameServers) (lease6_value lease lease6.NameServers) (Several grammar.Address6)
    (OfHeld stage (lease6_word lease6.NameServers) (Several grammar.Address6) (7, omega arith, refl))
    (of_bytes (IsOfForm (Several grammar.Address6)) servers6_text servers6_spelled (value_in DNS_SERVERS lease.values)
    (value_bytes DNS_SERVERS lease.values has.typed.values))
lease6_exact stage lease has lease6.DomainSearch =
    told_if_exact stage (lease6_word lease6.DomainSearch) (lease6_value lease lease6.DomainSearch) (Several grammar.DomainName)
    (OfHeld stage (lease6_word lease6.DomainSearch) (Several grammar.DomainName) (8, omega arith, refl))
    (of_bytes (IsOfForm (Several grammar.DomainName)) names6_text (λ value h. names6_spelled value) (value_in DOMAIN_LIST lease.values)
    (value_bytes DOMAIN_LIST lease.values has.typed.values))

held_exact : (stage : Stage) (held : HeldContent) → FitsHeld held → AreExact (held_variables stage held)
held_exact stage Nothing fits = tt
held_exact stage (Leased4 lease) fits = lease_exact stage lease fits
held_exact stage (Address4 held) fits = nets_exact stage held fits
held_exact stage (Leased6 lease) fits = all_flat (lease6_told stage lease) (lease6_exact stage lease fits) LEASE6_VARIABLES
held_exact stage (Delegated held) fits =
    (told_exact stage delegated_word (net6_text held) (One grammar.Network6) (9, omega arith, refl) (net6_spelled held fits), tt)

if_told_exact : (tells : Bool) (stage : Stage) (held : HeldContent) → FitsHeld held → AreExact (variables_if tells stage held)
if_told_exact true stage held fits = held_exact stage held fits
if_told_exact false stage held fits = tt

-- ---- of the interface and the event

reason_among : (reason : Reason) → Contains REASONS (reason_word reason)
reason_among Preinit = (0, omega arith, refl)
reason_among Carrier = (1, omega arith, refl)
reason_among NoCarrier = (2, omega arith, refl)
reason_among StaticLine = (3, omega arith, refl)
reason_among Bound = (4, omega arith, refl)
reason_among Reboot = (5, omega arith, refl)
reason_among Renew = (6, omega arith, refl)
reason_among Rebind = (7, omega arith, refl)
reason_among Nak = (8, omega arith, refl)
reason_among Expire = (9, omega arith, refl)
reason_among Timeout = (10, omega arith, refl)
reason_among Ipv4ll = (11, omega arith, refl)
reason_among Stop = (12, omega arith, refl)
reason_among Stop6 = (13, omega arith, refl)
reason_among Stopped = (14, omega arith, refl)
reason_among Bound6 = (15, omega arith, refl)
reason_among Reboot6 = (16, omega arith, refl)
reason_among Renew6 = (17, omega arith, refl)
reason_among Rebind6 = (18, omega arith, refl)
reason_among Expire6 = (19, omega arith, refl)
reason_among Delegated6 = (20, omega arith, refl)

abbrev CARRIER_WORDS : List (List ℕ)
CARRIER_WORDS = codes "up" ∷ codes "down" ∷ []

carrier_among : (up : Bool) → Contains CARRIER_WORDS (carrier_word up)
carrier_among true = (0, omega arith, refl)
carrier_among false = (1, omega arith, refl)

of_job : (word value : List ℕ) (form : Form) → Contains JOB_FORMS (word, form) → IsOfForm form value → IsExact (record { name = word; value = value })
of_job word value form among exact = record { form = form; named = OfJob word form among; exact = exact }

module _ (situation : SituationContent) (fits : FitsSituation situation) where
  job_exact : (variable : JobVariable) → IsExact (job_said situation variable)
  job_exact job.Interface =
      of_job (job_word job.Interface) (name_text situation.interface.name) (One grammar.InterfaceName) (0, omega arith, refl) fits.name.spelled
  job_exact job.Reason =
      of_job (job_word job.Reason) (reason_word situation.reason) (One (OneOf REASONS)) (1, omega arith, refl)
      (record { word = reason_made situation.reason; among = reason_among situation.reason })
  job_exact job.Carrier =
      of_job (job_word job.Carrier) (carrier_word situation.up) (One (OneOf CARRIER_WORDS)) (2, omega arith, refl)
      (record { word = carrier_made situation.up; among = carrier_among situation.up })
  job_exact job.Metric =
      of_job (job_word job.Metric) (decimal situation.metric) (One (Number (2 ^ 32))) (3, omega arith, refl)
      (number_below (2 ^ 32) situation.metric fits.metric)

  made_exact : AreExact (made_variables situation)
  made_exact =
      all_join IsExact (map (job_said situation) JOB_VARIABLES) _ (all_mapped (job_said situation) job_exact JOB_VARIABLES)
      (all_join IsExact (variables_if (tells_before situation.reason) Before situation.held_before)
      (variables_if (tells_now situation.reason) Now situation.held_now)
      (if_told_exact (tells_before situation.reason) Before situation.held_before fits.held_before)
      (if_told_exact (tells_now situation.reason) Now situation.held_now fits.held_now))

pub made_variables_are_exact : MadeVariablesAreExact
made_variables_are_exact situation fits = made_exact situation fits
