-- What is what its form says is made of the bytes of that form.
use Rattle.std.proofs.Common.{ℕ, List, sym, subst}
use Rattle.std.specs.Char.{is_ascii_digit}
use Rattle.net_types.proofs.AllLaws.{all_map}
use Rattle.world.specs.HookCalls.{Variable}
use Rattle.safe_texts.specs.Grammars.{Form, Grammar, HasForm, HasGrammar, IsAddress4, IsAddress6, IsListOf, IsMadeOf, IsNetwork4, IsNetwork6, IsNumberBelow, IsOfForm, IsPair, One, Several, OneOf, Number, InterfaceName, DomainName, Address4, Network4, Route4, Address6, Network6, Spells, is_address4_byte, is_address6_byte, is_network4_byte, is_network6_byte}
use Rattle.safe_texts.specs.ExactVariables.{ExactVariablesAreSafe, IsExact}
use Rattle.safe_texts.specs.SafeVariables.{IsSafe}
use Rattle.safe_texts.proofs.AddressBytes.{dotted_made, ip6_made, net6_made, slash4_made}
use Rattle.safe_texts.proofs.NumberTexts.{decimal_made}
use Rattle.safe_texts.proofs.PrintableForms.{form_printable}

number_made : (limit : ℕ) (text : List ℕ) → IsNumberBelow limit text → IsMadeOf is_ascii_digit text
number_made limit text is = subst (IsMadeOf is_ascii_digit) (sym is.spelled) (decimal_made is.number)

address4_made : (text : List ℕ) → IsAddress4 text → IsMadeOf is_address4_byte text
address4_made text is =
    subst (IsMadeOf is_address4_byte) (sym is.dotted.spelled) (dotted_made is.dotted.a is.dotted.b is.dotted.c is.dotted.d)

network4_made : (text : List ℕ) → IsNetwork4 text → IsMadeOf is_network4_byte text
network4_made text is =
    subst (IsMadeOf is_network4_byte) (sym is.spelled) (slash4_made is.address (address4_made is.address is.is_address) is.len)

route4_made : (text : List ℕ) → IsPair IsNetwork4 IsAddress4 text → IsPair (IsMadeOf is_network4_byte) (IsMadeOf is_address4_byte) text
route4_made text is = record {
  first = is.first;
  second = is.second;
  is_first = network4_made is.first is.is_first;
  is_second = address4_made is.second is.is_second;
  parted = is.parted;
}

address6_made : (text : List ℕ) → IsAddress6 text → IsMadeOf is_address6_byte text
address6_made text is = subst (IsMadeOf is_address6_byte) (sym is.printed) (ip6_made is.ip)

network6_made : (text : List ℕ) → IsNetwork6 text → IsMadeOf is_network6_byte text
network6_made text is = subst (IsMadeOf is_network6_byte) (sym is.printed) (net6_made is.net)

spelled_made : (grammar : Grammar) (text : List ℕ) → Spells grammar text → HasGrammar grammar text
spelled_made (OneOf words) text is = is.word
spelled_made (Number limit) text is = number_made limit text is
spelled_made InterfaceName text is = is
spelled_made DomainName text is = is
spelled_made Address4 text is = address4_made text is
spelled_made Network4 text is = network4_made text is
spelled_made Route4 text is = route4_made text is
spelled_made Address6 text is = address6_made text is
spelled_made Network6 text is = network6_made text is

list_made : (grammar : Grammar) (value : List ℕ) → IsListOf (Spells grammar) value → IsListOf (HasGrammar grammar) value
list_made grammar value is = record {
  texts = is.texts;
  some = is.some;
  listed = is.listed;
  each = all_map (Spells grammar) (HasGrammar grammar) (spelled_made grammar) is.texts is.each;
}

form_made : (form : Form) (value : List ℕ) → IsOfForm form value → HasForm form value
form_made (One grammar) value is = spelled_made grammar value is
form_made (Several grammar) value is = list_made grammar value is

safe_by : (variable : Variable) (exact : IsExact variable) → HasForm exact.form variable.value → IsSafe variable
safe_by variable exact formed = record {
  form = exact.form;
  named = exact.named;
  formed = formed;
  printable = form_printable exact.form variable.value formed;
}

pub exact_variables_are_safe : ExactVariablesAreSafe
exact_variables_are_safe variable exact = safe_by variable exact (form_made exact.form variable.value exact.exact)
