-- The configuration of the script is read without a fault.
use Rattle.std.specs.Prelude.{codes, IsTrue}
use Rattle.std.proofs.Common.{◌≡◌, List, [], ◌∷◌, Some, None, refl}
use Rattle.std.specs.List.{list_all}
use lib.Utf8.{encode}
use Rattle.std.specs.Str.{is_utf8, chars}
use Rattle.net_types.specs.Cutting.{split_at_byte}
use Rattle.conf_words.specs.Arguments.{said, AreArgumentsOf}
use Rattle.conf_words.specs.declared.arguments.Form.TheVariants.{Plain}
use Rattle.conf_words.specs.Characters.{is_text}
use Rattle.conf_words.specs.Directives.{Directive, directive_in}
use Rattle.conf_words.specs.Readings.{directives, IsReadAs}
use Rattle.conf_words.specs.Steps.{without_return, line_at, argument_at}
use Rattle.conf_words.specs.TextLines.{BeginsWithLine}
use Rattle.conf_words.proofs.ArgumentLaws.{argument_sound}
use Rattle.conf_words.proofs.LineLaws.{line_sound}
use Rattle.conf_directives.specs.declared.names.FlagName.TheVariants.{NoArp, NoDelay}
use Rattle.conf_directives.specs.Names.{heading_at, directive_at}
use Rattle.conf_directives.specs.Contents.{DirectiveContent, Flag, Script, taken}
use Rattle.conf_directives.specs.Says.{Says}
use Rattle.conf_text.specs.Configurations.{configured}
use Rattle.conf_text.specs.Faults.{cause_at, first_fault}
use Rattle.conf_text.specs.Places.{Global}
use Rattle.conf_text.specs.Standings.{Standing, standing, Stand}
use Rattle.made_script.specs.MadeLines.{made_conf}
use Rattle.made_script.specs.GoodConf.{made_conf_text, ConfIsGood}

-- ---- the lines of the text

abbrev no_delay : Directive
no_delay = record { number = 1; word = codes "nodelay"; about = [] }

abbrev no_arp : Directive
no_arp = record { number = 2; word = codes "noarp"; about = [] }

abbrev no_hooks : Directive
no_hooks = record { number = 3; word = codes "script"; about = codes " /dev/null" }

abbrev found : List Directive
found = no_delay ∷ no_arp ∷ no_hooks ∷ []

first_line : BeginsWithLine made_conf_text (codes "nodelay") (codes "noarp\nscript /dev/null\n")
unfolding line_at without_return split_at_byte
first_line = line_sound made_conf_text (codes "nodelay") (codes "noarp\nscript /dev/null\n") refl

second_line : BeginsWithLine (codes "noarp\nscript /dev/null\n") (codes "noarp") (codes "script /dev/null\n")
unfolding line_at without_return split_at_byte
second_line = line_sound (codes "noarp\nscript /dev/null\n") (codes "noarp") (codes "script /dev/null\n") refl

third_line : BeginsWithLine (codes "script /dev/null\n") (codes "script /dev/null") []
unfolding line_at without_return split_at_byte
third_line = line_sound (codes "script /dev/null\n") (codes "script /dev/null") [] refl

are_text : IsTrue (list_all is_text made_conf)
unfolding is_utf8 chars encode
are_text = refl

are_found : found ≡ directives made_conf
unfolding directive_in
are_found = refl

text_read : IsReadAs made_conf_text record { found = found; not_text = None }
text_read = record {
  lines = made_conf;
  rest = [];
  leads = (codes "noarp\nscript /dev/null\n", first_line, (codes "script /dev/null\n", second_line, ([], third_line, refl)));
  texts = are_text;
  has = are_found;
  stops = refl;
}

-- ---- what they say

abbrev says : Directive → DirectiveContent → Standing
says line directive = standing Global line None (Some (taken directive))

abbrev front : List Standing
front = says no_delay (Flag NoDelay) ∷ says no_arp (Flag NoArp) ∷ says no_hooks (Script (codes "/dev/null")) ∷ []

path_follows : AreArgumentsOf (codes " /dev/null") (said Plain (codes "/dev/null") ∷ [])
unfolding argument_at
path_follows = ([], ([], argument_sound (codes " /dev/null") (said Plain (codes "/dev/null")) [] refl, refl), refl)

says_script : Says (codes "script") (codes " /dev/null") (Some (taken (Script (codes "/dev/null"))))
unfolding directive_at
says_script = record {
  arguments = codes "/dev/null" ∷ [];
  follow = record { arguments = said Plain (codes "/dev/null") ∷ []; follow = path_follows; are = refl };
  says = refl;
}

lines_stand : Stand found front []
unfolding heading_at directive_at
lines_stand = (
  (Some (taken (Flag NoDelay)), refl, refl),
  ((Some (taken (Flag NoArp)), refl, refl), ((Some (taken (Script (codes "/dev/null"))), says_script, refl), refl)),
)

no_fault : first_fault front ≡ None
unfolding cause_at
no_fault = refl

pub conf_is_good : ConfIsGood
conf_is_good = (
  configured front,
  record {
    read = record { found = found; not_text = None };
    is_read = text_read;
    front = front;
    rest = [];
    stand = lines_stand;
    tells = (refl, no_fault, refl, refl);
  },
)
