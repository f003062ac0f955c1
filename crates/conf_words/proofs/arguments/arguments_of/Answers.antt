use Rattle.std.proofs.Common.{◌≡◌, List, [], ◌∷◌, ◌++◌, map, sym, ap, ◌∙◌, subst}
use Rattle.std.proofs.lemmas.List.{map-append}
use Rattle.conf_words.specs.Arguments.{Said, BeginsWithArgument, shown_argument}
use Rattle.conf_words.specs.Parts.{Leads}
use Rattle.conf_words.proofs.PartLaws.{leads_more}
use Rattle.conf_words.proofs.ArgumentLaws.{argument_sound, argument_none, argument_shorter}
use Rattle.conf_words.proofs.arguments.arguments_of.Goals as goal

pub arguments-smaller : goal.arguments-smaller
arguments-smaller c =
    argument_shorter c.arguments.rest.now (shown_argument c.in-Some.argument) c.in-Some.others.now
    (argument_sound c.arguments.rest.now (shown_argument c.in-Some.argument) c.in-Some.others.now (sym c.in-Some.ensures))

pub arguments-preserved : goal.arguments-preserved
arguments-preserved c =
    let begins = argument_sound c.arguments.rest.now (shown_argument c.in-Some.argument) c.in-Some.others.now (sym c.in-Some.ensures) in
    let more : map shown_argument c.push.new.self.items ≡ map shown_argument c.arguments.arguments.items ++ shown_argument c.in-Some.argument ∷ [] =
    ap (map shown_argument) c.in_ok-push.ensures.items ∙ map-append shown_argument c.arguments.arguments.items (c.in-Some.argument ∷ []) in
    subst (λ (all : List Said). Leads BeginsWithArgument all c.args.about.now c.in-Some.others.now) (sym more)
    (leads_more BeginsWithArgument (map shown_argument c.arguments.arguments.items)
    (shown_argument c.in-Some.argument) c.args.about.now c.arguments.rest.now c.in-Some.others.now c.arguments.invariant begins)

pub returns : goal.returns
returns c = (c.arguments.rest.now, c.arguments.invariant, argument_none c.arguments.rest.now (sym c.in_default.ensures))
