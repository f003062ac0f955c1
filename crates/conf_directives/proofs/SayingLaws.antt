-- A line says one thing, since its arguments are one list.
use Rattle.std.proofs.Common.{◌≡◌, ℕ, List, map, Option, Some, None, inl, inr, sym, ap, ◌∙◌}
use Rattle.conf_words.specs.Arguments.{Said, BeginsWithArgument}
use Rattle.conf_words.specs.Steps.{argument_at}
use Rattle.conf_words.specs.WordLaws.{ArgumentsAreOne}
use Rattle.conf_words.proofs.ArgumentLaws.{argument_whole, none_argument}
use Rattle.conf_words.proofs.PartLaws.{OnePart, one_list}
use Rattle.conf_words.proofs.WholeLaws.{whole_one}
use Rattle.conf_directives.specs.declared.names.DirectiveName.{DirectiveName}
use Rattle.conf_directives.specs.declared.names.DirectiveName.TheVariants as names
use Rattle.conf_directives.specs.Contents.{SaidContent}
use Rattle.conf_directives.specs.Names.{directive_at}
use Rattle.conf_directives.specs.Statics.{static_said}
use Rattle.conf_values.specs.Words.{HasArguments}
use Rattle.conf_directives.specs.Says.{ByArguments, IsStatic, SaysNamed}
use Rattle.conf_directives.specs.SayLaws.{BlocksAreOfOneInterface, LinesSayOneThing}

abbrev one_argument : OnePart BeginsWithArgument
one_argument = record { at = argument_at; finds = argument_whole }

one_arguments : ArgumentsAreOne
one_arguments text one other first second =
    one_list one_argument one other text first.0 second.0 first.1 second.1 (none_argument first.0 first.2) (none_argument second.0 second.2)

one_texts : (about : List ℕ) (one other : List (List ℕ)) → HasArguments about one → HasArguments about other → one ≡ other
one_texts about one other first second =
    first.are ∙ ap (map (λ argument. argument.text)) (one_arguments about first.arguments second.arguments first.follow second.follow) ∙ sym second.are

one_answer : {X : Type 0} (said : List (List ℕ) → X) (about : List ℕ) (one other : X) → ByArguments said about one → ByArguments said about other → one ≡ other
one_answer said about one other first second =
    first.says ∙ ap said (one_texts about first.arguments second.arguments first.follow second.follow) ∙ sym second.says

one_static : (about : List ℕ) (one other : Option SaidContent) → IsStatic about one → IsStatic about other → one ≡ other
one_static about one other (inl first) (inl second) =
    first.2 ∙ ap (λ (argument : Said). static_said argument.text) (whole_one about first.0 second.0 first.1 second.1) ∙ sym second.2
one_static about one other (inl first) (inr second) = absurd (second.0 first.0 first.1)
one_static about one other (inr first) (inl second) = absurd (first.0 second.0 second.1)
one_static about one other (inr first) (inr second) = first.1 ∙ sym second.1

one_named : (name : Option DirectiveName) (word about : List ℕ) (one other : Option SaidContent) → SaysNamed name word about one
    → SaysNamed name word about other → one ≡ other
one_named None word about one other first second = first ∙ sym second
one_named (Some (names.Flag name)) word about one other first second = first ∙ sym second
one_named (Some names.Duid) word about one other first second = first ∙ sym second
one_named (Some names.Static) word about one other first second = one_static about one other first second
one_named (Some names.HostName) word about one other first second = one_answer _ about one other first second
one_named (Some (names.Codes list)) word about one other first second = one_answer _ about one other first second
one_named (Some (names.Ia kind)) word about one other first second = one_answer _ about one other first second
one_named (Some (names.Value name)) word about one other first second = one_answer _ about one other first second

pub one_saying : LinesSayOneThing
one_saying word about one other first second = one_named (directive_at word) word about one other first second

pub one_interface : BlocksAreOfOneInterface
one_interface about one other first second = one_answer _ about one other first second
