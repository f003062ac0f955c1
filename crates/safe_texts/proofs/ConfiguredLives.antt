-- In the life of interfaces that a configuration manages each variable of a job is printable.
use Rattle.std.proofs.Common.{◌≡◌, ℕ, ◌≤◌, Bool, true, ◌&&◌, List, [], ◌∷◌, ◌++◌, flat_map, length, refl, sym, subst, arith, leb}
use Rattle.std.specs.Prelude.{not, ◌==◌}
use Rattle.std.specs.List.{AllByRecursion, Contains, list_all}
use Rattle.std.proofs.lemmas.Bool.{and_parts, leb-true}
use Rattle.std.proofs.lemmas.List.{length-append}
use Rattle.std.proofs.lemmas.List.Elements.{All-contains, All-from_recursion}
use Rattle.net_types.proofs.AllLaws.{all_join, all_map}
use Rattle.net_types.proofs.MarkLaws.{lacks-append, only-append}
use Rattle.net_types.specs.declared.interface.IfSpec.{IfSpec}
use Rattle.net_types.specs.Marks.{IsPrintable, Lacks, is_printable}
use Rattle.world.specs.HookCalls.{Job, Variable}
use Rattle.settings.specs.Fitting.{AreManaged}
use Rattle.settings.specs.declared.interfaces.Managed.{Managed}
use Rattle.conf_laws.proofs.ConfFits.{settings_fit}
use Rattle.v4_options.specs.declared.table.OptionRow.{OptionRow}
use Rattle.v4_options.specs.declared.table.TheConstants.{OPTIONS}
use Rattle.v4_options.specs.OptionTable.{option_name}
use Rattle.hook_env.specs.declared.situation.Stage.{Stage}
use Rattle.hook_env.specs.declared.situation.Stage.TheVariants.{Before, Now}
use Rattle.hook_env.specs.Stages.{prefix}
use Rattle.turn_model.specs.Lives.{Met, OpeningMet, turns_calls}
use Rattle.safe_texts.specs.ConfiguredTexts.{ConfiguredLivesAreLives, HasPlainVariables, IsConfiguredLife, IsPlainVariable, IsPlainlyConfigured, VariablesArePrintable}
use Rattle.safe_texts.specs.Grammars.{Form}
use Rattle.safe_texts.specs.ResolverLines.{HasServers}
use Rattle.safe_texts.specs.SafeJobs.{IsSafeJob, job_in}
use Rattle.safe_texts.specs.SafeVariables.{HELD_FORMS, IsNamed, IsSafe, JOB_FORMS, OfHeld, OfJob, OfOption}
use Rattle.safe_texts.proofs.LifeJobs.{life_jobs_are_safe}
use Rattle.safe_texts.proofs.PlainConfigurations.{configured_texts_are_safe}

-- what holds of each holds of one among them
among_all : {A : Type 0} (P : A → Type 0) (xs : List A) (x : A) → AllByRecursion P xs → Contains xs x → P x
among_all P xs x all among = All-contains P xs x (All-from_recursion P xs all) among

-- ---- names

-- printable bytes, of which none is an equals sign, and one at least
record IsPlainName (name : List ℕ) : Type 0 where
  printable : IsPrintable name
  parted : Lacks 61 name
  some : 1 ≤ length name

abbrev PlainRow : List ℕ × Form → Type 0
PlainRow row = (IsPrintable row.0 × Lacks 61 row.0) × (leb 1 (length row.0) ≡ true)

row_plain : (row : List ℕ × Form) → PlainRow row → IsPlainName row.0
row_plain row plain = record { printable = plain.0.0; parted = plain.0.1; some = leb-true 1 (length row.0) plain.1 }

shown : ((true ≡ true) × (true ≡ true)) × (true ≡ true)
shown = ((refl, refl), refl)

job_rows : AllByRecursion PlainRow JOB_FORMS
job_rows = (shown, (shown, (shown, (shown, tt))))

held_rows : AllByRecursion PlainRow HELD_FORMS
held_rows = (shown, (shown, (shown, (shown, (shown, (shown, (shown, (shown, (shown, (shown, tt))))))))))

-- the same of an option of the table, as a test
abbrev is_plain_row : OptionRow → Bool
is_plain_row row =
    let name : List ℕ = option_name row.code in
    list_all is_printable name && (list_all (λ byte. not (byte == 61)) name && leb 1 (length name))

passes_among : {A : Type 0} (test : A → Bool) (xs : List A) → list_all test xs ≡ true → AllByRecursion (λ x. test x ≡ true) xs
passes_among test [] e = tt
passes_among test (x ∷ xs) e = let both = and_parts (test x) (list_all test xs) e in (both.0, passes_among test xs both.1)

option_plain : (row : OptionRow) → Contains OPTIONS row → IsPlainName (option_name row.code)
option_plain row among =
    let name : List ℕ = option_name row.code in
    let plain : is_plain_row row ≡ true = among_all (λ row. is_plain_row row ≡ true) OPTIONS row (passes_among is_plain_row OPTIONS refl) among in
    let printable = and_parts (list_all is_printable name) _ plain in
    let parted = and_parts (list_all (λ byte. not (byte == 61)) name) (leb 1 (length name)) printable.1 in
    record { printable = printable.0; parted = parted.0; some = leb-true 1 (length name) parted.1 }

prefix_plain : (stage : Stage) → IsPrintable (prefix stage) × Lacks 61 (prefix stage)
prefix_plain Before = (refl, refl)
prefix_plain Now = (refl, refl)

behind_plain : (stage : Stage) (word : List ℕ) → IsPlainName word → IsPlainName (prefix stage ++ word)
behind_plain stage word plain =
    let whole = length-append (prefix stage) word in
    let least = plain.some in
    record {
      printable = only-append is_printable (prefix stage) word (prefix_plain stage).0 plain.printable;
      parted = lacks-append 61 (prefix stage) word (prefix_plain stage).1 plain.parted;
      some = omega (arith, whole, least);
    }

name_plain : {name : List ℕ} {form : Form} → IsNamed name form → IsPlainName name
name_plain (OfJob word form among) = row_plain (word, form) (among_all PlainRow JOB_FORMS (word, form) job_rows among)
name_plain (OfHeld stage word form among) =
    behind_plain stage word (row_plain (word, form) (among_all PlainRow HELD_FORMS (word, form) held_rows among))
name_plain (OfOption stage row among kept) = behind_plain stage (option_name row.code) (option_plain row among)

-- ---- variables

variable_plain : (variable : Variable) → IsSafe variable → IsPlainVariable variable
variable_plain variable safe =
    let name : IsPlainName variable.name = name_plain safe.named in
    record { name = name.printable; some = name.some; parted = name.parted; value = safe.printable }

module _ (managed : List Managed) (plain : AllByRecursion IsPlainlyConfigured managed) where
  pub job_plain : (job : Job) → IsSafeJob managed job → HasPlainVariables job
  job_plain job safe =
      subst (AllByRecursion IsPlainVariable) (sym safe.vars)
      (all_join IsPlainVariable safe.made safe.holder.conf.hooks.env (all_map IsSafe IsPlainVariable variable_plain safe.made safe.safe)
      (among_all IsPlainlyConfigured managed safe.holder plain safe.among).env)

-- ---- lives

module _ (text : List ℕ) (managed : List Managed) (specs : List IfSpec) (opening : OpeningMet) (mets : List Met)
    (life : IsConfiguredLife text managed specs opening mets) where
  all_plain : AllByRecursion IsPlainlyConfigured managed
  all_plain = subst (AllByRecursion IsPlainlyConfigured) (sym life.manages) (configured_texts_are_safe text life.conf life.reads specs)

  all_fit : AreManaged managed
  all_fit = subst AreManaged (sym life.manages) (settings_fit text life.conf life.reads specs life.each).fit

  all_printable : AllByRecursion HasPlainVariables (flat_map job_in (opening.calls ++ turns_calls opening.life mets))
  all_printable =
      all_map (IsSafeJob managed) HasPlainVariables (job_plain managed all_plain) (flat_map job_in (opening.calls ++ turns_calls opening.life mets))
      (life_jobs_are_safe managed specs opening mets all_fit life.opens life.turns)

  all_servers : AllByRecursion HasServers managed
  all_servers = all_map IsPlainlyConfigured HasServers (λ m one. one.servers) managed all_plain

pub variables_are_printable : VariablesArePrintable
variables_are_printable text managed specs opening mets life = all_printable text managed specs opening mets life

pub configured_lives_are_lives : ConfiguredLivesAreLives
configured_lives_are_lives text managed specs opening mets life octets = record {
  fit = all_fit text managed specs opening mets life;
  servers = all_servers text managed specs opening mets life;
  opens = life.opens;
  turns = life.turns;
  octets = octets;
}
