-- The calls of scripts, word by word and variable by variable.
use Rattle.std.proofs.Common.{◌≡◌, ◌≢◌, ℕ, Bool, true, false, not, pos, inl, inr, bytes_eq, codes, List, [], ◌∷◌, ◌++◌, Option, None, Some, Result, Ok, Err, option_map, cond, map, take, length, get_or, add-one, ◌+◌, ◌<◌, refl, sym, ap, ◌∙◌}
use Rattle.std.proofs.Math.Seq.{take-suc}
use Rattle.std.proofs.lemmas.List.{map-append}
use Rattle.std.proofs.lemmas.List.Sums.{fold-append}
use Rattle.std.proofs.lemmas.Slice.Eq.{bytes_eq-Decides}
use Rattle.std.specs.Prelude.{Decides, OnOk}
use Rattle.std.specs.Global.{Global}
use Rattle.std.specs.Process.{command_program, command_args, command_var, clears_env, exit_code, SameProgramAndArgs, SameEnv}
use Rattle.std.specs.declared.io.ErrorKind.{ErrorKind}
use Rattle.std.specs.declared.process.command.Command.{Command}
use Rattle.std.specs.declared.process.status.ExitStatus.{ExitStatus}
use Rattle.std.specs.declared.process.status.Output.{Output}
use Rattle.world.specs.declared.faults.DeviceAnswer.{DeviceAnswer}
use Rattle.world.specs.declared.rows.HostRow.{HostRow}
use Rattle.world.specs.declared.hooking.HookVar.{HookVar}
use Rattle.world.specs.HookCalls.{Variable, variable_of}
use Rattle.world.specs.RowText.{row_text}
use Rattle.system_calls.specs.Asking.{Does, reason_of}
use Rattle.child_devices.specs.ChildCalls.{ChildCall, Started, Waited, Printed, Start, RunsJob, SaysAlso, Starts, start_of, printed, value_in}
use Rattle.child_devices.specs.HostScripts.{RunsScript, EndsAs, Runs, ChangesRow, ListsRowsOf, words_of}
use Rattle.child_devices.specs.HostNotes.{ListsText}
use Rattle.system_calls.proofs.Doing.{then}

pub job_begins : (program : List ℕ) (made call : Command Global) → command_program made ≡ program → command_args made ≡ [] → SameProgramAndArgs made call
    → clears_env call ≡ true → ((k : List ℕ) → command_var call k ≡ None) → RunsJob program [] (start_of call)
job_begins program made call named none same clears unsaid = record {
  named = same.0 ∙ named;
  no_words = same.1 ∙ none;
  alone = ap not clears;
  said = λ name. unsaid name;
}

-- what is said of a name after one more variable
said_at : (name other value : List ℕ) (before : Option (List ℕ)) (now then_said : Option (Option (List ℕ))) (r : Bool) → Decides r (name ≡ other)
    → (name ≡ other → now ≡ Some (Some value)) → (other ≢ name → now ≡ then_said) → then_said ≡ option_map Some before
    → now ≡ option_map Some (cond r (Some value) before)
said_at name other value before now then_said true d same apart was = same (d.0 refl)
said_at name other value before now then_said false d same apart was =
    apart (λ e. let both : false ≡ true = d.1 (sym e) in cc) ∙ was

pub job_goes_on : (program : List ℕ) (variables more : List Variable) (variable : Variable) (old new : Start) → more ≡ variables ++ variable ∷ []
    → RunsJob program variables old → SaysAlso variable old new → RunsJob program more new
job_goes_on program variables more variable old new is h also = record {
  named = also.program ∙ h.named;
  no_words = also.words ∙ h.no_words;
  alone = also.inherits ∙ h.alone;
  said = λ name.
      said_at variable.name name variable.value (value_in variables name) (new.said name) (old.said name) (bytes_eq variable.name name)
      (bytes_eq-Decides variable.name name) (λ e. ap new.said (sym e) ∙ also.value) (also.others name) (h.said name)
      ∙ sym (ap (option_map Some) (ap (λ all. value_in all name) is ∙ one_more name));
}
  where
    one_more : (name : List ℕ) → value_in (variables ++ variable ∷ []) name
        ≡ cond (bytes_eq variable.name name) (Some variable.value) (value_in variables name)
    one_more name =
        fold-append (λ found variable. cond (bytes_eq variable.name name) (Some variable.value) found) None variables (variable ∷ [])

-- one more of them
pub one_taken : (vars : List HookVar) (i : ℕ) (var : HookVar) → var ≡ get_or vars i var → i < length vars
    → map variable_of (take (i + 1) vars) ≡ map variable_of (take i vars) ++ variable_of var ∷ []
one_taken vars i var is lt =
    ap (map variable_of) (rw (add-one i) (take-suc vars i var lt)) ∙ map-append variable_of (take i vars) (get_or vars i var ∷ [])
    ∙ ap (λ v. map variable_of (take i vars) ++ variable_of v ∷ []) (sym is)

pub job_started : {T : Type 0} (program : List ℕ) (variables : List Variable) (start : Start) (old new : Option (List ChildCall)) (x : T)
    → RunsJob program variables start → Does (Started start None ∷ []) old new → Starts program variables old new (Ok x)
job_started program variables start old new x runs asked = (start, runs, asked)

pub script_begins : (program first : List ℕ) (made call : Command Global) → command_program made ≡ program → command_args made ≡ [] → clears_env made ≡ false
    → ((k : List ℕ) → command_var made k ≡ None) → command_args call ≡ command_args made ++ first ∷ [] → command_program call ≡ command_program made
    → SameEnv made call → RunsScript program (first ∷ []) (start_of call)
script_begins program first made call named none clears unsaid args same env = record {
  named = same ∙ named;
  worded = args ∙ ap (λ words. words ++ first ∷ []) none;
  inherits = ap not (env.0 ∙ clears);
  unsaid = λ name. env.1 name ∙ unsaid name;
}

pub script_goes_on : (program : List ℕ) (words more : List (List ℕ)) (word : List ℕ) (old new : Command Global) → more ≡ words ++ word ∷ []
    → RunsScript program words (start_of old) → command_args new ≡ command_args old ++ word ∷ [] → command_program new ≡ command_program old → SameEnv old new
    → RunsScript program more (start_of new)
script_goes_on program words more word old new is h args same env = record {
  named = same ∙ h.named;
  worded = args ∙ ap (λ words. words ++ word ∷ []) h.worded ∙ sym is;
  inherits = ap not env.0 ∙ h.inherits;
  unsaid = λ name. env.1 name ∙ h.unsaid name;
}

pub not_started : (start : Start) (reason : ErrorKind) (old new : Option (List ChildCall)) → Does (Started start (Some reason) ∷ []) old new
    → Runs start old new (Some reason)
not_started start reason old new asked = inl (reason, refl, asked)

pub ran : (start : Start) (answer : Result ExitStatus ErrorKind) (failure : Option ErrorKind) (old mid new : Option (List ChildCall)) → EndsAs answer failure
    → Does (Started start None ∷ []) old mid → Does (Waited answer ∷ []) mid new → Runs start old new failure
ran start answer failure old mid new ends started waited = inr (answer, ends, then (Waited answer) (Started start None ∷ []) old mid new started waited)

pub changed : (script word : List ℕ) (row : HostRow) (start : Start) (old new : Option (List ChildCall)) (failure : Option ErrorKind)
    → RunsScript script (word ∷ words_of (row_text row)) start → Runs start old new failure → ChangesRow script word row old new failure
changed script word row start old new failure call runs = record { start = start; call = call; runs = runs }

pub printed_so : {T : Type 0} (script : List ℕ) (start : Start) (output : Output Global) (result : Result T DeviceAnswer) (old new : Option (List ChildCall))
    (before after : List HostRow)
    → RunsScript script (codes "host-list" ∷ []) start → Does (Printed start (printed (Ok output)) ∷ []) old new
    → OnOk result (exit_code output.status ≡ Some (pos 0)) → ListsText output.stdout.items before after result
    → ListsRowsOf script old new before after result
printed_so script start output (Ok x) old new before after call asked done listing = (
  start,
  call,
  record {
    printing = record { status = output.status; text = output.stdout.items };
    done = done;
    asked = asked;
    kept = listing.kept;
    listing = listing.listing;
    appended = listing.appended;
  },
)
printed_so script start output (Err answer) old new before after call asked done listing = inr (start, call, (printed (Ok output), tt, asked))

pub unprinted_so : (T : Type 0) (script : List ℕ) (start : Start) (kind : ErrorKind) (answer : DeviceAnswer) (old new : Option (List ChildCall))
    (before after : List HostRow)
    → RunsScript script (codes "host-list" ∷ []) start → Does (Printed start (Err kind) ∷ []) old new → answer ≡ reason_of kind
    → ListsRowsOf {T = T} script old new before after (Err answer)
unprinted_so T script start kind answer old new before after call asked why = inr (start, call, (Err kind, why, asked))

-- what a run that prints was asked
pub ruleset prints = (printed_so, unprinted_so)
