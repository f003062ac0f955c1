-- Why bytes aren't replayed.
use Rattle.std.proofs.Common.{ℕ, ◌≡◌, ◌≤◌, ◌+◌, List, [], ◌∷◌, length, arith, Result, Ok, Err, IfOk, IfErr, sym, subst}
use Rattle.std.specs.List.{AllByRecursion}
use Rattle.net_types.specs.declared.interface.IfSpec.{IfSpec}
use Rattle.settings.specs.Fitting.{AreManaged}
use Rattle.script_model.specs.ScriptTexts.{ScriptLines}
use Rattle.script_model.specs.Scripts.{CountsFrom, FitInterfaces, FitsScript}
use Rattle.replay_text.specs.ScriptLines.declared.script.Script.{Script}
use Rattle.replay_text.specs.ScriptContent.{script_of, HoldsLines}
use Rattle.conf_text.specs.Configurations.{Configuration, IsConfOf}
use Rattle.conf_text.specs.Contents.{configuration}
use Rattle.conf_text.specs.Fits.{AreInForce, FitsSpec}
use Rattle.conf_text.specs.Settings.{managed_of}
use Rattle.conf_laws.proofs.ConfFits.{settings_fit}
use Rattle.text_works.specs.declared.settling.Settled.{Settled}
use Rattle.text_works.specs.declared.status.Status.{Status}
use Rattle.text_works.specs.declared.status.Status.TheVariants as status
use Rattle.text_works.specs.Refusals.{IsReadRefused, IsConfRefused, IsRefused}
use Rattle.text_works.specs.SpelledScripts.{IsScript, Spells, managed_in, configuration_text}
use Rattle.text_works.specs.Settling.{IsRead, IsSettled, IsSettledAs}

pub spelled_fits : (bytes : List ℕ) (script : ScriptLines) → Spells bytes script → FitsScript script
spelled_fits bytes script spelled = let spells = spelled.spells in spells.fits

pub read_holds : (bytes : List ℕ) (script : Script) → IsRead bytes script → HoldsLines script.conf.items
read_holds bytes script read = read.lines

-- the text of the configuration that was read is that of the script
pub text_of : (script : Script) → HoldsLines script.conf.items → script.conf.items ≡ configuration_text (script_of script)
unfolding HoldsLines
text_of script holds = holds

-- ---- refusals

pub refused_unread : (answer : Status) (bytes : List ℕ) → IsReadRefused bytes answer → IsRefused bytes answer
refused_unread status.Done bytes refused = absurd refused
refused_unread status.Usage bytes refused = absurd refused
refused_unread (status.Script fault) bytes refused = refused
refused_unread (status.Conf fault) bytes refused = absurd refused
refused_unread status.ReadFault bytes refused = absurd refused
refused_unread status.WriteFault bytes refused = absurd refused
refused_unread status.LinkFault bytes refused = absurd refused
refused_unread status.TurnsOver bytes refused = absurd refused
refused_unread (status.Lease line) bytes refused = absurd refused
refused_unread (status.Capture what) bytes refused = absurd refused
refused_unread (status.Schedule line) bytes refused = absurd refused
refused_unread (status.Transcript line) bytes refused = absurd refused
refused_unread status.Unjustified bytes refused = absurd refused
refused_unread status.TooLong bytes refused = absurd refused
refused_unread status.NoMemory bytes refused = tt

pub refused_conf : (answer : Status) (bytes : List ℕ) (script : Script) → IsRead bytes script → IsConfRefused (configuration_text (script_of script)) answer
    → IsRefused bytes answer
refused_conf status.Done bytes script read refused = absurd refused
refused_conf status.Usage bytes script read refused = absurd refused
refused_conf (status.Script fault) bytes script read refused = absurd refused
refused_conf (status.Conf fault) bytes script read refused = record { script = script_of script; spelled = read.spelled; told = refused }
refused_conf status.ReadFault bytes script read refused = absurd refused
refused_conf status.WriteFault bytes script read refused = absurd refused
refused_conf status.LinkFault bytes script read refused = absurd refused
refused_conf status.TurnsOver bytes script read refused = absurd refused
refused_conf (status.Lease line) bytes script read refused = absurd refused
refused_conf (status.Capture what) bytes script read refused = absurd refused
refused_conf (status.Schedule line) bytes script read refused = absurd refused
refused_conf (status.Transcript line) bytes script read refused = absurd refused
refused_conf status.Unjustified bytes script read refused = absurd refused
refused_conf status.TooLong bytes script read refused = absurd refused
refused_conf status.NoMemory bytes script read refused = tt

pub refused_read : (bytes : List ℕ) (script : Script) (result : Result Settled Status) → IsRead bytes script
    → IfErr result (IsConfRefused (configuration_text (script_of script))) → IfErr result (IsRefused bytes)
refused_read bytes script (Ok s) read refused = tt
refused_read bytes script (Err answer) read refused = refused_conf answer bytes script read refused

-- ---- nothing is refused

is_settled : (bytes : List ℕ) (script : ScriptLines) (s : Settled) → Spells bytes script → IsSettledAs script s → IsSettled bytes s
is_settled bytes script s spelled is = record {
  is_script = record {
    spelled = subst (Spells bytes) (sym is.script_is) spelled;
    configured = subst (λ (lines : ScriptLines). IsConfOf (configuration_text lines) (Ok (configuration s.conf))) (sym is.script_is) is.configured;
  };
  managed = subst (λ (lines : ScriptLines). s.managed.items ≡ managed_in lines (configuration s.conf)) (sym is.script_is) is.managed;
}

pub settled_read : (bytes : List ℕ) (script : Script) (result : Result Settled Status) → IsRead bytes script → IfOk result (IsSettledAs (script_of script))
    → IfOk result (IsSettled bytes)
settled_read bytes script (Ok s) read is = is_settled bytes (script_of script) s read.spelled is
settled_read bytes script (Err answer) read is = tt

-- ---- what is managed

specs_fit : (index : ℕ) (specs : List IfSpec) → 1 ≤ index → index + length specs ≤ 65 → CountsFrom index specs → AllByRecursion FitsSpec specs
specs_fit index [] low high counts = tt
specs_fit index (spec ∷ specs) low high counts =
    let number : spec.index.number ≡ index = counts.0 in
    (record { index = (omega arith, omega arith); name = counts.1; mac = counts.2 }, specs_fit (index + 1) specs (omega arith) (omega arith) counts.3)

pub each_fits : (specs : List IfSpec) → FitInterfaces specs → AllByRecursion FitsSpec specs
each_fits specs fits = specs_fit 1 specs (omega arith) (omega (arith, fits.few)) fits.counted

-- what a configuration has in force fits, and shares lead to managed interfaces
pub in_force : (text : List ℕ) (conf : Configuration) → IsConfOf text (Ok conf) → (specs : List IfSpec) → FitInterfaces specs
    → AreInForce (managed_of conf specs)
in_force text conf is specs fits = settings_fit text conf is specs (each_fits specs fits)

-- the interfaces that are managed fit
pub live_managed : (text : List ℕ) (conf : Configuration) (specs : List IfSpec) → IsConfOf text (Ok conf) → FitInterfaces specs
    → AreManaged (managed_of conf specs)
live_managed text conf specs is fits = let all = in_force text conf is specs fits in all.fit

pub ifaces_fit : (bytes : List ℕ) (script : ScriptLines) (conf : Configuration) → IsScript bytes script conf → FitInterfaces script.ifaces
ifaces_fit bytes script conf is = let fits = spelled_fits bytes script is.spelled in fits.ifaces

pub managed_fit : (bytes : List ℕ) (script : ScriptLines) (conf : Configuration) → IsScript bytes script conf → AreManaged (managed_in script conf)
managed_fit bytes script conf is =
    let all = in_force (configuration_text script) conf is.configured script.ifaces (ifaces_fit bytes script conf is) in all.fit

pub settled_fit : (bytes : List ℕ) (s : Settled) → IsSettled bytes s → AreManaged s.managed.items
settled_fit bytes s is = subst AreManaged (sym is.managed) (managed_fit bytes (script_of s.script) (configuration s.conf) is.is_script)
