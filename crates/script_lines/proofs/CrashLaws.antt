-- The line `crash`: what is read is spelled so, and what is spelled so is read.
use Rattle.std.proofs.Common.{◌≡◌, ℕ, ◌^◌, ◌<◌, true, false, cond, List, ◌∷◌, ◌++◌, Option, Some, None, option_map, refl, sym, ap, ◌∙◌, subst, arith, codes, bytes_eq}
use Rattle.std.specs.Prelude.{IfSome}
use Rattle.std.specs.Fmt.{decimal}
use Rattle.std.proofs.lemmas.List.{append_assoc}
use Rattle.std.proofs.lemmas.Slice.Eq.{bytes_eq-Decides}
use Rattle.net_types.specs.Reads.{Reads}
use Rattle.net_types.specs.Marks.{Lacks, IsPrintable}
use Rattle.net_types.specs.Numbers.{number_at, is_numeral}
use Rattle.net_types.proofs.ReadsLaws.{some_same, mapped, pair_reads, map_reads}
use Rattle.net_types.proofs.NumberLaws.{number_reads}
use Rattle.net_types.proofs.MarkLaws.{decimal_lacks, decimal_printable}
use Rattle.script_model.specs.declared.crashing.CrashKind.{CrashKind}
use Rattle.script_model.specs.declared.crashing.CrashKind.TheVariants.{Old, New}
use Rattle.script_model.specs.Crashes.{CrashScript, calls_text, kind_text, crash_text, FitsCrash}
use Rattle.script_lines.specs.CrashReading.{calls_at, kind_at, crash_at}
use Rattle.script_lines.proofs.Printables.{joined_printable}

-- ---- how many calls pass

abbrev FitsCalls : Option ℕ → Type 0
FitsCalls calls = IfSome calls (λ n. n < 2 ^ 64)

word_reads : Reads decimal (λ n. n < 2 ^ 64) (number_at (2 ^ 64))
word_reads = number_reads (2 ^ 64) (omega arith)

dash_none : number_at (2 ^ 64) (codes "-") ≡ None
unfolding number_at is_numeral
dash_none = refl

no_dash : (n : ℕ) → n < 2 ^ 64 → bytes_eq (decimal n) (codes "-") ≡ false
no_dash n small =
    elim (bytes_eq (decimal n) (codes "-")) as (λ b. bytes_eq (decimal n) (codes "-") ≡ b → b ≡ false) [
      | true ↦ λ t.
          let both : None ≡ Some n = sym dash_none ∙ ap (number_at (2 ^ 64)) (sym ((bytes_eq-Decides _ _).0 t)) ∙ word_reads.whole n small in
          cc
      | false ↦ λ t. refl
    ] refl

abbrev AreCalls : List ℕ → Option ℕ → Type 0
AreCalls text calls = (text ≡ calls_text calls) × FitsCalls calls

calls_sound : (text : List ℕ) (calls : Option ℕ) → calls_at text ≡ Some calls → AreCalls text calls
unfolding calls_at
calls_sound text calls e =
    elim (bytes_eq text (codes "-")) as
    (λ b. bytes_eq text (codes "-") ≡ b → cond b (Some None) (option_map Some (number_at (2 ^ 64) text)) ≡ Some calls → AreCalls text calls) [
      | true ↦ λ t q. subst (AreCalls text) (some_same q) ((bytes_eq-Decides _ _).0 t, tt)
      | false ↦ λ t q.
          let m = mapped Some (number_at (2 ^ 64) text) calls q in
          subst (AreCalls text) m.gives (word_reads.sound text m.value m.was)
    ] refl e

calls_whole : (calls : Option ℕ) → FitsCalls calls → calls_at (calls_text calls) ≡ Some calls
unfolding calls_at
calls_whole None fits = refl
calls_whole (Some n) fits = rw (no_dash n fits, word_reads.whole n fits) refl

calls_reads : Reads calls_text FitsCalls calls_at
calls_reads = record { sound = calls_sound; whole = calls_whole }

calls_lack : (calls : Option ℕ) → FitsCalls calls → Lacks 32 (calls_text calls)
calls_lack None fits = refl
calls_lack (Some n) fits = decimal_lacks n 32 fits refl

calls_printable : (calls : Option ℕ) → FitsCalls calls → IsPrintable (calls_text calls)
calls_printable None fits = refl
calls_printable (Some n) fits = decimal_printable n fits

-- ---- what is left

new_sound : (text : List ℕ) (kind : CrashKind) → cond (bytes_eq text (codes "new")) (Some New) None ≡ Some kind → text ≡ kind_text kind
new_sound text kind e =
    elim (bytes_eq text (codes "new")) as (λ b. bytes_eq text (codes "new") ≡ b → cond b (Some New) None ≡ Some kind → text ≡ kind_text kind) [
      | true ↦ λ t q. (bytes_eq-Decides _ _).0 t ∙ ap kind_text (some_same q)
      | false ↦ λ t q. let never : ⊥ = cc in absurd never
    ] refl e

kind_sound : (text : List ℕ) (kind : CrashKind) → kind_at text ≡ Some kind → text ≡ kind_text kind
unfolding kind_at
kind_sound text kind e =
    elim (bytes_eq text (codes "old")) as
    (λ b. bytes_eq text (codes "old") ≡ b → cond b (Some Old) (cond (bytes_eq text (codes "new")) (Some New) None) ≡ Some kind → text ≡ kind_text kind) [
      | true ↦ λ t q. (bytes_eq-Decides _ _).0 t ∙ ap kind_text (some_same q)
      | false ↦ λ t q. new_sound text kind q
    ] refl e

kind_whole : (kind : CrashKind) → kind_at (kind_text kind) ≡ Some kind
unfolding kind_at
kind_whole Old = refl
kind_whole New = refl

kind_reads : Reads kind_text (λ kind. Unit {0}) kind_at
kind_reads = record { sound = λ text kind e. (kind_sound text kind e, tt); whole = λ kind fits. kind_whole kind }

kind_printable : (kind : CrashKind) → IsPrintable (kind_text kind)
kind_printable Old = refl
kind_printable New = refl

-- ---- crashes

abbrev Parts : Type 0
Parts = Option ℕ × CrashKind

abbrev pub crash_words : CrashScript → List ℕ
crash_words crash = calls_text crash.calls ++ 32 ∷ kind_text crash.kind

pub crash_reads : Reads crash_words FitsCrash crash_at
unfolding crash_at
crash_reads =
    map_reads (λ (p : Parts). record { calls = p.0; kind = p.1 }) (λ crash. (crash.calls, crash.kind))
    (pair_reads 32 calls_reads kind_reads calls_lack)
    (λ p fits. refl)
    (λ crash fits. refl)
    (λ p fits. fits.0)
    (λ crash fits. (fits, tt))

pub crash_spelled : (crash : CrashScript) → crash_text crash ≡ codes "crash " ++ crash_words crash
crash_spelled crash = simp append_assoc

pub crash_printable : (crash : CrashScript) → FitsCrash crash → IsPrintable (crash_words crash)
crash_printable crash fits = joined_printable (calls_text crash.calls) (kind_text crash.kind) (calls_printable crash.calls fits) (kind_printable crash.kind)
