-- The interfaces: what is read is what the words spell, and what they spell is read.
use Rattle.std.proofs.Common.{◌≡◌, ℕ, ◌+◌, ◌≤◌, true, false, ◌&&◌, cond, List, [], ◌∷◌, ◌++◌, length, map, Some, None, refl, sym, ap, ◌∙◌, subst, eqb, ltb, true≢false}
use Rattle.std.specs.Char.{is_ascii_alphanumeric}
use Rattle.std.specs.List.{list_all, list_any}
use Rattle.std.proofs.lemmas.Bool.{or_from, eqb-true}
use Rattle.std.proofs.lemmas.List.{length-map}
use Rattle.net_types.specs.declared.interface.IfSpec.{IfSpec}
use Rattle.net_types.specs.declared.interface.Name.{Name}
use Rattle.net_types.specs.declared.address.Mac.{Mac}
use Rattle.net_types.specs.AddressText.{mac_text, FitsMac}
use Rattle.net_types.specs.NameText.{is_name, is_name_byte, name_text, FitsName}
use Rattle.net_types.specs.Reads.{Reads}
use Rattle.net_types.proofs.ReadsLaws.{passed, step, some_same, pair_reads, guard_passed}
use Rattle.net_types.proofs.NameLaws.{name_reads, name_lacks}
use Rattle.net_types.proofs.AddressLaws.{mac_reads}
use Rattle.script_model.specs.Scripts.{CountsFrom, FitInterfaces}
use Rattle.iface_lists.specs.UnlikeIfaces.{all_unlike}
use Rattle.iface_lists.proofs.UnlikeLaws.{pairs_sound, pairs_whole}
use Rattle.live_words.specs.LiveWords.{iface_word}
use Rattle.live_words.specs.LiveReading.{named_at, spec_of, specs_at, ifaces_at, is_option}

-- ---- one word

named_reads : Reads (λ (p : Name × Mac). name_text p.0 ++ 61 ∷ mac_text p.1) (λ p. FitsName p.0 × FitsMac p.1) named_at
unfolding named_at
named_reads = pair_reads 61 name_reads mac_reads (λ name fits. name_lacks name 61 fits refl)

-- ---- all words

specs_sound : (number : ℕ) (words : List (List ℕ)) (specs : List IfSpec) → specs_at number words ≡ Some specs
    → (words ≡ map iface_word specs) × CountsFrom number specs
specs_sound number [] specs e = subst (λ s. ([] ≡ map iface_word s) × CountsFrom number s) (some_same e) (refl, tt)
specs_sound number (word ∷ words) specs e =
    let first = passed (named_at word) _ specs e in
    let others = passed (specs_at (number + 1) words) _ specs first.gives in
    let one = named_reads.sound word first.value first.was in
    let rest = specs_sound (number + 1) words others.value others.was in
    let spelled : word ∷ words ≡ map iface_word (spec_of number first.value ∷ others.value) =
    ap (λ w. w ∷ words) one.0 ∙ ap (λ ws. iface_word (spec_of number first.value) ∷ ws) rest.0 in
    subst (λ s. (word ∷ words ≡ map iface_word s) × CountsFrom number s) (some_same others.gives) (spelled, (refl, one.1.0, one.1.1, rest.1))

specs_whole : (number : ℕ) (specs : List IfSpec) → CountsFrom number specs → specs_at number (map iface_word specs) ≡ Some specs
specs_whole number [] counts = refl
specs_whole number (spec ∷ specs) counts =
    let same : spec_of number (spec.name, spec.mac) ≡ spec =
    ap (λ n. record { index = record { number = n }; name = spec.name; mac = spec.mac }) (sym counts.0) in
    step _ _ (spec.name, spec.mac) (named_reads.whole (spec.name, spec.mac) (counts.1, counts.2))
    ∙ step _ _ specs (specs_whole (number + 1) specs counts.3)
    ∙ ap (λ s. Some (s ∷ specs)) same

-- ---- what the words name

pub record AreInterfaces (words : List (List ℕ)) (specs : List IfSpec) : Type 0 where
  pub spelled : words ≡ map iface_word specs
  pub some : 1 ≤ length specs
  pub fit : FitInterfaces specs

pub ifaces_sound : (words : List (List ℕ)) (specs : List IfSpec) → 1 ≤ length words → length words ≤ 64 → ifaces_at words ≡ Some specs
    → AreInterfaces words specs
unfolding ifaces_at
ifaces_sound words specs some few e =
    let passes = guard_passed all_unlike (specs_at 1 words) specs e in
    let read = specs_sound 1 words specs passes.0 in
    let same : length words ≡ length specs = ap length read.0 ∙ length-map specs iface_word in
    record {
      spelled = read.0;
      some = subst (λ n. 1 ≤ n) same some;
      fit = record { few = subst (λ n. n ≤ 64) same few; counted = read.1; unlike = pairs_sound specs passes.1 };
    }

pub ifaces_whole : (specs : List IfSpec) → FitInterfaces specs → ifaces_at (map iface_word specs) ≡ Some specs
unfolding ifaces_at
ifaces_whole specs fit = rw (specs_whole 1 specs fit.counted) (ap (λ b. cond b (Some specs) None) (pairs_whole 1 specs fit.counted fit.unlike))

-- ---- words that are no options

name_plain : (name rest : List ℕ) → is_name name ≡ true → is_option (name ++ rest) ≡ false
unfolding is_name
name_plain [] rest e = cc
name_plain (byte ∷ bytes) rest e =
    elim (eqb byte 45) as (λ b. eqb byte 45 ≡ b → b ≡ false) [
      | true ↦ λ t. absurd
          (true≢false
          (sym e
          ∙ ap (λ (b : ℕ). cond (is_ascii_alphanumeric b) (ltb (length (byte ∷ bytes)) 16 && list_all is_name_byte (byte ∷ bytes)) false)
          (eqb-true byte 45 t)))
      | false ↦ λ t. refl
    ] refl

pub ifaces_plain : (number : ℕ) (specs : List IfSpec) → CountsFrom number specs → list_any is_option (map iface_word specs) ≡ false
ifaces_plain number [] counts = refl
ifaces_plain number (spec ∷ specs) counts =
    or_from (is_option (iface_word spec)) _ (name_plain (name_text spec.name) (61 ∷ mac_text spec.mac) counts.1.spelled)
    (ifaces_plain (number + 1) specs counts.3)
