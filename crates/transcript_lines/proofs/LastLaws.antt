-- What stands around the last separator, and whether a call was done.
use Rattle.std.proofs.Common.{◌≡◌, ℕ, zero, suc, ◌+◌, ◌-◌, ◌≤◌, Bool, true, false, not, cond, List, [], ◌∷◌, ◌++◌, length, take, drop, Option, Some, None, refl, sym, ap, ◌∙◌, subst, arith, codes, eqb, append_assoc, bytes_eq}
use Rattle.std.specs.Prelude.{reverse}
use Rattle.std.proofs.lemmas.Bool.{and_parts, both_ways, eqb-true}
use Rattle.std.proofs.lemmas.List.{length-drop, reverse-append, reverse-reverse, take_all}
use Rattle.std.proofs.lemmas.List.Folds.{list_all-append}
use Rattle.std.proofs.lemmas.Slice.Eq.{bytes_eq-Decides}
use Rattle.memchr.specs.Find.{IsLastByte, Nowhere, Passes, is_byte}
use Rattle.net_types.specs.Cutting.{split_at_byte}
use Rattle.net_types.specs.Marks.{Lacks}
use Rattle.net_types.proofs.ReadsLaws.{mapped, some_same, split_sound, split_whole}
use Rattle.script_model.specs.Lines.{outcome_text}
use Rattle.transcript_text.specs.FieldForms.{split_at_last}
use Rattle.transcript_text.specs.LineFields.{outcome_field}

reversed_lacks : (byte : ℕ) (text : List ℕ) → Lacks byte text → Lacks byte (reverse text)
reversed_lacks byte [] free = refl
reversed_lacks byte (b ∷ text) free =
    let parts : (not (eqb b byte) ≡ true) × Lacks byte text = and_parts _ _ free in
    let split : reverse (b ∷ text) ≡ reverse text ++ b ∷ [] = reverse-append (b ∷ []) text in
    rw split (list_all-append (λ c. not (eqb c byte)) (reverse text) (b ∷ []) ∙ (rw (reversed_lacks byte text parts.1, parts.0) refl))

turned : (separator : ℕ) (front back : List ℕ) → reverse (front ++ separator ∷ back) ≡ reverse back ++ separator ∷ reverse front
turned separator front back =
    reverse-append front (separator ∷ back) ∙ ap (λ text. text ++ reverse front) (reverse-append (separator ∷ []) back)
    ∙ append_assoc (reverse back) (separator ∷ []) (reverse front)

pub last_whole : (separator : ℕ) (front back : List ℕ) → Lacks separator back → split_at_last separator (front ++ separator ∷ back) ≡ Some (front, back)
unfolding split_at_last
last_whole separator front back free =
    rw (turned separator front back, split_whole separator (reverse back) (reverse front) (reversed_lacks separator back free))
    (rw (reverse-reverse front, reverse-reverse back) refl)

pub last_sound : (separator : ℕ) (text front back : List ℕ) → split_at_last separator text ≡ Some (front, back) → text ≡ front ++ separator ∷ back
unfolding split_at_last
last_sound separator text front back e =
    let m = mapped (λ (p : List ℕ × List ℕ). (reverse p.1, reverse p.0)) (split_at_byte separator (reverse text)) (front, back) e in
    let cut = split_sound separator (reverse text) m.value.0 m.value.1 m.was in
    let one : reverse m.value.1 ≡ front = ap (λ p. p.0) m.gives in
    let two : reverse m.value.0 ≡ back = ap (λ p. p.1) m.gives in
    sym (reverse-reverse text) ∙ ap reverse cut.0 ∙ turned separator m.value.0 m.value.1 ∙ ap (λ r. r ++ separator ∷ reverse m.value.0) one
    ∙ ap (λ r. front ++ separator ∷ r) two

-- ---- found from the end

nowhere_lacks : (separator : ℕ) (bytes : List ℕ) → Nowhere (Passes (is_byte separator) bytes) 0 (length bytes) → Lacks separator bytes
nowhere_lacks separator [] none = refl
nowhere_lacks separator (byte ∷ bytes) none =
    first (eqb byte separator) refl (nowhere_lacks separator bytes (λ k low high. none (suc k) (omega arith) (omega arith)))
  where
    first : (b : Bool) → eqb byte separator ≡ b → Lacks separator bytes → Lacks separator (byte ∷ bytes)
    first true is later = absurd (none 0 (omega arith) (omega arith) is)
    first false is later = rw is later

pub record LastCut (separator k : ℕ) (bytes : List ℕ) : Type 0 where
  pub cut : bytes ≡ take k bytes ++ separator ∷ drop (k + 1) bytes
  pub free : Lacks separator (drop (k + 1) bytes)

last_cut : (separator : ℕ) (bytes : List ℕ) (k : ℕ) → IsLastByte (is_byte separator) bytes (Some k) → LastCut separator k bytes
last_cut separator [] k last = absurd (omega (arith, last.0.high))
last_cut separator (byte ∷ bytes) zero last =
    record {
      cut = ap (λ b. b ∷ bytes) (eqb-true byte separator last.1);
      free = nowhere_lacks separator bytes (λ k low high. last.0.after (suc k) (omega arith) (omega arith));
    }
last_cut separator (byte ∷ bytes) (suc k) last =
    let high = last.0.high in
    let later =
    last_cut separator bytes k (
      record { low = omega arith; high = omega (arith, high); after = λ n low below. last.0.after (suc n) (omega arith) (omega arith) },
      last.1,
    ) in
    let next : suc k + 1 ≡ suc (k + 1) = omega arith in
    record {
      cut = ap (λ bs. byte ∷ bs) later.cut ∙ ap (λ n. take (suc k) (byte ∷ bytes) ++ separator ∷ drop n (byte ∷ bytes)) (sym next);
      free = subst (λ n. Lacks separator (drop n (byte ∷ bytes))) (sym next) later.free;
    }

pub last_found : (separator : ℕ) (bytes : List ℕ) (k : ℕ) → IsLastByte (is_byte separator) bytes (Some k)
    → split_at_last separator bytes ≡ Some (take k bytes, drop (k + 1) bytes)
last_found separator bytes k last =
    let c = last_cut separator bytes k last in
    ap (split_at_last separator) c.cut ∙ last_whole separator (take k bytes) (drop (k + 1) bytes) c.free

-- what stands after it as a slice of all
pub last_found_slice : (separator : ℕ) (bytes : List ℕ) (k : ℕ) → IsLastByte (is_byte separator) bytes (Some k)
    → split_at_last separator bytes ≡ Some (take k bytes, take (length bytes - (k + 1)) (drop (k + 1) bytes))
last_found_slice separator bytes k last =
    let all : length (drop (k + 1) bytes) ≤ length bytes - (k + 1) = omega (arith, length-drop (k + 1) bytes) in
    last_found separator bytes k last ∙ ap (λ rest. Some (take k bytes, rest)) (sym (take_all (length bytes - (k + 1)) (drop (k + 1) bytes) all))

lacks_whole : (separator : ℕ) (front back : List ℕ) → Lacks separator (front ++ separator ∷ back) → ⊥
lacks_whole separator front back free =
    let parts = and_parts _ _ (sym (list_all-append (λ b. not (eqb b separator)) front (separator ∷ back)) ∙ free) in
    let first = (and_parts _ _ parts.1).0 in
    both_ways _ (ap not (eqb-same separator)) first
  where
    eqb-same : (n : ℕ) → eqb n n ≡ true
    eqb-same n = grind arith

pub last_none : (separator : ℕ) (bytes : List ℕ) → IsLastByte (is_byte separator) bytes None → split_at_last separator bytes ≡ None
last_none separator bytes none = of_found (split_at_last separator bytes) refl
  where
    of_found : (o : Option (List ℕ × List ℕ)) → split_at_last separator bytes ≡ o → split_at_last separator bytes ≡ None
    of_found None is = is
    of_found (Some parts) is =
        let free : Lacks separator (parts.0 ++ separator ∷ parts.1) =
        subst (Lacks separator) (last_sound separator bytes parts.0 parts.1 is) (nowhere_lacks separator bytes none) in
        absurd (lacks_whole separator parts.0 parts.1 free)

-- ---- whether it was done

pub outcome_whole : (done : Bool) → outcome_field.at (outcome_text done) ≡ Some done
outcome_whole true = refl
outcome_whole false = refl

pub outcome_lacks : (done : Bool) → Lacks 32 (outcome_text done)
outcome_lacks true = refl
outcome_lacks false = refl

pub outcome_sound : (text : List ℕ) (done : Bool) → outcome_field.at text ≡ Some done → text ≡ outcome_text done
outcome_sound text done e = by_word (bytes_eq text (codes "ok")) (bytes_eq text (codes "failed")) refl refl e
  where
    by_word : (ok failed : Bool) → bytes_eq text (codes "ok") ≡ ok → bytes_eq text (codes "failed") ≡ failed
        → cond ok (Some true) (cond failed (Some false) None) ≡ Some done → text ≡ outcome_text done
    by_word true failed is other q = (bytes_eq-Decides text (codes "ok")).0 is ∙ ap outcome_text (some_same q)
    by_word false true not_ok is q = (bytes_eq-Decides text (codes "failed")).0 is ∙ ap outcome_text (some_same q)
    by_word false false not_ok not_failed q = cc
