-- The first line of a text.
use Rattle.std.proofs.Common.{◌≡◌, ◌≢◌, ℕ, suc, ◌+◌, ◌-◌, ◌<◌, Bool, true, false, not, cond, List, [], ◌∷◌, ◌++◌, length, take, Option, Some, None, option_map, refl, sym, ap, ◌∙◌, subst, arith, eqb, nat_eq}
use Rattle.std.specs.List.{position, ends_with}
use Rattle.std.proofs.lemmas.Bool.{and_parts, and_from, false_from_ne_true, true≢false, ne_eqb}
use Rattle.std.proofs.lemmas.Option.{none-some}
use Rattle.std.proofs.lemmas.Bool.Decides.{Decides-eqb}
use Rattle.std.proofs.lemmas.List.{append-nil, append_assoc, length-append, take_at}
use Rattle.std.proofs.lemmas.Slice.Eq.{ends_is}
use Rattle.net_types.specs.Cutting.{split_at_byte}
use Rattle.net_types.specs.Marks.{Only, Lacks}
use Rattle.net_types.proofs.MarkLaws.{lacks-append}
use Rattle.net_types.proofs.ReadsLaws.{some_same, split_sound, split_whole}
use Rattle.conf_words.specs.Marks.{line_feed, carriage_return}
use Rattle.conf_words.specs.TextLines.{LineEnd, Feed, ReturnAndFeed, TextEnd, end_text, MayEnd, BeginsWithLine}
use Rattle.conf_words.specs.Steps.{without_return, line_by, line_at}
use Rattle.conf_words.proofs.Cuts.{only_where, no_place_where}

mapped_none : {A B : Type 0} (f : A → B) (o : Option A) → option_map f o ≡ None → o ≡ None
mapped_none f None e = refl
mapped_none f (Some x) e = let never : ⊥ = cc in absurd never

pub lacks_where : (byte : ℕ) (text : List ℕ) → split_at_byte byte text ≡ None → Lacks byte text
unfolding split_at_byte
lacks_where byte text e = only_where (λ b. not (eqb b byte)) (λ b. eqb b byte) (λ b. refl) text (mapped_none _ (position (λ b. eqb b byte) text) e)

pub none_where : (byte : ℕ) (text : List ℕ) → Lacks byte text → split_at_byte byte text ≡ None
unfolding split_at_byte
none_where byte text lacks = ap (option_map _) (no_place_where (λ b. not (eqb b byte)) (λ b. eqb b byte) (λ b. refl) text lacks)

only_front : (test : ℕ → Bool) (front rest : List ℕ) → Only test (front ++ rest) → Only test front
only_front test [] rest only = refl
only_front test (byte ∷ bytes) rest only =
    let parts = and_parts (test byte) _ only in
    and_from _ _ parts.0 (only_front test bytes rest parts.1)

-- ---- the carriage return

ends : (line : List ℕ) → ends_with nat_eq line (carriage_return ∷ []) ≡ true → line ≡ take (length line - 1) line ++ carriage_return ∷ []
ends line t = (ends_is Decides-eqb line (carriage_return ∷ []) (ends_with nat_eq line (carriage_return ∷ [])) refl).0 t

ended : (line before : List ℕ) → line ≡ before ++ carriage_return ∷ [] → ends_with nat_eq line (carriage_return ∷ []) ≡ true
ended line before e = (ends_is Decides-eqb line (carriage_return ∷ []) (ends_with nat_eq line (carriage_return ∷ [])) refl).1 before e

kept : (line : List ℕ) → ((before : List ℕ) → line ≢ before ++ carriage_return ∷ []) → without_return line ≡ line
unfolding without_return
kept line other =
    let no : ends_with nat_eq line (carriage_return ∷ []) ≡ false = false_from_ne_true _ (λ t. other _ (ends line t)) in
    ap (λ b. cond b (take (length line - 1) line) line) no

dropped : (line : List ℕ) → without_return (line ++ carriage_return ∷ []) ≡ line
unfolding without_return
dropped line =
    let whole = line ++ carriage_return ∷ [] in
    let yes : ends_with nat_eq whole (carriage_return ∷ []) ≡ true = ended whole line refl in
    let size : length whole - 1 ≡ length line = simp length-append (omega arith) in
    ap (λ b. cond b (take (length whole - 1) whole) whole) yes ∙ take_at line (carriage_return ∷ []) (length whole - 1) (sym size)

-- ---- what is read begins the text

fed : (text front rest : List ℕ) → text ≡ front ++ line_feed ∷ rest → Lacks line_feed front → BeginsWithLine text (without_return front) rest
unfolding without_return
fed text front rest cut lacks =
    elim (ends_with nat_eq front (carriage_return ∷ [])) as
    (λ b. ends_with nat_eq front (carriage_return ∷ []) ≡ b → BeginsWithLine text (cond b (take (length front - 1) front) front) rest) [
      | true ↦ λ t.
          let line = take (length front - 1) front in
          record {
            line_end = ReturnAndFeed;
            spelled = cut ∙ ap (λ f. f ++ line_feed ∷ rest) (ends front t) ∙ append_assoc line (carriage_return ∷ []) (line_feed ∷ rest);
            lacks = only_front _ line (carriage_return ∷ []) (subst (λ f. Lacks line_feed f) (ends front t) lacks);
            may_end = tt;
          }
      | false ↦ λ t. record {
        line_end = Feed;
        spelled = cut;
        lacks = lacks;
        may_end = λ before e. true≢false (sym (ended front before e) ∙ t);
      }
    ] refl

some_line : (text : List ℕ) → text ≢ [] → line_at text ≡ Some (line_by text (split_at_byte line_feed text))
unfolding line_at
some_line [] some = absurd (some refl)
some_line (byte ∷ bytes) some =
    let long : eqb (suc (length bytes)) 0 ≡ false = ne_eqb _ _ (λ e. absurd (omega (arith, e))) in
    ap (λ b. cond b None (Some (line_by (byte ∷ bytes) (split_at_byte line_feed (byte ∷ bytes))))) long

by_parts : (text : List ℕ) → text ≢ [] → BeginsWithLine text (line_by text (split_at_byte line_feed text)).0 (line_by text (split_at_byte line_feed text)).1
by_parts text some =
    elim (split_at_byte line_feed text) as (λ o. split_at_byte line_feed text ≡ o → BeginsWithLine text (line_by text o).0 (line_by text o).1) [
      | Some parts ↦ λ t. let cut = split_sound line_feed text parts.0 parts.1 t in fed text parts.0 parts.1 cut.0 cut.1
      | None ↦ λ t. record { line_end = TextEnd; spelled = sym (append-nil text); lacks = lacks_where line_feed text t; may_end = (some, refl) }
    ] refl

pub no_line : line_at [] ≡ None
unfolding line_at
no_line = refl

nonempty : (text line rest : List ℕ) → line_at text ≡ Some (line, rest) → text ≢ []
nonempty text line rest e empty = none-some _ (sym no_line ∙ ap line_at (sym empty) ∙ e)

pub line_sound : (text line rest : List ℕ) → line_at text ≡ Some (line, rest) → BeginsWithLine text line rest
line_sound text line rest e =
    let some = nonempty text line rest e in
    let pair : List ℕ × List ℕ = (line, rest) in
    let same : line_by text (split_at_byte line_feed text) ≡ pair = some_same (sym (some_line text some) ∙ e) in
    subst (λ (p : List ℕ × List ℕ). BeginsWithLine text p.0 p.1) same (by_parts text some)

pub line_none : (text : List ℕ) → line_at text ≡ None → text ≡ []
line_none [] e = refl
line_none (byte ∷ bytes) e =
    let never : Some (line_by (byte ∷ bytes) (split_at_byte line_feed (byte ∷ bytes))) ≡ None =
    sym (some_line (byte ∷ bytes) (λ q. let no : ⊥ = cc in no)) ∙ e in
    let no : ⊥ = cc in absurd no

-- ---- what begins the text is read

longer : (front rest : List ℕ) (byte : ℕ) → front ++ byte ∷ rest ≢ []
longer [] rest byte e = let no : ⊥ = cc in no
longer (first ∷ front) rest byte e = let no : ⊥ = cc in no

fed_whole : (text front rest : List ℕ) → text ≡ front ++ line_feed ∷ rest → Lacks line_feed front → line_at text ≡ Some (without_return front, rest)
fed_whole text front rest cut lacks =
    some_line text (λ e. longer front rest line_feed (sym cut ∙ e))
    ∙ ap (λ o. Some (line_by text o)) (ap (split_at_byte line_feed) cut ∙ split_whole line_feed front rest lacks)

pub line_whole : (text line rest : List ℕ) → BeginsWithLine text line rest → line_at text ≡ Some (line, rest)
line_whole text line rest begins = by begins.line_end begins.spelled begins.lacks begins.may_end
  where
    by : (line_end : LineEnd) → text ≡ line ++ (end_text line_end ++ rest) → Lacks line_feed line → MayEnd line_end line rest → line_at text ≡ Some (line, rest)
    by Feed spelled lacks other = fed_whole text line rest spelled lacks ∙ ap (λ l. Some (l, rest)) (kept line other)
    by ReturnAndFeed spelled lacks other =
        fed_whole text (line ++ carriage_return ∷ []) rest (spelled ∙ sym (append_assoc line (carriage_return ∷ []) (line_feed ∷ rest)))
        (lacks-append line_feed line (carriage_return ∷ []) lacks refl)
        ∙ ap (λ l. Some (l, rest)) (dropped line)
    by TextEnd spelled lacks other =
        let same : text ≡ line = spelled ∙ ap (λ r. line ++ r) other.1 ∙ append-nil line in
        some_line text (λ e. other.0 (sym same ∙ e))
        ∙ ap (λ o. Some (line_by text o)) (ap (split_at_byte line_feed) same ∙ none_where line_feed line lacks)
        ∙ ap (λ l. Some (l, [])) same ∙ ap (λ r. Some (line, r)) (sym other.1)

pub line_shorter : (text line rest : List ℕ) → BeginsWithLine text line rest → length rest < length text
line_shorter text line rest begins = by begins.line_end begins.spelled begins.may_end
  where
    by : (line_end : LineEnd) → text ≡ line ++ (end_text line_end ++ rest) → MayEnd line_end line rest → length rest < length text
    by Feed spelled other =
        let size : length text ≡ length line + suc (length rest) = ap length spelled ∙ length-append line (line_feed ∷ rest) in omega (arith, size)
    by ReturnAndFeed spelled other =
        let size : length text ≡ length line + suc (suc (length rest)) = ap length spelled
        ∙ length-append line (carriage_return ∷ line_feed ∷ rest) in omega (arith, size)
    by TextEnd spelled other =
        let same : text ≡ line = spelled ∙ ap (λ r. line ++ r) other.1 ∙ append-nil line in
        let none : length rest ≡ 0 = ap length other.1 in
        let some : 0 < length text = positive text (λ e. other.0 (sym same ∙ e)) in
        omega (arith, none, some)
      where
        positive : (text : List ℕ) → text ≢ [] → 0 < length text
        positive [] some = absurd (some refl)
        positive (byte ∷ bytes) some = omega arith
