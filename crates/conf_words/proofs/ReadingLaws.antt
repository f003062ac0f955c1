-- Lines that were read so far, and that they are one.
use Rattle.std.proofs.Common.{◌≡◌, ℕ, suc, ◌+◌, ◌≤◌, true, false, List, [], ◌∷◌, ◌++◌, length, filter_map, Option, Some, None, refl, sym, ap, ◌∙◌, subst, arith, IsTrue}
use Rattle.std.specs.List.{list_all, enumerate_from, cons_option}
use Rattle.std.proofs.lemmas.Bool.{and_parts, and_from, true≢false}
use Rattle.std.proofs.lemmas.List.{length-append}
use Rattle.conf_words.specs.Parts.{Leads}
use Rattle.conf_words.specs.TextLines.{BeginsWithLine}
use Rattle.conf_words.specs.Characters.{is_text}
use Rattle.conf_words.specs.Directives.{Directive, directive_in}
use Rattle.conf_words.specs.Readings.{directives, StopsBefore, Read, IsReadAs}
use Rattle.conf_words.specs.Steps.{line_at}
use Rattle.conf_words.proofs.LineLaws.{line_whole, line_shorter, no_line}
use Rattle.conf_words.proofs.PartLaws.{OnePart, one_part, no_part, leads_more}

pub record ReadSoFar (text rest : List ℕ) (number : ℕ) (found : List Directive) : Type 0 where
  pub lines : List (List ℕ)
  pub leads : Leads BeginsWithLine lines text rest
  pub texts : IsTrue (list_all is_text lines)
  pub has : found ≡ directives lines
  pub counted : number ≡ length lines + 1

pub read_none : (text : List ℕ) → ReadSoFar text text 1 []
read_none text = record { lines = []; leads = refl; texts = refl; has = refl; counted = refl }

all_more : (lines : List (List ℕ)) (line : List ℕ) → list_all is_text lines ≡ true → is_text line ≡ true → list_all is_text (lines ++ line ∷ []) ≡ true
all_more [] line texts good = and_from _ _ good refl
all_more (first ∷ lines) line texts good = let parts = and_parts (is_text first) _ texts in and_from _ _ parts.0 (all_more lines line parts.1 good)

abbrev numbered : ℕ → List (List ℕ) → List Directive
numbered number lines = filter_map (λ line. directive_in line.0 line.1) (enumerate_from number lines)

cons_more : (o : Option Directive) (front rest : List Directive) → cons_option o (front ++ rest) ≡ cons_option o front ++ rest
cons_more None front rest = refl
cons_more (Some d) front rest = refl

numbered_more : (number : ℕ) (lines : List (List ℕ)) (line : List ℕ)
    → numbered number (lines ++ line ∷ []) ≡ numbered number lines ++ cons_option (directive_in (number + length lines) line) []
numbered_more number [] line = let none : number ≡ number + 0 = omega arith in ap (λ n. cons_option (directive_in n line) []) none
numbered_more number (first ∷ lines) line =
    let next : number + 1 + length lines ≡ number + suc (length lines) = omega arith in
    ap (cons_option (directive_in number first))
    (numbered_more (number + 1) lines line ∙ ap (λ n. numbered (number + 1) lines ++ cons_option (directive_in n line) []) next)
    ∙ cons_more (directive_in number first) (numbered (number + 1) lines) (cons_option (directive_in (number + suc (length lines)) line) [])

pub read_next : (text rest after : List ℕ) (number : ℕ) (found : List Directive) (line : List ℕ) → ReadSoFar text rest number found
    → BeginsWithLine rest line after → is_text line ≡ true → ReadSoFar text after (number + 1) (found ++ cons_option (directive_in number line) [])
read_next text rest after number found line so_far begins good =
    let here : number ≡ 1 + length so_far.lines = (let count = so_far.counted in omega (arith, count)) in
    record {
      lines = so_far.lines ++ line ∷ [];
      leads = leads_more BeginsWithLine so_far.lines line text rest after so_far.leads begins;
      texts = all_more so_far.lines line so_far.texts good;
      has = ap (λ ds. ds ++ cons_option (directive_in number line) []) so_far.has
          ∙ ap (λ n. directives so_far.lines ++ cons_option (directive_in n line) []) here
          ∙ sym (numbered_more 1 so_far.lines line);
      counted = ap (λ n. n + 1) (so_far.counted ∙ sym (length-append so_far.lines (line ∷ [])));
    }

lines_short : (lines : List (List ℕ)) (text rest : List ℕ) → Leads BeginsWithLine lines text rest → length lines + length rest ≤ length text
lines_short [] text rest leads = let same = ap length leads in omega (arith, same)
lines_short (line ∷ lines) text rest leads =
    let later = lines_short lines leads.0 rest leads.2 in
    let here = line_shorter text line leads.0 leads.1 in
    omega (arith, later, here)

pub read_within : (text rest : List ℕ) (number : ℕ) (found : List Directive) → ReadSoFar text rest number found → number + length rest ≤ length text + 1
read_within text rest number found so_far =
    let short = lines_short so_far.lines text rest so_far.leads in
    let count = so_far.counted in
    omega (arith, short, count)

pub read_all : (text rest : List ℕ) (number : ℕ) (found : List Directive) → ReadSoFar text rest number found → rest ≡ []
    → IsReadAs text record { found = found; not_text = None }
read_all text rest number found so_far end =
    record { lines = so_far.lines; rest = rest; leads = so_far.leads; texts = so_far.texts; has = so_far.has; stops = end }

pub read_to : (text rest after : List ℕ) (number : ℕ) (found : List Directive) (line : List ℕ) → ReadSoFar text rest number found
    → BeginsWithLine rest line after → is_text line ≡ false → IsReadAs text record { found = found; not_text = Some number }
read_to text rest after number found line so_far begins bad =
    record {
      lines = so_far.lines;
      rest = rest;
      leads = so_far.leads;
      texts = so_far.texts;
      has = so_far.has;
      stops = (so_far.counted, line, after, begins, bad);
    }

-- ---- one reading

abbrev pub one_line : OnePart BeginsWithLine
one_line = record { at = line_at; finds = line_whole }

-- no line of text begins here
Stuck : List ℕ → Type 0
Stuck rest = (line after : List ℕ) → BeginsWithLine rest line after → is_text line ≡ true → ⊥

ends_stuck : (rest line after : List ℕ) → rest ≡ [] → BeginsWithLine rest line after → ⊥
ends_stuck rest line after end begins = no_part one_line rest line after (ap line_at end ∙ no_line) begins

stuck : (rest : List ℕ) (number : ℕ) (not_text : Option ℕ) → StopsBefore rest number not_text → Stuck rest
unfolding Stuck
stuck rest number None stops = λ line after begins good. ends_stuck rest line after stops begins
stuck rest number (Some at) stops = λ line after begins good.
    let same = one_part one_line rest line stops.1 after stops.2 begins stops.3 in
    true≢false (sym good ∙ ap is_text same.0 ∙ stops.4)

one_front : (one other : List (List ℕ)) (text end stop : List ℕ) → Leads BeginsWithLine one text end → Leads BeginsWithLine other text stop
    → list_all is_text one ≡ true → list_all is_text other ≡ true → Stuck end → Stuck stop → (one ≡ other) × (end ≡ stop)
unfolding Stuck
one_front [] [] text end stop first second texts goods halts ceases = (refl, sym first ∙ second)
one_front [] (y ∷ ys) text end stop first second texts goods halts ceases =
    absurd (halts y second.0 (subst (λ t. BeginsWithLine t y second.0) first second.1) (and_parts (is_text y) _ goods).0)
one_front (x ∷ xs) [] text end stop first second texts goods halts ceases =
    absurd (ceases x first.0 (subst (λ t. BeginsWithLine t x first.0) second first.1) (and_parts (is_text x) _ texts).0)
one_front (x ∷ xs) (y ∷ ys) text end stop first second texts goods halts ceases =
    let same = one_part one_line text x y first.0 second.0 first.1 second.1 in
    let rest =
    one_front xs ys first.0 end stop first.2 (subst (λ t. Leads BeginsWithLine ys t stop) (sym same.1) second.2) (and_parts (is_text x) _ texts).1
    (and_parts (is_text y) _ goods).1 halts ceases in
    (ap (λ z. z ∷ xs) same.0 ∙ ap (λ zs. y ∷ zs) rest.0, rest.1)

one_stop : (rest : List ℕ) (number : ℕ) (one other : Option ℕ) → StopsBefore rest number one → StopsBefore rest number other → one ≡ other
one_stop rest number None None first second = refl
one_stop rest number None (Some at) first second = absurd (ends_stuck rest second.1 second.2 first second.3)
one_stop rest number (Some at) None first second = absurd (ends_stuck rest first.1 first.2 second first.3)
one_stop rest number (Some at) (Some other) first second = ap (λ n. Some n) (first.0 ∙ sym second.0)

pub one_reading : (text : List ℕ) (one other : Read) → IsReadAs text one → IsReadAs text other → one ≡ other
one_reading text one other first second =
    let front =
    one_front first.lines second.lines text first.rest second.rest first.leads second.leads first.texts second.texts (stuck _ _ _ first.stops)
    (stuck _ _ _ second.stops) in
    let stops : StopsBefore first.rest (length first.lines + 1) other.not_text =
    subst (λ r. StopsBefore r (length first.lines + 1) other.not_text) (sym front.1)
    (subst (λ (ls : List (List ℕ)). StopsBefore second.rest (length ls + 1) other.not_text) (sym front.0) second.stops) in
    let found : one.found ≡ other.found = first.has ∙ ap directives front.0 ∙ sym second.has in
    let last : one.not_text ≡ other.not_text = one_stop first.rest (length first.lines + 1) one.not_text other.not_text first.stops stops in
    pair one other found last
  where
    pair : (one other : Read) → one.found ≡ other.found → one.not_text ≡ other.not_text → one ≡ other
    pair one other found last =
        ap (λ ds. let read : Read = record { found = ds; not_text = one.not_text } in read) found
        ∙ ap (λ o. let read : Read = record { found = other.found; not_text = o } in read) last
