-- The place of a malformed option, in the areas laid end to end and in the message.
use Rattle.std.proofs.Common.{◌≡◌, ℕ, zero, suc, ◌+◌, ◌-◌, ◌<◌, ◌≤◌, Bool, true, false, List, [], ◌∷◌, length, drop, Option, Some, None, refl, sym, ap, ◌∙◌, arith, ltb}
use Rattle.std.specs.Prelude.{IfSome, if◌then◌else◌}
use Rattle.std.specs.Option.{option_map}
use Rattle.std.proofs.lemmas.Bool.{le-ltb}
use Rattle.v4_options.specs.declared.area.Front.{Front}
use Rattle.v4_options.specs.declared.area.Front.TheVariants.{Pad, End, Cut, Whole}
use Rattle.v4_options.specs.OptionArea.{front_of, more_bytes, place_by, malformed_after, malformed_in}
use Rattle.v4_options.specs.declared.overload.Overload.{Overload}
use Rattle.v4_options.specs.Overload.{or_else, Begins, malformed_over, reads_file, reads_sname}
use Rattle.net_types.specs.Fields.{field}
use Rattle.v4_message.specs.Message.{areas_begin, file_area, sname_area}
use Rattle.std.proofs.lemmas.List.{length-take-le, length-drop}
use Rattle.v4_message.specs.Replies.{place_in_message}

is_lt : (a b : ℕ) → a < b → ltb a b ≡ true
is_lt a b h = grind arith

place_moved : (front : Front) (more at : ℕ) (later moved : Option ℕ) → moved ≡ option_map (λ p. more + p) later
    → place_by front (more + at) moved ≡ option_map (λ p. more + p) (place_by front at later)
place_moved Cut more at later moved e = refl
place_moved Pad more at later moved e = e
place_moved End more at later moved e = e
place_moved (Whole n) more at later moved e = e

after_moved : (more at skip : ℕ) (area : List ℕ) → malformed_after (more + at) skip area ≡ option_map (λ p. more + p) (malformed_after at skip area)
after_moved more at zero [] = refl
after_moved more at (suc k) [] = refl
after_moved more at (suc k) (b ∷ rest) =
    let on : suc (more + at) ≡ more + suc at = omega arith in
    ap (λ (n : ℕ). malformed_after n k rest) on ∙ after_moved more (suc at) k rest
after_moved more at zero (b ∷ rest) =
    let on : suc (more + at) ≡ more + suc at = omega arith in
    place_moved (front_of (b ∷ rest)) more at (malformed_after (suc at) (more_bytes (front_of (b ∷ rest)) rest) rest)
    (malformed_after (suc (more + at)) (more_bytes (front_of (b ∷ rest)) rest) rest)
    (ap (λ (n : ℕ). malformed_after n (more_bytes (front_of (b ∷ rest)) rest) rest) on ∙ after_moved more (suc at) (more_bytes (front_of (b ∷ rest)) rest) rest)

-- a place counts from where its area begins
pub moved : (begins : ℕ) (area : List ℕ) → malformed_in begins area ≡ option_map (λ p. begins + p) (malformed_in 0 area)
unfolding malformed_in
moved begins area =
    let from : begins ≡ begins + 0 = omega arith in
    ap (λ (n : ℕ). malformed_after n 0 area) from ∙ after_moved begins 0 0 area

place_below : (front : Front) (at end : ℕ) (later : Option ℕ) → at < end → IfSome later (λ p. p < end) → IfSome (place_by front at later) (λ p. p < end)
place_below Cut at end later here h = here
place_below Pad at end later here h = h
place_below End at end later here h = h
place_below (Whole n) at end later here h = h

after_below : (at skip : ℕ) (area : List ℕ) (end : ℕ) → at + length area ≤ end → IfSome (malformed_after at skip area) (λ p. p < end)
after_below at zero [] end h = tt
after_below at (suc k) [] end h = tt
after_below at (suc k) (b ∷ rest) end h = after_below (suc at) k rest end (omega arith)
after_below at zero (b ∷ rest) end h =
    place_below (front_of (b ∷ rest)) at end (malformed_after (suc at) (more_bytes (front_of (b ∷ rest)) rest) rest) (omega arith)
    (after_below (suc at) (more_bytes (front_of (b ∷ rest)) rest) rest end (omega arith))

-- a malformed option stands within its area
pub below : (area : List ℕ) → IfSome (malformed_in 0 area) (λ p. p < length area)
unfolding malformed_in
below area = after_below 0 0 area (length area) (omega arith)

moved_where : (reads : Bool) (begins : ℕ) (area : List ℕ)
    → (if reads then malformed_in begins area else None) ≡ option_map (λ p. begins + p) (if reads then malformed_in 0 area else None)
moved_where true begins area = moved begins area
moved_where false begins area = refl

below_where : (reads : Bool) (area : List ℕ) → IfSome (if reads then malformed_in 0 area else None) (λ p. p < length area)
below_where true area = below area
below_where false area = tt

-- the first of three places, each counted from where its area begins
abbrev first_of : Begins → Option ℕ → Option ℕ → Option ℕ → Option ℕ
first_of begins a b c =
    or_else (option_map (λ p. begins.options + p) a) (or_else (option_map (λ p. begins.file + p) b) (option_map (λ p. begins.sname + p) c))

abbrev laid : ℕ → ℕ → Begins
laid options file = record { options = 0; file = options; sname = options + file }

same_none : (begins other : Begins) (a b c : Option ℕ) → first_of begins a b c ≡ None → first_of other a b c ≡ None
same_none begins other None None None e = refl
same_none begins other None None (Some p) e = absurd cc
same_none begins other None (Some p) c e = absurd cc
same_none begins other (Some p) b c e = absurd cc

abbrev some_place : ℕ → Option ℕ
some_place p = Some p

in_options : (options p : ℕ) → p < options → place_in_message options p ≡ 240 + p
in_options options p h = rw (is_lt p options h) refl

in_file : (options p : ℕ) → p < 128 → place_in_message options (options + p) ≡ 108 + p
in_file options p h =
    let after : (options + p) - options ≡ p = omega arith in
    rw (le-ltb (options + p) options (omega arith), after, is_lt p 128 h) refl

in_sname : (options p : ℕ) → p < 64 → place_in_message options (options + 128 + p) ≡ 44 + p
in_sname options p h =
    let after : (options + 128 + p) - options ≡ 128 + p = omega arith in
    let past : (128 + p) - 128 ≡ p = omega arith in
    rw (le-ltb (options + 128 + p) options (omega arith), after, le-ltb (128 + p) 128 (omega arith), past) refl

same_place : (options place : ℕ) (a b c : Option ℕ) → IfSome a (λ p. p < options) → IfSome b (λ p. p < 128) → IfSome c (λ p. p < 64)
    → first_of (laid options 128) a b c ≡ Some place → (place < options + 192) × (first_of areas_begin a b c ≡ Some (place_in_message options place))
same_place options place (Some p) b c ha hb hc e =
    let here : 0 + p ≡ place = cc in
    let same : p ≡ place = omega arith in
    (omega arith, ap some_place (rw (← same) (sym (in_options options p ha))))
same_place options place None (Some p) c ha hb hc e =
    let here : options + p ≡ place = cc in
    (omega arith, ap some_place (rw (← here) (sym (in_file options p hb))))
same_place options place None None (Some p) ha hb hc e =
    let here : options + 128 + p ≡ place = cc in
    (omega arith, ap some_place (rw (← here) (sym (in_sname options p hc))))
same_place options place None None None ha hb hc e = absurd cc

over_is : (begins : Begins) (overload : Overload) (options file sname : List ℕ) → malformed_over begins overload options file sname
    ≡ first_of begins (malformed_in 0 options) (if reads_file overload then malformed_in 0 file else None)
    (if reads_sname overload then malformed_in 0 sname else None)
over_is begins overload options file sname =
    rw (moved begins.options options, moved_where (reads_file overload) begins.file file, moved_where (reads_sname overload) begins.sname sname) refl

module _ (overload : Overload) (options file sname : List ℕ) where
  pub whole_message : malformed_over (laid (length options) (length file)) overload options file sname ≡ None
      → malformed_over areas_begin overload options file sname ≡ None
  whole_message e =
      over_is areas_begin overload options file sname
      ∙ same_none (laid (length options) (length file)) areas_begin _ _ _ (sym (over_is (laid (length options) (length file)) overload options file sname) ∙ e)

  pub malformed_message : (place : ℕ) → length file ≡ 128 → length sname ≡ 64
      → malformed_over (laid (length options) (length file)) overload options file sname ≡ Some place
      → (place < length options + 192) × (malformed_over areas_begin overload options file sname ≡ Some (place_in_message (length options) place))
  malformed_message place file_len sname_len e =
      let first = rw file_len at (sym (over_is (laid (length options) (length file)) overload options file sname) ∙ e) in
      let same =
      same_place (length options) place (malformed_in 0 options) (if reads_file overload then malformed_in 0 file else None)
      (if reads_sname overload then malformed_in 0 sname else None)
      (below options) (rw file_len at (below_where (reads_file overload) file)) (rw sname_len at (below_where (reads_sname overload) sname)) first in
      (same.0, over_is areas_begin overload options file sname ∙ same.1)

field_len : (at len : ℕ) (message : List ℕ) → at + len ≤ length message → length (field at len message) ≡ len
field_len at len message h = length-take-le len (drop at message) (omega (arith, length-drop at message))

pub file_len : (message : List ℕ) → 240 ≤ length message → length (file_area message) ≡ 128
file_len message h = field_len 108 128 message (omega arith)

pub sname_len : (message : List ℕ) → 240 ≤ length message → length (sname_area message) ≡ 64
sname_len message h = field_len 44 64 message (omega arith)
