-- The options that an option holds come right after its fixed fields, and what follows it right after them.
use Rattle.std.proofs.Common.{◌≡◌, ℕ, ◌+◌, ◌-◌, ◌≤◌, List, ◌++◌, length, take, drop, Option, Some, None, refl, sym, ap, ◌∙◌, arith}
use Rattle.std.proofs.lemmas.List.{length-drop, length-take-le, take-append-drop, drop-append-le}
use Rattle.v6_options.specs.OptionArea.{field}
use Rattle.v6_options.specs.Nesting.{or_else, malformed_in}
use Rattle.v6_options.specs.AreaSteps.{IsWhole, IsBadAt, held_in, malformed_by_value}

module _ (area : List ℕ) (fields len : ℕ) (within : fields ≤ len) (room : len + 4 ≤ length area) where
  value_len : length (field 4 len area) ≡ len
  value_len = length-take-le len (drop 4 area) (omega (arith, length-drop 4 area))

  pub held_len : length (held_in fields len area) ≡ len - fields
  held_len = omega (arith, value_len, length-drop fields (field 4 len area))

  joined : held_in fields len area ++ drop len (drop 4 area) ≡ drop fields (drop 4 area)
  joined =
      sym (drop-append-le fields (field 4 len area) (drop len (drop 4 area)) (omega (arith, value_len)))
      ∙ ap (drop fields) (take-append-drop len (drop 4 area))

  pub entered_whole : (at : ℕ) → IsWhole (held_in fields len area)
      → malformed_in (at + 4 + fields) (drop fields (drop 4 area)) ≡ malformed_by_value at (Some fields) len area
  entered_whole at whole =
      let places : at + 4 + fields + length (held_in fields len area) ≡ at + 4 + len = omega (arith, held_len) in
      ap (malformed_in (at + 4 + fields)) (sym joined)
      ∙ whole (at + 4 + fields) (drop len (drop 4 area))
      ∙ ap (λ (n : ℕ). or_else (malformed_in (at + 4 + fields) (held_in fields len area)) (malformed_in n (drop len (drop 4 area)))) places

first_alone : (a : Option ℕ) (place : ℕ) (b c : Option ℕ) → or_else a (Some place) ≡ or_else (or_else (or_else a (Some place)) b) c
first_alone None place b c = refl
first_alone (Some p) place b c = refl

pub entered_bad : (area : List ℕ) (fields len at place : ℕ) (broken : Option ℕ) → IsBadAt (held_in fields len area) place
    → or_else (malformed_in (at + 4 + fields) (take place (held_in fields len area))) (Some (at + 4 + fields + place))
    ≡ or_else (malformed_by_value at (Some fields) len area) broken
entered_bad area fields len at place broken bad =
    let after = malformed_in (at + 4 + len) (drop len (drop 4 area)) in
    first_alone (malformed_in (at + 4 + fields) (take place (held_in fields len area))) (at + 4 + fields + place) after broken
    ∙ ap (λ (o : Option ℕ). or_else (or_else o after) broken) (sym (bad.judged (at + 4 + fields)))
