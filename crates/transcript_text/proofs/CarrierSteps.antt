-- The list of interfaces with carrier, one number after another.
use Rattle.std.proofs.Common.{◌≡◌, ℕ, suc, ◌+◌, ◌-◌, ◌<◌, ◌≤◌, Bool, true, false, List, [], ◌∷◌, ◌++◌, length, take, filter, flat_map, decimal, refl, sym, ◌∙◌, ap, arith, add-one, append_assoc}
use Rattle.std.specs.Prelude.{codes}
use Rattle.std.proofs.lemmas.List.{append-nil, length-take, take-append-le}
use Rattle.std.proofs.Math.Seq.{take-length}
use Rattle.script_model.specs.IfaceSets.{is_up}
use Rattle.script_model.specs.Lines.{numbers_from, list_text, up_text}
use Rattle.transcript_text.specs.Carriers.{next_text}
use Rattle.transcript_text.proofs.FormLaws.{joined}

-- those from a number on
unfoldable pub listed : ℕ → ℕ → List ℕ
listed up i = filter (is_up up) (numbers_from i (65 - i))

-- what is still to be written, and whether a number was
abbrev pub rest_text : Bool → List ℕ → List ℕ
rest_text false list = list_text list
rest_text true list = flat_map (λ i. 44 ∷ decimal i) list

pub numbers_step : (i : ℕ) → i < 65 → numbers_from i (65 - i) ≡ i ∷ numbers_from (i + 1) (65 - (i + 1))
numbers_step i h = let e : 65 - i ≡ suc (65 - (i + 1)) = omega arith in rw (e, add-one)

pub listed_up : (up i : ℕ) → i < 65 → is_up up i ≡ true → listed up i ≡ i ∷ listed up (i + 1)
unfolding listed
listed_up up i h e = rw (numbers_step i h, e)

pub listed_down : (up i : ℕ) → i < 65 → is_up up i ≡ false → listed up i ≡ listed up (i + 1)
unfolding listed
listed_down up i h e = rw (numbers_step i h, e)

pub rest_next : (some : Bool) (i : ℕ) (rest : List ℕ) → rest_text some (i ∷ rest) ≡ next_text some i ++ rest_text true rest
rest_next false i rest = joined 44 decimal i rest
rest_next true i rest = refl

pub front_more : (old now more : List ℕ) → take (length old) now ≡ old → take (length old) (now ++ more) ≡ old
front_more old now more h =
    let within : length old ≤ length now = omega (arith, length-take (length old) now, ap length h) in
    rw (take-append-le (length old) now more within) h

-- so much is written when the loop comes to a number
pub record WrittenTo (up : ℕ) (old now : List ℕ) (some : Bool) (i : ℕ) : Type 0 where
  pub spelled : old ++ up_text up ≡ now ++ rest_text some (listed up i)
  pub front : take (length old) now ≡ old
  pub none : some ≡ false → now ≡ old

pub written_none : (up : ℕ) (old : List ℕ) → WrittenTo up old old false 1
unfolding up_text listed
written_none up old = record { spelled = refl; front = take-length old; none = λ _. refl }

pub written_up : (up : ℕ) (old now new : List ℕ) (some some' : Bool) (i : ℕ) → i < 65 → is_up up i ≡ true → new ≡ now ++ next_text some i → some' ≡ true
    → WrittenTo up old now some i → WrittenTo up old new some' (i + 1)
written_up up old now new some some' i h e is is_some w = rw is_some (record {
  spelled =
      w.spelled ∙ ap (λ text. now ++ text) (ap (rest_text some) (listed_up up i h e) ∙ rest_next some i (listed up (i + 1)))
      ∙ sym (append_assoc now (next_text some i) (rest_text true (listed up (i + 1))))
      ∙ ap (λ text. text ++ rest_text true (listed up (i + 1))) (sym is);
  front = rw is (front_more old now (next_text some i) w.front);
  none = λ f. (cc);
})

pub written_down : (up : ℕ) (old now : List ℕ) (some : Bool) (i : ℕ) → i < 65 → is_up up i ≡ false → WrittenTo up old now some i
    → WrittenTo up old now some (i + 1)
written_down up old now some i h e w = record {
  spelled = rw (sym (listed_down up i h e)) w.spelled;
  front = w.front;
  none = w.none;
}

-- past the last interface nothing is left
written_all : (up : ℕ) (old now : List ℕ) (some : Bool) (i : ℕ) → i ≡ 65 → WrittenTo up old now some i → old ++ up_text up ≡ now ++ rest_text some []
unfolding listed
written_all up old now some i e w = let last : WrittenTo up old now some 65 = rw e at w in last.spelled

pub all_with_some : (up : ℕ) (old now : List ℕ) (some : Bool) (i : ℕ) → some ≡ true → i ≡ 65 → WrittenTo up old now some i → now ≡ old ++ up_text up
all_with_some up old now some i is e w = let all = rw is at (written_all up old now some i e w) in sym (append-nil now) ∙ sym all

pub all_with_none : (up : ℕ) (old now new : List ℕ) (some : Bool) (i : ℕ) → some ≡ false → i ≡ 65 → new ≡ now ++ codes "-" → WrittenTo up old now some i
    → new ≡ old ++ up_text up
all_with_none up old now new some i is e text w = let all = rw is at (written_all up old now some i e w) in text ∙ sym all
