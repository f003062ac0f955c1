-- The shares of a line that are taken obey the rules.
use Rattle.std.proofs.Common.{◌≡◌, ◌+◌, Bool, true, false, ◌&&◌, cond, List, [], ◌∷◌, ◌++◌, filter_map, refl, sym, ap, ◌∙◌}
use Rattle.std.specs.List.{list_all}
use Rattle.std.proofs.lemmas.Bool.{and_from, and_parts}
use Rattle.std.proofs.lemmas.List.{append-nil, append_assoc}
use Rattle.std.proofs.lemmas.List.Folds.{list_all-append}
use Rattle.prefix_share.specs.declared.share.Share.{Share}
use Rattle.prefix_share.specs.Rules.{go_together, is_plan}
use Rattle.prefix_share.specs.Subnets.{has_room}
use Rattle.conf_text.specs.Shares.{share_of, taken_after, taken_with}
use Rattle.conf_text.specs.SharesTaken.{PlannedAreTaken, TakenArePlanned}

one_planned : (taken : List Share) (share : Share) → is_plan taken ≡ true → is_plan (taken_with taken share) ≡ true
one_planned taken share plan = by (is_plan (taken ++ share ∷ [])) refl
  where
    by : (b : Bool) → is_plan (taken ++ share ∷ []) ≡ b → is_plan (cond b (taken ++ share ∷ []) taken) ≡ true
    by true e = e
    by false e = plan

planned_after : (taken shares : List Share) → is_plan taken ≡ true → is_plan (taken_after taken shares) ≡ true
planned_after taken [] plan = plan
planned_after taken (share ∷ shares) plan = planned_after (taken_with taken share) shares (one_planned taken share plan)

pub taken_are_planned : TakenArePlanned
taken_are_planned specs hint lines = planned_after [] (filter_map (share_of specs hint) lines) refl

front_planned : (front rest : List Share) → is_plan (front ++ rest) ≡ true → is_plan front ≡ true
front_planned [] rest plan = refl
front_planned (share ∷ front) rest plan =
    let last = and_parts (has_room share.hint share && list_all (go_together share) (front ++ rest)) (is_plan (front ++ rest)) plan in
    let first = and_parts (has_room share.hint share) (list_all (go_together share) (front ++ rest)) last.0 in
    let together =
    and_parts (list_all (go_together share) front) (list_all (go_together share) rest) (sym (list_all-append (go_together share) front rest) ∙ first.1) in
    and_from (has_room share.hint share && list_all (go_together share) front) (is_plan front)
    (and_from (has_room share.hint share) (list_all (go_together share) front) first.0 together.0) (front_planned front rest last.1)

all_taken : (taken shares : List Share) → is_plan (taken ++ shares) ≡ true → taken_after taken shares ≡ taken ++ shares
all_taken taken [] plan = sym (append-nil taken)
all_taken taken (share ∷ shares) plan =
    let same : (taken ++ share ∷ []) ++ shares ≡ taken ++ share ∷ shares = append_assoc taken (share ∷ []) shares in
    let whole : is_plan ((taken ++ share ∷ []) ++ shares) ≡ true = ap is_plan same ∙ plan in
    let here : is_plan (taken ++ share ∷ []) ≡ true = front_planned (taken ++ share ∷ []) shares whole in
    ap (λ b. taken_after (cond b (taken ++ share ∷ []) taken) shares) here ∙ all_taken (taken ++ share ∷ []) shares whole ∙ same

pub planned_are_taken : PlannedAreTaken
planned_are_taken specs hint lines plan = all_taken [] (filter_map (share_of specs hint) lines) plan
