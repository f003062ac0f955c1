-- When a wait is over in which nothing came.
use Rattle.std.proofs.Common.{◌≡◌, ◌≤◌, ℕ, Bool, true, false, cond, Option, None, Some, refl, sym, ◌∙◌, subst, arith, leb-true}
use Rattle.world.specs.declared.wakes.Event.{Event}
use Rattle.world.specs.declared.wakes.Event.TheVariants.{Quiet}
use Rattle.std.specs.Prelude.{IfSome}
use Rattle.loop_link.specs.declared.moments.Moments.{Moments}
use Rattle.loop_link.specs.Waiting.{wait_end, last_told, has_come, IsOver, IsDue, IsDueBy, IsAwaited}

-- over by a child's end, and else by the moment
pub over_by_child : (ended : Option Bool) (sees : Bool) (end : ℕ) (moments : Option Moments) → IfSome ended (λ is. sees ≡ is) → sees ≡ true
    → IsOver ended end moments true
over_by_child None sees end moments told so = tt
over_by_child (Some true) sees end moments told so = refl
over_by_child (Some false) sees end moments told so = let never : true ≡ false = sym so ∙ told in absurd cc

pub over_by_moment : (ended : Option Bool) (sees : Bool) (end : ℕ) (moments : Option Moments) (over : Bool) → IfSome ended (λ is. sees ≡ is) → sees ≡ false
    → over ≡ has_come end moments → IsOver ended end moments over
over_by_moment None sees end moments true told past come = tt
over_by_moment None sees end moments false told past come = sym come
over_by_moment (Some true) sees end moments over told past come = let never : true ≡ false = sym told ∙ past in absurd cc
over_by_moment (Some false) sees end moments over told past come = come

pub over_is_due : (ended : Option Bool) (end : ℕ) (moments : Option Moments) (over : Bool) → IsOver ended end moments over → over ≡ true
    → IsDue ended end moments
over_is_due None end moments over is so = tt
over_is_due (Some true) end moments over is so = tt
over_is_due (Some false) end moments over is so = sym is ∙ so

pub on_is_before : (ended : Option Bool) (end : ℕ) (moments : Option Moments) (over : Bool) → IsOver ended end moments over → over ≡ false
    → has_come end moments ≡ false
on_is_before None end moments true is past = let never : true ≡ false = past in absurd cc
on_is_before None end moments false is past = is
on_is_before (Some true) end moments over is past = let never : true ≡ false = sym is ∙ past in absurd cc
on_is_before (Some false) end moments over is past = sym is ∙ past

pub due_by : (ended : Option Bool) (until : Option ℕ) (now end : ℕ) (moments : Option Moments) → end ≡ wait_end until now → IsDue ended end moments
    → IsDueBy ended until moments
due_by ended None now end moments is due = tt
due_by ended (Some until) now end moments is due = subst (λ n. IsDue ended n moments) is due

-- by a watch that stays the same
pub due_by_kept : {W : Type 0} (ended : W → Option Bool) (kept watch : W) (until : Option ℕ) (now end : ℕ) (moments : Option Moments) → kept ≡ watch
    → end ≡ wait_end until now → IsDue (ended kept) end moments → IsDueBy (ended watch) until moments
due_by_kept ended kept watch until now end moments same is due =
    due_by (ended watch) until now end moments is (subst (λ w. IsDue (ended w) end moments) same due)

-- what was due is awaited at each later moment
pub due_is_awaited : (ended : Option Bool) (until : Option ℕ) (moments : Option Moments) (at : ℕ) → IsDueBy ended until moments
    → IfSome (last_told moments) (λ last. last ≤ at) → IsAwaited ended until at
due_is_awaited None until moments at due later = tt
due_is_awaited (Some true) until moments at due later = tt
due_is_awaited (Some false) None moments at due later = tt
due_is_awaited (Some false) (Some until) None at due later = let never : false ≡ true = due in absurd cc
due_is_awaited (Some false) (Some until) (Some kept) at due later = let come : until ≤ kept.last = leb-true until kept.last due in omega arith

-- a wait of which a piece brings nothing goes on before its moment
pub nothing_is_before : (ended : Option Bool) (end : ℕ) (moments : Option Moments) (over : Bool) (heard : Option Event) → IsOver ended end moments over
    → heard ≡ cond over (Some Quiet) None → heard ≡ None → has_come end moments ≡ false
nothing_is_before ended end moments true heard is so none = let never : Some Quiet ≡ None = sym so ∙ none in absurd cc
nothing_is_before ended end moments false heard is so none = on_is_before ended end moments false is refl

-- when it ends
pub ruleset waits_end = (over_by_child, over_by_moment, over_is_due, on_is_before)
