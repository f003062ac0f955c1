-- Which lines are taken to an end: those of interfaces and lives.
use Rattle.std.proofs.Common.{◌≡◌, ℕ, ◌+◌, Bool, true, false, cond, List, [], ◌∷◌, ◌++◌, map, length, Option, Some, None, option_and_then, refl, sym, ap, ◌∙◌, subst, arith, eqb, append_assoc}
use Rattle.std.specs.List.{AllByRecursion}
use Rattle.std.proofs.lemmas.Bool.{eq-eqb, eqb-true}
use Rattle.std.proofs.lemmas.List.{append-nil}
use Rattle.net_types.specs.declared.interface.IfSpec.{IfSpec}
use Rattle.net_types.proofs.ReadsLaws.{passed, some_same, step}
use Rattle.world.specs.declared.wakes.Begin.{Begin}
use Rattle.world.specs.declared.wakes.Event.{Event}
use Rattle.script_model.specs.Lines.{Line}
use Rattle.script_model.specs.Lines as Model
use Rattle.replay_text.specs.KindTests.{interfaces_fit}
use Rattle.replay_text.specs.NextLines.{fits_next}
use Rattle.replay_text.proofs.TakenLines.{cond_is}
use Rattle.transcript_lines.specs.declared.role.Role.{Role}
use Rattle.transcript_lines.specs.declared.role.Role.TheVariants as roles
use Rattle.transcript_lines.specs.Roles.{role_of}
use Rattle.transcript_model.specs.LifeShapes.{follows}
use Rattle.transcript_model.specs.Told.{TurnTold}
use Rattle.transcript_read.specs.declared.place.Place.{Place}
use Rattle.transcript_read.specs.declared.place.Place.TheVariants as places
use Rattle.transcript_read.specs.declared.place.Within.{Within}
use Rattle.transcript_read.specs.Bodies.{is_end}
use Rattle.transcript_read.specs.Places.{Spot, ended, first_life, goes_on, life_start, next_ifaces, next_life, next_place, next_spot, next_within, walk}
use Rattle.transcript_read.proofs.InnerLaws.{FitRoles, Good, good_next, is_inner, kept, next_good, stepped, steps}

-- ---- a life as its lines

pub record Life : Type 0 where
  pub begin : Begin
  pub inner : List Line

abbrev pub opened : ℕ → ℕ → Within
opened number now = record { number = number; now = now; left = 0; last = None }

abbrev pub after_number : ℕ → Life → List Line → List Line
after_number number life more = Model.Start life.begin ∷ (life.inner ++ Model.EndOfLife ∷ more)

abbrev pub lives_in : ℕ → List Life → List Line
lives_in number [] = []
lives_in number (life ∷ lives) = Model.Life number ∷ after_number number life (lives_in (number + 1) lives)

abbrev pub LivesFit : ℕ → List Life → Type 0
LivesFit number [] = Unit {0}
LivesFit number (life ∷ lives) = Good (opened number life.begin.at) life.inner × LivesFit (number + 1) lives

abbrev pub spot : List IfSpec → Place → Spot
spot ifaces place = record { ifaces = ifaces; place = place }

-- ---- all lines of lives are taken

pub walk_step : (line : Line) (more : List Line) (from to : Spot) → next_spot from line ≡ Some to → walk (line ∷ more) from ≡ walk more to
walk_step line more from to e = ap (option_and_then (walk more)) e

pub spot_step : (from : Spot) (line : Line) (place : Place) (ifaces : List IfSpec) → next_place from.place (role_of line) ≡ Some place
    → next_ifaces from.ifaces (role_of line) ≡ Some ifaces
    → next_spot from line ≡ Some (spot ifaces place)
spot_step from line place ifaces p i = step _ _ place p ∙ step _ _ ifaces i

inner_ifaces : (ifaces : List IfSpec) (role : Role) → is_inner role ≡ true → next_ifaces ifaces role ≡ Some ifaces
inner_ifaces ifaces roles.Head e = refl
inner_ifaces ifaces (roles.Interface spec) e = cc
inner_ifaces ifaces (roles.Life number) e = refl
inner_ifaces ifaces (roles.Start at) e = refl
inner_ifaces ifaces (roles.Turn at) e = refl
inner_ifaces ifaces (roles.Listing count) e = refl
inner_ifaces ifaces (roles.Row row) e = refl
inner_ifaces ifaces roles.Other e = refl
inner_ifaces ifaces roles.End e = refl

pub inner_walk : (inner more : List Line) (within : Within) (ifaces : List IfSpec) → FitRoles inner → Good within inner
    → walk (inner ++ Model.EndOfLife ∷ more) (spot ifaces (places.Within within)) ≡ walk more (spot ifaces (places.Between within.number))
inner_walk [] more within ifaces fits good =
    let none : within.left ≡ 0 = sym good.counted in
    let place : ended within roles.End ≡ Some (places.Between within.number) =
    ap (λ b. cond b (Some (places.Between within.number)) None) (eq-eqb within.left 0 none) in
    walk_step Model.EndOfLife more (spot ifaces (places.Within within)) (spot ifaces (places.Between within.number))
    (spot_step (spot ifaces (places.Within within)) Model.EndOfLife (places.Between within.number) ifaces place refl)
inner_walk (line ∷ inner) more within ifaces fits good =
    let g = good_next within line inner good in
    let s = steps within (role_of line) inner fits.1 g in
    let place : goes_on (next_within within (role_of line)) (ended within (role_of line)) ≡ Some (places.Within s.next) =
    ap (λ o. goes_on o (ended within (role_of line))) s.is in
    walk_step line (inner ++ Model.EndOfLife ∷ more) (spot ifaces (places.Within within)) (spot ifaces (places.Within s.next))
    (spot_step (spot ifaces (places.Within within)) line (places.Within s.next) ifaces place (inner_ifaces ifaces (role_of line) g.is))
    ∙ inner_walk inner more s.next ifaces fits.1 s.good
    ∙ ap (λ n. walk more (spot ifaces (places.Between n))) s.same

pub life_walk : (number : ℕ) (life : Life) (more : List Line) (ifaces : List IfSpec) → FitRoles life.inner → Good (opened number life.begin.at) life.inner
    → walk (after_number number life more) (spot ifaces (places.Numbered number)) ≡ walk more (spot ifaces (places.Between number))
life_walk number life more ifaces fits good = inner_walk life.inner more (opened number life.begin.at) ifaces fits good

abbrev pub RolesOfLives : List Life → Type 0
RolesOfLives lives = AllByRecursion (λ life. FitRoles life.inner) lives

pub lives_walk : (lives : List Life) (number : ℕ) (ifaces : List IfSpec) → RolesOfLives lives → LivesFit (number + 1) lives
    → walk (lives_in (number + 1) lives) (spot ifaces (places.Between number)) ≡ Some (spot ifaces (places.Between (number + length lives)))
lives_walk [] number ifaces fits fit = ap (λ n. Some (spot ifaces (places.Between n))) (omega arith)
lives_walk (life ∷ lives) number ifaces fits fit =
    let more = lives_in (number + 1 + 1) lives in
    let place : next_life number (roles.Life (number + 1)) ≡ Some (places.Numbered (number + 1)) =
    ap (λ b. cond b (Some (places.Numbered (number + 1))) None) (eq-eqb (number + 1) (number + 1) refl) in
    walk_step (Model.Life (number + 1)) (after_number (number + 1) life more) (spot ifaces (places.Between number)) (spot ifaces (places.Numbered (number + 1)))
    (spot_step (spot ifaces (places.Between number)) (Model.Life (number + 1)) (places.Numbered (number + 1)) ifaces place refl)
    ∙ life_walk (number + 1) life more ifaces fits.0 fit.0
    ∙ lives_walk lives (number + 1) ifaces fits.1 fit.1
    ∙ ap (λ n. Some (spot ifaces (places.Between n))) (omega arith)

-- ---- what is taken to an end

pub record FromLives (lives_before : ℕ) (lines : List Line) : Type 0 where
  pub lives : List Life
  pub are : lines ≡ lives_in (lives_before + 1) lives
  pub fit : LivesFit (lives_before + 1) lives

pub record FromNumber (number : ℕ) (lines : List Line) : Type 0 where
  pub life : Life
  pub lives : List Life
  pub are : lines ≡ after_number number life (lives_in (number + 1) lives)
  pub fit : Good (opened number life.begin.at) life.inner
  pub others : LivesFit (number + 1) lives

pub record FromWithin (within : Within) (lines : List Line) : Type 0 where
  pub inner : List Line
  pub lives : List Life
  pub are : lines ≡ inner ++ Model.EndOfLife ∷ lives_in (within.number + 1) lives
  pub fit : Good within inner
  pub others : LivesFit (within.number + 1) lives

pub record FromInterfaces (done : List IfSpec) (lines : List Line) : Type 0 where
  pub ifaces : List IfSpec
  pub first : Life
  pub lives : List Life
  pub are : lines ≡ map Model.Interface ifaces ++ lives_in 1 (first ∷ lives)
  pub test : interfaces_fit (done ++ ifaces) ≡ true
  pub fit : LivesFit 1 (first ∷ lives)

abbrev pub From : Place → List IfSpec → List Line → Type 0
From places.Interfaces done lines = FromInterfaces done lines
From (places.Numbered number) done lines = FromNumber number lines
From (places.Within within) done lines = FromWithin within lines
From (places.Between lives) done lines = FromLives lives lines

-- what no interface, number, start or end is
pub record Plain (role : Role) : Type 0 where
  pub first : first_life role ≡ None
  pub later : (lives : ℕ) → next_life lives role ≡ None
  pub start : (number : ℕ) → life_start number role ≡ None
  pub end : (within : Within) → ended within role ≡ None
  pub ifaces : (ifaces : List IfSpec) → next_ifaces ifaces role ≡ Some ifaces

abbrev is_plain : Role → Bool
is_plain (roles.Interface spec) = false
is_plain (roles.Life number) = false
is_plain (roles.Start at) = false
is_plain roles.End = false
is_plain _ = true

plain : (role : Role) → is_plain role ≡ true → Plain role
plain roles.Head e = record { first = refl; later = λ n. refl; start = λ n. refl; end = λ w. refl; ifaces = λ i. refl }
plain (roles.Turn at) e = record { first = refl; later = λ n. refl; start = λ n. refl; end = λ w. refl; ifaces = λ i. refl }
plain (roles.Listing count) e = record { first = refl; later = λ n. refl; start = λ n. refl; end = λ w. refl; ifaces = λ i. refl }
plain (roles.Row row) e = record { first = refl; later = λ n. refl; start = λ n. refl; end = λ w. refl; ifaces = λ i. refl }
plain roles.Other e = record { first = refl; later = λ n. refl; start = λ n. refl; end = λ w. refl; ifaces = λ i. refl }
plain (roles.Interface spec) e = cc
plain (roles.Life number) e = cc
plain (roles.Start at) e = cc
plain roles.End e = cc

-- a life's lines as those of its opening and its turns
pub record Parts : Type 0 where
  pub opening : List Line
  pub turns : List TurnTold

abbrev pub led_by : Line → Parts → Parts
led_by (Model.Turn at salt event bytes) parts =
    record { opening = []; turns = record { at = at; salt = salt; event = event; bytes = bytes; lines = parts.opening } ∷ parts.turns }
led_by line parts = record { opening = line ∷ parts.opening; turns = parts.turns }

abbrev pub parted : List Line → Parts
parted [] = record { opening = []; turns = [] }
parted (line ∷ lines) = led_by line (parted lines)

pub data Kind (line : Line) : Type 0 where
  OfInterface : (spec : IfSpec) → line ≡ Model.Interface spec → Kind line
  OfLife : (number : ℕ) → line ≡ Model.Life number → Kind line
  OfStart : (begin : Begin) → line ≡ Model.Start begin → Kind line
  OfEnd : line ≡ Model.EndOfLife → Kind line
  OfTurn : (at salt : ℕ) → (event : Event) → (bytes : List ℕ) → line ≡ Model.Turn at salt event bytes → Plain (role_of line) → Kind line
  OfOther : Plain (role_of line) → ((parts : Parts) → led_by line parts ≡ record { opening = line ∷ parts.opening; turns = parts.turns })
      → (is_inner (role_of line) ≡ follows (role_of line)) → Kind line

pub kind_of : (line : Line) → Kind line
kind_of (Model.Interface spec) = OfInterface spec refl
kind_of (Model.Life number) = OfLife number refl
kind_of (Model.Start begin) = OfStart begin refl
kind_of Model.EndOfLife = OfEnd refl
kind_of (Model.Turn at salt event bytes) = OfTurn at salt event bytes refl (plain (roles.Turn at) refl)
kind_of Model.Head = OfOther (plain roles.Head refl) (λ parts. refl) refl
kind_of (Model.Conf text) = OfOther (plain roles.Head refl) (λ parts. refl) refl
kind_of (Model.Notice line word) = OfOther (plain roles.Head refl) (λ parts. refl) refl
kind_of (Model.HostListed count) = OfOther (plain (roles.Listing count) refl) (λ parts. refl) refl
kind_of (Model.Row row) = OfOther (plain (roles.Row row) refl) (λ parts. refl) refl
kind_of (Model.Asides names) = OfOther (plain roles.Other refl) (λ parts. refl) refl
kind_of Model.AsidesFailed = OfOther (plain roles.Other refl) (λ parts. refl) refl
kind_of (Model.Wrote name bytes done) = OfOther (plain roles.Other refl) (λ parts. refl) refl
kind_of (Model.Synced name done) = OfOther (plain roles.Other refl) (λ parts. refl) refl
kind_of (Model.Renamed name done) = OfOther (plain roles.Other refl) (λ parts. refl) refl
kind_of (Model.Removed name done) = OfOther (plain roles.Other refl) (λ parts. refl) refl
kind_of (Model.Settled done) = OfOther (plain roles.Other refl) (λ parts. refl) refl
kind_of (Model.Read name reading) = OfOther (plain roles.Other refl) (λ parts. refl) refl
kind_of (Model.HookPolled number answer) = OfOther (plain roles.Other refl) (λ parts. refl) refl
kind_of (Model.HookAbandoned number) = OfOther (plain roles.Other refl) (λ parts. refl) refl
kind_of (Model.HookDropped number reason name) = OfOther (plain roles.Other refl) (λ parts. refl) refl
kind_of (Model.HookStarted number reason name done) = OfOther (plain roles.Other refl) (λ parts. refl) refl
kind_of (Model.Variable name value) = OfOther (plain roles.Other refl) (λ parts. refl) refl
kind_of (Model.Send iface bytes taken) = OfOther (plain roles.Other refl) (λ parts. refl) refl
kind_of Model.HostListFailed = OfOther (plain roles.Other refl) (λ parts. refl) refl
kind_of (Model.HostDel row done) = OfOther (plain roles.Other refl) (λ parts. refl) refl
kind_of (Model.HostAdd row done) = OfOther (plain roles.Other refl) (λ parts. refl) refl
kind_of (Model.Until moment) = OfOther (plain roles.Other refl) (λ parts. refl) refl
kind_of (Model.Hold iface net) = OfOther (plain roles.Other refl) (λ parts. refl) refl

no_place : {X Y : Type 0} (o : Option X) (x : X) → o ≡ None → o ≡ Some x → Y
no_place o x none some = let never : None ≡ Some x = sym none ∙ some in cc

tested : (line : Line) (done ifaces : List IfSpec) → Kind line → interfaces_fit done ≡ true → next_ifaces done (role_of line) ≡ Some ifaces
    → interfaces_fit ifaces ≡ true
tested line done ifaces (OfInterface spec is) test e =
    let here : next_ifaces done (roles.Interface spec) ≡ Some ifaces = sym (ap (λ l. next_ifaces done (role_of l)) is) ∙ e in
    let t = cond_is (fits_next done spec) (Some (done ++ spec ∷ [])) ifaces here in
    subst (λ specs. interfaces_fit specs ≡ true) (some_same t.1) t.0
tested line done ifaces (OfLife number is) test e =
    subst (λ specs. interfaces_fit specs ≡ true) (some_same (sym (ap (λ l. next_ifaces done (role_of l)) is) ∙ e)) test
tested line done ifaces (OfStart begin is) test e =
    subst (λ specs. interfaces_fit specs ≡ true) (some_same (sym (ap (λ l. next_ifaces done (role_of l)) is) ∙ e)) test
tested line done ifaces (OfEnd is) test e = subst (λ specs. interfaces_fit specs ≡ true) (some_same (sym (ap (λ l. next_ifaces done (role_of l)) is) ∙ e)) test
tested line done ifaces (OfTurn at salt event bytes is plain) test e =
    subst (λ specs. interfaces_fit specs ≡ true) (some_same (sym (plain.ifaces done) ∙ e)) test
tested line done ifaces (OfOther plain leads follow) test e = subst (λ specs. interfaces_fit specs ≡ true) (some_same (sym (plain.ifaces done) ∙ e)) test

-- ---- one line more in front

led_interfaces : (line : Line) (lines : List Line) (done ifaces : List IfSpec) (next : Place) → Kind line → first_life (role_of line) ≡ Some next
    → interfaces_fit done ≡ true → next_ifaces done (role_of line) ≡ Some ifaces
    → From next ifaces lines → FromInterfaces done (line ∷ lines)
led_interfaces line lines done ifaces next (OfInterface spec is) p test i later =
    let place : places.Interfaces ≡ next = some_same (sym (ap (λ l. first_life (role_of l)) is) ∙ p) in
    let t = cond_is (fits_next done spec) (Some (done ++ spec ∷ [])) ifaces (sym (ap (λ l. next_ifaces done (role_of l)) is) ∙ i) in
    let f : FromInterfaces (done ++ spec ∷ []) lines =
    subst (λ specs. FromInterfaces specs lines) (sym (some_same t.1)) (subst (λ q. From q ifaces lines) (sym place) later) in
    record {
      ifaces = spec ∷ f.ifaces;
      first = f.first;
      lives = f.lives;
      are = ap (λ l. l ∷ lines) is ∙ ap (λ ls. Model.Interface spec ∷ ls) f.are;
      test = subst (λ specs. interfaces_fit specs ≡ true) (append_assoc done (spec ∷ []) f.ifaces) f.test;
      fit = f.fit;
    }
led_interfaces line lines done ifaces next (OfLife number is) p test i later =
    let t = cond_is (eqb number 1) (Some (places.Numbered 1)) next (sym (ap (λ l. first_life (role_of l)) is) ∙ p) in
    let one : number ≡ 1 = eqb-true number 1 t.0 in
    let f : FromNumber 1 lines = subst (λ q. From q ifaces lines) (sym (some_same t.1)) later in
    record {
      ifaces = [];
      first = f.life;
      lives = f.lives;
      are = ap (λ l. l ∷ lines) is ∙ ap (λ n. Model.Life n ∷ lines) one ∙ ap (λ ls. Model.Life 1 ∷ ls) f.are;
      test = subst (λ specs. interfaces_fit specs ≡ true) (sym (append-nil done)) test;
      fit = (f.fit, f.others);
    }
led_interfaces line lines done ifaces next (OfStart begin is) p test i later = no_place _ next (ap (λ l. first_life (role_of l)) is) p
led_interfaces line lines done ifaces next (OfEnd is) p test i later = no_place _ next (ap (λ l. first_life (role_of l)) is) p
led_interfaces line lines done ifaces next (OfTurn at salt event bytes is plain) p test i later = no_place _ next plain.first p
led_interfaces line lines done ifaces next (OfOther plain leads follow) p test i later = no_place _ next plain.first p

led_lives : (line : Line) (lines : List Line) (ifaces : List IfSpec) (lives : ℕ) (next : Place) → Kind line → next_life lives (role_of line) ≡ Some next
    → From next ifaces lines → FromLives lives (line ∷ lines)
led_lives line lines ifaces lives next (OfLife number is) p later =
    let t = cond_is (eqb number (lives + 1)) (Some (places.Numbered number)) next (sym (ap (λ l. next_life lives (role_of l)) is) ∙ p) in
    let one : number ≡ lives + 1 = eqb-true number (lives + 1) t.0 in
    let f : FromNumber (lives + 1) lines = subst (λ n. FromNumber n lines) one (subst (λ q. From q ifaces lines) (sym (some_same t.1)) later) in
    record {
      lives = f.life ∷ f.lives;
      are = ap (λ l. l ∷ lines) is ∙ ap (λ n. Model.Life n ∷ lines) one ∙ ap (λ ls. Model.Life (lives + 1) ∷ ls) f.are;
      fit = (f.fit, f.others);
    }
led_lives line lines ifaces lives next (OfInterface spec is) p later = no_place _ next (ap (λ l. next_life lives (role_of l)) is) p
led_lives line lines ifaces lives next (OfStart begin is) p later = no_place _ next (ap (λ l. next_life lives (role_of l)) is) p
led_lives line lines ifaces lives next (OfEnd is) p later = no_place _ next (ap (λ l. next_life lives (role_of l)) is) p
led_lives line lines ifaces lives next (OfTurn at salt event bytes is plain) p later = no_place _ next (plain.later lives) p
led_lives line lines ifaces lives next (OfOther plain leads follow) p later = no_place _ next (plain.later lives) p

led_number : (line : Line) (lines : List Line) (ifaces : List IfSpec) (number : ℕ) (next : Place) → Kind line → life_start number (role_of line) ≡ Some next
    → From next ifaces lines → FromNumber number (line ∷ lines)
led_number line lines ifaces number next (OfStart begin is) p later =
    let place : places.Within (opened number begin.at) ≡ next = some_same (sym (ap (λ l. life_start number (role_of l)) is) ∙ p) in
    let f : FromWithin (opened number begin.at) lines = subst (λ q. From q ifaces lines) (sym place) later in
    record {
      life = record { begin = begin; inner = f.inner };
      lives = f.lives;
      are = ap (λ l. l ∷ lines) is ∙ ap (λ ls. Model.Start begin ∷ ls) f.are;
      fit = f.fit;
      others = f.others;
    }
led_number line lines ifaces number next (OfInterface spec is) p later = no_place _ next (ap (λ l. life_start number (role_of l)) is) p
led_number line lines ifaces number next (OfLife other is) p later = no_place _ next (ap (λ l. life_start number (role_of l)) is) p
led_number line lines ifaces number next (OfEnd is) p later = no_place _ next (ap (λ l. life_start number (role_of l)) is) p
led_number line lines ifaces number next (OfTurn at salt event bytes is plain) p later = no_place _ next (plain.start number) p
led_number line lines ifaces number next (OfOther plain leads follow) p later = no_place _ next (plain.start number) p

led_end : (line : Line) (lines : List Line) (ifaces : List IfSpec) (within : Within) (next : Place) → Kind line → ended within (role_of line) ≡ Some next
    → From next ifaces lines → FromWithin within (line ∷ lines)
led_end line lines ifaces within next (OfEnd is) p later =
    let t = cond_is (eqb within.left 0) (Some (places.Between within.number)) next (sym (ap (λ l. ended within (role_of l)) is) ∙ p) in
    let none : within.left ≡ 0 = eqb-true within.left 0 t.0 in
    let f : FromLives within.number lines = subst (λ q. From q ifaces lines) (sym (some_same t.1)) later in
    record {
      inner = [];
      lives = f.lives;
      are = ap (λ l. l ∷ lines) is ∙ ap (λ ls. Model.EndOfLife ∷ ls) f.are;
      fit = record { inner = tt; counted = sym none; rise = tt; listings = tt; moments = tt };
      others = f.fit;
    }
led_end line lines ifaces within next (OfInterface spec is) p later = no_place _ next (ap (λ l. ended within (role_of l)) is) p
led_end line lines ifaces within next (OfLife number is) p later = no_place _ next (ap (λ l. ended within (role_of l)) is) p
led_end line lines ifaces within next (OfStart begin is) p later = no_place _ next (ap (λ l. ended within (role_of l)) is) p
led_end line lines ifaces within next (OfTurn at salt event bytes is plain) p later = no_place _ next (plain.end within) p
led_end line lines ifaces within next (OfOther plain leads follow) p later = no_place _ next (plain.end within) p

led_within : (line : Line) (lines : List Line) (ifaces : List IfSpec) (within : Within) (next : Place) (stays : Option Within)
    → next_within within (role_of line) ≡ stays → goes_on stays (ended within (role_of line)) ≡ Some next
    → From next ifaces lines → FromWithin within (line ∷ lines)
led_within line lines ifaces within next None is p later = led_end line lines ifaces within next (kind_of line) p later
led_within line lines ifaces within next (Some inner) is p later =
    let f : FromWithin inner lines = subst (λ q. From q ifaces lines) (sym (some_same p)) later in
    let same : inner.number ≡ within.number = kept within inner (role_of line) is in
    record {
      inner = line ∷ f.inner;
      lives = f.lives;
      are = ap (λ ls. line ∷ ls) f.are ∙ ap (λ n. line ∷ (f.inner ++ Model.EndOfLife ∷ lives_in (n + 1) f.lives)) same;
      fit = next_good within line f.inner (stepped within inner (role_of line) f.inner is f.fit);
      others = subst (λ n. LivesFit (n + 1) f.lives) same f.others;
    }

led : (line : Line) (lines : List Line) (done ifaces : List IfSpec) (place next : Place) → next_place place (role_of line) ≡ Some next
    → interfaces_fit done ≡ true → next_ifaces done (role_of line) ≡ Some ifaces
    → From next ifaces lines → From place done (line ∷ lines)
led line lines done ifaces places.Interfaces next p test i later = led_interfaces line lines done ifaces next (kind_of line) p test i later
led line lines done ifaces (places.Numbered number) next p test i later = led_number line lines ifaces number next (kind_of line) p later
led line lines done ifaces (places.Between lives) next p test i later = led_lives line lines ifaces lives next (kind_of line) p later
led line lines done ifaces (places.Within within) next p test i later =
    led_within line lines ifaces within next (next_within within (role_of line)) refl p later

no_more : (done : List IfSpec) (place : Place) → is_end place ≡ true → From place done []
no_more done (places.Between lives) e = record { lives = []; are = refl; fit = tt }
no_more done places.Interfaces e = cc
no_more done (places.Numbered number) e = cc
no_more done (places.Within within) e = cc

pub from : (lines : List Line) (done : List IfSpec) (place : Place) (to : Spot) → interfaces_fit done ≡ true → walk lines (spot done place) ≡ Some to
    → is_end to.place ≡ true → From place done lines
from [] done place to test e ends = no_more done place (ap (λ (s : Spot). is_end s.place) (some_same e) ∙ ends)
from (line ∷ lines) done place to test e ends =
    let p = passed (next_spot (spot done place) line) (walk lines) to e in
    let q = passed (next_place place (role_of line)) _ p.value p.was in
    let r = passed (next_ifaces done (role_of line)) _ p.value q.gives in
    let rest : walk lines (spot r.value q.value) ≡ Some to = ap (walk lines) (some_same r.gives) ∙ p.gives in
    let fits = tested line done r.value (kind_of line) test r.was in
    led line lines done r.value place q.value q.was test r.was (from lines r.value q.value to fits rest ends)
