-- The jobs of interfaces one after another: those so far, and those to come.
use Rattle.std.proofs.Common.{ℕ, ◌≡◌, ◌+◌, ◌<◌, ◌≤◌, List, [], ◌∷◌, ◌++◌, get_or, length, take, drop, map, sym, ap, subst, ◌∙◌, append_assoc}
use Rattle.std.specs.Prelude.{flat_map}
use Rattle.std.proofs.lemmas.List.{append-nil, map-append, take_more, drop_more, drop_all}
use Rattle.std.proofs.lemmas.Simd.{map-map}
use Rattle.world.specs.HookCalls.{Job}
use Rattle.client_model.specs.declared.interfaces.Iface.{Iface}
use Rattle.client_model.specs.IfaceSteps.{IfaceStep}
use Rattle.client_model.specs.Jobs.{jobs_along, jobs_among, told_in}

-- one more interface has told its jobs
pub jobs_one : {X : Type 0} (step : X → IfaceStep) (gone coming : List Iface) (x : X) (rest : List X) (so_far more all : List Job)
    → so_far ++ jobs_along gone coming (map step (x ∷ rest)) ≡ all
    → more ≡ so_far ++ flat_map (jobs_among (gone ++ (step x).iface ∷ drop 1 coming)) (told_in (step x))
    → more ++ jobs_along (gone ++ (step x).iface ∷ []) (drop 1 coming) (map step rest) ≡ all
jobs_one step gone coming x rest so_far more all before adds =
    let next : List Job = flat_map (jobs_among (gone ++ (step x).iface ∷ drop 1 coming)) (told_in (step x)) in
    let later : List Job = jobs_along (gone ++ (step x).iface ∷ []) (drop 1 coming) (map step rest) in
    ap (λ (jobs : List Job). jobs ++ later) adds ∙ append_assoc so_far next later ∙ before

-- after the last of them
pub jobs_opened : {X Y : Type 0} (f : X → Y) (step : Y → IfaceStep) (gone : List Iface) (rest all : List X) (so_far before : List Job) → rest ≡ []
    → so_far ++ jobs_along gone [] (map (λ x. step (f x)) rest) ≡ before ++ jobs_along [] [] (map (λ x. step (f x)) all)
    → so_far ≡ before ++ jobs_along [] [] (map step (map f all))
jobs_opened f step gone rest all so_far before none along =
    sym (append-nil so_far) ∙ ap (λ (xs : List _). so_far ++ jobs_along gone [] (map (λ x. step (f x)) xs)) (sym none) ∙ along
    ∙ ap (λ (steps : List IfaceStep). before ++ jobs_along [] [] steps) (sym (map-map step f all))

-- ---- in place

module _ (step : Iface → IfaceStep) (xs : List Iface) where
  abbrev go : Iface → Iface
  go iface = (step iface).iface

  -- the interfaces once so many have had their turn
  abbrev pub part_gone : ℕ → List Iface
  part_gone i = map go (take i xs) ++ drop i xs

  -- the jobs that are still to come then
  abbrev pub jobs_left : ℕ → List Job
  jobs_left i = jobs_along (map go (take i xs)) (drop i xs) (map step (drop i xs))

  one_gone : (i : ℕ) (d : Iface) → i < length xs → map go (take i xs) ++ go (get_or xs i d) ∷ [] ≡ map go (take (i + 1) xs)
  one_gone i d lt = sym (map-append go (take i xs) (get_or xs i d ∷ [])) ∙ ap (map go) (sym (take_more xs i d lt))

  pub jobs_next : (i : ℕ) (d : Iface) (so_far more all : List Job) → i < length xs → so_far ++ jobs_left i ≡ all
      → more ≡ so_far ++ flat_map (jobs_among (part_gone (i + 1))) (told_in (step (get_or xs i d))) → more ++ jobs_left (i + 1) ≡ all
  jobs_next i d so_far more all lt before adds =
      let x : Iface = get_or xs i d in
      let rest : List Iface = drop (i + 1) xs in
      let gone : List Iface = map go (take i xs) in
      let along : so_far ++ jobs_along gone (x ∷ rest) (map step (x ∷ rest)) ≡ all =
      subst (λ (coming : List Iface). so_far ++ jobs_along gone coming (map step coming) ≡ all) (drop_more xs i d lt) before in
      let here : part_gone (i + 1) ≡ gone ++ go x ∷ rest =
      ap (λ (front : List Iface). front ++ rest) (sym (one_gone i d lt)) ∙ append_assoc gone (go x ∷ []) rest in
      ap (λ (front : List Iface). more ++ jobs_along front rest (map step rest)) (sym (one_gone i d lt))
      ∙ jobs_one step gone (x ∷ rest) x rest so_far more all along
      (adds ∙ ap (λ (ifaces : List Iface). so_far ++ flat_map (jobs_among ifaces) (told_in (step x))) here)

  pub jobs_done : (i : ℕ) (so_far all : List Job) → length xs ≤ i → so_far ++ jobs_left i ≡ all → so_far ≡ all
  jobs_done i so_far all past before =
      sym (append-nil so_far)
      ∙ ap (λ (rest : List Iface). so_far ++ jobs_along (map go (take i xs)) rest (map step rest)) (sym (drop_all i xs past)) ∙ before
