-- What interfaces that fit offer, and a loop in which they are opened.
use Rattle.std.proofs.Common.{ℕ, ◌≡◌, Bool, true, false, cond, nat_eq, Option, Some, List, [], ◌∷◌, ◌++◌, length, refl, sym, ap, subst, ◌∙◌, arith}
use Rattle.std.specs.Prelude.{map, flat_map, find, IfSome}
use Rattle.std.specs.List.{AllByRecursion}
use Rattle.std.proofs.lemmas.List.{append-nil, map-append, flat_map_more}
use Rattle.std.proofs.lemmas.List.Folds.{flat_map-map}
use Rattle.std.proofs.lemmas.Simd.{map-map}
use Rattle.net_types.proofs.AllLaws.{all_join}
use Rattle.net_types.specs.declared.interface.IfSpec.{IfSpec}
use Rattle.v4_message.specs.Requests.{AskContent}
use Rattle.world.specs.Rows.{IsInterface}
use Rattle.client_model.specs.declared.interfaces.Iface.{Iface}
use Rattle.client_model.specs.Messages.{Said}
use Rattle.client_model.specs.IfaceSteps.{IfaceStep, index_of, news_of}
use Rattle.client_model.specs.Interfaces.{opened}
use Rattle.client_model.specs.KeptLeases.{Beginning}
use Rattle.iface_core.proofs.Staying.{opened_fits}
use Rattle.client_model.specs.Clients.{spelled, sends_of}
use Rattle.client_model.specs.Fitting.{AreIfaces, FitsBeginning, FitsIface}
use Rattle.iface_core.specs.Outcomes.{Asked, Goes}
use Rattle.client_core.specs.Stepping.{IsOnInterface, GoAll}

-- ---- the frames that interfaces offer

spelled_on : (spec : IfSpec) (ask : AskContent) (said : List Said) → IsInterface spec.index.number → AllByRecursion IsOnInterface (map (spelled spec ask) said)
spelled_on spec ask [] index = tt
spelled_on spec ask (message ∷ said) index = (index, spelled_on spec ask said index)

pub steps_on : {X : Type 0} (step : X → IfaceStep) (xs : List X) → AreIfaces (map (λ x. (step x).iface) xs)
    → AllByRecursion IsOnInterface (flat_map (λ x. sends_of (step x)) xs)
steps_on step [] fit = tt
steps_on step (x ∷ xs) fit =
    all_join IsOnInterface (sends_of (step x)) (flat_map (λ y. sends_of (step y)) xs)
    (spelled_on (step x).iface.managed.spec (step x).iface.dhcp4.settings.ask (step x).said fit.0.managed.index) (steps_on step xs fit.1)

-- one more that was opened
pub opened_more : (up at salt : ℕ) (beginning : Beginning) (ifaces longer : List Iface) (iface : Iface) → longer ≡ ifaces ++ iface ∷ []
    → AreIfaces ifaces → FitsBeginning beginning → iface ≡ (opened up at salt beginning).iface → AreIfaces longer
opened_more up at salt beginning ifaces longer iface more fit fits goes =
    subst AreIfaces (sym more) (all_join FitsIface ifaces (iface ∷ []) fit (subst FitsIface (sym goes) (opened_fits up at salt beginning fits), tt))

-- what is found among them is one
picked : (b : Bool) (iface one : Iface) (others : Option Iface) → FitsIface iface → (Some one ≡ others → FitsIface one)
    → Some one ≡ cond b (Some iface) others → FitsIface one
picked true iface one others fits later found = subst (λ (some : Option Iface). IfSome some FitsIface) (sym found) fits
picked false iface one others fits later found = later found

pub found_fits : (index : ℕ) (ifaces : List Iface) (one : Iface) → AreIfaces ifaces → Some one ≡ find (λ iface. nat_eq (index_of iface) index) ifaces
    → FitsIface one
found_fits index [] one fit found = absurd cc
found_fits index (iface ∷ ifaces) one fit found =
    picked (nat_eq (index_of iface) index) iface one (find (λ other. nat_eq (index_of other) index) ifaces) fit.0 (found_fits index ifaces one fit.1) found

-- ---- one after another

pub go_none : {X : Type 0} (step : X → IfaceStep) (ifaces : List Iface) (before : Asked) → ifaces ≡ [] → GoAll step [] ifaces before before
go_none step ifaces before none = record { go_on = none; offer = sym (append-nil before.sends); tell = sym (append-nil before.news) }

pub go_next : {X : Type 0} (step : X → IfaceStep) (xs : List X) (x : X) (ifaces longer : List Iface) (iface : Iface) (before amid after : Asked)
    → longer ≡ ifaces ++ iface ∷ [] → GoAll step xs ifaces before amid → Goes (step x) iface amid after → GoAll step (xs ++ x ∷ []) longer before after
go_next step xs x ifaces longer iface before amid after more all one = record {
  go_on = more ∙ ap (λ (done : List Iface). done ++ iface ∷ []) all.go_on ∙ ap (λ (last : Iface). map (λ y. (step y).iface) xs ++ last ∷ []) one.goes_on
      ∙ sym (map-append (λ y. (step y).iface) xs (x ∷ []));
  offer = one.offers ∙ ap (λ s. s ++ sends_of (step x)) all.offer ∙ flat_map_more (λ y. sends_of (step y)) before.sends xs x;
  tell = one.tells ∙ ap (λ s. s ++ news_of (step x)) all.tell ∙ flat_map_more (λ y. news_of (step y)) before.news xs x;
}

-- what hooks are told is no part of it
pub go_untold : {X : Type 0} (step : X → IfaceStep) (xs : List X) (ifaces : List Iface) (before amid after : Asked)
    → GoAll step xs ifaces before amid → after ≡ record amid { told = [] } → GoAll step xs ifaces before after
go_untold step xs ifaces before amid after all same =
    subst (λ (last : Asked). GoAll step xs ifaces before last) (sym same) (record { go_on = all.go_on; offer = all.offer; tell = all.tell })

pub go_mapped : {X Y : Type 0} (f : X → Y) (step : Y → IfaceStep) (xs : List X) (ifaces : List Iface) (before after : Asked)
    → GoAll (λ x. step (f x)) xs ifaces before after → GoAll step (map f xs) ifaces before after
go_mapped f step xs ifaces before after all = record {
  go_on = all.go_on ∙ sym (map-map (λ y. (step y).iface) f xs);
  offer = all.offer ∙ ap (λ s. before.sends ++ s) (sym (flat_map-map (λ y. sends_of (step y)) f xs));
  tell = all.tell ∙ ap (λ s. before.news ++ s) (sym (flat_map-map (λ y. news_of (step y)) f xs));
}

-- ---- those that a loop has taken out of a list, the next one, and the rest

pub next_fits : {X Y : Type 0} (P : Y → Type 0) (f : X → Y) (done rest all : List X) (x : X) → done ++ x ∷ rest ≡ all → AllByRecursion P (map f all) → P (f x)
next_fits P f [] rest all x is fits = (subst (λ (ys : List _). AllByRecursion P (map f ys)) (sym is) fits).0
next_fits P f (first ∷ done) rest all x is fits =
    next_fits P f done rest (done ++ x ∷ rest) x refl (subst (λ (ys : List _). AllByRecursion P (map f ys)) (sym is) fits).1

pub none_left : {X : Type 0} (rest : List X) (left : ℕ) → left ≡ length rest → left ≡ 0 → rest ≡ []
none_left [] left counted none = refl
none_left (x ∷ rest) left counted none = let some : left ≡ length (x ∷ rest) = counted in absurd (omega arith)

pub all_taken : {X : Type 0} (done rest all : List X) (left : ℕ) → done ++ rest ≡ all → left ≡ length rest → left ≡ 0 → done ≡ all
all_taken done [] all left is counted none = sym (append-nil done) ∙ is
all_taken done (x ∷ rest) all left is counted none = let some : left ≡ length (x ∷ rest) = counted in absurd (omega arith)
