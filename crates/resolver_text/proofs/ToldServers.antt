-- What was told of servers, one text more.
use Rattle.std.proofs.Common.{◌≡◌, ◌<◌, ℕ, List, [], ◌∷◌, ◌++◌, length, map, refl, ap, ◌∙◌, Bool, true, false, cond, not, arith, subst}
use Rattle.std.specs.Prelude.{bytes_eq, ◌||◌, Contains}
use Rattle.std.specs.List.{list_any}
use Rattle.std.proofs.lemmas.List.{length-map, map-append}
use Rattle.std.proofs.lemmas.List.Elements.{All-push, All-weaker}
use Rattle.std.proofs.lemmas.List.Folds.{list_any-append}
use Rattle.net_types.specs.AddressText.{ip6_text}
use Rattle.net_types.specs.declared.interface.Name.{Name}
use Rattle.resolver_text.specs.declared.part.Server.{Server}
use Rattle.resolver_text.specs.declared.part.Server.TheVariants.{V4, V6}
use Rattle.resolver_text.specs.Keeping.{KeepsOn}
use Rattle.resolver_text.specs.Texts.{is_link_local, server_text, zoned_text}
use Rattle.resolver_text.specs.Told.{AreTold, needs_no_zone}
use Rattle.resolver_text.proofs.UnlikeTexts.{is_like, like_refl, told_again, told_anew}

-- the zone is the one part of a text that comes of the interface
same_text : (one other : Name) (server : Server) → needs_no_zone server ≡ true → server_text one server ≡ server_text other server
same_text one other (V4 ip) plain = refl
same_text one other (V6 ip) plain = by_case (is_link_local ip) plain
  where
    by_case : (b : Bool) → not b ≡ true → cond b (zoned_text ip one) (ip6_text ip) ≡ cond b (zoned_text ip other) (ip6_text ip)
    by_case true e = absurd cc
    by_case false e = refl

among_more : (text more : List ℕ) (texts : List (List ℕ)) → list_any (is_like text) texts ≡ true → list_any (is_like text) (texts ++ more ∷ []) ≡ true
among_more text more texts among = list_any-append (is_like text) texts (more ∷ []) ∙ ap (λ b. b || list_any (is_like text) (more ∷ [])) among

among_last : (text : List ℕ) (texts : List (List ℕ)) → list_any (is_like text) (texts ++ text ∷ []) ≡ true
among_last text [] = ap (λ b. b || false) (like_refl text)
among_last text (first ∷ texts) = rest (bytes_eq first text) (among_last text texts)
  where
    rest : (b : Bool) → list_any (is_like text) (texts ++ text ∷ []) ≡ true → (b || list_any (is_like text) (texts ++ text ∷ [])) ≡ true
    rest true among = refl
    rest false among = among

module _ {A : Type 0} (view : A → List ℕ) (kept new : List A) (one : A) (pushed : new ≡ kept ++ one ∷ []) (told : List Server)
    (so_far : AreTold told (map view kept)) where
  -- the same servers are told
  pub tells_more : AreTold told (map view new)
  tells_more =
      rw (pushed, map-append view kept (one ∷ []))
      (All-weaker (λ server. (name : Name) → list_any (is_like (server_text name server)) (map view kept) ≡ true)
      (λ server. (name : Name) → list_any (is_like (server_text name server)) (map view kept ++ view one ∷ []) ≡ true)
      (λ server is name. among_more (server_text name server) (view one) (map view kept) (is name)) told so_far)

  -- and the one whose text it is
  pub tells_one : (name : Name) (server : Server) → view one ≡ server_text name server → needs_no_zone server ≡ true
      → (more : List Server) → more ≡ told ++ server ∷ [] → AreTold more (map view new)
  tells_one name server is plain more grown =
      rw grown (All-push (λ server. (name : Name) → list_any (is_like (server_text name server)) (map view new) ≡ true) told server tells_more last)
    where
      last : (other : Name) → list_any (is_like (server_text other server)) (map view new) ≡ true
      last other = rw (pushed, map-append view kept (one ∷ []), is, same_text name other server plain) (among_last (server_text other server) (map view kept))

-- a server that was told: its text is there
pub among_told : (told seen : List Server) (texts : List (List ℕ)) (server : Server) → seen ≡ told → AreTold told texts → Contains seen server
    → (name : Name) → list_any (is_like (server_text name server)) texts ≡ true
among_told told seen texts server same so_far found =
    let all : AreTold seen texts = rw same so_far in
    subst (λ (one : Server). (name : Name) → list_any (is_like (server_text name one)) texts ≡ true) found.2 (all found.0 server found.1)

-- ---- a text that was printed, beside those of the servers before

module _ {A : Type 0} (view : A → List ℕ) (limit : ℕ) (kept seen : List A) (texts : List (List ℕ)) (views : map view kept ≡ texts) (few : length texts < limit)
    (same : seen ≡ kept)
    (text spelled : List ℕ) (is : spelled ≡ text) (answer : Bool) (given : answer ≡ list_any (λ x. bytes_eq (view x) spelled) seen) where
  few_kept : length kept < limit
  few_kept = let all = length-map kept view in let alike = ap length views in omega (arith, few, all, alike)

  answered : answer ≡ list_any (λ x. bytes_eq (view x) text) seen
  answered = rw (← is) given

  pub printed_again : answer ≡ true → KeepsOn limit (text ∷ []) texts texts
  printed_again e = rw (← views) (told_again view limit kept seen text few_kept same answer answered e)

  pub printed_anew : answer ≡ false → (new : List A) (one : A) → new ≡ kept ++ one ∷ [] → view one ≡ text → KeepsOn limit (text ∷ []) texts (map view new)
  printed_anew e new one pushed spells = rw (← views) (told_anew view limit kept seen text few_kept same answer answered e new one pushed spells)
