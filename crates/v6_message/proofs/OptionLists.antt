-- Options that are spelled one after another.
use Rattle.std.proofs.Common.{◌≡◌, ℕ, ◌+◌, ◌*◌, ◌<◌, List, [], ◌∷◌, ◌++◌, length, take, map, get_or, sym, ap, ◌∙◌, append_assoc, arith}
use Rattle.std.proofs.lemmas.List.{take_more, map_push}
use Rattle.std.proofs.lemmas.List.Concat.{flat_map-append}
use Rattle.net_types.specs.declared.address.Net6.{Net6}
use Rattle.v6_options.specs.declared.ia.IaKind.{IaKind}
use Rattle.v6_options.specs.declared.ia.IaKind.TheVariants.{Na, Pd}
use Rattle.v6_options.specs.OptionArea.{Instance}
use Rattle.v6_options.specs.OptionGrammar.{option_text}
use Rattle.v6_message.specs.Requests.{AskedContent, item_of, item_len, options_text, ia_value}

pub texts_append : (xs ys : List Instance) → options_text (xs ++ ys) ≡ options_text xs ++ options_text ys
texts_append xs ys = flat_map-append (λ (i : Instance). option_text i.0 i.1) xs ys

-- one more element of a list is spelled
pub texts_more : {X Y : Type 0} (F : Y → Instance) (G : X → Y) (start : List ℕ) (xs : List X) (i : ℕ) (d : X) → i < length xs
    → (start ++ options_text (map F (map G (take i xs)))) ++ options_text (F (G (get_or xs i d)) ∷ []) ≡ start ++ options_text (map F (map G (take (i + 1) xs)))
texts_more F G start xs i d h =
    append_assoc start (options_text (map F (map G (take i xs)))) (options_text (F (G (get_or xs i d)) ∷ []))
    ∙ ap (λ (text : List ℕ). start ++ text) (
    sym (texts_append (map F (map G (take i xs))) (F (G (get_or xs i d)) ∷ []))
    ∙ ap options_text
    (sym (ap (map F) (ap (map G) (take_more xs i d h) ∙ map_push G (take i xs) (get_or xs i d)) ∙ map_push F (map G (take i xs)) (G (get_or xs i d)))))

-- each item takes as many bytes
items_len : (kind : IaKind) (items : List Net6) → length (options_text (map (item_of kind) items)) ≡ length items * item_len kind
items_len kind [] = omega arith
items_len Na (net ∷ items) = let more = items_len Na items in omega (arith, more)
items_len Pd (net ∷ items) = let more = items_len Pd items in omega (arith, more)

pub ia_value_len : (ia : AskedContent) → length (ia_value ia) ≡ 12 + length ia.items * item_len ia.kind
ia_value_len ia = let items = items_len ia.kind ia.items in omega (arith, items)

-- options that are spelled one list after another
pub texts_joined : (start : List ℕ) (xs ys : List Instance) → (start ++ options_text xs) ++ options_text ys ≡ start ++ options_text (xs ++ ys)
texts_joined start xs ys =
    append_assoc start (options_text xs) (options_text ys) ∙ ap (λ (text : List ℕ). start ++ text) (sym (texts_append xs ys))

pub message_joined : (start : List ℕ) (client elapsed : Instance) (server rapid ias last : List Instance)
    → (((((start ++ options_text (client ∷ [])) ++ options_text server) ++ options_text (elapsed ∷ [])) ++ options_text rapid) ++ options_text ias)
    ++ options_text last
    ≡ start ++ options_text (client ∷ (server ++ (elapsed ∷ (rapid ++ (ias ++ last)))))
message_joined start client elapsed server rapid ias last =
    let first = start ++ options_text (client ∷ []) in
    texts_joined ((((first ++ options_text server) ++ options_text (elapsed ∷ [])) ++ options_text rapid)) ias last
    ∙ texts_joined ((first ++ options_text server) ++ options_text (elapsed ∷ [])) rapid (ias ++ last)
    ∙ texts_joined (first ++ options_text server) (elapsed ∷ []) (rapid ++ (ias ++ last))
    ∙ texts_joined first server (elapsed ∷ (rapid ++ (ias ++ last)))
    ∙ texts_joined start (client ∷ []) (server ++ (elapsed ∷ (rapid ++ (ias ++ last))))

-- the same, one step after another
pub message_put : (start one two three four five : List ℕ) (client elapsed : Instance) (server rapid ias last : List Instance)
    → one ≡ start ++ options_text (client ∷ []) → two ≡ one ++ options_text server → three ≡ two ++ options_text (elapsed ∷ [])
    → four ≡ three ++ options_text rapid → five ≡ four ++ options_text ias
    → five ++ options_text last ≡ start ++ options_text (client ∷ (server ++ (elapsed ∷ (rapid ++ (ias ++ last)))))
message_put start one two three four five client elapsed server rapid ias last a b c d e =
    rw (e, d, c, b, a) (message_joined start client elapsed server rapid ias last)
