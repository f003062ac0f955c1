-- The lines of a configuration, cut one after another.
use Rattle.std.proofs.Common.{ℕ, ◌≡◌, ◌+◌, ◌<◌, List, [], ◌∷◌, ◌++◌, length, get_or, take, Some, None, refl, sym, ap, subst, ◌∙◌, append_assoc, append-nil}
use Rattle.std.specs.Prelude.{map}
use Rattle.std.specs.List.{join_with_byte, AllByRecursion}
use Rattle.std.proofs.lemmas.List.{map-append}
use Rattle.net_types.specs.declared.interface.IfSpec.{IfSpec}
use Rattle.net_types.specs.Marks.{Lacks}
use Rattle.net_types.specs.Cutting.{split_at_byte}
use Rattle.net_types.proofs.ReadsLaws.{split_sound, split_whole}
use Rattle.net_types.proofs.ListLaws.{split_smaller}
use Rattle.replay_text.specs.Blocks.{parts_of}
use Rattle.replay_text.specs.ScriptContent.{lines_within, conf_lines}
use Rattle.replay_text.proofs.BlockLaws.{parts_line, parts_joined, parts_lack}
use Rattle.script_model.specs.Lines as lines
use Rattle.typed_lines.specs.TypedLines.{AreTyped}
use Rattle.device_calls.specs.Printing.{Prints}
use Rattle.conf_text.specs.Contents.{notice_content}
use Rattle.conf_text.specs.declared.conf.Notice.{Notice}
use Rattle.text_works.specs.Heads.{last_part, unended}
use Rattle.text_works.specs.Heads.{notice_line}
use Rattle.device_calls.proofs.Printings.{contents_more, lines_more, prints_none, prints_then, prints_same}

none_within : (text : List ℕ) → split_at_byte 10 text ≡ None → (parts : List (List ℕ)) → parts_of text ≡ parts → lines_within parts ≡ []
none_within text none [] is = refl
none_within text none (line ∷ []) is = refl
none_within text none (line ∷ next ∷ parts) is =
    let free : Lacks 10 line = (subst (AllByRecursion (Lacks 10)) is (parts_lack text)).0 in
    let whole : text ≡ line ++ 10 ∷ join_with_byte 10 (next ∷ parts) = sym (parts_joined text) ∙ ap (join_with_byte 10) is in
    let cut : split_at_byte 10 text ≡ Some (line, join_with_byte 10 (next ∷ parts)) =
    ap (split_at_byte 10) whole ∙ split_whole 10 line (join_with_byte 10 (next ∷ parts)) free in
    absurd cc

conf_none : (text : List ℕ) → split_at_byte 10 text ≡ None → conf_lines text ≡ []
unfolding conf_lines
conf_none text none = none_within text none (parts_of text) refl

-- a text has at least one part
within : (line : List ℕ) (parts : List (List ℕ)) → (parts ≡ [] → ⊥) → lines_within (line ∷ parts) ≡ line ∷ lines_within parts
within line [] some = absurd (some refl)
within line (next ∷ parts) some = refl

some_parts : (text : List ℕ) → parts_of text ≡ [] → ⊥
some_parts text none =
    let empty : text ≡ [] = sym (parts_joined text) ∙ ap (join_with_byte 10) none in
    let bad : parts_of [] ≡ [] = ap parts_of (sym empty) ∙ none in
    let never : ⊥ = cc in never

conf_some : (text line rest : List ℕ) → split_at_byte 10 text ≡ Some (line, rest) → conf_lines text ≡ line ∷ conf_lines rest
unfolding conf_lines
conf_some text line rest e =
    let cut = split_sound 10 text line rest e in
    ap lines_within (ap parts_of cut.0 ∙ parts_line line rest cut.1) ∙ within line (parts_of rest) (some_parts rest)

-- what stands after the last line feed
unended_in : (text : List ℕ) → split_at_byte 10 text ≡ None → (parts : List (List ℕ)) → parts_of text ≡ parts → last_part parts ≡ text
unended_in text none [] is = sym (sym (parts_joined text) ∙ ap (join_with_byte 10) is)
unended_in text none (line ∷ []) is = sym (sym (parts_joined text) ∙ ap (join_with_byte 10) is)
unended_in text none (line ∷ next ∷ parts) is =
    let free : Lacks 10 line = (subst (AllByRecursion (Lacks 10)) is (parts_lack text)).0 in
    let whole : text ≡ line ++ 10 ∷ join_with_byte 10 (next ∷ parts) = sym (parts_joined text) ∙ ap (join_with_byte 10) is in
    let cut : split_at_byte 10 text ≡ Some (line, join_with_byte 10 (next ∷ parts)) =
    ap (split_at_byte 10) whole ∙ split_whole 10 line (join_with_byte 10 (next ∷ parts)) free in
    absurd cc

unended_none : (text : List ℕ) → split_at_byte 10 text ≡ None → unended text ≡ text
unfolding unended
unended_none text none = unended_in text none (parts_of text) refl

last_of_more : (line : List ℕ) (parts : List (List ℕ)) → (parts ≡ [] → ⊥) → last_part (line ∷ parts) ≡ last_part parts
last_of_more line [] some = absurd (some refl)
last_of_more line (next ∷ parts) some = refl

unended_some : (text line rest : List ℕ) → split_at_byte 10 text ≡ Some (line, rest) → unended text ≡ unended rest
unfolding unended
unended_some text line rest e =
    let cut = split_sound 10 text line rest e in
    ap last_part (ap parts_of cut.0 ∙ parts_line line rest cut.1) ∙ last_of_more line (parts_of rest) (some_parts rest)

-- what was printed of a configuration so far, and what is left of it
pub record Prints_so_far (old new conf rest : List ℕ) : Type 0 where
  pub front : List (List ℕ)
  pub printed : Prints old new (map lines.Conf front)
  pub left : conf_lines conf ≡ front ++ conf_lines rest
  pub last : unended conf ≡ unended rest

pub printed_none : (text conf : List ℕ) → Prints_so_far text text conf conf
printed_none text conf = record { front = []; printed = prints_none text; left = refl; last = refl }

pub printed_more : (old mid new conf rest line after : List ℕ) → split_at_byte 10 rest ≡ Some (line, after) → Prints_so_far old mid conf rest
    → Prints mid new (lines.Conf line ∷ []) → Prints_so_far old new conf after
printed_more old mid new conf rest line after e p q = record {
  front = p.front ++ line ∷ [];
  printed = prints_same (prints_then p.printed q) (sym (map-append lines.Conf p.front (line ∷ [])));
  left = p.left ∙ ap (λ (ls : List (List ℕ)). p.front ++ ls) (conf_some rest line after e) ∙ sym (append_assoc p.front (line ∷ []) (conf_lines after));
  last = p.last ∙ unended_some rest line after e;
}

pub printed_all : (old new conf rest : List ℕ) → split_at_byte 10 rest ≡ None → Prints_so_far old new conf rest
    → Prints old new (map lines.Conf (conf_lines conf))
printed_all old new conf rest none p =
    prints_same p.printed (ap (map lines.Conf) (sym (p.left ∙ ap (λ (ls : List (List ℕ)). p.front ++ ls) (conf_none rest none) ∙ append-nil p.front)))

pub rest_is : (old new conf rest : List ℕ) → split_at_byte 10 rest ≡ None → Prints_so_far old new conf rest → rest ≡ unended conf
rest_is old new conf rest none p = sym (p.last ∙ unended_none rest none)

pub rest_smaller : (rest line after : List ℕ) → split_at_byte 10 rest ≡ Some (line, after) → length after < length rest
rest_smaller rest line after e = split_smaller 10 rest line after e

-- a line of a configuration is within its type
pub confs_typed : (parts : List (List ℕ)) → AreTyped (map lines.Conf parts)
confs_typed [] = tt
confs_typed (part ∷ parts) = (tt, confs_typed parts)

-- ---- interfaces and notices, one after another

pub interfaces_more : (specs : List IfSpec) (i : ℕ) (d : IfSpec) (t u v : List ℕ) → i < length specs → Prints t u (map lines.Interface (take i specs))
    → Prints u v (lines.Interface (get_or specs i d) ∷ []) → Prints t v (map lines.Interface (take (i + 1) specs))
interfaces_more specs i d t u v lt p q = lines_more lines.Interface specs i d t u v lt p q

pub notices_more : (notices : List Notice) (i : ℕ) (d : Notice) (t u v : List ℕ) → i < length notices
    → Prints t u (map notice_line (map notice_content (take i notices))) → Prints u v (notice_line (notice_content (get_or notices i d)) ∷ [])
    → Prints t v (map notice_line (map notice_content (take (i + 1) notices)))
notices_more notices i d t u v lt p q = contents_more notice_line notice_content notices i d t u v lt p q
