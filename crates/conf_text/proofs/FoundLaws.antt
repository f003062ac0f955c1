-- Lines one after another come to the associations of all of them.
use Rattle.std.proofs.Common.{◌≡◌, ℕ, ◌+◌, ◌<◌, Bool, true, false, not, ◌||◌, cond, List, [], ◌∷◌, ◌++◌, length, map, take, get_or, refl, sym, ap, ◌∙◌}
use Rattle.std.specs.List.{filter, flat_map, list_any}
use Rattle.std.proofs.lemmas.Grind.{flat_map-append}
use Rattle.std.proofs.lemmas.List.{append-nil, append_assoc, map-append, take_more}
use Rattle.settings.specs.declared.dhcp6_conf.ShareConf.{ShareConf}
use Rattle.conf_directives.specs.declared.values.IaLine.{IaLine}
use Rattle.conf_directives.specs.Contents.{IaContent, ia_content}
use Rattle.conf_text.specs.declared.subject.Subject.{Subject}
use Rattle.conf_text.specs.Associations.{Association, association, associations, each_once, is_same_ia}
use Rattle.conf_text.specs.AssociationSteps.{FoundContent, found_of, keeps_in, line_in, lines_in, lines_of, shared_in, with_association, with_line, with_lines}
use Rattle.conf_scopes.proofs.AnyLaws.{any_in_map}
use Rattle.conf_text.proofs.OnceLaws.{each_once_more, ia_in}

module _ (index : ℕ) (keeps : IaContent → Bool) (shared : Association → List ShareConf) where
  found_more : (all : List Association) (one : Association) → with_association shared one (found_of shared all) ≡ found_of shared (all ++ one ∷ [])
  found_more all one =
      let ias : map ia_in (all ++ one ∷ []) ≡ map ia_in all ++ one.ia ∷ [] = map-append ia_in all (one ∷ []) in
      let shares : flat_map shared (all ++ one ∷ []) ≡ flat_map shared all ++ shared one =
      flat_map-append shared all (one ∷ []) ∙ ap (λ (more : List ShareConf). flat_map shared all ++ more) (append-nil (shared one)) in
      rw (ias, shares) refl

  line_found : (before : List Association) (line : IaContent)
      → with_line index keeps shared (found_of shared (each_once before)) line
      ≡ found_of shared (each_once (before ++ map (association index) (filter keeps (line ∷ []))))
  line_found before line = by (keeps line)
    where
      one : Association
      one = association index line

      once : List Association
      once = each_once before

      by_any : (b : Bool)
          → cond b (found_of shared once) (with_association shared one (found_of shared once)) ≡ found_of shared (cond b once (once ++ one ∷ []))
      by_any true = refl
      by_any false = found_more once one

      by : (b : Bool)
          → cond (not b || list_any (λ other. is_same_ia other one.ia) (map ia_in once)) (found_of shared once)
          (with_association shared one (found_of shared once))
          ≡ found_of shared (each_once (before ++ map (association index) (cond b (line ∷ []) [])))
      by false = ap (λ (all : List Association). found_of shared (each_once all)) (sym (append-nil before))
      by true =
          ap (λ b. cond b (found_of shared once) (with_association shared one (found_of shared once)))
          (any_in_map (λ other. is_same_ia other one.ia) ia_in once)
          ∙ by_any (list_any (λ (other : Association). is_same_ia other.ia one.ia) once)
          ∙ sym (ap (found_of shared) (each_once_more before one))

  lines_found : (before : List Association) (lines : List IaContent)
      → with_lines index keeps shared (found_of shared (each_once before)) lines
      ≡ found_of shared (each_once (before ++ map (association index) (filter keeps lines)))
  lines_found before [] = ap (λ (all : List Association). found_of shared (each_once all)) (sym (append-nil before))
  lines_found before (line ∷ lines) =
      ap (λ (found : FoundContent). with_lines index keeps shared found lines) (line_found before line)
      ∙ lines_found (before ++ map (association index) (filter keeps (line ∷ []))) lines
      ∙ ap (λ (all : List Association). found_of shared (each_once all))
      (append_assoc before (map (association index) (filter keeps (line ∷ []))) (map (association index) (filter keeps lines))
      ∙ ap (λ (more : List Association). before ++ more) (join (keeps line)))
    where
      join : (b : Bool)
          → map (association index) (cond b (line ∷ []) []) ++ map (association index) (filter keeps lines)
          ≡ map (association index) (cond b (line ∷ filter keeps lines) (filter keeps lines))
      join true = refl
      join false = refl

  lines_join : (found : FoundContent) (lines more : List IaContent)
      → with_lines index keeps shared found (lines ++ more) ≡ with_lines index keeps shared (with_lines index keeps shared found lines) more
  lines_join found [] more = refl
  lines_join found (line ∷ lines) more = lines_join (with_line index keeps shared found line) lines more

-- one line more of those of an interface
pub lines_step : (subject : Subject) (start now next : FoundContent) (lines : List IaLine) (at : ℕ) (d line : IaLine) → at < length lines
    → line ≡ get_or lines at d
    → now ≡ lines_in subject start (map ia_content (take at lines)) → next ≡ line_in subject now (ia_content line)
    → next ≡ lines_in subject start (map ia_content (take (at + 1) lines))
lines_step subject start now next lines at d line within is so_far more =
    more
    ∙ ap (λ (one : IaLine). line_in subject now (ia_content one)) is
    ∙ ap (λ (found : FoundContent). line_in subject found (ia_content (get_or lines at d))) so_far
    ∙ sym (ap (λ (ls : List IaLine). lines_in subject start (map ia_content ls)) (take_more lines at d within)
    ∙ ap (lines_in subject start) (map-append ia_content (take at lines) (get_or lines at d ∷ []))
    ∙ lines_join subject.spec.now.index.number (keeps_in subject) (shared_in subject) start (map ia_content (take at lines))
    (ia_content (get_or lines at d) ∷ []))

-- the global lines, and then those of the block
pub all_found : (subject : Subject) (none first second : FoundContent) → none ≡ found_of (shared_in subject) []
    → first ≡ lines_in subject none (map ia_content subject.conf.now.global.ias.items)
    → second ≡ lines_in subject first (map ia_content subject.block.now.ias.items)
    → second ≡ found_of (shared_in subject) (associations subject.spec.now.index.number (lines_of subject))
all_found subject none first second empty global block =
    let index = subject.spec.now.index.number in
    block
    ∙ ap (λ (found : FoundContent). lines_in subject found (map ia_content subject.block.now.ias.items))
    (global ∙ ap (λ (found : FoundContent). lines_in subject found (map ia_content subject.conf.now.global.ias.items)) empty)
    ∙ sym
    (lines_join index (keeps_in subject) (shared_in subject) (found_of (shared_in subject) []) (map ia_content subject.conf.now.global.ias.items)
    (map ia_content subject.block.now.ias.items))
    ∙ lines_found index (keeps_in subject) (shared_in subject) [] (lines_of subject)
