-- What interfaces tell the resolver, as it is kept.
use Rattle.std.proofs.Common.{◌≡◌, ◌<◌, ◌+◌, ◌*◌, ℕ, Bool, true, false, cond, List, [], ◌∷◌, ◌++◌, add-one, Option, Some, None, get_or, length, map, set, suc, take, drop, refl, sym, ap, subst, ◌∙◌, arith}
use Rattle.std.specs.Prelude.{filter}
use Rattle.std.proofs.lemmas.List.{get_or-set_same, get_or-set_other, set-get_or, length-map, length-set, map-set}
use Rattle.std.proofs.lemmas.List.Elements.{filter-append}
use Rattle.lease_text.specs.Leases.{LeaseContent}
use Rattle.lease6_text.specs.Leases.{Lease6Content}
use Rattle.resolver_text.specs.declared.part.Family.{Family}
use Rattle.resolver_text.specs.declared.part.Family.TheVariants.{V4, V6}
use Rattle.resolver_text.specs.declared.part.Part.{Part}
use Rattle.resolver_text.specs.Parts.{PartContent, part_content, parts_content}
use Rattle.resolver_text.specs.ResolverText.{resolver_text}
use Rattle.settings.specs.declared.interfaces.Managed.{Managed}
use Rattle.client_model.specs.V4Client.Clients.{held_of}
use Rattle.v6_client.specs.Clients as dhcp6
use Rattle.client_model.specs.declared.interfaces.Iface.{Iface}
use Rattle.client_model.specs.ResolverParts.{has_part4, iface_parts, part4_with, parts6, resolver_parts, resolver_wanted, some_text}
use Rattle.client_core.specs.declared.effects.Resolver.{Resolver}
use Rattle.client_core.specs.declared.effects.Resolver.TheVariants.{Same, Other}
use Rattle.client_core.specs.ToldParts.{all_told, nothing_told, told4, told6, told_parts, told_with}
use Rattle.client_core.specs.Touched.{Compares, either}
use Rattle.client_core.proofs.Going.{map_at}
use Rattle.client_core.proofs.HeardParts.{heard_text, tells}
use Rattle.client_core.proofs.TwoEach.{length_two, put_two, same_two, same_before}

-- ---- one interface

abbrev with_family : Managed → PartContent → Family → List PartContent
with_family managed part V4 = part ∷ nothing_told managed V6 ∷ []
with_family managed part V6 = nothing_told managed V4 ∷ part ∷ []

-- two parts, of those that there are
abbrev padded : Managed → List PartContent → List PartContent
padded managed [] = nothing_told managed V4 ∷ nothing_told managed V6 ∷ []
padded managed (part ∷ []) = with_family managed part part.family
padded managed (part ∷ other ∷ more) = part ∷ other ∷ []

padded_from : (managed : Managed) (b : Bool) (held : Option LeaseContent) (lease : Option Lease6Content)
    → cond b (part4_with managed held) (nothing_told managed V4) ∷ told6 managed lease ∷ []
    ≡ padded managed (cond b (part4_with managed held ∷ []) [] ++ parts6 managed lease)
padded_from managed true held None = refl
padded_from managed true held (Some lease) = refl
padded_from managed false held None = refl
padded_from managed false held (Some lease) = refl

told_padded : (iface : Iface) → told_parts iface ≡ padded iface.managed (iface_parts iface)
told_padded iface = padded_from iface.managed (has_part4 iface) (held_of iface.dhcp4) (dhcp6.held_of iface.dhcp6)

pub told_stays : (old new : Iface) → new.managed ≡ old.managed → iface_parts new ≡ iface_parts old → told_parts new ≡ told_parts old
told_stays old new same parts = told_padded new ∙ (λ i. padded (same i) (parts i)) ∙ sym (told_padded old)

heard_from : (managed : Managed) (b : Bool) (held : Option LeaseContent) (lease : Option Lease6Content)
    → filter tells (cond b (part4_with managed held) (nothing_told managed V4) ∷ told6 managed lease ∷ [])
    ≡ filter tells (cond b (part4_with managed held ∷ []) [] ++ parts6 managed lease)
heard_from managed true held None = refl
heard_from managed true held (Some lease) = refl
heard_from managed false held None = refl
heard_from managed false held (Some lease) = refl

-- ---- all interfaces

heard_all : (ifaces : List Iface) → filter tells (all_told ifaces) ≡ filter tells (resolver_parts ifaces)
heard_all [] = refl
heard_all (iface ∷ ifaces) =
    filter-append tells (told_parts iface) (all_told ifaces)
    ∙ ap (λ (parts : List PartContent). parts ++ filter tells (all_told ifaces))
    (heard_from iface.managed (has_part4 iface) (held_of iface.dhcp4) (dhcp6.held_of iface.dhcp6))
    ∙ ap (λ (parts : List PartContent). filter tells (iface_parts iface) ++ parts) (heard_all ifaces)
    ∙ sym (filter-append tells (iface_parts iface) (resolver_parts ifaces))

-- the text of what is kept is the text that is wanted
pub text_told : (ifaces : List Iface) → some_text (resolver_text (all_told ifaces)) ≡ resolver_wanted ifaces
unfolding resolver_wanted
text_told ifaces =
    ap some_text (sym (heard_text (all_told ifaces)) ∙ ap resolver_text (heard_all ifaces) ∙ heard_text (resolver_parts ifaces))

pub wanted_stays : (old new : List Iface) → all_told new ≡ all_told old → resolver_wanted new ≡ resolver_wanted old
wanted_stays old new same = sym (text_told new) ∙ ap (λ (parts : List PartContent). some_text (resolver_text parts)) same ∙ text_told old

-- ---- one of them in its place

abbrev six_of : Iface → PartContent
six_of iface = told6 iface.managed (dhcp6.held_of iface.dhcp6)

pub two_a_place : (ifaces : List Iface) (parts : List Part) (place : ℕ) → parts_content parts ≡ all_told ifaces → place < length ifaces
    → 2 * place + 1 < length parts
two_a_place ifaces parts place tells lt =
    let long : length (parts_content parts) ≡ 2 * length ifaces = ap length tells ∙ length_two told4 six_of ifaces in
    let same : length (parts_content parts) ≡ length parts = length-map parts part_content in
    omega arith

pub told_more : (ifaces : List Iface) (parts : List PartContent) (place : ℕ) (new : Iface) → parts ≡ all_told ifaces
    → told_with place new parts ≡ all_told (set ifaces place new)
told_more ifaces parts place new tells =
    ap (told_with place new) tells ∙ put_two told4 six_of ifaces place new

pub told_same : (ifaces : List Iface) (parts : List PartContent) (place : ℕ) (new d : Iface) → parts ≡ all_told ifaces
    → told_parts new ≡ told_parts (get_or ifaces place d)
    → told_with place new parts ≡ parts
told_same ifaces parts place new d tells same =
    told_more ifaces parts place new tells ∙ same_two told4 six_of ifaces place new d same ∙ sym tells

-- ---- whether something else is told

-- one in its place
compares_one : {P : Type 0} (r : Resolver) (parts : List P) (j : ℕ) (new d : P) → j < length parts → Compares r (get_or parts j d) new
    → Compares r parts (set parts j new)
compares_one Same parts j new d lt here = ap (set parts j) here ∙ set-get_or parts j d
compares_one Other parts j new d lt here = λ same. here (sym (get_or-set_same parts j new d lt) ∙ ap (λ (ps : List _). get_or ps j d) same)

-- two in their places
pub compares_two : {P : Type 0} (first last : Resolver) (parts : List P) (j : ℕ) (four six d e : P) → suc j < length parts
    → Compares first (get_or parts j d) four
    → Compares last (get_or (set parts j four) (suc j) e) six → Compares (either first last) parts (set (set parts j four) (suc j) six)
compares_two Same last parts j four six d e lt here there =
    let kept : set parts j four ≡ parts = ap (set parts j) here ∙ set-get_or parts j d in
    subst (λ (ps : List _). Compares last parts (set ps (suc j) six)) (sym kept)
    (compares_one last parts (suc j) six e lt (subst (λ (ps : List _). Compares last (get_or ps (suc j) e) six) kept there))
compares_two Other last parts j four six d e lt here there =
    λ same.
    here (sym (get_or-set_same parts j four d (omega arith)) ∙ sym (get_or-set_other (set parts j four) (suc j) j six d (omega arith))
    ∙ ap (λ (ps : List _). get_or ps j d) same)

-- ---- parts in memory

pub parts_put : (parts : List Part) (j k : ℕ) (one other : Part) (four six : PartContent) → part_content one ≡ four → part_content other ≡ six
    → parts_content (set (set parts j one) k other) ≡ set (set (parts_content parts) j four) k six
parts_put parts j k one other four six first last =
    map-set part_content (set parts j one) k other
    ∙ (λ i. set (map-set part_content parts j one i) k (last i))
    ∙ ap (λ (x : PartContent). set (set (parts_content parts) j x) k six) first

pub compares_put : (first last whole : Resolver) (parts : List Part) (j : ℕ) (one other d e : Part) (four six : PartContent) → j + 1 < length parts
    → whole ≡ either first last
    → part_content one ≡ four → part_content other ≡ six → Compares first (part_content (get_or parts j d)) four
    → Compares last (part_content (get_or (set parts j one) (j + 1) e)) six
    → Compares whole (parts_content parts) (parts_content (set (set parts j one) (j + 1) other))
compares_put first last whole parts j one other d e four six lt is at_first at_last here there =
    let contents : List PartContent = parts_content parts in
    let long : length contents ≡ length parts = length-map parts part_content in
    let place : length (set parts j one) ≡ length parts = length-set parts j one in
    let put : parts_content (set parts j one) ≡ set contents j four = map-set part_content parts j one ∙ ap (set contents j) at_first in
    let now : Compares first (get_or contents j (part_content d)) four =
    subst (λ (x : PartContent). Compares first x four) (sym (map_at part_content parts j d (part_content d) (omega arith))) here in
    let then : Compares last (get_or (set contents j four) (suc j) (part_content e)) six =
    subst (λ (k : ℕ). Compares last (get_or (set contents j four) k (part_content e)) six) (add-one j)
    (subst (λ (ps : List PartContent). Compares last (get_or ps (j + 1) (part_content e)) six) put
    (subst (λ (x : PartContent). Compares last x six) (sym (map_at part_content (set parts j one) (j + 1) e (part_content e) (omega arith))) there)) in
    subst (λ (r : Resolver). Compares r contents (parts_content (set (set parts j one) (j + 1) other))) (sym is)
    (subst (λ (ps : List PartContent). Compares (either first last) contents ps) (sym (parts_put parts j (j + 1) one other four six at_first at_last))
    (subst (λ (k : ℕ). Compares (either first last) contents (set (set contents j four) k six)) (sym (add-one j))
    (compares_two first last contents j four six (part_content d) (part_content e) (omega arith) now then)))

-- ---- a further place

pub compares_more : {X : Type 0} (so_far more : Resolver) (first amid last : X) → Compares so_far first amid → Compares more amid last
    → (last ≡ first → amid ≡ first)
    → Compares (either so_far more) first last
compares_more Same more first amid last same next back = subst (λ (x : _). Compares more x last) same next
compares_more Other more first amid last apart next back = λ same. apart (back same)

pub told_before : (go : Iface → Iface) (ifaces : List Iface) (place : ℕ)
    → all_told (map go (take (place + 1) ifaces) ++ drop (place + 1) ifaces) ≡ all_told ifaces
    → all_told (map go (take place ifaces) ++ drop place ifaces) ≡ all_told ifaces
told_before go ifaces place same =
    same_before told4 six_of go ifaces place (subst (λ (k : ℕ). all_told (map go (take k ifaces) ++ drop k ifaces) ≡ all_told ifaces) (add-one place) same)
