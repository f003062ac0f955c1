-- A DUID is read back from its text, and what a text spells is a DUID.
use Rattle.std.proofs.Common.{◌≡◌, ℕ, suc, ◌≤◌, true, false, cond, List, [], ◌∷◌, length, Option, Some, None, refl, sym, ap, ◌∙◌, subst, arith, bytes_eq}
use Rattle.std.proofs.lemmas.Bool.Decides.{nat_tests}
use Rattle.std.proofs.lemmas.Slice.Eq.{bytes_eq-Decides}
use Rattle.net_types.specs.declared.address.Mac.{Mac}
use Rattle.net_types.specs.HexText.{hex_byte_at}
use Rattle.net_types.specs.Marks.{AreBytes}
use Rattle.net_types.proofs.HexLaws.{hex_byte_reads, cons_bytes, no_bytes}
use Rattle.net_types.proofs.ReadsLaws.{passed, mapped, some_same}
use Rattle.v6_options.specs.Duids.{duid_in}
use Rattle.duid_text.specs.DuidTexts.{duid_text, with_byte, pairs_in, if_text_of, duid_spelled, link_layer_duid}
use Rattle.duid_text.specs.Laws.{IsReadBack, SpellsOne, IsOfAddress}

-- ---- which bytes are a DUID

duid_is : (bytes : List ℕ) → 2 ≤ length bytes → length bytes ≤ 130 → duid_in bytes ≡ Some bytes
duid_is bytes least most = grind (arith, nat_tests)

record Given (bytes found : List ℕ) : Type 0 where
  pub same : bytes ≡ found
  pub least : 2 ≤ length found
  pub most : length found ≤ 130

duid_given : (bytes found : List ℕ) → duid_in bytes ≡ Some found → Given bytes found
duid_given bytes found e = grind (arith, nat_tests)

-- ---- a byte in front

-- a byte that was put in front, and the bytes behind it
pub record Front (byte : Option ℕ) (bytes : Option (List ℕ)) (all : List ℕ) : Type 0 where
  pub first : ℕ
  pub others : List ℕ
  pub first_is : byte ≡ Some first
  pub others_are : bytes ≡ Some others
  pub whole : first ∷ others ≡ all

pub front_of : (byte : Option ℕ) (bytes : Option (List ℕ)) (all : List ℕ) → with_byte byte bytes ≡ Some all → Front byte bytes all
front_of None bytes all e = cc
front_of (Some byte) bytes all e =
    let m = mapped (λ bs. byte ∷ bs) bytes all e in
    record { first = byte; others = m.value; first_is = refl; others_are = m.was; whole = m.gives }

-- ---- pairs

pub pairs_whole : (bytes : List ℕ) → AreBytes bytes → pairs_in (duid_text bytes) ≡ Some bytes
pairs_whole [] range = refl
pairs_whole (b ∷ []) range = rw (hex_byte_reads.whole b (range 0)) refl
pairs_whole (b ∷ c ∷ cs) range = rw (hex_byte_reads.whole b (range 0), pairs_whole (c ∷ cs) (λ i. range (suc i))) refl

pub pairs_range : (text bytes : List ℕ) → pairs_in text ≡ Some bytes → AreBytes bytes
pairs_range [] bytes e = subst AreBytes (some_same e) no_bytes
pairs_range (a ∷ []) bytes e = cc
pairs_range (a ∷ b ∷ []) bytes e = cc
pairs_range (a ∷ b ∷ mark ∷ rest) bytes e =
    let front = front_of (hex_byte_at (a ∷ b ∷ [])) (pairs_in rest) bytes e in
    let small = (hex_byte_reads.sound (a ∷ b ∷ []) front.first front.first_is).1 in
    subst AreBytes front.whole (cons_bytes front.first front.others small (pairs_range rest front.others front.others_are))

-- ---- whole texts

pub text_spells : (bytes : List ℕ) → AreBytes bytes → duid_spelled (duid_text bytes) ≡ duid_in bytes
unfolding duid_spelled
text_spells bytes range =
    let same : bytes_eq (duid_text bytes) (duid_text bytes) ≡ true = (bytes_eq-Decides (duid_text bytes) (duid_text bytes)).1 refl in
    rw (pairs_whole bytes range, same) refl

pub record Spelled (text bytes : List ℕ) : Type 0 where
  pub text_is : text ≡ duid_text bytes
  pub range : AreBytes bytes
  pub is_duid : duid_in bytes ≡ Some bytes

if_text : (text pairs bytes : List ℕ) → if_text_of text pairs ≡ Some bytes → (text ≡ duid_text pairs) × (duid_in pairs ≡ Some bytes)
if_text text pairs bytes e =
    elim (bytes_eq text (duid_text pairs)) as
    (λ b. bytes_eq text (duid_text pairs) ≡ b → cond b (duid_in pairs) None ≡ Some bytes → (text ≡ duid_text pairs) × (duid_in pairs ≡ Some bytes)) [
      | true ↦ λ t q. ((bytes_eq-Decides _ _).0 t, q)
      | false ↦ λ t q. let never : ⊥ = cc in absurd never
    ] refl e

pub spelled : (text bytes : List ℕ) → duid_spelled text ≡ Some bytes → Spelled text bytes
unfolding duid_spelled
spelled text bytes e =
    let read = passed (pairs_in text) (if_text_of text) bytes e in
    let told = if_text text read.value bytes read.gives in
    let same : read.value ≡ bytes = (duid_given read.value bytes told.1).same in
    record {
      text_is = told.0 ∙ ap duid_text same;
      range = subst AreBytes same (pairs_range text read.value read.was);
      is_duid = ap duid_in (sym same) ∙ told.1;
    }

pub read_back : (bytes : List ℕ) → IsReadBack bytes
read_back bytes is = text_spells bytes is.range ∙ duid_is bytes is.least is.most

pub spells_one : (text bytes : List ℕ) → SpellsOne text bytes
spells_one text bytes e =
    let s = spelled text bytes e in
    let given = duid_given bytes bytes s.is_duid in
    (s.text_is, record { least = given.least; most = given.most; range = s.range })

-- ---- the DUID of a hardware address

pub link_layer_is_duid : (mac : Mac) → IsOfAddress mac
link_layer_is_duid mac fits =
    let six : length mac.bytes ≡ 6 = fits.six in
    duid_is (link_layer_duid mac) (omega arith) (omega arith)
