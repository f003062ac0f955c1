-- The names of the files that a life keeps are names of files.
use Rattle.std.proofs.Common.{ℕ, ◌≡◌, Bool, true, false, eqb, ◌&&◌, ◌||◌, List, [], ◌∷◌, ◌++◌, codes, refl, sym, subst, ◌∙◌}
use Rattle.std.specs.Prelude.{if◌then◌else◌, slice_index}
use Rattle.std.specs.Char.{is_ascii_alphanumeric, is_ascii_digit, is_ascii_lowercase, is_ascii_uppercase}
use Rattle.std.specs.List.{list_all}
use Rattle.std.proofs.lemmas.List.Folds.{list_all-append}
use Rattle.net_types.specs.declared.interface.Name.{Name}
use Rattle.net_types.specs.NameText.{FitsName, is_name, is_name_byte, name_text}
use Rattle.world.specs.FileNames.{IsFileName, is_file_byte}
use Rattle.settings.specs.declared.interfaces.Managed.{Managed}
use Rattle.settings.specs.Fitting.{FitsManaged}
use Rattle.turn_model.specs.Loading.{lease4_file, lease6_file}

-- ---- the bytes of an interface's name are bytes of a file's name

other_order : (digit upper lower p q r : Bool) → ((((digit || upper) || lower) || p || q || r) ≡ true) → (lower || upper || digit || p || q || r) ≡ true
other_order digit upper true p q r h = refl
other_order digit true false p q r h = refl
other_order true false false p q r h = refl
other_order false false false p q r h = h

byte_fits : (b : ℕ) → is_name_byte b ≡ true → is_file_byte b ≡ true
byte_fits b h = other_order (is_ascii_digit b) (is_ascii_uppercase b) (is_ascii_lowercase b) (eqb b 46) (eqb b 95) (eqb b 45) h

both : (a b : Bool) → (a && b) ≡ true → (a ≡ true) × (b ≡ true)
both true true h = (refl, refl)
both true false h = cc
both false b h = cc

and_so : (a b : Bool) → a ≡ true → b ≡ true → (a && b) ≡ true
and_so true b e h = h
and_so false b e h = cc

bytes_fit : (text : List ℕ) → list_all is_name_byte text ≡ true → list_all is_file_byte text ≡ true
bytes_fit [] h = refl
bytes_fit (b ∷ text) h =
    let parts = both (is_name_byte b) (list_all is_name_byte text) h in
    and_so (is_file_byte b) (list_all is_file_byte text) (byte_fits b parts.0) (bytes_fit text parts.1)

of_name : (first short all : Bool) → (if first then short && all else false) ≡ true → all ≡ true
of_name true short all h = (both short all h).1
of_name false short all h = cc

name_fits : (text : List ℕ) → is_name text ≡ true → list_all is_file_byte text ≡ true
unfolding is_name
name_fits text h =
    bytes_fit text (of_name (is_ascii_alphanumeric (slice_index text 0)) _ (list_all is_name_byte text) h)

-- with an end of such bytes it is a file's name
with_end : (name : Name) (end : List ℕ) → FitsName name → list_all is_file_byte end ≡ true → IsFileName (name_text name ++ end)
with_end name end fits ends =
    list_all-append is_file_byte (name_text name) end
    ∙ and_so (list_all is_file_byte (name_text name)) (list_all is_file_byte end) (name_fits (name_text name) fits.spelled) ends

pub lease4_name_fits : (managed : Managed) (text : List ℕ) → FitsManaged managed → text ≡ lease4_file managed → IsFileName text
lease4_name_fits managed text fits is = subst IsFileName (sym is) (with_end managed.spec.name (codes ".lease4") fits.name refl)

pub lease6_name_fits : (managed : Managed) (text : List ℕ) → FitsManaged managed → text ≡ lease6_file managed → IsFileName text
lease6_name_fits managed text fits is = subst IsFileName (sym is) (with_end managed.spec.name (codes ".lease6") fits.name refl)
