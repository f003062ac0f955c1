-- The bytes by which the lines and words of a configuration are told apart.
use Rattle.std.specs.Prelude.{ℕ, Bool, not, ◌||◌, ◌==◌, List, [], ◌∷◌, if◌then◌else◌}

abbrev pub tab : ℕ
tab = 9

abbrev pub line_feed : ℕ
line_feed = 10

abbrev pub carriage_return : ℕ
carriage_return = 13

abbrev pub blank : ℕ
blank = 32

abbrev pub quote : ℕ
quote = 34

abbrev pub number_sign : ℕ
number_sign = 35

abbrev pub semicolon : ℕ
semicolon = 59

-- blanks and tabs part words
abbrev pub parts_words : ℕ → Bool
parts_words byte = byte == blank || byte == tab

abbrev pub is_of_word : ℕ → Bool
is_of_word byte = not (parts_words byte)

abbrev pub begins_comment : ℕ → Bool
begins_comment byte = byte == number_sign || byte == semicolon

-- the bytes in front that pass the test, and what stands after them
abbrev pub front_of : (ℕ → Bool) → List ℕ → List ℕ
front_of test [] = []
front_of test (byte ∷ bytes) = if test byte then byte ∷ front_of test bytes else []

abbrev pub past : (ℕ → Bool) → List ℕ → List ℕ
past test [] = []
past test (byte ∷ bytes) = if test byte then past test bytes else byte ∷ bytes
