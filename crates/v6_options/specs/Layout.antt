-- How many bytes the fixed fields of options take (RFC 8415, sections 21.1, 21.4, 21.6, 21.13, 21.21 and 21.22).
use Rattle.std.specs.Prelude.{ℕ}

abbrev pub header_len : ℕ
header_len = 4

abbrev pub ia_fields_len : ℕ
ia_fields_len = 12

abbrev pub address_fields_len : ℕ
address_fields_len = 24

abbrev pub prefix_fields_len : ℕ
prefix_fields_len = 25

abbrev pub status_fields_len : ℕ
status_fields_len = 2

-- the bits of an address, which a prefix has at most
abbrev pub address_bits : ℕ
address_bits = 128
