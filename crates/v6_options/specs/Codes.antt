-- The codes of options (RFC 8415, section 24; RFC 3646, sections 3 and 4).
use Rattle.std.specs.Prelude.{ℕ}

abbrev pub client_identifier : ℕ
client_identifier = 1

abbrev pub server_identifier : ℕ
server_identifier = 2

abbrev pub ia_na : ℕ
ia_na = 3

abbrev pub ia_address : ℕ
ia_address = 5

abbrev pub option_request : ℕ
option_request = 6

abbrev pub preference : ℕ
preference = 7

abbrev pub elapsed_time : ℕ
elapsed_time = 8

abbrev pub status_code : ℕ
status_code = 13

abbrev pub rapid_commit : ℕ
rapid_commit = 14

abbrev pub dns_servers : ℕ
dns_servers = 23

abbrev pub domain_list : ℕ
domain_list = 24

abbrev pub ia_pd : ℕ
ia_pd = 25

abbrev pub ia_prefix : ℕ
ia_prefix = 26

abbrev pub sol_max_rt : ℕ
sol_max_rt = 82
