-- The types of messages, by their numbers (RFC 8415, section 7.3).
use Rattle.std.specs.Prelude.{ℕ, Option, Some, None, ◌==◌, if◌then◌else◌}
use Rattle.v6_message.specs.declared.kind.Kind6.{Kind6}
use Rattle.v6_message.specs.declared.kind.Kind6.TheVariants.{Solicit, Request, Renew, Rebind, Release, Decline}
use Rattle.v6_message.specs.declared.kind.ServerKind6.{ServerKind6}
use Rattle.v6_message.specs.declared.kind.ServerKind6.TheVariants.{Advertise, Reply}

abbrev pub number_of_kind : Kind6 → ℕ
number_of_kind Solicit = 1
number_of_kind Request = 3
number_of_kind Renew = 5
number_of_kind Rebind = 6
number_of_kind Release = 8
number_of_kind Decline = 9

abbrev pub number_of_server_kind : ServerKind6 → ℕ
number_of_server_kind Advertise = 2
number_of_server_kind Reply = 7

abbrev pub server_kind_by : ℕ → Option ServerKind6
server_kind_by n =
    if n == number_of_server_kind Advertise then Some Advertise
    else if n == number_of_server_kind Reply then Some Reply
    else None

abbrev pub kind_by : ℕ → Option Kind6
kind_by n =
    if n == number_of_kind Solicit then Some Solicit
    else if n == number_of_kind Request then Some Request
    else if n == number_of_kind Renew then Some Renew
    else if n == number_of_kind Rebind then Some Rebind
    else if n == number_of_kind Release then Some Release
    else if n == number_of_kind Decline then Some Decline
    else None
