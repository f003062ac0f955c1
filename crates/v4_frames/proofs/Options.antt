-- The options of a client's message give back its kind, the address asked for and the server.
use Rattle.std.proofs.Common.{◌≡◌, ℕ, List, [], ◌∷◌, ◌++◌, Option, Some, None, refl, ap, ◌∙◌}
use Rattle.std.specs.Prelude.{IfSome, option_and_then}
use Rattle.std.specs.Int.{w32, to_be_bytes}
use Rattle.std.proofs.lemmas.Nat.{from_be_bytes-to_be_bytes_4}
use Rattle.net_types.specs.declared.address.Ip4.{Ip4}
use Rattle.v4_options.specs.OptionArea.{Instance}
use Rattle.v4_options.specs.OptionValue.{pieces, joined}
use Rattle.v4_options.specs.Numbers.{addr_in}
use Rattle.v4_message.specs.Messages.{address_at}
use Rattle.v4_message.specs.Requests.{AskContent, text_option, address_option, asked_for_in, number_of_kind}
use Rattle.v4_message.specs.declared.writing.Kind4.{Kind4}
use Rattle.v4_message.specs.declared.writing.Kind4.TheVariants.{Discover, Request, Decline, Release}
use Rattle.v4_frames.specs.InRange.{FitsIp4}
use Rattle.v4_frames.specs.Spelled.{kind_numbered}

pub kind_back : (kind : Kind4) → kind_numbered (number_of_kind kind) ≡ Some kind
kind_back Discover = refl
kind_back Request = refl
kind_back Decline = refl
kind_back Release = refl

-- options that are none of the three
pub record IsBeside (more : List Instance) : Type 0 where
  pub kind : pieces 53 more ≡ []
  pub asked : pieces 50 more ≡ []
  pub server : pieces 54 more ≡ []

wants_beside : (vendor host list : List ℕ) → IsBeside ((57, 5 ∷ 192 ∷ []) ∷ text_option 60 vendor ++ text_option 12 host ++ (55, list) ∷ [])
wants_beside [] [] list = record { kind = refl; asked = refl; server = refl }
wants_beside [] (h ∷ host) list = record { kind = refl; asked = refl; server = refl }
wants_beside (v ∷ vendor) [] list = record { kind = refl; asked = refl; server = refl }
wants_beside (v ∷ vendor) (h ∷ host) list = record { kind = refl; asked = refl; server = refl }

pub asked_beside : (kind : Kind4) (ask : AskContent) → IsBeside (asked_for_in kind ask)
asked_beside Discover ask = wants_beside ask.vendor ask.host ask.list
asked_beside Request ask = wants_beside ask.vendor ask.host ask.list
asked_beside Decline ask = record { kind = refl; asked = refl; server = refl }
asked_beside Release ask = record { kind = refl; asked = refl; server = refl }

abbrev pub options_with : (kind : ℕ) → (client_id : List ℕ) → (asked server : Option Ip4) → (more : List Instance) → List Instance
options_with kind client_id asked server more = (53, kind ∷ []) ∷ (61, client_id) ∷ (address_option 50 asked ++ address_option 54 server ++ more)

address_back : (a : Ip4) → FitsIp4 a → addr_in (to_be_bytes w32 a.number ++ []) ≡ Some a
address_back a fits = ap (λ (n : ℕ). Some (record { number = n })) (from_be_bytes-to_be_bytes_4 a.number fits)

abbrev first_address : List (List ℕ) → Option Ip4
first_address values = option_and_then addr_in (joined values)

module _ (kind : ℕ) (client_id : List ℕ) (more : List Instance) (beside : IsBeside more) where
  pub one_kind : (asked server : Option Ip4) → pieces 53 (options_with kind client_id asked server more) ≡ (kind ∷ []) ∷ []
  one_kind None None = ap (λ (ps : List (List ℕ)). (kind ∷ []) ∷ ps) beside.kind
  one_kind None (Some s) = ap (λ (ps : List (List ℕ)). (kind ∷ []) ∷ ps) beside.kind
  one_kind (Some a) None = ap (λ (ps : List (List ℕ)). (kind ∷ []) ∷ ps) beside.kind
  one_kind (Some a) (Some s) = ap (λ (ps : List (List ℕ)). (kind ∷ []) ∷ ps) beside.kind

  pub asked_back : (asked server : Option Ip4) → IfSome asked FitsIp4 → address_at 50 (options_with kind client_id asked server more) ≡ asked
  asked_back None None fits = ap first_address beside.asked
  asked_back None (Some s) fits = ap first_address beside.asked
  asked_back (Some a) None fits = ap (λ (ps : List (List ℕ)). first_address (to_be_bytes w32 a.number ∷ ps)) beside.asked ∙ address_back a fits
  asked_back (Some a) (Some s) fits = ap (λ (ps : List (List ℕ)). first_address (to_be_bytes w32 a.number ∷ ps)) beside.asked ∙ address_back a fits

  pub server_back : (asked server : Option Ip4) → IfSome server FitsIp4 → address_at 54 (options_with kind client_id asked server more) ≡ server
  server_back None None fits = ap first_address beside.server
  server_back (Some a) None fits = ap first_address beside.server
  server_back None (Some s) fits = ap (λ (ps : List (List ℕ)). first_address (to_be_bytes w32 s.number ∷ ps)) beside.server ∙ address_back s fits
  server_back (Some a) (Some s) fits = ap (λ (ps : List (List ℕ)). first_address (to_be_bytes w32 s.number ∷ ps)) beside.server ∙ address_back s fits
