-- The bytes of a server's message are read as that message.
use Rattle.std.proofs.Common.{◌≡◌, ℕ, suc, ◌<◌, ◌^◌, false, List, [], map, Option, Some, None, refl, ap, ◌∙◌, arith, ltb}
use Rattle.std.specs.Prelude.{unwrap_or, is_some}
use Rattle.std.specs.Option.{option_map, option_and_then}
use Rattle.std.specs.List.{filter_map}
use Rattle.v6_options.specs.OptionArea.{Instance, instances_in}
use Rattle.v6_options.specs.OptionWalk.{first_of}
use Rattle.v6_options.specs.Statuses.{status_by, status_in}
use Rattle.v6_options.specs.Ias.{ia_by, ias_in}
use Rattle.v6_message.specs.declared.kind.ServerKind6.{ServerKind6}
use Rattle.v6_message.specs.declared.kind.ServerKind6.TheVariants.{Advertise, Reply}
use Rattle.v6_message.specs.declared.reading.Bad6.{Bad6}
use Rattle.v6_message.specs.Kinds.{server_kind_by}
use Rattle.v6_message.specs.Replies.{xid_in, options_area, fault_of, refusal_of, preference_by, seconds_by, Content6, content_of, if_accepted, message6_in}
use Rattle.v6_message.specs.Requests.{options_text}
use Rattle.v6_message.proofs.SpelledOptions.{texts_found, texts_whole}
use Rattle.server_data6.specs.Spoken.{Reply6}
use Rattle.server_data6.specs.ReplyTexts.{type_of, servers_text, reply6_options, reply6_text}
use Rattle.server_data6.specs.ReadBack.{status_number, ia_given, reply6_content, FitsReply6}
use Rattle.server_data6.proofs.Spelled.{reply6_spelled}
use Rattle.server_data6.proofs.ItemsRead.{status_back, ias_back}
use Rattle.server_data6.proofs.FieldsRead.{or_nothing, field_of, preference_back, rapid_back, servers_back, seconds_back, ias_among}

kind_back : (kind : ServerKind6) → server_kind_by (type_of kind) ≡ Some kind
kind_back Advertise = refl
kind_back Reply = refl

-- the highest of four bytes is 0
low_bytes : (xid : ℕ) → xid < 2 ^ 24 → xid_in (reply6_text (record {
  kind = Reply;
  xid = xid;
  client = None;
  server = None;
  status = None;
  preference = None;
  rapid = false;
  ias = [];
  dns = [];
  search = None;
  sol_max = None;
})) ≡ xid
low_bytes xid h = omega arith

xid_back : (reply : Reply6) → reply.xid < 2 ^ 24 → xid_in (reply6_text reply) ≡ reply.xid
xid_back reply h = low_bytes reply.xid h

has_header : (n : ℕ) → ltb (suc (suc (suc (suc n)))) 4 ≡ false
has_header n = grind arith

not_refused : (reply : Reply6) → FitsReply6 reply → refusal_of (reply6_text reply) ≡ None
not_refused reply fits =
    rw has_header
    (λ i. fault_of (texts_whole 4 (reply6_options reply) (reply6_spelled reply fits) i) (kind_back reply.kind i))

module _ (reply : Reply6) (fits : FitsReply6 reply) where
  abbrev seen : List Instance
  seen = instances_in (options_area (reply6_text reply))

  found : seen ≡ reply6_options reply
  found = texts_found (reply6_options reply) (reply6_spelled reply fits)

  client : first_of 1 seen ≡ reply.client
  client = ap (first_of 1) found ∙ field_of 1 reply refl refl ∙ or_nothing reply.client

  server : first_of 2 seen ≡ reply.server
  server = ap (first_of 2) found ∙ field_of 2 reply refl refl ∙ or_nothing reply.server

  status : status_in (options_area (reply6_text reply)) ≡ status_number reply.status
  status =
      ap (λ (is : List Instance). status_by (first_of 13 is)) found
      ∙ ap status_by (field_of 13 reply refl refl ∙ or_nothing _) ∙ status_back reply.status fits.status

  preference : preference_by (first_of 7 seen) ≡ unwrap_or reply.preference 0
  preference =
      ap (λ (is : List Instance). preference_by (first_of 7 is)) found
      ∙ ap preference_by (field_of 7 reply refl refl ∙ or_nothing _) ∙ preference_back reply.preference

  rapid : is_some (first_of 14 seen) ≡ reply.rapid
  rapid =
      ap (λ (is : List Instance). is_some (first_of 14 is)) found
      ∙ ap (λ (o : Option (List ℕ)). is_some o) (field_of 14 reply refl refl ∙ or_nothing _) ∙ rapid_back reply.rapid

  sol_max : option_and_then seconds_by (first_of 82 seen) ≡ reply.sol_max
  sol_max =
      ap (λ (is : List Instance). option_and_then seconds_by (first_of 82 is)) found
      ∙ ap (option_and_then seconds_by) (field_of 82 reply refl refl ∙ or_nothing _) ∙ seconds_back reply.sol_max fits.sol_max

  dns : unwrap_or (first_of 23 seen) [] ≡ servers_text reply.dns
  dns =
      ap (λ (is : List Instance). unwrap_or (first_of 23 is) []) found
      ∙ ap (λ (o : Option (List ℕ)). unwrap_or o []) (field_of 23 reply refl refl ∙ or_nothing _) ∙ servers_back reply.dns

  search_list : unwrap_or (first_of 24 seen) [] ≡ unwrap_or reply.search []
  search_list = ap (λ (o : Option (List ℕ)). unwrap_or o []) (ap (first_of 24) found ∙ field_of 24 reply refl refl ∙ or_nothing reply.search)

  content : content_of (reply6_text reply) seen reply.kind ≡ reply6_content reply
  content = λ i. record {
    kind = reply.kind;
    xid = xid_back reply fits.xid i;
    client = client i;
    server = server i;
    status = status i;
    preference = preference i;
    rapid = rapid i;
    sol_max = sol_max i;
    dns = dns i;
    search = search_list i;
    options = options_text (reply6_options reply);
  }

  pub message_read : message6_in (reply6_text reply) ≡ Some (reply6_content reply)
  unfolding message6_in
  message_read =
      ap (λ (bad : Option Bad6). if_accepted bad (option_map (content_of (reply6_text reply) seen) (server_kind_by (type_of reply.kind))))
      (not_refused reply fits)
      ∙ ap (option_map (content_of (reply6_text reply) seen)) (kind_back reply.kind)
      ∙ ap (λ (c : Content6). Some c) content

  pub ias_read : ias_in (options_area (reply6_text reply)) ≡ map ia_given reply.ias
  ias_read = ap (filter_map ia_by) found ∙ ias_among reply ∙ ias_back reply.ias fits.ias
