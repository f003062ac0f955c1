-- A client's message is read back as that message.
use Rattle.std.proofs.Common.{◌≡◌, ℕ, suc, ◌<◌, ◌^◌, Bool, true, false, List, [], map, Option, Some, None, refl, sym, ap, ◌∙◌, arith, ltb}
use Rattle.std.specs.Prelude.{bytes_eq, unwrap_or, is_some, if◌then◌else◌}
use Rattle.std.specs.Option.{option_map, option_and_then}
use Rattle.std.specs.List.{filter_map}
use Rattle.std.proofs.lemmas.Nat.{from_be_bytes-to_be_bytes_2}
use Rattle.std.proofs.lemmas.Slice.Eq.{bytes_eq-Decides}
use Rattle.v6_options.specs.OptionArea.{Instance, word_in, instances_in}
use Rattle.v6_options.specs.OptionWalk.{first_of}
use Rattle.v6_options.specs.OptionGrammar.{word_text}
use Rattle.v6_options.specs.Ias.{ia_by}
use Rattle.v6_message.specs.declared.kind.Kind6.{Kind6}
use Rattle.v6_message.specs.declared.kind.Kind6.TheVariants.{Solicit, Request, Renew, Rebind, Release, Decline}
use Rattle.v6_message.specs.declared.reading.Bad6.TheVariants.{OtherType}
use Rattle.v6_message.specs.Kinds.{number_of_kind, kind_by, server_kind_by}
use Rattle.v6_message.specs.Replies.{xid_in, options_area, fault_of, refusal_of}
use Rattle.v6_message.specs.Requests.{SaidContent, said_options, message6_text}
use Rattle.v6_message.specs.ReadBack.{FitsSaid, asked_in, said_with, seems, if_spelled, said6_in}
use Rattle.v6_message.proofs.SpelledOptions.{texts_found, texts_whole, said_spelled}
use Rattle.v6_message.proofs.ReadFields.{server_back, elapsed_back, rapid_back, ias_among, ias_back}

kind_back : (kind : Kind6) → kind_by (number_of_kind kind) ≡ Some kind
kind_back Solicit = refl
kind_back Request = refl
kind_back Renew = refl
kind_back Rebind = refl
kind_back Release = refl
kind_back Decline = refl

no_server : (kind : Kind6) → server_kind_by (number_of_kind kind) ≡ None
no_server Solicit = refl
no_server Request = refl
no_server Renew = refl
no_server Rebind = refl
no_server Release = refl
no_server Decline = refl

-- the highest of four bytes is 0
low_bytes : (xid : ℕ) → xid < 2 ^ 24
    → xid_in (message6_text (record { kind = Solicit; xid = xid; client = []; server = None; elapsed = 0; rapid = false; ias = [] })) ≡ xid
low_bytes xid h = omega arith

xid_back : (said : SaidContent) → said.xid < 2 ^ 24 → xid_in (message6_text said) ≡ said.xid
xid_back said h = low_bytes said.xid h

seems_said : (said : SaidContent) → FitsSaid said → seems (message6_text said) ≡ Some said
unfolding seems
seems_said said fits =
    let message = message6_text said in
    let found : instances_in (options_area message) ≡ said_options said = texts_found (said_options said) (said_spelled said fits) in
    let elapsed : List ℕ = word_text said.elapsed in
    let server : first_of 2 (instances_in (options_area message)) ≡ said.server =
    ap (first_of 2) found ∙ server_back said.client elapsed said.ias said.kind said.server said.rapid in
    let client : unwrap_or (first_of 1 (instances_in (options_area message))) [] ≡ said.client =
    ap (λ (is : List Instance). unwrap_or (first_of 1 is) []) found in
    let time : word_in 0 (unwrap_or (first_of 8 (instances_in (options_area message))) []) ≡ said.elapsed =
    ap (λ (is : List Instance). word_in 0 (unwrap_or (first_of 8 is) [])) found
    ∙ ap (λ (o : Option (List ℕ)). word_in 0 (unwrap_or o [])) (elapsed_back said.client elapsed said.ias said.kind said.server said.rapid)
    ∙ from_be_bytes-to_be_bytes_2 said.elapsed fits.elapsed in
    let rapid : is_some (first_of 14 (instances_in (options_area message))) ≡ said.rapid =
    ap (λ (is : List Instance). is_some (first_of 14 is)) found ∙ rapid_back said.client elapsed said.ias said.kind said.server said.rapid in
    let ias : map asked_in (filter_map ia_by (instances_in (options_area message))) ≡ said.ias =
    ap (λ (is : List Instance). map asked_in (filter_map ia_by is)) found
    ∙ ap (map asked_in) (ias_among said.client elapsed said.ias said.kind said.server said.rapid)
    ∙ ias_back said.ias fits.ias in
    let same : said_with message (instances_in (options_area message)) said.kind ≡ said =
    λ i. record {
      kind = said.kind;
      xid = xid_back said fits.xid i;
      client = client i;
      server = server i;
      elapsed = time i;
      rapid = rapid i;
      ias = ias i;
    } in
    ap (option_map (said_with message (instances_in (options_area message)))) (kind_back said.kind) ∙ ap (λ (s : SaidContent). Some s) same

pub is_read : (said : SaidContent) → FitsSaid said → said6_in (message6_text said) ≡ Some said
unfolding said6_in
is_read said fits =
    let same : bytes_eq (message6_text said) (message6_text said) ≡ true = (bytes_eq-Decides (message6_text said) (message6_text said)).1 refl in
    ap (option_and_then (if_spelled (message6_text said))) (seems_said said fits) ∙ ap (λ (b : Bool). if b then Some said else None) same

some_is : (a b : SaidContent) → Some a ≡ Some b → a ≡ b
some_is a b e = cc

pub is_one : (a b : SaidContent) → FitsSaid a → FitsSaid b → message6_text a ≡ message6_text b → a ≡ b
is_one a b a_fits b_fits same = some_is a b (sym (is_read a a_fits) ∙ ap said6_in same ∙ is_read b b_fits)

only_if : (message : List ℕ) (seen : Option SaidContent) (said : SaidContent) → option_and_then (if_spelled message) seen ≡ Some said
    → message ≡ message6_text said
only_if message None said e = absurd cc
only_if message (Some s) said e = by_test (bytes_eq message (message6_text s)) (bytes_eq-Decides message (message6_text s)).0 e
  where
    by_test : (b : Bool) → (b ≡ true → message ≡ message6_text s) → (if b then Some s else None) ≡ Some said → message ≡ message6_text said
    by_test true f e = f refl ∙ ap message6_text (some_is s said e)
    by_test false f e = absurd cc

pub is_only : (message : List ℕ) (said : SaidContent) → said6_in message ≡ Some said → message ≡ message6_text said
unfolding said6_in
is_only message said e = only_if message (seems message) said e

has_header : (n : ℕ) → ltb (suc (suc (suc (suc n)))) 4 ≡ false
has_header n = grind arith

pub is_other : (said : SaidContent) → FitsSaid said → refusal_of (message6_text said) ≡ Some OtherType
is_other said fits =
    rw has_header
    ((λ i. fault_of (texts_whole 4 (said_options said) (said_spelled said fits) i) (no_server said.kind i)))
