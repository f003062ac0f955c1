-- The texts of networks of IPv4 have dots, those of IPv6 none.
use Rattle.std.proofs.Common.{◌≡◌, ℕ, ◌/◌, ◌%◌, ◌^◌, ◌<◌, Bool, true, false, not, eqb, List, [], ◌∷◌, ◌++◌, decimal, refl, sym, ◌∙◌, ap, arith, append_assoc}
use Rattle.std.specs.Prelude.{◌&&◌, codes}
use Rattle.std.specs.Char.{is_ascii_digit}
use Rattle.std.specs.List.{list_all}
use Rattle.net_types.specs.declared.address.Ip4.{Ip4}
use Rattle.net_types.specs.declared.address.Net4.{Net4}
use Rattle.net_types.specs.declared.address.Net6.{Net6}
use Rattle.net_types.specs.AddressText.{ip4_text, ip6_text, net4_text, net6_text, FitsNet6}
use Rattle.net_types.specs.Marks.{Lacks}
use Rattle.net_types.proofs.Ip6Marks.{is_ip6_byte, ip6_lacks}
use Rattle.net_types.proofs.MarkLaws.{decimal_lacks, lacks-append}

abbrev lacks_dots : List ℕ → Bool
lacks_dots text = list_all (λ b. not (eqb b 46)) text

never : (b : Bool) → (b && false) ≡ false
never true = refl
never false = refl

has_dot : (front back : List ℕ) → lacks_dots (front ++ 46 ∷ back) ≡ false
has_dot [] back = refl
has_dot (b ∷ front) back = ap (λ later. not (eqb b 46) && later) (has_dot front back) ∙ never (not (eqb b 46))

dots_grouped : (a b c d back : List ℕ) → (a ++ codes "." ++ b ++ codes "." ++ c ++ codes "." ++ d) ++ back
    ≡ a ++ 46 ∷ (b ++ (codes "." ++ (c ++ (codes "." ++ (d ++ back)))))
dots_grouped a b c d back = simp append_assoc

ip4_dotted : (ip : Ip4) (back : List ℕ) → lacks_dots (ip4_text ip ++ back) ≡ false
unfolding ip4_text
ip4_dotted ip back =
    let first = decimal (ip.number / 2 ^ 24) in
    let second = decimal (ip.number / 2 ^ 16 % 256) in
    let third = decimal (ip.number / 2 ^ 8 % 256) in
    let last = decimal (ip.number % 256) in
    ap lacks_dots (dots_grouped first second third last back) ∙ has_dot first (second ++ (codes "." ++ (third ++ (codes "." ++ (last ++ back)))))

net6_lacks : (byte : ℕ) (net : Net6) → FitsNet6 net → is_ip6_byte byte ≡ false → Lacks byte (codes "/") → is_ascii_digit byte ≡ false
    → Lacks byte (net6_text net)
unfolding net6_text
net6_lacks byte net fits address slash digit =
    let small : net.len < 2 ^ 64 = let most = fits.prefix in omega arith in
    lacks-append byte (ip6_text net.ip ++ codes "/") (decimal net.len)
    (lacks-append byte (ip6_text net.ip) (codes "/") (ip6_lacks net.ip byte address) slash)
    (decimal_lacks net.len byte small digit)

pub nets_apart : (four : Net4) (six : Net6) → FitsNet6 six → net6_text six ≡ net4_text four → ⊥
unfolding net4_text
nets_apart four six fits same =
    let none : lacks_dots (net6_text six) ≡ true = net6_lacks 46 six fits refl refl refl in
    let some : lacks_dots (net4_text four) ≡ false =
    ap lacks_dots (append_assoc (ip4_text four.ip) (codes "/") (decimal four.len)) ∙ ip4_dotted four.ip (codes "/" ++ decimal four.len) in
    let never : true ≡ false = sym none ∙ ap lacks_dots same ∙ some in
    cc
