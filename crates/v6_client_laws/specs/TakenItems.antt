-- What becomes of the items of an IA when a Reply's are taken one after another (RFC 8415, section 18.2.10.1).
use Rattle.std.specs.Prelude.{◌≡◌, ◌≢◌, ℕ, ◌+◌, ◌*◌, ◌<◌, ◌≤◌, List, [], ◌∷◌, ◌++◌, length, Option, Some, None}
use Rattle.std.specs.List.{AllByRecursion, Contains}
use Rattle.net_types.specs.declared.address.Net6.{Net6}
use Rattle.v6_options.specs.declared.ia.ItemSaid.{ItemSaid}
use Rattle.lease6_text.specs.declared.lease.Item6.{Item6}
use Rattle.v6_client_laws.specs.GivenItems.{most_items}

-- a lifetime of so many seconds never ends (section 7.7)
abbrev pub endless : ℕ
endless = 4294967295

-- milliseconds
abbrev pub second : ℕ
second = 1000

-- when a lifetime that begins at `at` is over
abbrev pub EndsAfter : (at seconds : ℕ) → (moment : Option ℕ) → Type 0
EndsAfter at seconds None = seconds ≡ endless
EndsAfter at seconds (Some moment) = (seconds ≢ endless) × (moment ≡ at + second * seconds)

pub record IsFrom (at : ℕ) (said : ItemSaid) (item : Item6) : Type 0 where
  pub net : item.net ≡ said.net
  pub preferred : EndsAfter at said.preferred item.preferred
  pub valid : EndsAfter at said.valid item.valid

abbrev pub HasNone : Net6 → List Item6 → Type 0
HasNone net items = AllByRecursion (λ item. item.net ≢ net) items

-- the first item of a net, and what is beside it
pub record HasItem (net : Net6) (items before after : List Item6) : Type 0 where
  pub item : Item6
  pub is : item.net ≡ net
  pub cut : items ≡ before ++ item ∷ after
  pub first : HasNone net before

-- From the items that there were to those that are held; `set` are those of the Reply that were held in between. One
-- with a valid lifetime of 0 goes; one that is there gets the new lifetimes; another one comes last, where there are
-- fewer than four.
pub data Takes (at : ℕ) : List Item6 → List ItemSaid → List Item6 → List ItemSaid → Type 0 where
  ends : (had : List Item6) → Takes at had [] had []
  goes : (had before after held : List Item6) (said : ItemSaid) (saids set : List ItemSaid) → said.valid ≡ 0
      → HasItem said.net had before after → Takes at (before ++ after) saids held set
      → Takes at had (said ∷ saids) held set
  is_gone : (had held : List Item6) (said : ItemSaid) (saids set : List ItemSaid) → said.valid ≡ 0
      → HasNone said.net had
      → Takes at had saids held set → Takes at had (said ∷ saids) held set
  lasts : (had before after held : List Item6) (said : ItemSaid) (item : Item6) (saids set : List ItemSaid)
      → said.valid ≢ 0
      → HasItem said.net had before after → IsFrom at said item → Takes at (before ++ item ∷ after) saids held set
      → Takes at had (said ∷ saids) held (said ∷ set)
  comes : (had held : List Item6) (said : ItemSaid) (item : Item6) (saids set : List ItemSaid) → said.valid ≢ 0
      → HasNone said.net had → length had < most_items → IsFrom at said item
      → Takes at (had ++ item ∷ []) saids held set
      → Takes at had (said ∷ saids) held (said ∷ set)
  finds_no_room : (had held : List Item6) (said : ItemSaid) (saids set : List ItemSaid) → said.valid ≢ 0
      → HasNone said.net had → most_items ≤ length had → Takes at had saids held set
      → Takes at had (said ∷ saids) held set

-- a preferred lifetime of some of these
pub record IsPreferredFor (saids : List ItemSaid) (seconds : ℕ) : Type 0 where
  pub said : ItemSaid
  pub among : Contains saids said
  pub is : said.preferred ≡ seconds
