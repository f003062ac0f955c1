-- The lines of a configuration where they stand, each with what it says there.
use Rattle.std.specs.Prelude.{◌≡◌, ℕ, Bool, true, false, List, [], ◌∷◌, Option, Some, None, option_map, unwrap_or}
use Rattle.net_types.specs.declared.interface.Name.{Name}
use Rattle.conf_words.specs.Directives.{Directive}
use Rattle.conf_directives.specs.declared.names.HeadingName.{HeadingName}
use Rattle.conf_directives.specs.declared.names.HeadingName.TheVariants.{Interface, Profile, Ssid}
use Rattle.conf_directives.specs.declared.names.DirectiveName.{DirectiveName}
use Rattle.conf_directives.specs.declared.names.DirectiveName.TheVariants.{Value}
use Rattle.conf_directives.specs.declared.names.ValueName.TheVariants.{Interfaces, Script}
use Rattle.conf_directives.specs.Names.{heading_at, directive_at}
use Rattle.conf_directives.specs.Contents.{SaidContent, noticed}
use Rattle.conf_directives.specs.Says.{Says, IsOfInterface}
use Rattle.conf_text.specs.Places.{Place, Global, Block, Skipped}

pub record Standing : Type 0 where
  pub number : ℕ
  pub place : Place
  -- the place where the next lines stand, where this one is a heading
  pub begins : Option Place
  -- none where an argument is bad
  pub said : Option SaidContent

abbrev pub standing : Place → Directive → Option Place → Option SaidContent → Standing
standing place line begins said = record { number = line.number; place = place; begins = begins; said = said }

abbrev pub nothing : SaidContent
nothing = record { directive = None; notices = [] }

-- directives that stand in front of all blocks alone
abbrev pub is_global_alone : Option DirectiveName → Bool
is_global_alone (Some (Value (Interfaces list))) = true
is_global_alone (Some (Value Script)) = true
is_global_alone _ = false

abbrev pub SaysInBlock : Bool → Directive → Option SaidContent → Type 0
SaysInBlock true line said = said ≡ Some (noticed line.word)
SaysInBlock false line said = Says line.word line.about said

-- what a line that is no heading says at a place
abbrev pub SaysAt : Place → Directive → Option SaidContent → Type 0
SaysAt Global line said = Says line.word line.about said
SaysAt (Block name) line said = SaysInBlock (is_global_alone (directive_at line.word)) line said
SaysAt Skipped line said = said ≡ Some nothing

abbrev pub of_interface : Place → Directive → Option Name → Standing
of_interface place line name = standing place line (option_map Block name) (option_map (λ _. nothing) name)

abbrev pub StandsUnder : Option HeadingName → Place → Directive → Standing → Type 0
StandsUnder (Some Interface) place line stands =
    (name : Option Name) × IsOfInterface line.about name × (stands ≡ of_interface place line name)
StandsUnder (Some Profile) place line stands = stands ≡ standing place line (Some Skipped) (Some (noticed line.word))
StandsUnder (Some Ssid) place line stands = stands ≡ standing place line (Some Skipped) (Some (noticed line.word))
StandsUnder None place line stands =
    (said : Option SaidContent) × SaysAt place line said × (stands ≡ standing place line None said)

-- a line after lines that leave it at a place
abbrev pub Stands : Place → Directive → Standing → Type 0
Stands place line stands = StandsUnder (heading_at line.word) place line stands

abbrev pub place_after : Standing → Place
place_after stands = unwrap_or stands.begins stands.place

-- where the next line stands, after these
abbrev pub place_from : Place → List Standing → Place
place_from place [] = place
place_from place (stands ∷ others) = place_from (place_after stands) others

abbrev pub place_of : List Standing → Place
place_of front = place_from Global front

-- the first of the lines stand so, and then come the rest
abbrev pub StandFrom : Place → List Directive → List Standing → List Directive → Type 0
StandFrom place lines [] rest = lines ≡ rest
StandFrom place [] (stands ∷ others) rest = ⊥
StandFrom place (line ∷ lines) (stands ∷ others) rest =
    Stands place line stands × StandFrom (place_after stands) lines others rest

abbrev pub Stand : List Directive → List Standing → List Directive → Type 0
Stand lines front rest = StandFrom Global lines front rest
