-- What a tile is to a reader, when it may issue a command, and what its program hears.
use Rattle.std.specs.Prelude.{◌≡◌, ℕ, ◌<◌, Bool, false, ◌==◌, ◌&&◌, List, [], ◌∷◌, ◌++◌, map, Option, Some, None}
use Rattle.m3_base.specs.declared.command.Command.{Command}
use Rattle.m3_base.specs.declared.packet.Packet.{Packet}
use Rattle.m3_base.specs.Ideal.Acceptance.{fits}
use Rattle.m3_base.specs.Ideal.Context.{Context}
use Rattle.m3_base.specs.Lists.EachElement.{Each}
use Rattle.m3_core.specs.Preconditions.{HasTokenFor}
use Rattle.m3_core.specs.declared.parcel.Heard.{Heard}
use Rattle.m3_engine.specs.StayView.{HearsOf}
use Rattle.m3_engine.specs.declared.tile.TilePart.TheInside.{Inside}
use Rattle.m3_model.specs.Config.KnownActivities.{is_named}
use Rattle.m3_model.specs.Config.Site.{Site}
use Rattle.m3_model.specs.Tile.State.{Resident, Tile}
use Rattle.m3_model.specs.Tile.Step.{resident_of}
use Rattle.m3_model.specs.Machine.{new_stay}

-- a tile and the site that it works at
pub record TileAt : Type 0 where
  pub site : Site
  pub tile : Tile

abbrev pub tile_value : Inside → TileAt
tile_value t = record { site = t.site; tile = record { tile = t.tile; current = t.current; stays = t.stays } }

abbrev pub tiles_of : List TileAt → List Tile
tiles_of ts = map (λ (t : TileAt). t.tile) ts

-- each tile works at this site
abbrev pub AreAtSite : Site → List TileAt → Type 0
AreAtSite h ts = Each (λ (t : TileAt). t.site ≡ h) ts

-- the numbers of the next flight and of the next token are below the largest
abbrev pub CanIssue : Option Context → Command → Type 0
CanIssue None c = Unit {0}
CanIssue (Some x) c = (x.next < 4294967295) × HasTokenFor x c

-- this activity is the current one
abbrev pub runs : ℕ → Option Context → Bool
runs a None = false
runs a (Some x) = x.act == a

-- the packet fits the current context, and names activities of the setup alone
abbrev pub accepts : Site → Packet → Option Context → Bool
accepts h p None = false
accepts h p (Some x) = is_named h p && fits x p

-- the program of the current activity hears this of the packet
abbrev pub TileHears : Packet → Tile → Option Heard → Type 0
TileHears p t heard = (x : Context) (y : Resident) → t.current ≡ Some x → resident_of x.act t ≡ Some y → HearsOf p y heard

abbrev pub first_some : Option Context → Option Context → Option Context
first_some None c = c
first_some (Some x) c = Some x

-- one more activity at home there, which runs where it is the first
abbrev pub seated_with : ℕ → Option Context → Tile → Tile
seated_with a c t = record t { current = first_some t.current c; stays = t.stays ++ new_stay a ∷ [] }
