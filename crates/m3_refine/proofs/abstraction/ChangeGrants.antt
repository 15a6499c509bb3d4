-- The kernel's grants and its next number change, and nothing else: the machine keeps its structure and its places.
use Rattle.std.proofs.Common.{◌≡◌, ℕ, true, List}
use Rattle.m3_base.specs.Ideal.State.{Grant, grant_in, holder}
use Rattle.m3_base.specs.Lists.EachElement.{Each}
use Rattle.m3_merge.proofs.MergedIsRun.{each_map}
use Rattle.m3_model.specs.Config.Site.{Site}
use Rattle.m3_model.specs.Config.KnownActivities.{is_home}
use Rattle.m3_model.specs.Machine.{Machine, link_at}
use Rattle.m3_model.specs.Abstraction.{all_closed, is_in}
use Rattle.m3_model.specs.Invariant.Structure.{CloseWasSent, MachineStructure}
use Rattle.m3_model.specs.Invariant.Parcels.{ParcelOk}
use Rattle.m3_refine.proofs.abstraction.ReplaceEntry.{parcel_kernel}

module _ (h : Site) (m : Machine) (sound : MachineStructure h m) (next : ℕ) (gs : List Grant) where
  abbrev pub regranted : Machine
  regranted = record m { kernel = record m.kernel { next = next; grants = gs } }

  pub regranted_sound : ((g : ℕ) → is_in (all_closed m) g ≡ true → CloseWasSent (grant_in gs g)) → Each (λ x. is_home h (holder x.line) ≡ true) gs → MachineStructure h regranted
  regranted_sound shut holders =
      record {
        setup = sound.setup;
        tiles = sound.tiles;
        links = sound.links;
        acts = sound.acts;
        known = sound.known;
        named = sound.named;
        names = sound.names;
        housed = record { seats = sound.housed.seats; tiles = sound.housed.tiles; stays = sound.housed.stays; current = sound.housed.current };
        parcels = λ a b ha hb. each_map (ParcelOk h m.kernel m.tiles a b) (ParcelOk h regranted.kernel m.tiles a b) (parcel_kernel h m.kernel regranted.kernel m.tiles (λ c k. k) a b) (link_at a b m) (sound.parcels a b ha hb);
        seated = record {
          seats = sound.seated.seats;
          filled = sound.seated.filled;
          leaving = sound.seated.leaving;
          departing = sound.seated.departing;
          walks = sound.seated.walks;
          orderly = sound.seated.orderly;
        };
        closed = sound.closed;
        shut = shut;
        holders = holders;
      }
