-- The kernel's data, as a kernel.
use Rattle.std.specs.Prelude.{◌≡◌, ℕ, List, slice_get, Some}
use Rattle.m3_model.specs.Config.Site.{Site}
use Rattle.m3_model.specs.Kernel.State.{ActivityEntry, Kernel}
use Rattle.m3_kernel.specs.ActivityView.{seats_of, HasRoom}
use Rattle.m3_kernel.specs.LookupTables.{AreTables, IsHeldSet}
use Rattle.m3_kernel.specs.declared.seat.Seat.{Seat as CodeSeat}
use Rattle.m3_kernel.specs.declared.seat.Seating.{Seating as CodeSeating}
use Rattle.m3_kernel.specs.declared.state.State.{State}

-- a kernel and the site that it works at
pub record KernelAt : Type 0 where
  pub site : Site
  pub kernel : Kernel

abbrev pub seats_in : State → List ActivityEntry
seats_in s = seats_of s.seats.items

abbrev pub kernel_in : State → Kernel
kernel_in s =
    record {
      seats = seats_in s;
      next = s.next;
      grants = s.grants.grants;
      ready = s.sched.ready;
      yielded = s.sched.yielded;
    }

abbrev pub at_site : State → KernelAt
at_site s = record { site = s.site; kernel = kernel_in s }

pub record IsKept (s : State) : Type 0 where
  pub tables : AreTables s.site (seats_in s) s.index.items s.berths.items
  pub held : IsHeldSet (seats_in s) s.held
  pub memory : s.grants.memory ≡ s.site.memory

-- where a packet would be held there is room for it
abbrev pub RoomFor : CodeSeating → CodeSeat → Type 0
RoomFor CodeSeating.Placed x = Unit {0}
RoomFor CodeSeating.Leaving x = HasRoom x
RoomFor (CodeSeating.Resting y) x = HasRoom x
RoomFor (CodeSeating.Coming y) x = HasRoom x

abbrev pub CanRoute : State → ℕ → Type 0
CanRoute s at = (x : CodeSeat) → slice_get s.seats.items at ≡ Some x → RoomFor x.seating x
