-- The kernel that a setup opens, and what its making takes from the table of the opening's contexts.
use Rattle.std.specs.Prelude.{◌≡◌, ℕ, Bool, true, false, List, [], ◌∷◌, ◌++◌, length, replicate, slice_index_or, slice_set, Option, Some, None, is_some, ◌&&◌, if◌then◌else◌}
use Rattle.std.specs.List.{list_any}
use Rattle.m3_base.specs.Ideal.Context.{Context}
use Rattle.m3_base.specs.Ideal.Opening.{opening}
use Rattle.m3_base.specs.Ideal.State.{Grant}
use Rattle.m3_base.specs.Setup.Rules.{SetupValue, IsValid}
use Rattle.m3_model.specs.Config.Site.{has_program, tile_of}
use Rattle.m3_model.specs.ContextTable.{HasContexts}
use Rattle.m3_model.specs.Kernel.State.{ActivityEntry, Kernel}
use Rattle.m3_model.specs.Kernel.Step.{entry_of, is_placed_entry, join_ready}
use Rattle.m3_model.specs.SetupOpening.{opened_by_setup, opened_site}
use Rattle.m3_kernel.specs.ActivityView.{new_seat}
use Rattle.m3_kernel.specs.LookupTables.{is_there_at}
use Rattle.m3_kernel.specs.KernelStateView.{KernelAt}

-- ---- the whole kernel

-- of the machine that the setup opens
abbrev pub opened_kernel : SetupValue → Kernel
opened_kernel s = (opened_by_setup s).kernel

-- the setup keeps all rules, and the table has just the contexts of its opening
pub record CanOpen (s : SetupValue) (table : List (Option Context)) : Type 0 where
  pub valid : IsValid s
  pub contexts : HasContexts table (opening s.memory s.lines).contexts

-- what the table has of an activity after its context went to the kernel, where the activity rests
abbrev pub left_for : Option ActivityEntry → Option Context → Option Context
left_for None c = c
left_for (Some x) c = if is_placed_entry x.seating then c else None

-- the contexts of the activities that rest were taken out of the table, and no other
pub record AreLeft (k : Kernel) (old new : List (Option Context)) : Type 0 where
  pub count : length new ≡ 64
  pub same : (a : ℕ) → slice_index_or new a None ≡ left_for (entry_of a k) (slice_index_or old a None)

-- the kernel that the setup opens, made with the contexts of the table
pub record IsOpened (s : SetupValue) (old new : List (Option Context)) (k : KernelAt) : Type 0 where
  pub site : k.site ≡ opened_site s
  pub kernel : k.kernel ≡ opened_kernel s
  pub left : AreLeft k.kernel old new

-- ---- one seat after the other

-- a kernel of these grants, before its activities have seats
abbrev pub new_kernel : List Grant → Kernel
new_kernel grants = record { seats = []; next = 1; grants = grants; ready = replicate 16 []; yielded = replicate 16 false }

-- one that rests and has a program is ready
abbrev pub with_new_seat : ℕ → Option Context → KernelAt → KernelAt
with_new_seat a c k =
    record k {
      kernel = join_ready (is_some c && has_program k.site a) (tile_of k.site a) a (record k.kernel { seats = k.kernel.seats ++ new_seat a c ∷ [] });
    }

-- somebody is at the tile or comes to it
abbrev pub is_taken : KernelAt → ℕ → Bool
is_taken k t = list_any (is_there_at k.site t) k.kernel.seats

-- without a context the activity is the first that is there
abbrev pub HasPlaceFor : KernelAt → ℕ → Option Context → Type 0
HasPlaceFor k a None = is_taken k (tile_of k.site a) ≡ false
HasPlaceFor k a (Some c) = Unit {0}

-- the kernel gets the context of one that rests
abbrev pub resting_with : Bool → Option Context → Option Context
resting_with true c = c
resting_with false c = None

abbrev pub left_where : Bool → ℕ → List (Option Context) → List (Option Context)
left_where true a table = slice_set table a None
left_where false a table = table
