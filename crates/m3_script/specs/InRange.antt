-- Values whose numbers are in the ranges of their lines. Each of them has a line, which is read as this value.
use Rattle.std.specs.Prelude.{◌≡◌, ℕ, true, List, Option, Some, None, IfSome, ⊤}
use Rattle.m3_base.specs.declared.command.Command.{Command}
use Rattle.m3_base.specs.declared.event.Event.{Event}
use Rattle.m3_base.specs.declared.event.Made.{Made}
use Rattle.m3_base.specs.declared.order.FileLine.{FileLine}
use Rattle.m3_base.specs.declared.order.GrantLine.{GrantLine}
use Rattle.m3_base.specs.declared.order.Order.{Order}
use Rattle.m3_base.specs.declared.setup_line.SetupLine.{SetupLine}
use Rattle.m3_text.specs.Lines.{is_word}
use Rattle.m3_text.specs.ReadBack.{BytesWithin}
use Rattle.m3_base.specs.Limits.{Within}

abbrev pub ActInRange : ℕ → Type 0
ActInRange act = Within 0 63 act

abbrev pub TileInRange : ℕ → Type 0
TileInRange tile = Within 0 15 tile

abbrev pub EpInRange : ℕ → Type 0
EpInRange ep = Within 0 15 ep

abbrev pub IdInRange : ℕ → Type 0
IdInRange g = Within 1 4096 g

-- a token, an offset, a place or a logic
abbrev pub WordInRange : ℕ → Type 0
WordInRange n = Within 0 4294967295 n

abbrev pub CommandInRange : Command → Type 0
CommandInRange (Command.Send ep payload reply) = EpInRange ep × BytesWithin 8192 payload × IfSome reply EpInRange
CommandInRange (Command.Reply ep token payload) = EpInRange ep × WordInRange token × BytesWithin 8192 payload
CommandInRange (Command.Fetch ep) = EpInRange ep
CommandInRange (Command.Acknowledge ep token) = EpInRange ep × WordInRange token
CommandInRange (Command.Read ep off len) = EpInRange ep × WordInRange off × Within 0 65535 len
CommandInRange (Command.Write ep off payload) = EpInRange ep × WordInRange off × BytesWithin 8192 payload

-- the holder and its endpoint
abbrev pub HolderInRange : ℕ → ℕ → Type 0
HolderInRange act ep = ActInRange act × EpInRange ep

abbrev pub ExtentInRange : ℕ → ℕ → Type 0
ExtentInRange at len = WordInRange at × Within 1 4294967295 len

abbrev pub GrantInRange : GrantLine → Type 0
GrantInRange (GrantLine.Recv act ep slots size) = HolderInRange act ep × Within 1 32 slots × Within 1 512 size
GrantInRange (GrantLine.Send act ep of label credits) =
    HolderInRange act ep × IdInRange of × Within 0 18446744073709551615 label × Within 1 32 credits
GrantInRange (GrantLine.Range act ep at len perm) = HolderInRange act ep × ExtentInRange at len
GrantInRange (GrantLine.Part act ep of at len perm) = HolderInRange act ep × IdInRange of × ExtentInRange at len

abbrev pub MachineInRange : ℕ → ℕ → Type 0
MachineInRange tiles memory = Within 3 16 tiles × Within 1 1048576 memory

-- the size of a pipe's chunks and how many its ring has
abbrev pub PipeInRange : ℕ → ℕ → Type 0
PipeInRange chunk ring = Within 1 4096 chunk × Within 1 32 ring

abbrev pub FuelInRange : ℕ → Type 0
FuelInRange fuel = Within 1 16384 fuel

abbrev pub SetupInRange : SetupLine → Type 0
SetupInRange (SetupLine.Act act tile) = ActInRange act × TileInRange tile
SetupInRange (SetupLine.Quantum quantum) = Within 1 64 quantum
SetupInRange (SetupLine.Grant line) = GrantInRange line
SetupInRange (SetupLine.Files g) = IdInRange g
SetupInRange (SetupLine.Item act command) = ActInRange act × CommandInRange command
SetupInRange (SetupLine.AwaitItem act ep) = ActInRange act × EpInRange ep
SetupInRange (SetupLine.Writer act mem send reply chunk ring bytes) =
    ActInRange act × EpInRange mem × EpInRange send × EpInRange reply × PipeInRange chunk ring × BytesWithin 65536 bytes
SetupInRange (SetupLine.Reader act mem recv chunk ring fuel) =
    ActInRange act × EpInRange mem × EpInRange recv × PipeInRange chunk ring × FuelInRange fuel
SetupInRange (SetupLine.Boxed act logic fuel) = ActInRange act × WordInRange logic × FuelInRange fuel

abbrev pub OrderInRange : Order → Type 0
OrderInRange (Order.Switch tile act) = TileInRange tile × ActInRange act
OrderInRange (Order.Grant line) = GrantInRange line
OrderInRange (Order.Revoke g) = IdInRange g

abbrev pub NameInRange : List ℕ → Type 0
NameInRange name = is_word name ≡ true

abbrev pub FileInRange : FileLine → Type 0
FileInRange (FileLine.Create name) = NameInRange name
FileInRange (FileLine.Extend name bytes) = NameInRange name × Within 1 4294967295 bytes
FileInRange (FileLine.Remove name) = NameInRange name
FileInRange (FileLine.Open name off act ep perm) = NameInRange name × WordInRange off × HolderInRange act ep
FileInRange (FileLine.Close g) = IdInRange g

abbrev pub EventInRange : Event → Type 0
EventInRange (Event.Do act command) = ActInRange act × CommandInRange command
EventInRange (Event.Turn act) = ActInRange act
EventInRange (Event.Take to from) = TileInRange to × TileInRange from
EventInRange (Event.Tend act) = ActInRange act
EventInRange Event.Close = ⊤
EventInRange (Event.Order order) = OrderInRange order
EventInRange (Event.File line) = FileInRange line

abbrev pub MoveInRange : Option Made → Type 0
MoveInRange None = ⊤
MoveInRange (Some (Made.Command command)) = CommandInRange command
MoveInRange (Some (Made.Await ep)) = EpInRange ep
MoveInRange (Some Made.Quantum) = ⊤
MoveInRange (Some Made.End) = ⊤
