-- The numbers of refusal (01, "Numbers of refusal", and those that the later requests add).
-- Assumes nothing.
use Rattle.std.specs.Prelude.{ℕ}
use Rattle.spec_refusals.specs.declared.Fault.{Fault}
use Rattle.spec_refusals.specs.declared.Refusal as told
use Rattle.spec_refusals.specs.declared.Fault.TheVariants.{SheetLength, SheetLine, SheetNumber, SignalName, Formula, Undeclared, Interval, Nesting, SheetSize, ReadingsLength, ReadingsLine, UnknownName, Tick, Value, TableLength, TableMark, Asked, Records, TextLengths, Room, SpanEnd, DumpLine, Clash, CaptionLine, ListedTable}

-- The number of each kind of fault.
abbrev pub fault_number : Fault → ℕ
fault_number SheetLength = 1
fault_number SheetLine = 2
fault_number SheetNumber = 3
fault_number SignalName = 4
fault_number Formula = 5
fault_number Undeclared = 6
fault_number Interval = 7
fault_number Nesting = 8
fault_number SheetSize = 9
fault_number ReadingsLength = 10
fault_number ReadingsLine = 11
fault_number UnknownName = 12
fault_number Tick = 13
fault_number Value = 14
fault_number TableLength = 15
fault_number TableMark = 16
fault_number Asked = 17
fault_number Records = 18
fault_number TextLengths = 19
fault_number Room = 20
fault_number SpanEnd = 21
fault_number DumpLine = 22
fault_number Clash = 23
fault_number CaptionLine = 24
fault_number ListedTable = 29

-- A refusal that tells a kind of fault.
abbrev pub Refusal : Type 0
Refusal = told.Refusal Fault
