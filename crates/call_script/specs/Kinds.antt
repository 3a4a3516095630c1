-- Which byte begins which kind of call. Assumes nothing.
use Rattle.std.specs.Prelude.{ℕ, ◌≡◌, ◌<◌, Result, Ok, Err}
use Rattle.call_script.specs.declared.kinds.CallKind.{CallKind}
use Rattle.call_script.specs.declared.kinds.CallKind.TheVariants.{Deliver, TakeBack, Close, Totals}
use Rattle.call_script.specs.declared.kinds.UnknownCall.{UnknownCall}

-- 0 delivers, 1 takes back, 2 closes, 3 asks for totals
abbrev pub byte_of : CallKind → ℕ
byte_of Deliver = 0
byte_of TakeBack = 1
byte_of Close = 2
byte_of Totals = 3

-- what a byte is read as: the kind whose byte it is, or no kind, past them all
abbrev pub IsKindOf : ℕ → Result CallKind UnknownCall → Type 0
IsKindOf byte (Ok kind) = byte ≡ byte_of kind
IsKindOf byte (Err unknown) = (3 < byte) × (unknown.0 ≡ byte)
