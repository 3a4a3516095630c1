-- How many bytes answers take: eight for each number. Assumes nothing.
use Rattle.std.specs.Prelude.{ℕ, ◌+◌, List, [], ◌∷◌}
use Rattle.machine.specs.Machine.{Call, change, totals}

-- the answer to a call: its number, and from totals besides the length of L and eight figures of each of eight places
abbrev pub room : Call → ℕ
room (change c) = 8
room totals = 528

-- the answers to a list of calls
unfoldable pub room_of : List Call → ℕ
room_of [] = 0
room_of (c ∷ cs) = room c + room_of cs
