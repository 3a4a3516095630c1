-- A list of calls as bytes: 0, a count and as many bytes deliver these bytes; 1 takes back; 2 closes; 3 asks for totals. The list
-- ends at the first thing that is no whole call. Assumes nothing.
use Rattle.std.specs.Prelude.{ℕ, zero, suc, ◌+◌, cond, List, [], ◌∷◌, leb, eqb, length, get_or, take, drop}
use Rattle.machine.specs.Machine.{deliver, take_back, close, Call, change, totals}

-- what stands at a place of the script, 0 past its end
abbrev pub byte_at : List ℕ → ℕ → ℕ
byte_at script at = get_or script at 0

-- how many bytes a whole delivery at a place takes, 0 where the script ends before it
unfoldable pub delivery_size : List ℕ → ℕ → ℕ
delivery_size script at =
    cond (leb (at + 2 + byte_at script (at + 1)) (length script)) (2 + byte_at script (at + 1)) 0

-- how many bytes the whole call at a place takes, 0 where there is none
unfoldable pub size_at : List ℕ → ℕ → ℕ
size_at script at =
    cond (leb (length script) at) 0
    (cond (eqb (byte_at script at) 0) (delivery_size script at)
    (cond (leb (byte_at script at) 3) 1 0))

-- the whole call at a place
unfoldable pub call_at : List ℕ → ℕ → Call
call_at script at =
    cond (eqb (byte_at script at) 0) (change (deliver (take (byte_at script (at + 1)) (drop (at + 2) script))))
    (cond (eqb (byte_at script at) 1) (change take_back)
    (cond (eqb (byte_at script at) 2) (change close) totals))

-- the calls from a place on, at most so many
unfoldable pub calls_from : ℕ → List ℕ → ℕ → List Call
calls_from zero script at = []
calls_from (suc most) script at =
    cond (eqb (size_at script at) 0) [] (call_at script at ∷ calls_from most script (at + size_at script at))

-- all of them: each takes a byte at least
unfoldable pub calls : List ℕ → List Call
calls script = calls_from (length script) script 0
