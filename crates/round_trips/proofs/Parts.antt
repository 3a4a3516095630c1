-- The parts of a file: header, points, and the bytes of its entries. Assumes nothing.
use Prim.Native.Nat.{ℕ, ◌+◌, ◌*◌}
use mathlib.Core.Path.{◌≡◌, sym, ap, ◌∙◌}
use mathlib.Core.List.{List, ◌++◌, append_assoc}
use lib.ListN.{take, drop, take-append-drop}
use lib.Seq.{drop-drop}
use Rattle.journal.specs.Journal.{bytes_at}
use Rattle.opening.specs.Opening.{header}
use Rattle.posting.specs.Posting.{entry_bytes}

-- the bytes behind the header and the points: a journal of the file's entries
abbrev pub rest : List ℕ → List ℕ
rest file = drop (7 + 21 * (header file).points) file

-- the bytes of each entry are at its place there
pub entry_bytes_lem : (i : ℕ) (file : List ℕ) → entry_bytes i file ≡ bytes_at i (rest file)
unfolding entry_bytes bytes_at
entry_bytes_lem i file = ap (take 12) (sym (drop-drop (12 * i) (7 + 21 * (header file).points) file))

-- the file is its parts in a row
pub parts : (n : ℕ) (file : List ℕ) → take 7 file ++ take (21 * n) (drop 7 file) ++ drop (7 + 21 * n) file ≡ file
parts n file =
    append_assoc (take 7 file) (take (21 * n) (drop 7 file)) (drop (7 + 21 * n) file)
    ∙ ap (λ (l : List ℕ). take 7 file ++ (take (21 * n) (drop 7 file) ++ l)) (sym (drop-drop (21 * n) 7 file))
    ∙ ap (λ (l : List ℕ). take 7 file ++ l) (take-append-drop (21 * n) (drop 7 file))
    ∙ take-append-drop 7 file
