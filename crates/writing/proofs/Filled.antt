-- A list that is filled from its front on: what is done stands before the rest of what there was. Assumes nothing.
use Prim.Native.Nat.{ℕ, ◌+◌, ◌-◌, ◌≤◌}
use mathlib.Core.Path.{◌≡◌, sym, ap, ap₂, ◌∙◌}
use mathlib.Core.List.{List, ◌++◌, append_assoc}
use native.Mathlib.Omega.{arith}
use lib.ListN.{length, take, drop, length-append, length-drop}
use lib.Seq.{take_at, drop_at, drop-drop, length-take-le}

-- a list whose part from a to e was lent and came back as ys
abbrev pub returned : List ℕ → ℕ → ℕ → List ℕ → List ℕ
returned xs a e ys = take a xs ++ (ys ++ drop (e - a) (drop a xs))

-- how long such a part is
pub length_part : (xs : List ℕ) (a e : ℕ) → e ≤ length xs → length (take (e - a) (drop a xs)) ≡ e - a
length_part xs a e h = length-take-le (e - a) (drop a xs) (omega (arith, length-drop a xs))

-- The first a places are done.
module _ (out xs done : List ℕ) (a : ℕ) (filled : xs ≡ done ++ drop a out) (size : length done ≡ a) where
  -- a part lent behind them makes them more
  pub part_filled : (e : ℕ) (ys : List ℕ) → a ≤ e → returned xs a e ys ≡ (done ++ ys) ++ drop e out
  part_filled e ys h =
      let front : take a xs ≡ done = ap (take a) filled ∙ take_at done (drop a out) a size in
      let back : drop a xs ≡ drop a out = ap (drop a) filled ∙ drop_at done (drop a out) a size in
      let end : a + (e - a) ≡ e = omega arith in
      let rest : drop (e - a) (drop a xs) ≡ drop e out =
      ap (drop (e - a)) back ∙ drop-drop (e - a) a out ∙ ap (λ (n : ℕ). drop n out) end in
      ap₂ (λ (ps qs : List ℕ). ps ++ (ys ++ qs)) front rest ∙ sym (append_assoc done ys (drop e out))

  -- the length stays
  pub length_filled : a ≤ length out → length xs ≡ length out
  length_filled h = ap length filled ∙ simp (length-append, length-drop) (omega arith)
