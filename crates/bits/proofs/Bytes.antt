-- The bytes of a number: how many they are, and how they are pasted into a list, byte before byte. Assumes nothing.
use Prim.Native.Nat.{ℕ, zero, suc, ◌+◌, ◌*◌, ◌/◌, ◌^◌, ◌≤◌}
use mathlib.Core.Path.{◌≡◌, refl, sym, ◌∙◌, ap}
use mathlib.Core.List.{List, ◌∷◌, ◌++◌}
use native.Mathlib.Nat.{mod-lt}
use native.Mathlib.Omega.{arith}
use lib.ListN.{length, set, take, drop, length-append}
use lib.Pow.{pow_pos}
use lib.Seq.{paste, length-take-le, append_snoc, set-append_left, take-set-lt, take-suc-set}
use Rattle.bits.specs.Fields.{AreBytes, bytes}

-- there are as many bytes as asked for
pub length-bytes : (n k : ℕ) → length (bytes n k) ≡ k
unfolding bytes
length-bytes n zero = refl
length-bytes n (suc k) = ap suc (length-bytes n k)

-- and they are bytes
pub bytes_small : (n k : ℕ) → AreBytes (bytes n k)
unfolding bytes
bytes_small n zero i = pow_pos 8
bytes_small n (suc k) zero = mod-lt (n / 2 ^ (8 * k)) (pow_pos 8)
bytes_small n (suc k) (suc i) = bytes_small n k i

-- Bytes pasted into a list.

-- one more in front of them
pub paste_cons : (l s : List ℕ) (at n x : ℕ) → suc at ≤ length l → set (paste l (suc at) s n) at x ≡ paste l at (x ∷ s) (suc n)
paste_cons l s at n x h =
    let k : length (take (suc at) l) ≡ suc at = length-take-le (suc at) l h in
    let rest = drop (suc at + n) l in
    let e : suc at + n ≡ at + suc n = omega arith in
    set-append_left (take (suc at) l ++ take n s) rest at x (omega (arith, length-append (take (suc at) l) (take n s)))
    ∙ ap (λ (ys : List ℕ). ys ++ rest)
    (set-append_left (take (suc at) l) (take n s) at x (omega arith)
    ∙ ap (λ (ys : List ℕ). ys ++ take n s) (sym (take-set-lt (suc at) l at x (omega arith)) ∙ take-suc-set l at x h)
    ∙ append_snoc (take at l) x (take n s))
    ∙ ap (λ (i : ℕ). take at l ++ (x ∷ take n s) ++ drop i l) e
