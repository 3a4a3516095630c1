-- Parts of a slice that code lends: `&s[a..a + n]` to read, and `&mut s[a..a + n]` to copy over. Assumes nothing.
use Prim.Native.Nat.{ℕ, ◌+◌, ◌-◌}
use mathlib.Core.Path.{◌≡◌, sym, ap, ◌∙◌}
use mathlib.Core.List.{List, ◌++◌, append_assoc}
use native.Mathlib.Omega.{arith}
use lib.ListN.{length, take, drop}
use lib.Seq.{paste, take_all, drop-drop}

-- the n elements from a on
pub part : (a n : ℕ) (l : List ℕ) → take (a + n - a) (drop a l) ≡ take n (drop a l)
part a n l =
    let e : a + n - a ≡ n = omega arith in
    ap (λ (k : ℕ). take k (drop a l)) e

-- s, of n elements, copied over the n from a on: ys, which is put back
pub copied : (l s ys : List ℕ) (a n : ℕ) → length s ≡ n → ys ≡ s → take a l ++ (ys ++ drop (a + n - a) (drop a l)) ≡ paste l a s n
copied l s ys a n size e =
    let k : a + n - a ≡ n = omega arith in
    let whole = take_all n s (omega (arith, size)) in
    rw (e, k, drop-drop n a l)
    (sym (append_assoc (take a l) s (drop (a + n) l)) ∙ ap (λ (x : List ℕ). (take a l ++ x) ++ drop (a + n) l) (sym whole))
