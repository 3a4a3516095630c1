-- Numbers in decimal, digit by digit. Assumes nothing.
use Prim.Native.Nat.{ℕ, zero, suc, ◌+◌, ◌-◌, ◌*◌, ◌^◌, ◌/◌, ◌%◌, ◌<◌, ◌≤◌}
use mathlib.Core.Path.{◌≡◌, sym, ap, ◌∙◌}
use mathlib.Core.Bool.{Bool, true, false, cond}
use mathlib.Core.List.{List, [], ◌∷◌, ◌++◌}
use native.Mathlib.Nat.{pow-suc}
use native.Mathlib.Omega.{arith}
use borrow.Author.Tests.{lt-ltb, le-ltb}
use lib.Dec.{ltb}
use lib.ListN.{length, set, length-append}
use lib.Seq.{sets}
use Rattle.statement_text.specs.Text.{digit, decimal_of, decimal}
use Rattle.statement_text.proofs.Pages.{last_first}

-- at most so many digits
length-decimal_of : (most n : ℕ) → length (decimal_of most n) ≤ most
unfolding decimal_of
length-decimal_of zero n = omega arith
length-decimal_of (suc most) n = go (ltb n 10) (length-decimal_of most (n / 10))
  where
    go : (t : Bool) → length (decimal_of most (n / 10)) ≤ most
        → length (cond t (digit n ∷ []) (decimal_of most (n / 10) ++ digit (n % 10) ∷ [])) ≤ suc most
    go true h = omega arith
    go false h = omega (arith, length-append (decimal_of most (n / 10)) (digit (n % 10) ∷ []))

-- at most 20 for a number of 64 bits
pub length-decimal : (n : ℕ) → length (decimal n) ≤ 20
unfolding decimal
length-decimal n = length-decimal_of 20 n

-- a number of two digits or more
longer : (most n : ℕ) → 10 ≤ n → decimal_of (suc most) n ≡ decimal_of most (n / 10) ++ digit (n % 10) ∷ []
unfolding decimal_of
longer most n h = rw (le-ltb n 10 h)

-- room for more digits than a number has changes nothing
more_room : (most n : ℕ) → n < 10 * 10 ^ most → decimal_of (suc most) n ≡ decimal_of (suc (suc most)) n
unfolding decimal_of
more_room zero n h = rw (lt-ltb n 10 (omega arith))
more_room (suc most) n h =
    let k : n / 10 < 10 * 10 ^ most = omega (arith, pow-suc 10 most) in
    ap (λ (front : List ℕ). cond (ltb n 10) (digit n ∷ []) (front ++ digit (n % 10) ∷ [])) (more_room most (n / 10) k)

-- a number below ten is its digit
pub one_digit : (n : ℕ) → n < 10 → decimal n ≡ digit n ∷ []
unfolding decimal decimal_of
one_digit n h = rw (lt-ltb n 10 h)

-- any other number of 64 bits is the number without its last digit, and that digit
pub last_digit : (n : ℕ) → 10 ≤ n → n < 2 ^ 64 → decimal n ≡ decimal (n / 10) ++ digit (n % 10) ∷ []
unfolding decimal
last_digit n h k =
    let room : n / 10 < 10 * 10 ^ 18 = omega arith in
    longer 19 n h ∙ ap (λ (front : List ℕ). front ++ digit (n % 10) ∷ []) (more_room 18 (n / 10) room)

-- how many digits each of the two has
pub length_one : (n : ℕ) → n < 10 → length (decimal n) ≡ 1
length_one n h = ap length (one_digit n h)

pub length_last : (n : ℕ) → 10 ≤ n → n < 2 ^ 64 → length (decimal n) ≡ length (decimal (n / 10)) + 1
length_last n h k = ap length (last_digit n h k) ∙ length-append (decimal (n / 10)) (digit (n % 10) ∷ [])

-- the last digit is stored, and then the digits of the number without it: so are those of the number
pub digit-first : (l : List ℕ) (start at n : ℕ) → 10 ≤ n → n < 2 ^ 64 → at ≡ start + length (decimal n)
    → sets (set l (at - 1) (digit (n % 10))) start (decimal (n / 10)) ≡ sets l start (decimal n)
digit-first l start at n h k e =
    let place : at - 1 ≡ start + length (decimal (n / 10)) = omega (arith, length_last n h k) in
    ap (λ (i : ℕ). sets (set l i (digit (n % 10))) start (decimal (n / 10))) place
    ∙ last_first (decimal (n / 10)) l start (digit (n % 10))
    ∙ ap (sets l start) (sym (last_digit n h k))

-- the one digit that is left is stored
pub digit_last : (l : List ℕ) (start n : ℕ) → n < 10 → set l start (digit n) ≡ sets l start (decimal n)
digit_last l start n h = ap (sets l start) (sym (one_digit n h))
