-- Facts of numbers that the laws of fields rest on: which bits of a number a replaced part changes, and bytes as digits.
-- Assumes nothing.
use mathlib.Core.Path.{◌≡◌, sym, ap, ap₂, ◌∙◌, subst}
use mathlib.Core.List.{List, [], ◌∷◌}
use Prim.Native.Nat.{ℕ, zero, suc, ◌+◌, ◌-◌, ◌*◌, ◌/◌, ◌%◌, ◌^◌, ◌≤◌, ◌<◌}
use native.Mathlib.Nat.{mod-lt, mod-one}
use native.Mathlib.Omega.{arith}
use lib.Arith.{digits_lt}
use lib.ListN.{length}
use lib.Pow.{pow_pos, pow-add, shr-shr, high, low, field as part-of-low, mod-mod-pow, mod-pow-add}
use Rattle.bits.specs.Fields.{AreBytes, number, bytes, replaced}
use Rattle.bits.proofs.Bytes.{length-bytes}

-- A number with a part replaced.

-- the bits above stay
pub replaced-above : (n s w v : ℕ) → v < 2 ^ w → replaced n s w v / 2 ^ (s + w) ≡ n / 2 ^ (s + w)
unfolding replaced
replaced-above n s w v h =
    let top = n / 2 ^ (s + w) in
    sym (shr-shr _ s w) ∙ ap (λ (x : ℕ). x / 2 ^ w) (high (top * 2 ^ w + v) s (mod-lt n (pow_pos s))) ∙ high top w h

-- the part is the value
pub replaced_part : (n s w v : ℕ) → v < 2 ^ w → replaced n s w v / 2 ^ s % 2 ^ w ≡ v
unfolding replaced
replaced_part n s w v h =
    let top = n / 2 ^ (s + w) in
    ap (λ (x : ℕ). x % 2 ^ w) (high (top * 2 ^ w + v) s (mod-lt n (pow_pos s))) ∙ low top w h

-- the bits below stay
pub replaced-below : (n s w v : ℕ) → replaced n s w v % 2 ^ s ≡ n % 2 ^ s
unfolding replaced
replaced-below n s w v = low (n / 2 ^ (s + w) * 2 ^ w + v) s (mod-lt n (pow_pos s))

-- Parts of a number.

-- numbers that agree from bit s on agree from each higher bit on
pub agree_above : (x y s t : ℕ) → s ≤ t → x / 2 ^ s ≡ y / 2 ^ s → x / 2 ^ t ≡ y / 2 ^ t
agree_above x y s t h e =
    subst (λ (u : ℕ). x / 2 ^ u ≡ y / 2 ^ u) (omega arith)
    (sym (shr-shr x s (t - s)) ∙ ap (λ (z : ℕ). z / 2 ^ (t - s)) e ∙ shr-shr y s (t - s))

-- a part below bit s is a part of the number's s lowest bits
below : (x s t w : ℕ) → t + w ≤ s → x % 2 ^ s % 2 ^ (w + t) / 2 ^ t ≡ x / 2 ^ t % 2 ^ w
below x s t w h =
    let e : s ≡ (s - (w + t)) + (w + t) = omega arith in
    ap (λ (u : ℕ). x % 2 ^ u % 2 ^ (w + t) / 2 ^ t) e
    ∙ ap (λ (z : ℕ). z / 2 ^ t) (mod-mod-pow x (s - (w + t)) (w + t)) ∙ part-of-low x w t

-- numbers that agree below bit s agree on each part there
pub agree_below : (x y s t w : ℕ) → t + w ≤ s → x % 2 ^ s ≡ y % 2 ^ s → x / 2 ^ t % 2 ^ w ≡ y / 2 ^ t % 2 ^ w
agree_below x y s t w h e =
    sym (below x s t w h) ∙ ap (λ (z : ℕ). z % 2 ^ (w + t) / 2 ^ t) e ∙ below y s t w h

-- a part of v + w bits is its v upper bits and its w lower ones
pub part_add : (n s v w : ℕ) → n / 2 ^ s % 2 ^ (v + w) ≡ n / 2 ^ (s + w) % 2 ^ v * 2 ^ w + n / 2 ^ s % 2 ^ w
part_add n s v w =
    mod-pow-add (n / 2 ^ s) v w ∙ ap (λ (x : ℕ). x % 2 ^ v * 2 ^ w + n / 2 ^ s % 2 ^ w) (shr-shr n s w)

-- Bytes as digits.

-- the bytes of a number make its lowest bits
pub number-bytes : (n k : ℕ) → number (bytes n k) ≡ n % 2 ^ (8 * k)
unfolding bytes number
number-bytes n zero = sym (mod-one n)
number-bytes n (suc k) =
    ap₂ (λ (l m : ℕ). n / 2 ^ (8 * k) % 2 ^ 8 * 2 ^ (8 * l) + m) (length-bytes n k) (number-bytes n k)
    ∙ sym (mod-pow-add n 8 (8 * k)) ∙ ap (λ (e : ℕ). n % 2 ^ e) (omega arith)

-- a list of bytes makes a number of as many bits
pub number_lt : (bs : List ℕ) → AreBytes bs → number bs < 2 ^ (8 * length bs)
unfolding number
number_lt [] small = pow_pos 0
number_lt (b ∷ bs) small =
    subst (λ (x : ℕ). b * 2 ^ (8 * length bs) + number bs < x)
    (sym (pow-add 2 8 (8 * length bs)) ∙ ap (λ (e : ℕ). 2 ^ e) (omega arith))
    (digits_lt (small 0) (number_lt bs (λ i. small (suc i))))
