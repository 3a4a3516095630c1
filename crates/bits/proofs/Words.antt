-- What the code's steps on bytes and words are as fields: a byte is a field of 8 bits, a byte that is set is a store of 8 bits,
-- and a field within a word is the word's by a shift and a mask. Assumes nothing.
use mathlib.Core.Path.{◌≡◌, sym, ap, ap₂, ◌∙◌}
use mathlib.Core.List.{List, [], ◌∷◌}
use Prim.Native.Nat.{ℕ, zero, suc, ◌+◌, ◌-◌, ◌*◌, ◌/◌, ◌%◌, ◌^◌, ◌≤◌, ◌<◌}
use native.Mathlib.Decide.{dec_lt}
use native.Mathlib.Nat.{mod-lt, mod-eq_of_lt, div-one}
use native.Mathlib.Omega.{arith}
use lib.Arith.{digits_lt}
use lib.Bits.{bit_and, bit_or, and_mask, or_shifted}
use lib.ListN.{length, get_or, set, length-set}
use lib.Pow.{pow_pos, pow-add, shr-shr, shl_exact, mod-pow-add, high, low}
use lib.Seq.{paste, paste-zero, ext_get_or, get_or-set_same, get_or-set_other}
use Rattle.bits.specs.Fields.{AreBytes, number, bytes, shift, field, stored}
use Rattle.bits.specs.Place.{Covers}
use Rattle.bits.specs.declared.Span.{Span}
use Rattle.bits.proofs.Bytes.{paste_cons}
use Rattle.bits.proofs.Numbers.{agree_below, number_lt}
use Rattle.bits.proofs.Laws.{field_lt, field_add, field_stored, field_before, field-after, length-stored, stored_small, stored-field, stored_add}

-- Bytes.

-- a byte is the field of 8 bits at its place
pub field_byte : (bs : List ℕ) (i : ℕ) → AreBytes bs → i < length bs → field bs (8 * i) 8 ≡ get_or bs i 0
unfolding field shift number
field_byte [] i small h = absurd (omega arith)
field_byte (b ∷ bs) zero small h =
    let k = 8 * length bs in
    let e : 8 * suc (length bs) - 8 * 0 - 8 ≡ k = omega arith in
    ap (λ (s : ℕ). number (b ∷ bs) / 2 ^ s % 2 ^ 8) e
    ∙ ap (λ (x : ℕ). x % 2 ^ 8) (high b k (number_lt bs (λ i. small (suc i)))) ∙ mod-eq_of_lt (small 0)
field_byte (b ∷ bs) (suc i) small h =
    let k = 8 * length bs in
    let hlt : number bs < 2 ^ k = number_lt bs (λ i. small (suc i)) in
    let e : 8 * suc (length bs) - 8 * suc i - 8 ≡ k - 8 * i - 8 = omega arith in
    ap (λ (s : ℕ). number (b ∷ bs) / 2 ^ s % 2 ^ 8) e
    ∙ agree_below (number (b ∷ bs)) (number bs) k (k - 8 * i - 8) 8 (omega arith) (low b k hlt ∙ sym (mod-eq_of_lt hlt))
    ∙ field_byte bs i (λ i. small (suc i)) (omega arith)

module _ (bs : List ℕ) (i v : ℕ) (small : AreBytes bs) (h : i < length bs) (fits : v < 2 ^ 8) where
  -- each byte of the two lists is the same
  set_at : (j : ℕ) → j < length bs → Dec (j < i) → Dec (i < j) → get_or (set bs i v) j 0 ≡ field (stored bs (8 * i) 8 v) (8 * j) 8
  set_at j k (yes p) q =
      get_or-set_other bs i j v 0 (omega arith) ∙ sym (field_byte bs j small k)
      ∙ sym (field_before bs (8 * i) 8 v (omega arith) fits (8 * j) 8 (omega arith))
  set_at j k (no p) (yes q) =
      get_or-set_other bs i j v 0 (omega arith) ∙ sym (field_byte bs j small k)
      ∙ sym (field-after bs (8 * i) 8 v (omega arith) fits (8 * j) 8 (omega arith) (omega arith))
  set_at j k (no p) (no q) =
      let e : j ≡ i = omega arith in
      rw e (get_or-set_same bs i v 0 h ∙ sym (field_stored bs (8 * i) 8 v (omega arith) fits))

  -- a byte that is set is stored as a field of 8 bits at its place
  pub set_byte : set bs i v ≡ stored bs (8 * i) 8 v
  set_byte =
      let xs = stored bs (8 * i) 8 v in
      let l : length xs ≡ length bs = length-stored bs (8 * i) 8 v in
      let m : length (set bs i v) ≡ length bs = length-set bs i v in
      ext_get_or 0 (set bs i v) xs (m ∙ sym l)
      (λ j k. set_at j (omega arith) (dec_lt j i) (dec_lt i j) ∙ field_byte xs j (stored_small bs (8 * i) 8 v) (omega arith))

-- a number's bytes pasted at a place are the number, stored as one field there
pub bytes-stored : (bs : List ℕ) (first count n : ℕ) → AreBytes bs → first + count ≤ length bs
    → paste bs first (bytes n count) count ≡ stored bs (8 * first) (8 * count) (n % 2 ^ (8 * count))
unfolding bytes
bytes-stored bs first zero n small h =
    let i = 8 * first in
    let e : field bs i 0 ≡ n % 2 ^ 0 = omega (arith, field_lt bs i 0, mod-lt n (pow_pos 0)) in
    sym (paste-zero bs first []) ∙ sym (stored-field bs i 0 small (omega arith)) ∙ ap (stored bs i 0) e
bytes-stored bs first (suc count) n small h =
    let i = 8 * first in
    let m = 8 * count in
    let x = n / 2 ^ m % 2 ^ 8 in
    let y = n % 2 ^ m in
    let ys = stored bs (i + 8) m y in
    let l : length ys ≡ length bs = length-stored bs (i + 8) m y in
    let hx : x < 2 ^ 8 = mod-lt (n / 2 ^ m) (pow_pos 8) in
    sym (paste_cons bs (bytes n count) first count x (omega arith))
    ∙ ap (λ (zs : List ℕ). set zs first x)
    (bytes-stored bs (suc first) count n small (omega arith) ∙ ap (λ (z : ℕ). stored bs z m y) (omega arith))
    ∙ set_byte ys first x (stored_small bs (i + 8) m y) (omega arith) hx
    ∙ stored_add bs i 8 m x y (omega arith) hx (mod-lt n (pow_pos m))
    ∙ ap (stored bs i (8 + m)) (sym (mod-pow-add n 8 m))
    ∙ ap (λ (z : ℕ). stored bs i z (n % 2 ^ z)) (omega arith)

-- what `put_word` has written
pub word_stored : (bs xs : List ℕ) (at n : ℕ) → AreBytes bs → at + 8 ≤ length bs → n < 2 ^ 64
    → xs ≡ stored bs (8 * at) 64 n → xs ≡ paste bs at (bytes n 8) 8
word_stored bs xs at n small h fits e =
    e ∙ ap (stored bs (8 * at) 64) (sym (mod-eq_of_lt fits)) ∙ sym (bytes-stored bs at 8 n small h)

-- A field within a word.

module _ (bs : List ℕ) (at v w : ℕ) (inside : at + (v + w) ≤ 8 * length bs) where
  -- the bits of a field above its w lowest ones
  pub field_upper : field bs at (v + w) / 2 ^ w ≡ field bs at v
  field_upper = rw (field_add bs at v w inside) (high (field bs at v) w (field_lt bs (at + v) w))

  -- its w lowest bits
  pub field_lower : field bs at (v + w) % 2 ^ w ≡ field bs (at + v) w
  field_lower = rw (field_add bs at v w inside) (low (field bs at v) w (field_lt bs (at + v) w))

-- a store within a word is a store of the word with the bits beside the value as they were
pub stored-within : (bs : List ℕ) (at v w z x : ℕ) → AreBytes bs → at + (v + (w + z)) ≤ 8 * length bs → x < 2 ^ w
    → stored bs at (v + (w + z)) ((field bs at v * 2 ^ w + x) * 2 ^ z + field bs (at + v + w) z) ≡ stored bs (at + v) w x
stored-within bs at v w z x small inside fits =
    let f = field bs at v in
    let l = field bs (at + v + w) z in
    let hl : l < 2 ^ z = field_lt bs (at + v + w) z in
    let cs = stored bs (at + v) w x in
    let k : length cs ≡ length bs = length-stored bs (at + v) w x in
    ap (stored bs at (v + (w + z))) (rw (pow-add 2 w z) (omega arith))
    ∙ sym (stored_add bs at v (w + z) f (x * 2 ^ z + l) inside (field_lt bs at v) (rw (pow-add 2 w z) (digits_lt fits hl)))
    ∙ ap (λ (ys : List ℕ). stored ys at v f)
    (sym (stored_add bs (at + v) w z x l (omega arith) fits hl)
    ∙ ap (λ (ys : List ℕ). stored ys (at + v) w x) (stored-field bs (at + v + w) z small (omega arith)))
    ∙ ap (stored cs at v) (sym (field_before bs (at + v) w x (omega arith) fits at v (omega arith)))
    ∙ stored-field cs at v (stored_small bs (at + v) w x) (omega arith)

-- the word that `put` makes of a word: the value between the bits before it and those after it
abbrev pub patched : ℕ → ℕ → ℕ → ℕ → ℕ → ℕ
patched word width after value mask =
    bit_or (bit_or (word / 2 ^ (width + after) * 2 ^ width % 2 ^ 64) value * 2 ^ after % 2 ^ 64) (bit_and word mask)

module _ (bs : List ℕ) (at width word : ℕ) (s : Span) (covers : Covers at width s) (inside : at + width ≤ 8 * length bs)
    (loaded : word ≡ field bs (8 * s.first) (8 * s.count)) where
  -- where the field ends in the word
  ends : 8 * s.count ≡ s.before + width + s.after
  ends = omega arith

  -- the bits before the field
  word_before : word / 2 ^ (width + s.after) ≡ field bs (8 * s.first) s.before
  word_before =
      ap (λ (x : ℕ). x / 2 ^ (width + s.after)) (loaded ∙ ap (field bs (8 * s.first)) (sym covers.size))
      ∙ field_upper bs (8 * s.first) s.before (width + s.after) (omega arith)

  -- the bits after the field
  word_after : word % 2 ^ s.after ≡ field bs (at + width) s.after
  word_after =
      ap (λ (x : ℕ). x % 2 ^ s.after) (loaded ∙ ap (field bs (8 * s.first)) ends)
      ∙ field_lower bs (8 * s.first) (s.before + width) s.after (omega arith)
      ∙ ap (λ (x : ℕ). field bs x s.after) (omega arith)

  -- the field
  word_field : (mask : ℕ) → mask ≡ 2 ^ width - 1 → bit_and (word / 2 ^ s.after) mask ≡ field bs at width
  word_field mask ones =
      ap (bit_and (word / 2 ^ s.after)) ones ∙ and_mask (word / 2 ^ s.after) width
      ∙ ap (λ (x : ℕ). x / 2 ^ s.after % 2 ^ width) (loaded ∙ ap (field bs (8 * s.first)) ends)
      ∙ ap (λ (x : ℕ). x % 2 ^ width) (field_upper bs (8 * s.first) (s.before + width) s.after (omega arith))
      ∙ field_lower bs (8 * s.first) s.before width (omega arith) ∙ ap (λ (x : ℕ). field bs x width) covers.start

  -- what `get` returns
  pub got : (mask : ℕ) → mask ≡ 2 ^ width - 1 → (bit_and (word / 2 ^ s.after) mask ≡ field bs at width) × (bit_and (word / 2 ^ s.after) mask < 2 ^ width)
  got mask ones = (word_field mask ones, rw (word_field mask ones) (field_lt bs at width))

  module _ (value mask : ℕ) (fits : value < 2 ^ width) (short : width ≤ 56) (ones : mask ≡ 2 ^ s.after - 1) where
    -- the bits before the field, and the value
    upper : ℕ
    upper = field bs (8 * s.first) s.before * 2 ^ width + value

    -- their size
    upper_lt : upper < 2 ^ (s.before + width)
    unfolding upper
    upper_lt = rw (pow-add 2 s.before width) (digits_lt (field_lt bs (8 * s.first) s.before) fits)

    -- the word that `put` stores is these and the bits after the field
    patched_parts : patched word width s.after value mask ≡ upper * 2 ^ s.after + field bs (at + width) s.after
    unfolding upper
    patched_parts =
        let f = field bs (8 * s.first) s.before in
        let l = field bs (at + width) s.after in
        ap₂ (λ (x y : ℕ). bit_or (bit_or (x * 2 ^ width % 2 ^ 64) value * 2 ^ s.after % 2 ^ 64) y) word_before
        (ap (bit_and word) ones ∙ and_mask word s.after ∙ word_after)
        ∙ ap (λ (x : ℕ). bit_or (bit_or x value * 2 ^ s.after % 2 ^ 64) l)
        (shl_exact s.before width 64 (field_lt bs (8 * s.first) s.before) (omega arith))
        ∙ ap (λ (x : ℕ). bit_or (x * 2 ^ s.after % 2 ^ 64) l) (or_shifted f width value fits)
        ∙ ap (λ (x : ℕ). bit_or x l) (shl_exact (s.before + width) s.after 64 upper_lt (omega arith))
        ∙ or_shifted (f * 2 ^ width + value) s.after l (field_lt bs (at + width) s.after)

    -- it fits the bytes
    pub patched_lt : patched word width s.after value mask < 2 ^ (8 * s.count)
    patched_lt =
        rw (patched_parts, ends, pow-add 2 (s.before + width) s.after) (digits_lt upper_lt (field_lt bs (at + width) s.after))

    -- storing that word is storing the value
    pub patched_stored : AreBytes bs → (xs : List ℕ) → xs ≡ stored bs (8 * s.first) (8 * s.count) (patched word width s.after value mask)
        → xs ≡ stored bs at width value
    unfolding upper
    patched_stored small xs done =
        let e : at ≡ 8 * s.first + s.before = sym covers.start in
        done
        ∙ ap₂ (stored bs (8 * s.first)) (sym covers.size)
        (patched_parts ∙ ap (λ (x : ℕ). upper * 2 ^ s.after + field bs (x + width) s.after) e)
        ∙ stored-within bs (8 * s.first) s.before width s.after value small (omega arith) fits
        ∙ ap (λ (x : ℕ). stored bs x width value) covers.start

-- The loops.

-- one turn of `load`: the word takes in the next byte
pub load_byte : (bs : List ℕ) (first i word : ℕ) → AreBytes bs → first + i < length bs → i < 8
    → word ≡ field bs (8 * first) (8 * i)
    → bit_or (word * 2 ^ 8 % 2 ^ 64) (get_or bs (first + i) 0) ≡ field bs (8 * first) (8 * (i + 1))
load_byte bs first i word small h k e =
    let fits : word < 2 ^ (8 * i) = rw e (field_lt bs (8 * first) (8 * i)) in
    let p : 8 * (first + i) ≡ 8 * first + 8 * i = omega arith in
    let q : 8 * i + 8 ≡ 8 * (i + 1) = omega arith in
    ap (λ (x : ℕ). bit_or x (get_or bs (first + i) 0)) (shl_exact (8 * i) 8 64 fits (omega arith))
    ∙ or_shifted word 8 (get_or bs (first + i) 0) (small (first + i))
    ∙ ap₂ (λ (x y : ℕ). x * 2 ^ 8 + y) e (sym (field_byte bs (first + i) small h) ∙ ap (λ (x : ℕ). field bs x 8) p)
    ∙ sym (field_add bs (8 * first) (8 * i) 8 (omega arith)) ∙ ap (field bs (8 * first)) q

-- what `store` has done with `left` bytes to go: the list, and what is left of the word
abbrev pub Done : List ℕ → ℕ → ℕ → ℕ → List ℕ → ℕ → ℕ → Type 0
Done bs first count word xs left rest =
    let n = 8 * (count - left) in
    (xs ≡ stored bs (8 * (first + left)) n (word % 2 ^ n)) × (rest ≡ word / 2 ^ n)

-- before the first turn of `store` nothing is done
pub store_none : (bs : List ℕ) (first count word : ℕ) → AreBytes bs → first + count ≤ length bs
    → Done bs first count word bs count word
store_none bs first count word small h =
    let i = 8 * (first + count) in
    let z : 8 * (count - count) ≡ 0 = omega arith in
    let e : field bs i 0 ≡ word % 2 ^ 0 = omega (arith, field_lt bs i 0, mod-lt word (pow_pos 0)) in
    rw z (sym (stored-field bs i 0 small (omega arith)) ∙ ap (stored bs i 0) e, sym (div-one word))

-- one turn of `store`: the byte before takes the lowest byte of what is left
pub store_byte : (bs xs : List ℕ) (first count left word rest byte : ℕ) → first + count ≤ length bs → 0 < left → left ≤ count
    → byte ≡ rest % 2 ^ 8 → Done bs first count word xs left rest
    → Done bs first count word (set xs (first + (left - 1)) byte) (left - 1) (rest / 2 ^ 8)
store_byte bs xs first count left word rest byte h pos k low_byte done =
    let n = 8 * (count - left) in
    let i = first + (left - 1) in
    let x = word / 2 ^ n % 2 ^ 8 in
    let y = word % 2 ^ n in
    let ys = stored bs (8 * i + 8) n y in
    let l : length ys ≡ length bs = length-stored bs (8 * i + 8) n y in
    let hx : x < 2 ^ 8 = mod-lt (word / 2 ^ n) (pow_pos 8) in
    let p : 8 * (first + left) ≡ 8 * i + 8 = omega arith in
    let q : 8 + n ≡ 8 * (count - (left - 1)) = omega arith in
    let r : n + 8 ≡ 8 * (count - (left - 1)) = omega arith in (
      ap₂ (λ (zs : List ℕ) (z : ℕ). set zs i z) (done.0 ∙ ap (λ (z : ℕ). stored bs z n y) p)
          (low_byte ∙ ap (λ (z : ℕ). z % 2 ^ 8) done.1)
          ∙ set_byte ys i x (stored_small bs (8 * i + 8) n y) (omega arith) hx
          ∙ stored_add bs (8 * i) 8 n x y (omega arith) hx (mod-lt word (pow_pos n))
          ∙ ap (stored bs (8 * i) (8 + n)) (sym (mod-pow-add word 8 n))
          ∙ ap (λ (m : ℕ). stored bs (8 * i) m (word % 2 ^ m)) q,
      ap (λ (z : ℕ). z / 2 ^ 8) done.1 ∙ shr-shr word n 8 ∙ ap (λ (m : ℕ). word / 2 ^ m) r,
    )

-- after the last turn the whole word is stored
pub store_all : (bs xs : List ℕ) (first count left word rest : ℕ) → word < 2 ^ (8 * count) → left ≤ 0
    → Done bs first count word xs left rest → xs ≡ stored bs (8 * first) (8 * count) word
store_all bs xs first count left word rest h k done =
    let p : 8 * (first + left) ≡ 8 * first = omega arith in
    let q : 8 * (count - left) ≡ 8 * count = omega arith in
    rw (p, q) at done.0 ∙ ap (stored bs (8 * first) (8 * count)) (mod-eq_of_lt h)
