-- The laws of fields, for any offset and any width: reading after writing, at the same place and at others; writing what was
-- read; and both for a record of fields that follow each other. Assumes nothing.
use mathlib.Core.Path.{◌≡◌, refl, sym, ap, ap₂, ◌∙◌}
use mathlib.Core.List.{List, [], ◌∷◌}
use Prim.Native.Nat.{ℕ, suc, ◌+◌, ◌-◌, ◌*◌, ◌/◌, ◌%◌, ◌^◌, ◌≤◌, ◌<◌}
use native.Mathlib.Nat.{mod-lt, mod-mod, mod-eq_of_lt, div-one, zero-add}
use native.Mathlib.Omega.{arith}
use lib.Arith.{digits_lt}
use lib.ListN.{length, drop}
use lib.Pow.{pow_pos, pow-add, high, low}
use lib.Seq.{ext_get_or, get_or-drop}
use Rattle.bits.specs.Fields.{AreBytes, number, shift, field, replaced, stored, total, fields_at, stored_all, Fit}
use Rattle.bits.proofs.Bytes.{length-bytes, bytes_small}
use Rattle.bits.proofs.Numbers.{replaced-above, replaced_part, replaced-below, agree_above, agree_below, part_add}
use Rattle.bits.proofs.Numbers.{number-bytes, number_lt}

-- One field.

-- a field is below 2 to the power of its width
pub field_lt : (bs : List ℕ) (at width : ℕ) → field bs at width < 2 ^ width
unfolding field
field_lt bs at width = mod-lt (number bs / 2 ^ shift bs at width) (pow_pos width)

-- a store keeps the length
pub length-stored : (bs : List ℕ) (at width value : ℕ) → length (stored bs at width value) ≡ length bs
unfolding stored
length-stored bs at width value = length-bytes _ _

-- what is stored are bytes
pub stored_small : (bs : List ℕ) (at width value : ℕ) → AreBytes (stored bs at width value)
unfolding stored
stored_small bs at width value = bytes_small _ _

-- a field of v + w bits is its v upper bits and its w lower ones
pub field_add : (bs : List ℕ) (at v w : ℕ) → at + (v + w) ≤ 8 * length bs → field bs at (v + w) ≡ field bs at v * 2 ^ w + field bs (at + v) w
unfolding field shift
field_add bs at v w h =
    let n = number bs in
    let s = 8 * length bs - at - (v + w) in
    part_add n s v w
    ∙ ap₂ (λ (x y : ℕ). n / 2 ^ x % 2 ^ v * 2 ^ w + n / 2 ^ y % 2 ^ w) (omega arith) (omega arith)

module _ (bs : List ℕ) (at width value : ℕ) (inside : at + width ≤ 8 * length bs) (fits : value < 2 ^ width) where
  -- a field of the list after a store is that part of the number after the replacement
  read : (place size : ℕ) → place + size ≤ 8 * length bs
      → field (stored bs at width value) place size ≡ replaced (number bs) (shift bs at width) width value / 2 ^ shift bs place size % 2 ^ size
  unfolding field shift stored
  read place size h =
      rw (length-bytes, number-bytes)
      (agree_below _ _ (8 * length bs) (8 * length bs - place - size) size (omega arith) (mod-mod _ _))

  -- reading after writing at the same place gives the value
  pub field_stored : field (stored bs at width value) at width ≡ value
  field_stored = read at width inside ∙ replaced_part (number bs) (shift bs at width) width value fits

  -- a field before the place written is as it was
  pub field_before : (place size : ℕ) → place + size ≤ at → field (stored bs at width value) place size ≡ field bs place size
  unfolding field shift
  field_before place size h =
      read place size (omega arith)
      ∙ ap (λ (x : ℕ). x % 2 ^ size)
      (agree_above _ _ (shift bs at width + width) (shift bs place size) (omega arith) (replaced-above (number bs) (shift bs at width) width value fits))

  -- a field after the place written is as it was
  pub field-after : (place size : ℕ) → at + width ≤ place → place + size ≤ 8 * length bs
      → field (stored bs at width value) place size ≡ field bs place size
  unfolding field shift
  field-after place size h k =
      read place size k
      ∙ agree_below _ _ (shift bs at width) (shift bs place size) size (omega arith) (replaced-below (number bs) (shift bs at width) width value)

-- The whole list.

-- equal length and equal number make equal lists of bytes
pub number_injective : (xs ys : List ℕ) → AreBytes xs → AreBytes ys → length xs ≡ length ys → number xs ≡ number ys → xs ≡ ys
unfolding number
number_injective [] [] sx sy l e = refl
number_injective [] (y ∷ ys) sx sy l e = absurd (omega arith)
number_injective (x ∷ xs) [] sx sy l e = absurd (omega arith)
number_injective (x ∷ xs) (y ∷ ys) sx sy l e =
    let k = 8 * length xs in
    let l' : length xs ≡ length ys = omega arith in
    let hx : number xs < 2 ^ k = number_lt xs (λ i. sx (suc i)) in
    let hy : number ys < 2 ^ k = rw l' (number_lt ys (λ i. sy (suc i))) in
    let e' : x * 2 ^ k + number xs ≡ y * 2 ^ k + number ys = e ∙ ap (λ (n : ℕ). y * 2 ^ (8 * n) + number ys) (sym l') in
    ap₂ ◌∷◌ (sym (high x k hx) ∙ ap (λ (n : ℕ). n / 2 ^ k) e' ∙ high y k hy)
    (number_injective xs ys (λ i. sx (suc i)) (λ i. sy (suc i)) l'
    (sym (low x k hx) ∙ ap (λ (n : ℕ). n % 2 ^ k) e' ∙ low y k hy))

-- a list of bytes is one field
whole : (bs : List ℕ) → AreBytes bs → field bs 0 (8 * length bs) ≡ number bs
unfolding field shift
whole bs small =
    let e : 8 * length bs - 0 - 8 * length bs ≡ 0 = omega arith in
    ap (λ (s : ℕ). number bs / 2 ^ s % 2 ^ (8 * length bs)) e
    ∙ ap (λ (x : ℕ). x % 2 ^ (8 * length bs)) (div-one (number bs)) ∙ mod-eq_of_lt (number_lt bs small)

-- lists of bytes that agree on all bits are equal
same : (xs ys : List ℕ) → AreBytes xs → AreBytes ys → length xs ≡ length ys
    → field xs 0 (8 * length xs) ≡ field ys 0 (8 * length xs) → xs ≡ ys
same xs ys sx sy l e =
    number_injective xs ys sx sy l
    (sym (whole xs sx) ∙ e ∙ ap (λ (n : ℕ). field ys 0 (8 * n)) l ∙ whole ys sy)

-- the whole list by the field, the bits before it and those after it
parts : (bs : List ℕ) (at width rest : ℕ) → at + (width + rest) ≡ 8 * length bs
    → field bs 0 (8 * length bs) ≡ field bs 0 at * 2 ^ (width + rest) + (field bs at width * 2 ^ rest + field bs (at + width) rest)
parts bs at width rest e =
    ap (field bs 0) (sym e) ∙ field_add bs 0 at (width + rest) (omega arith)
    ∙ ap (λ (x : ℕ). field bs 0 at * 2 ^ (width + rest) + x)
    (ap (λ (p : ℕ). field bs p (width + rest)) (omega arith) ∙ field_add bs at width rest (omega arith))

-- the list after a store is the one that has the value there and the old bits before and after
unique : (bs xs : List ℕ) (at width rest value : ℕ) → AreBytes xs → length xs ≡ length bs → at + (width + rest) ≡ 8 * length bs
    → value < 2 ^ width → field xs 0 at ≡ field bs 0 at → field xs at width ≡ value → field xs (at + width) rest ≡ field bs (at + width) rest
    → xs ≡ stored bs at width value
unique bs xs at width rest value small l e fits before here after =
    let ys = stored bs at width value in
    let k : length ys ≡ length bs = length-stored bs at width value in
    let i : at + width ≤ 8 * length bs = omega arith in
    let p : field ys 0 at ≡ field bs 0 at = field_before bs at width value i fits 0 at (omega arith) in
    let q : field ys at width ≡ value = field_stored bs at width value i fits in
    let r = field-after bs at width value i fits (at + width) rest (omega arith) (omega arith) in
    same xs ys small (stored_small bs at width value) (l ∙ sym k)
    (parts xs at width rest (omega arith)
    ∙ (cc)
    ∙ sym (parts ys at width rest (omega arith)) ∙ ap (λ (n : ℕ). field ys 0 (8 * n)) (k ∙ sym l))

-- writing the field that was read leaves the list as it is
pub stored-field : (bs : List ℕ) (at width : ℕ) → AreBytes bs → at + width ≤ 8 * length bs → stored bs at width (field bs at width) ≡ bs
stored-field bs at width small inside =
    let rest = 8 * length bs - (at + width) in
    sym (unique bs bs at width rest (field bs at width) small refl (omega arith) (field_lt bs at width) refl refl refl)

-- two stores side by side are one
pub stored_add : (bs : List ℕ) (at v w x y : ℕ) → at + (v + w) ≤ 8 * length bs → x < 2 ^ v → y < 2 ^ w
    → stored (stored bs (at + v) w y) at v x ≡ stored bs at (v + w) (x * 2 ^ w + y)
stored_add bs at v w x y inside hx hy =
    let rest = 8 * length bs - (at + (v + w)) in
    let cs = stored bs (at + v) w y in
    let l : length cs ≡ length bs = length-stored bs (at + v) w y in
    let i : at + v + w ≤ 8 * length bs = omega arith in
    let j : at + v ≤ 8 * length cs = omega arith in
    let ds = stored cs at v x in
    let m : length ds ≡ length cs = length-stored cs at v x in
    let before = field_before cs at v x j hx in
    let after = field-after cs at v x j hx in
    unique bs ds at (v + w) rest (x * 2 ^ w + y) (stored_small cs at v x) (m ∙ l) (omega arith)
    (rw pow-add (digits_lt hx hy))
    (before 0 at (omega arith) ∙ field_before bs (at + v) w y i hy 0 at (omega arith))
    (field_add ds at v w (omega arith)
    ∙ ap₂ (λ (p q : ℕ). p * 2 ^ w + q) (field_stored cs at v x j hx)
    (after (at + v) w (omega arith) (omega arith) ∙ field_stored bs (at + v) w y i hy))
    (after (at + (v + w)) rest (omega arith) (omega arith)
    ∙ field-after bs (at + v) w y i hy (at + (v + w)) rest (omega arith) (omega arith))

-- Records of fields that follow each other.

-- writing a record keeps the length
pub length-stored_all : (bs : List ℕ) (at : ℕ) (ws vs : List ℕ) → length (stored_all bs at ws vs) ≡ length bs
unfolding stored_all
length-stored_all bs at [] vs = refl
length-stored_all bs at (w ∷ ws) [] = refl
length-stored_all bs at (w ∷ ws) (v ∷ vs) = length-stored_all (stored bs at w v) (at + w) ws vs ∙ length-stored bs at w v

-- a field before a record that is written is as it was
pub field_before_all : (bs : List ℕ) (at : ℕ) (ws vs : List ℕ) → at + total ws ≤ 8 * length bs → Fit ws vs
    → (place size : ℕ) → place + size ≤ at → field (stored_all bs at ws vs) place size ≡ field bs place size
unfolding stored_all
field_before_all bs at [] [] inside fit place size h = refl
field_before_all bs at [] (v ∷ vs) inside fit place size h = absurd fit
field_before_all bs at (w ∷ ws) [] inside fit place size h = absurd fit
field_before_all bs at (w ∷ ws) (v ∷ vs) inside fit place size h =
    let l = length-stored bs at w v in
    field_before_all (stored bs at w v) (at + w) ws vs (omega arith) fit.1 place size (omega arith)
    ∙ field_before bs at w v (omega arith) fit.0 place size h

-- a record that is written reads back
pub fields_stored : (bs : List ℕ) (at : ℕ) (ws vs : List ℕ) → at + total ws ≤ 8 * length bs → Fit ws vs
    → fields_at (stored_all bs at ws vs) at ws ≡ vs
unfolding stored_all fields_at
fields_stored bs at [] [] inside fit = refl
fields_stored bs at [] (v ∷ vs) inside fit = absurd fit
fields_stored bs at (w ∷ ws) [] inside fit = absurd fit
fields_stored bs at (w ∷ ws) (v ∷ vs) inside fit =
    let cs = stored bs at w v in
    let l : length cs ≡ length bs = length-stored bs at w v in
    ap₂ ◌∷◌
    (field_before_all cs (at + w) ws vs (omega arith) fit.1 at w (omega arith)
    ∙ field_stored bs at w v (omega arith) fit.0)
    (fields_stored cs (at + w) ws vs (omega arith) fit.1)

-- the values of fields fit their widths
pub fields_fit : (bs : List ℕ) (at : ℕ) (ws : List ℕ) → Fit ws (fields_at bs at ws)
unfolding fields_at
fields_fit bs at [] = tt
fields_fit bs at (w ∷ ws) = (field_lt bs at w, fields_fit bs (at + w) ws)

-- writing the fields of one list from bit `at` to its end into another that agrees with it before that gives the one
stored_rest : (bs cs : List ℕ) (at : ℕ) (ws : List ℕ) → AreBytes bs → AreBytes cs → length cs ≡ length bs
    → at + total ws ≡ 8 * length bs → field cs 0 at ≡ field bs 0 at → stored_all cs at ws (fields_at bs at ws) ≡ bs
unfolding stored_all fields_at
stored_rest bs cs at [] sb sc l e agree = same cs bs sc sb l (let k : at ≡ 8 * length cs = omega arith in rw (← k) agree)
stored_rest bs cs at (w ∷ ws) sb sc l e agree =
    let v = field bs at w in
    let ds = stored cs at w v in
    let k : length ds ≡ length cs = length-stored cs at w v in
    let fits : v < 2 ^ w = field_lt bs at w in
    let i : at + w ≤ 8 * length cs = omega arith in
    stored_rest bs ds (at + w) ws sb (stored_small cs at w v) (k ∙ l) (omega arith)
    (field_add ds 0 at w (omega arith)
    ∙ ap₂ (λ (x y : ℕ). x * 2 ^ w + y) (field_before cs at w v i fits 0 at (omega arith) ∙ agree)
    (rw zero-add (field_stored cs at w v i fits))
    ∙ sym (field_add bs 0 at w (omega arith)))

-- writing all the fields of one list into any other of its length gives the one
pub stored_fields : (bs cs ws : List ℕ) → AreBytes bs → length cs ≡ length bs → total ws ≡ 8 * length bs
    → stored_all cs 0 ws (fields_at bs 0 ws) ≡ bs
unfolding stored_all fields_at
stored_fields bs cs [] sb l e = ext_get_or 0 cs bs l (λ i h. absurd (omega arith))
stored_fields bs cs (w ∷ ws) sb l e =
    let v = field bs 0 w in
    stored_rest bs (stored cs 0 w v) (0 + w) ws sb (stored_small cs 0 w v) (length-stored cs 0 w v ∙ l) (omega arith)
    (rw zero-add (field_stored cs 0 w v (omega arith) (field_lt bs 0 w)))

-- what is left of a list of bytes are bytes
pub drop_small : (bs : List ℕ) (i : ℕ) → AreBytes bs → AreBytes (drop i bs)
drop_small bs i small j = rw (get_or-drop i bs j 0) (small (i + j))
