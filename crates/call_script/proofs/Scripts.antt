-- What stands at a place of a script: how many bytes it takes, which call it is, and the calls from there on. Assumes nothing.
use Prim.Native.Nat.{ℕ, zero, suc, ◌+◌, ◌-◌, ◌<◌, ◌≤◌}
use mathlib.Core.Path.{◌≡◌, refl, ap, ◌∙◌}
use mathlib.Core.Bool.{Bool, true, false}
use mathlib.Core.List.{List, [], ◌∷◌}
use native.Mathlib.Omega.{arith}
use borrow.Author.Tests.{leb-true, leb-false, eqb-true, eqb-false, le-leb, lt-leb, eq-eqb, ne_eqb}
use lib.Dec.{leb, eqb}
use lib.ListN.{length, take, drop}
use Rattle.bits.proofs.Parts.{part}
use Rattle.machine.specs.Machine.{deliver, take_back, close, change, totals}
use Rattle.call_script.specs.Script.{byte_at, delivery_size, size_at, call_at, calls_from}

module _ (script : List ℕ) (at : ℕ) where
  -- a delivery that the script ends before
  pub delivery_cut : length script < at + 2 + byte_at script (at + 1) → 0 ≡ delivery_size script at
  unfolding delivery_size
  delivery_cut h = rw (lt-leb (at + 2 + byte_at script (at + 1)) (length script) h)

  -- and a whole one
  pub delivery_whole : at + 2 + byte_at script (at + 1) ≤ length script → 2 + byte_at script (at + 1) ≡ delivery_size script at
  unfolding delivery_size
  delivery_whole h = rw (le-leb (at + 2 + byte_at script (at + 1)) (length script) h)

  -- nothing stands past the end
  pub size_past : length script ≤ at → 0 ≡ size_at script at
  unfolding size_at
  size_past h = rw (le-leb (length script) at h)

  -- a first byte of 0 is a delivery
  pub size_delivery : at < length script → byte_at script at ≡ 0 → delivery_size script at ≡ size_at script at
  unfolding size_at
  size_delivery i h = rw (lt-leb (length script) at i, eq-eqb (byte_at script at) 0 h)

  -- 1, 2 and 3 are calls of one byte
  pub size_one : at < length script → (byte_at script at ≡ 0 → ⊥) → byte_at script at ≤ 3 → 1 ≡ size_at script at
  unfolding size_at
  size_one i n h = rw (lt-leb (length script) at i, ne_eqb (byte_at script at) 0 n, le-leb (byte_at script at) 3 h)

  -- any other is no call
  pub size_other : at < length script → 3 < byte_at script at → 0 ≡ size_at script at
  unfolding size_at
  size_other i h =
      rw (lt-leb (length script) at i, ne_eqb (byte_at script at) 0 (λ e. omega arith), lt-leb (byte_at script at) 3 h)

  -- Which call a first byte is.

  -- 0 delivers, with the part of the script that the code lends
  pub call_delivery : byte_at script at ≡ 0
      → change (deliver (take (at + 2 + byte_at script (at + 1) - (at + 2)) (drop (at + 2) script))) ≡ call_at script at
  unfolding call_at
  call_delivery h = rw (part (at + 2) (byte_at script (at + 1)) script, eq-eqb (byte_at script at) 0 h)

  -- 1 takes back
  pub call_take_back : byte_at script at ≡ 1 → change take_back ≡ call_at script at
  unfolding call_at
  call_take_back h = rw h

  -- 2 closes
  pub call_close : byte_at script at ≡ 2 → change close ≡ call_at script at
  unfolding call_at
  call_close h = rw h

  -- 3 asks for totals
  pub call_totals : byte_at script at ≡ 3 → totals ≡ call_at script at
  unfolding call_at
  call_totals h = rw h

-- A place where a whole call stands.

-- it lies in the script
pub whole-inside : (script : List ℕ) (at : ℕ) → 0 < size_at script at → at < length script
whole-inside script at h = go (leb (length script) at) refl
  where
    go : (b : Bool) → leb (length script) at ≡ b → at < length script
    go true e = omega (arith, size_past script at (leb-true _ _ e))
    go false e = leb-false _ _ e

-- its first byte is at most 3
pub whole_kind : (script : List ℕ) (at : ℕ) → 0 < size_at script at → byte_at script at ≤ 3
whole_kind script at h = go (leb (byte_at script at) 3) refl
  where
    go : (b : Bool) → leb (byte_at script at) 3 ≡ b → byte_at script at ≤ 3
    go true e = leb-true _ _ e
    go false e = omega (arith, size_other script at (whole-inside script at h) (leb-false _ _ e))

-- the bytes of a delivery lie in the script
pub whole_delivery : (script : List ℕ) (at : ℕ) → 0 < size_at script at → byte_at script at ≡ 0
    → at + 2 + byte_at script (at + 1) ≤ length script
whole_delivery script at h z = go (leb (at + 2 + byte_at script (at + 1)) (length script)) refl
  where
    go : (b : Bool) → leb (at + 2 + byte_at script (at + 1)) (length script) ≡ b → at + 2 + byte_at script (at + 1) ≤ length script
    go true e = leb-true _ _ e
    go false e =
        omega (arith, size_delivery script at (whole-inside script at h) z, delivery_cut script at (leb-false _ _ e))

-- and so do those of any call
pub whole_end : (script : List ℕ) (at : ℕ) → 0 < size_at script at → at + size_at script at ≤ length script
whole_end script at h = go (eqb (byte_at script at) 0) refl
  where
    go : (b : Bool) → eqb (byte_at script at) 0 ≡ b → at + size_at script at ≤ length script
    go true e =
        let all = whole_delivery script at h (eqb-true _ _ e) in
        omega (arith, size_delivery script at (whole-inside script at h) (eqb-true _ _ e), delivery_whole script at all)
    go false e =
        let inside = whole-inside script at h in
        omega (arith, size_one script at inside (eqb-false _ _ e) (whole_kind script at h))

-- The calls from a place on, at a turn of a loop over the script's length.

-- none where no whole call stands
pub calls-none : (most : ℕ) (script : List ℕ) (at : ℕ) → size_at script at ≡ 0 → calls_from most script at ≡ []
unfolding calls_from
calls-none zero script at h = refl
calls-none (suc most) script at h = rw (eq-eqb (size_at script at) 0 h)

-- none after as many turns as the script has bytes
pub calls_end : (script : List ℕ) (i at : ℕ) → length script ≤ i → calls_from (length script - i) script at ≡ []
unfolding calls_from
calls_end script i at h = let e : length script - i ≡ 0 = omega arith in ap (λ (most : ℕ). calls_from most script at) e

-- else that call, and those behind it
calls_more : (most : ℕ) (script : List ℕ) (at : ℕ) → 0 < size_at script at
    → calls_from (suc most) script at ≡ call_at script at ∷ calls_from most script (at + size_at script at)
unfolding calls_from
calls_more most script at h = rw (ne_eqb (size_at script at) 0 (λ e. omega arith))

-- the same at a turn
pub calls-next : (script : List ℕ) (i at : ℕ) → i < length script → 0 < size_at script at
    → calls_from (length script - i) script at ≡ call_at script at ∷ calls_from (length script - (i + 1)) script (at + size_at script at)
calls-next script i at some h =
    let e : length script - i ≡ suc (length script - (i + 1)) = omega arith in
    ap (λ (most : ℕ). calls_from most script at) e ∙ calls_more (length script - (i + 1)) script at h
