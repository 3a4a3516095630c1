-- The room that answers take: of one call, and of those that are left at a turn of `fits`. Assumes nothing.
use Prim.Native.Nat.{ℕ, ◌+◌, ◌-◌, ◌<◌, ◌≤◌}
use mathlib.Core.Path.{◌≡◌, refl, sym, ap, ◌∙◌}
use mathlib.Core.Bool.{Bool, true, false}
use mathlib.Core.List.{List, []}
use native.Mathlib.Omega.{arith}
use borrow.Author.Tests.{leb-true, leb-false, eqb-true, eqb-false, le-leb, lt-leb}
use lib.Dec.{leb, eqb}
use lib.ListN.{length}
use Rattle.machine.specs.Machine.{Call}
use Rattle.call_script.specs.Script.{byte_at, size_at, call_at, calls_from, calls}
use Rattle.call_script.specs.Room.{room, room_of}
use Rattle.call_script.proofs.Scripts.{call_delivery, call_take_back, call_close, call_totals, calls-none, calls_end, calls-next}

-- the answer to totals takes 528 bytes
pub room-totals : (script : List ℕ) (at : ℕ) → byte_at script at ≡ 3 → 528 ≡ room (call_at script at)
room-totals script at h = ap room (call_totals script at h)

-- and any other 8
pub room_other : (script : List ℕ) (at : ℕ) → byte_at script at < 3 → 8 ≡ room (call_at script at)
room_other script at h = go (eqb (byte_at script at) 0) (eqb (byte_at script at) 1) refl refl
  where
    go : (a b : Bool) → eqb (byte_at script at) 0 ≡ a → eqb (byte_at script at) 1 ≡ b → 8 ≡ room (call_at script at)
    go true b p q = ap room (call_delivery script at (eqb-true _ _ p))
    go false true p q = ap room (call_take_back script at (eqb-true _ _ q))
    go false false p q = ap room (call_close script at (omega (arith, eqb-false)))

-- what is taken from one side of a test is taken from the other
leb_less : (taken rest left : ℕ) → taken ≤ left → leb rest (left - taken) ≡ leb (taken + rest) left
leb_less taken rest left h = go (leb (taken + rest) left) refl
  where
    go : (b : Bool) → leb (taken + rest) left ≡ b → leb rest (left - taken) ≡ leb (taken + rest) left
    go true e = le-leb rest (left - taken) (omega (arith, leb-true)) ∙ sym e
    go false e = lt-leb rest (left - taken) (omega (arith, leb-false)) ∙ sym e

-- What holds at a turn: whether the answers that are left fit into the bytes that are left is what was asked.
pub record Fitting (script : List ℕ) (bytes i at left : ℕ) : Type 0 where
  pub rest : leb (room_of (calls_from (length script - i) script at)) left ≡ leb (room_of (calls script)) bytes

-- before the first
pub nothing_fitted : (script : List ℕ) (bytes : ℕ) → Fitting script bytes 0 0 bytes
unfolding calls
nothing_fitted script bytes =
    let all : length script - 0 ≡ length script = omega arith in
    record { rest = ap (λ (most : ℕ). leb (room_of (calls_from most script 0)) bytes) all }

module _ (script : List ℕ) (bytes i at left : ℕ) (f : Fitting script bytes i at left) where
  -- no answers are left
  fitted : calls_from (length script - i) script at ≡ [] → true ≡ leb (room_of (calls script)) bytes
  unfolding room_of
  fitted e = sym (le-leb 0 left (omega arith)) ∙ sym (ap (λ (cs : List Call). leb (room_of cs) left) e) ∙ f.rest

  -- for want of calls
  pub fitted_all : size_at script at ≡ 0 → true ≡ leb (room_of (calls script)) bytes
  fitted_all h = fitted (calls-none (length script - i) script at h)

  -- for want of bytes
  pub fitted_end : length script ≤ i → true ≡ leb (room_of (calls script)) bytes
  fitted_end h = fitted (calls_end script i at h)

  -- A whole call of this size more, whose answer takes this room.
  module _ (some : i < length script) (size taken : ℕ) (s : size ≡ size_at script at) (t : taken ≡ room (call_at script at))
      (whole : 0 < size) where
    -- its answer and those to the calls behind it are left
    left_rest : leb (taken + room_of (calls_from (length script - (i + 1)) script (at + size))) left ≡ leb (room_of (calls script)) bytes
    unfolding room_of
    left_rest =
        let h : 0 < size_at script at = omega arith in
        rw (s, t) (sym (ap (λ (cs : List Call). leb (room_of cs) left) (calls-next script i at some h)) ∙ f.rest)

    -- it does not fit
    pub not_fitted : left < taken → false ≡ leb (room_of (calls script)) bytes
    not_fitted h = sym (lt-leb (taken + room_of (calls_from (length script - (i + 1)) script (at + size))) left (omega arith)) ∙ left_rest

    -- or it does
    pub fitted_next : taken ≤ left → Fitting script bytes (i + 1) (at + size) (left - taken)
    fitted_next h =
        record { rest = leb_less taken (room_of (calls_from (length script - (i + 1)) script (at + size))) left h ∙ left_rest }
