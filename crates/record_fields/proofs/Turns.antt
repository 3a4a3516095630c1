-- The loops over the fields of a record: what holds before each turn, and that a turn keeps it. Assumes nothing.
use Prim.Native.Nat.{ℕ, zero, suc, ◌+◌, ◌*◌, ◌^◌, ◌≤◌, ◌<◌}
use mathlib.Core.Path.{◌≡◌, refl, sym, ap, ap₂, ◌∙◌}
use mathlib.Core.List.{List, [], ◌∷◌, ◌++◌, append-nil}
use native.Mathlib.Numerals.{add-one}
use native.Mathlib.Omega.{arith}
use lib.ListN.{length, get_or, take, drop, set, length-set, drop_of_length-le}
use lib.Seq.{drop-cons, append_snoc, take-suc-set, take_all}
use Rattle.bits.specs.Fields.{total, field, stored, fields_at, stored_all, Fit}
use Rattle.bits.proofs.Laws.{field_lt, length-stored}
use Rattle.record_fields.specs.Layout.{Narrow, Layout}

-- what is left of a list from an element on
rest : (ws : List ℕ) (i : ℕ) → i < length ws → drop i ws ≡ get_or ws i 0 ∷ drop (i + 1) ws
rest ws i h = rw add-one (drop-cons ws i 0 h)

-- the fields from number i on lie in the bytes from bit `at` on
pub record Left (bytes ws : List ℕ) (at i : ℕ) : Type 0 where
  pub within : i ≤ length ws
  pub inside : at + total (drop i ws) ≤ 8 * length bytes
  pub short : length bytes ≤ 21
  pub narrow : Narrow (drop i ws)

pub left_start : {bytes ws : List ℕ} → Layout bytes ws → Left bytes ws 0 0
left_start {bytes} {ws} l = record { within = omega arith; inside = omega arith; short = l.short; narrow = l.narrow }

module _ {bytes ws : List ℕ} {at i : ℕ} (l : Left bytes ws at i) (h : i < length ws) where
  -- the field at hand is one that `bits` takes
  pub left_inside : at + get_or ws i 0 ≤ 8 * length bytes
  left_inside = let k : at + total (get_or ws i 0 ∷ drop (i + 1) ws) ≤ 8 * length bytes = rw (rest ws i h) at l.inside in omega arith

  pub left_narrow : get_or ws i 0 ≤ 56
  left_narrow = let k : Narrow (get_or ws i 0 ∷ drop (i + 1) ws) = rw (rest ws i h) at l.narrow in k.0

  pub left_turn : Left bytes ws (at + get_or ws i 0) (i + 1)
  left_turn =
      let k : at + total (get_or ws i 0 ∷ drop (i + 1) ws) ≤ 8 * length bytes = rw (rest ws i h) at l.inside in
      let n : Narrow (get_or ws i 0 ∷ drop (i + 1) ws) = rw (rest ws i h) at l.narrow in
      record { within = omega arith; inside = omega arith; short = l.short; narrow = n.1 }

-- Reading: the values so far and the fields that are left are all the fields.
pub record Reading (bytes ws vs : List ℕ) (at i : ℕ) : Type 0 where
  pub left : Left bytes ws at i
  pub sized : length vs ≡ length ws
  pub done : take i vs ++ fields_at bytes at (drop i ws) ≡ fields_at bytes 0 ws

pub reading_start : {bytes ws vs : List ℕ} → Layout bytes ws → length vs ≡ length ws → Reading bytes ws vs 0 0
reading_start l s = record { left = left_start l; sized = s; done = refl }

pub reading_turn : {bytes ws vs : List ℕ} {at i : ℕ} → Reading bytes ws vs at i → i < length ws → (v : ℕ) → v ≡ field bytes at (get_or ws i 0)
    → Reading bytes ws (set vs i v) (at + get_or ws i 0) (i + 1)
unfolding fields_at
reading_turn {bytes} {ws} {vs} {at} {i} r h v e =
    let k : i < length vs = omega arith in
    let t : take (i + 1) (set vs i v) ≡ take i vs ++ (v ∷ []) = rw add-one (take-suc-set vs i v k) in
    record {
      left = left_turn r.left h;
      sized = length-set vs i v ∙ r.sized;
      done =
          ap (λ (l : List ℕ). l ++ fields_at bytes (at + get_or ws i 0) (drop (i + 1) ws)) t
          ∙ append_snoc (take i vs) v (fields_at bytes (at + get_or ws i 0) (drop (i + 1) ws))
          ∙ ap (λ (x : ℕ). take i vs ++ x ∷ fields_at bytes (at + get_or ws i 0) (drop (i + 1) ws)) e
          ∙ ap (λ (l : List ℕ). take i vs ++ fields_at bytes at l) (sym (rest ws i h))
          ∙ r.done;
    }

pub reading_end : {bytes ws vs : List ℕ} {at i : ℕ} → Reading bytes ws vs at i → length ws ≤ i → vs ≡ fields_at bytes 0 ws
unfolding fields_at
reading_end {bytes} {ws} {vs} {at} {i} r h =
    sym (append-nil vs) ∙ ap₂ ◌++◌ (sym (take_all i vs (omega arith))) (ap (fields_at bytes at) (sym (drop_of_length-le ws h)))
    ∙ r.done

-- each value is one that its width holds
field_small : (bytes : List ℕ) (at : ℕ) (ws : List ℕ) (i : ℕ) → get_or (fields_at bytes at ws) i 0 < 2 ^ get_or ws i 0
unfolding fields_at
field_small bytes at [] i = omega arith
field_small bytes at (w ∷ ws) zero = field_lt bytes at w
field_small bytes at (w ∷ ws) (suc i) = field_small bytes (at + w) ws i

pub fields_small : (bytes ws vs : List ℕ) → vs ≡ fields_at bytes 0 ws → (i : ℕ) → get_or vs i 0 < 2 ^ get_or ws i 0
fields_small bytes ws vs e i = rw e (field_small bytes 0 ws i)

-- there are as many values as widths
fit_length : (ws vs : List ℕ) → Fit ws vs → length ws ≡ length vs
fit_length [] [] f = refl
fit_length [] (v ∷ vs) f = absurd f
fit_length (w ∷ ws) [] f = absurd f
fit_length (w ∷ ws) (v ∷ vs) f = ap suc (fit_length ws vs f.1)

-- Writing: the values that are left, written into the bytes so far, give what all of them do.
pub record Writing (start ws vs bytes : List ℕ) (at i : ℕ) : Type 0 where
  pub left : Left bytes ws at i
  pub sized : length bytes ≡ length start
  pub counted : length ws ≡ length vs
  pub fit : Fit (drop i ws) (drop i vs)
  pub done : stored_all bytes at (drop i ws) (drop i vs) ≡ stored_all start 0 ws vs

pub writing_start : {bytes ws vs : List ℕ} → Layout bytes ws → Fit ws vs → Writing bytes ws vs bytes 0 0
writing_start {bytes} {ws} {vs} l f = record { left = left_start l; sized = refl; counted = fit_length ws vs f; fit = f; done = refl }

module _ {start ws vs bytes : List ℕ} {at i : ℕ} (r : Writing start ws vs bytes at i) (h : i < length ws) where
  here : Fit (get_or ws i 0 ∷ drop (i + 1) ws) (get_or vs i 0 ∷ drop (i + 1) vs)
  here = let k : i < length vs = omega (arith, r.counted) in rw (rest vs i k, rest ws i h) at r.fit

  -- the value at hand fits its field
  pub writing_fits : get_or vs i 0 < 2 ^ get_or ws i 0
  writing_fits = here.0

  pub writing_turn : (after : List ℕ) → after ≡ stored bytes at (get_or ws i 0) (get_or vs i 0) → Writing start ws vs after (at + get_or ws i 0) (i + 1)
  unfolding stored_all
  writing_turn after e =
      let k : i < length vs = omega (arith, r.counted) in
      let l = left_turn r.left h in
      let s : length after ≡ length bytes = ap length e ∙ length-stored bytes at (get_or ws i 0) (get_or vs i 0) in
      record {
        left =
            record {
              within = l.within;
              inside = omega (arith, l.inside, s);
              short = omega (arith, l.short, s);
              narrow = l.narrow;
            };
        sized = s ∙ r.sized;
        counted = r.counted;
        fit = here.1;
        done =
            ap (λ (l : List ℕ). stored_all l (at + get_or ws i 0) (drop (i + 1) ws) (drop (i + 1) vs)) e
            ∙ ap₂ (stored_all bytes at) (sym (rest ws i h)) (sym (rest vs i k))
            ∙ r.done;
      }

pub writing_end : {start ws vs bytes : List ℕ} {at i : ℕ} → Writing start ws vs bytes at i → length ws ≤ i → bytes ≡ stored_all start 0 ws vs
unfolding stored_all
writing_end {start} {ws} {vs} {bytes} {at} {i} r h =
    ap (λ (l : List ℕ). stored_all bytes at l (drop i vs)) (sym (drop_of_length-le ws h)) ∙ r.done
