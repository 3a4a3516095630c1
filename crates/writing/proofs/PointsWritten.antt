-- The bytes of points, one after the other, as they are written. Assumes nothing.
use Prim.Native.Nat.{ℕ, ◌+◌, ◌-◌, ◌*◌, ◌<◌, ◌≤◌}
use mathlib.Core.Path.{◌≡◌, refl, sym, ap, ap₂, ◌∙◌}
use mathlib.Core.Bool.{Bool, true}
use mathlib.Core.List.{List, [], ◌∷◌, ◌++◌, append_assoc, append-nil}
use native.Mathlib.Omega.{arith}
use native.Mathlib.Numerals.{add-one}
use lib.ListN.{length, get_or, take, drop, replicate, length-append, drop_of_length-le}
use lib.Seq.{take-suc, length-take-le, get_or-take}
use Rattle.lists.specs.Lists.{all_of}
use Rattle.lists.proofs.Laws.{all_at}
use Rattle.point_record.specs.declared.Point.{Point}
use Rattle.point_record.specs.Point.{encoded_point, point_in_range}
use Rattle.point_record.proofs.Laws.{point_overwriting}
use Rattle.writing.specs.Writing.{written_points}
use Rattle.writing.proofs.Filled.{returned, length_part, part_filled, length_filled}

-- each point takes 21 bytes
pub length-points : (ps : List Point) → length (written_points ps) ≡ 21 * length ps
unfolding written_points
length-points [] = refl
length-points (p ∷ ps) =
    length-append (encoded_point p (replicate 21 0)).1 (written_points ps)
    ∙ omega (arith, point_overwriting.sized p, length-points ps)

-- the points of two lists in a row
points_append : (ps qs : List Point) → written_points (ps ++ qs) ≡ written_points ps ++ written_points qs
unfolding written_points
points_append [] qs = refl
points_append (p ∷ ps) qs =
    ap (λ (bs : List ℕ). (encoded_point p (replicate 21 0)).1 ++ bs) (points_append ps qs)
    ∙ sym (append_assoc (encoded_point p (replicate 21 0)).1 (written_points ps) (written_points qs))

-- one more
pub points_snoc : (ps : List Point) (p : Point) → written_points (ps ++ p ∷ []) ≡ written_points ps ++ (encoded_point p (replicate 21 0)).1
unfolding written_points
points_snoc ps p =
    points_append ps (p ∷ []) ∙ ap (λ (bs : List ℕ). written_points ps ++ bs) (append-nil (encoded_point p (replicate 21 0)).1)

pub points-next : (ps : List Point) (i : ℕ) (d : Point) → i < length ps
    → written_points (take (i + 1) ps) ≡ written_points (take i ps) ++ (encoded_point (get_or ps i d) (replicate 21 0)).1
points-next ps i d h =
    ap written_points (ap (λ (n : ℕ). take n ps) (add-one i) ∙ take-suc ps i d h) ∙ points_snoc (take i ps) (get_or ps i d)

-- Points in range of which the first i are written.
module _ (ps : List Point) (n : ℕ) (room : n ≤ length ps) (right : all_of point_in_range (take n ps) ≡ true)
    (out xs : List ℕ) (size : length out ≡ 21 * n) (i : ℕ) (within : i ≤ n)
    (written : xs ≡ written_points (take i ps) ++ drop (21 * i) out) where
  -- what is written takes 21 bytes for each
  length_front : length (written_points (take i ps)) ≡ 21 * i
  length_front = length-points (take i ps) ∙ ap (λ (m : ℕ). 21 * m) (length-take-le i ps (omega arith))

  -- the length stays
  pub length-written : length xs ≡ length out
  length-written = length_filled out xs (written_points (take i ps)) (21 * i) written length_front (omega arith)

  -- a point that is counted is in range
  counted_right : (d : Point) → i < n → point_in_range (get_or ps i d) ≡ true
  counted_right d h =
      ap point_in_range (sym (get_or-take n ps i d h))
      ∙ all_at point_in_range (take n ps) i d right (omega (arith, length-take-le n ps room))

  -- one more is written into the part that is lent for it
  pub written_next : (d : Point) (t : Bool) (ys : List ℕ) → i < n
      → ◌≡◌ {A = Bool × List ℕ} (t, ys) (encoded_point (get_or ps i d) (take (21 * i + 21 - 21 * i) (drop (21 * i) xs)))
      → returned xs (21 * i) (21 * i + 21) ys ≡ written_points (take (i + 1) ps) ++ drop (21 * (i + 1)) out
  written_next d t ys h e =
      let p = get_or ps i d in
      let part = take (21 * i + 21 - 21 * i) (drop (21 * i) xs) in
      let width : 21 * i + 21 - 21 * i ≡ 21 = omega arith in
      let l : length part ≡ 21 = length_part xs (21 * i) (21 * i + 21) (omega (arith, length-written)) ∙ width in
      let y : ys ≡ (encoded_point p (replicate 21 0)).1 =
      ap (λ (r : Bool × List ℕ). r.1) (e ∙ point_overwriting.writes p part (counted_right d h) l) in
      let end : 21 * i + 21 ≡ 21 * (i + 1) = omega arith in
      part_filled out xs (written_points (take i ps)) (21 * i) written length_front (21 * i + 21) ys (omega arith)
      ∙ ap₂ (λ (bs : List ℕ) (m : ℕ). (written_points (take i ps) ++ bs) ++ drop m out) y end
      ∙ ap (λ (bs : List ℕ). bs ++ drop (21 * (i + 1)) out) (sym (points-next ps i d (omega arith)))

  -- all of them
  pub written_all : i ≡ n → xs ≡ written_points (take n ps)
  written_all e =
      let none : drop (21 * i) out ≡ [] = drop_of_length-le out {i = 21 * i} (omega arith) in
      written ∙ ap (λ (bs : List ℕ). written_points (take i ps) ++ bs) none
      ∙ append-nil (written_points (take i ps)) ∙ ap (λ (m : ℕ). written_points (take m ps)) e
