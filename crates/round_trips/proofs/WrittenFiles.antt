-- A file made of a header and points in range and of bytes behind them: it is opened, with this header, these points and these
-- bytes. Assumes nothing.
use Prim.Native.Nat.{ℕ, zero, suc, ◌+◌, ◌*◌, ◌≤◌, ◌<◌}
use mathlib.Core.Path.{◌≡◌, refl, sym, ap, ap₂, ◌∙◌}
use mathlib.Core.Bool.{true, false, ◌||◌}
use mathlib.Core.List.{List, [], ◌∷◌, ◌++◌, append_assoc}
use native.Mathlib.Omega.{arith}
use lib.ListN.{length, get_or, take, drop, replicate, length-append}
use lib.Seq.{take_all, take_at, take-suc, drop_at, drop-drop}
use Rattle.refusals.proofs.Tests.{both}
use Rattle.lists.specs.Lists.{all_of, any_below, places_below}
use Rattle.lists.proofs.Laws.{all_at}
use Rattle.header_record.specs.declared.Header.{Header}
use Rattle.std.specs.Prelude.{Some}
use Rattle.point_record.specs.declared.Point.{Point}
use Rattle.header_record.specs.Header.{header_in_range, decoded_header, wrong_header}
use Rattle.point_record.specs.Point.{point_in_range, decoded_point, encoded_point, point_in, wrong_point, no_point}
use Rattle.header_record.proofs.Laws.{header_reads, header_round_trip}
use Rattle.point_record.proofs.Laws.{point_reads, point_round_trip}
use Rattle.opening.specs.Opening.{header_bytes, point_bytes, header, points, first_points, any_wrong}
use Rattle.opening.proofs.Accepted.{Openable}
use Rattle.writing.specs.Writing.{written_header, written_points}
use Rattle.round_trips.proofs.Parts.{rest}
use Rattle.writing.proofs.PointsWritten.{length-points}

-- the bytes of a header in range are read as it, and are 7
header_read : (h : Header) → header_in_range h ≡ true
    → (decoded_header (written_header h) ≡ Some h) × (length (written_header h) ≡ 7)
unfolding written_header
header_read h t =
    let d = (header_round_trip.decodes h (replicate 7 0) t refl).1 in
    (d, (header_round_trip.accepts h (written_header h) d).1)

-- the bytes of a point
abbrev point : Point → List ℕ
point p = (encoded_point p (replicate 21 0)).1

-- those of one in range are read as it, and are 21
point_read : (p : Point) → point_in_range p ≡ true → (decoded_point (point p) ≡ Some p) × (length (point p) ≡ 21)
point_read p t =
    let d = (point_round_trip.decodes p (replicate 21 0) t refl).1 in
    (d, (point_round_trip.accepts p (point p) d).1)

-- those of points in range stand in their order
point_at : (ps : List Point) (i : ℕ) (tail : List ℕ) → all_of point_in_range ps ≡ true → i < length ps
    → take 21 (drop (21 * i) (written_points ps ++ tail)) ≡ point (get_or ps i no_point)
unfolding written_points all_of
point_at [] i tail h k = absurd (omega arith)
point_at (p ∷ ps) zero tail h k =
    ap (take 21) (append_assoc (point p) (written_points ps) tail)
    ∙ take_at (point p) (written_points ps ++ tail) 21 (point_read p (both (point_in_range p) (all_of point_in_range ps) h).0).1
point_at (p ∷ ps) (suc i) tail h k =
    let s = both (point_in_range p) (all_of point_in_range ps) h in
    let m : 21 * suc i ≡ 21 + 21 * i = omega arith in
    ap₂ (λ (n : ℕ) (l : List ℕ). take 21 (drop n l)) m (append_assoc (point p) (written_points ps) tail)
    ∙ ap (take 21) (sym (drop-drop (21 * i) 21 (point p ++ (written_points ps ++ tail))))
    ∙ ap (λ (l : List ℕ). take 21 (drop (21 * i) l)) (drop_at (point p) (written_points ps ++ tail) 21 (point_read p s.0).1)
    ∙ point_at ps i tail s.1 (omega arith)

-- The file.
module _ (h : Header) (ps : List Point) (tail : List ℕ) (good : header_in_range h ≡ true) (right : all_of point_in_range ps ≡ true) where
  abbrev file : List ℕ
  file = written_header h ++ written_points ps ++ tail

  -- the bytes of its header
  header_part : header_bytes file ≡ written_header h
  unfolding header_bytes
  header_part =
      ap (take 7) (append_assoc (written_header h) (written_points ps) tail)
      ∙ take_at (written_header h) (written_points ps ++ tail) 7 (header_read h good).1

  -- its header is h
  pub header_is : (wrong_header (header_bytes file) ≡ false) × (header file ≡ h)
  header_is = header_reads.read_is (header_bytes file) h (ap decoded_header header_part ∙ (header_read h good).0)

  -- the bytes of each point
  point_part : (i : ℕ) → i < length ps → point_bytes i file ≡ point (get_or ps i no_point)
  unfolding point_bytes
  point_part i k =
      ap (take 21) (sym (drop-drop (21 * i) 7 file))
      ∙ ap (λ (l : List ℕ). take 21 (drop (21 * i) (drop 7 l))) (append_assoc (written_header h) (written_points ps) tail)
      ∙ ap (λ (l : List ℕ). take 21 (drop (21 * i) l)) (drop_at (written_header h) (written_points ps ++ tail) 7 (header_read h good).1)
      ∙ point_at ps i tail right k

  -- each point is the one of ps
  point_is : (i : ℕ) → i < length ps → (wrong_point (point_bytes i file) ≡ false) × (point_in (point_bytes i file) ≡ get_or ps i no_point)
  point_is i k =
      point_reads.read_is (point_bytes i file) (get_or ps i no_point)
      (ap decoded_point (point_part i k) ∙ (point_read (get_or ps i no_point) (all_at point_in_range ps i no_point right k)).0)

  -- none of them is wrong
  none_wrong : (n : ℕ) → n ≤ length ps → any_wrong n file ≡ false
  unfolding any_below
  none_wrong zero k = refl
  none_wrong (suc n) k = ap₂ ◌||◌ (none_wrong n (omega arith)) (point_is n k).0

  -- the first ones are those of ps
  first-points : (n : ℕ) → n ≤ length ps → first_points n file ≡ take n ps
  unfolding places_below
  first-points zero k = refl
  first-points (suc n) k =
      ap₂ (λ (l : List Point) (p : Point). l ++ p ∷ []) (first-points n (omega arith)) (point_is n k).1
      ∙ sym (take-suc ps n no_point k)

  -- Header and points agree on how many points there are.
  module _ (count : length ps ≡ h.points) where
    -- so many does the file have
    points_count : (header file).points ≡ length ps
    points_count = ap (λ (x : Header). x.points) header_is.1 ∙ sym count

    -- its points are ps
    pub points_are : points file ≡ ps
    points_are =
        ap (λ (n : ℕ). first_points n file) points_count ∙ first-points (length ps) (omega arith) ∙ take_all (length ps) ps (omega arith)

    -- the length of header and points
    head_length : length (written_header h ++ written_points ps) ≡ 7 + 21 * length ps
    head_length = length-append (written_header h) (written_points ps) ∙ omega (arith, (header_read h good).1, length-points ps)

    -- what stands behind them
    pub rest_is : rest file ≡ tail
    rest_is =
        ap (λ (n : ℕ). drop (7 + 21 * n) file) points_count
        ∙ drop_at (written_header h ++ written_points ps) tail (7 + 21 * length ps) head_length

    -- it is opened, with the bytes of as many entries as the header has
    pub written_opens : length tail ≡ 12 * h.entries → Openable file
    written_opens l =
        record {
          header_right = header_is.0;
          long =
              length-append (written_header h ++ written_points ps) tail
              ∙ omega (arith, head_length, points_count, ap (λ (x : Header). x.entries) header_is.1);
          points_right = ap (λ (n : ℕ). any_wrong n file) points_count ∙ none_wrong (length ps) (omega arith);
        }
