-- What open answers, hands back and leaves of the index, from its tests in their order and from what its calls ensure. Assumes nothing.
use Prim.Native.Nat.{ℕ, ◌+◌, ◌-◌, ◌*◌, ◌<◌, ◌≤◌}
use mathlib.Core.Path.{◌≡◌, sym, ap, ◌∙◌}
use mathlib.Core.Bool.{true, false, cond, not}
use mathlib.Core.List.{List, ◌++◌}
use native.Mathlib.Omega.{arith}
use borrow.Author.Tests.{lt-ltb, le-ltb, eq-eqb, ne_eqb}
use lib.Dec.{eqb}
use lib.ListN.{length, take, replicate, length-take}
use Rattle.header_record.specs.declared.Header.{Header}
use Rattle.std.specs.Prelude.{Option, None, Some, Result, Ok, Err}
use Rattle.point_record.specs.declared.Point.{Point}
use Rattle.header_record.specs.Header.{decoded_header, wrong_header}
use Rattle.point_record.specs.Point.{no_point}
use Rattle.header_record.proofs.Headers.{in_range_lem}
use Rattle.header_record.proofs.Laws.{header_reads}
use Rattle.answers.specs.declared.Refusal.{Refusal}
use Rattle.answers.specs.declared.Refusal.TheVariants.{TooShort, WrongHeader, WrongLength, WrongPoint, ShortIndex}
use Rattle.answers.specs.Numbers.{number_of, answered}
use Rattle.answers.proofs.Refusing.{refused-number}
use Rattle.book.specs.declared.Book.{Book}
use Rattle.refusals.proofs.First.{skip, stop, refuse}
use Rattle.index.specs.Index.{short_index, cleared}
use Rattle.opening.specs.Opening.{header_bytes, header, points, first_points, any_wrong, wrong_length, read_points, opening_number, master_of, padded, fresh_of, handed_back, opened_book, opened_index}
use Rattle.opening.proofs.Reading.{with_zeros, length-points, is_wrong, is_right}

-- What opening gives for the file and the index, and what is left of the index.
abbrev pub Opens : List ℕ → List ℕ → Result Book Refusal → List ℕ → Type 0
Opens file x r left =
    record {
      answer_value : answered r ≡ opening_number file x;
      book_value : handed_back r ≡ opened_book file x;
      index_after : left ≡ opened_index file x;
    }

-- a refusal is what it gives where its number is the file's
refuses : (file x : List ℕ) (r : Refusal) → opening_number file x ≡ number_of r → Opens file x (Err r) x
unfolding opened_book opened_index
refuses file x r e =
    let p = refused-number r in
    record { answer_value = sym e; book_value = rw (e, refuse p); index_after = rw (e, refuse p) }

-- the points of a file with zeros in the places past them
padded-points : (n : ℕ) (file : List ℕ) → with_zeros n file ≡ padded (first_points n file)
padded-points n file = ap (λ (k : ℕ). first_points n file ++ replicate (8 - k) no_point) (sym (length-points n file))

-- The tests in their order.
module _ (file x : List ℕ) where
  -- 1: fewer than 7 bytes
  pub too_short : length file < 7 → Opens file x (Err TooShort) x
  unfolding opening_number
  too_short h = refuses file x TooShort (stop 1 _ (lt-ltb (length file) 7 h))

  -- there are 7 bytes for the header otherwise
  pub header-bytes : 7 ≤ length file → 7 ≡ length (take 7 file)
  header-bytes long = simp length-take (omega arith)

  -- A file of 7 bytes or more, and the decoder's answer for the first 7.
  module _ (long : 7 ≤ length file) (a : Option Header) (d : a ≡ decoded_header (take 7 file)) where
    -- 2: the header is refused
    pub wrong_header_lem : a ≡ None → Opens file x (Err WrongHeader) x
    unfolding opening_number header_bytes
    wrong_header_lem e =
        refuses file x WrongHeader
        (skip 1 _ (le-ltb (length file) 7 long) ∙ stop 2 _ (header_reads.refused_is (take 7 file) (sym d ∙ e)))

    -- The header is read.
    module _ (h : Header) (e : a ≡ Some h) where
      -- it is the file's, and 2 does not stop it
      header_read : (wrong_header (header_bytes file) ≡ false) × (header file ≡ h)
      unfolding header_bytes
      header_read = header_reads.read_is (take 7 file) h (sym d ∙ e)

      -- it has at most 8 points
      pub few_points : h.points ≤ 8
      few_points =
          let r = in_range_lem (header file) (header_reads.range (header_bytes file) header_read.0).0 in
          omega (arith, r.points_most, ap (λ (x : Header). x.points) header_read.1)

      -- 3, 4 and 17 are left
      header-passed : opening_number file x
          ≡ cond (wrong_length file) 3 (cond (any_wrong (header file).points file) 4 (cond (short_index (header file).points x) 17 0))
      unfolding opening_number
      header-passed = skip 1 _ (le-ltb (length file) 7 long) ∙ skip 2 _ header_read.0

      -- the length that it asks for
      abbrev size : ℕ
      size = 7 + 21 * h.points + 12 * h.entries

      -- 3 asks for that length
      length_tested : wrong_length file ≡ not (eqb (length file) size)
      unfolding wrong_length
      length_tested = ap (λ (x : Header). not (eqb (length file) (7 + 21 * x.points + 12 * x.entries))) header_read.1

      -- 3: another length
      pub wrong_length_lem : (length file ≡ size → ⊥) → Opens file x (Err WrongLength) x
      wrong_length_lem w =
          refuses file x WrongLength (header-passed ∙ stop 3 _ (length_tested ∙ ap not (ne_eqb (length file) size w)))

      -- The length is right, and the points are read.
      module _ (l : length file ≡ size) (read : Option (List Point)) (given : read ≡ read_points h.points file) where
        -- 4 and 17 are left
        points_tested : opening_number file x ≡ cond (any_wrong h.points file) 4 (cond (short_index h.points x) 17 0)
        points_tested =
            header-passed
            ∙ skip 3 _ (length_tested ∙ ap not (eq-eqb (length file) size l))
            ∙ ap (λ (y : Header). cond (any_wrong y.points file) 4 (cond (short_index y.points x) 17 0)) header_read.1

        -- 4: a wrong point
        pub wrong_point_lem : read ≡ None → Opens file x (Err WrongPoint) x
        wrong_point_lem none = refuses file x WrongPoint (points_tested ∙ stop 4 _ (is_wrong h.points file (sym none ∙ given)))

        -- No wrong point.
        module _ (ps : List Point) (some : read ≡ Some ps) where
          right : (any_wrong h.points file ≡ false) × (ps ≡ with_zeros h.points file)
          right = is_right h.points file ps (sym some ∙ given)

          -- 17: the index is too short
          pub short-index : short_index h.points x ≡ true → Opens file x (Err ShortIndex) x
          short-index w = refuses file x ShortIndex (points_tested ∙ skip 4 _ right.0 ∙ stop 17 0 w)

          -- it is long enough: the book of the header and the points, and the index cleared for them
          pub accepts : short_index h.points x ≡ false → (b : Book) → b ≡ fresh_of (master_of h ps) → (left : List ℕ)
              → left ≡ cleared h.points x → Opens file x (Ok b) left
          unfolding opened_book opened_index
          accepts w b f left e =
              let n : opening_number file x ≡ 0 = points_tested ∙ skip 4 _ right.0 ∙ skip 17 0 w in
              let m : fresh_of (master_of h ps) ≡ fresh_of (master_of (header file) (padded (points file))) =
              ap (λ (l : List Point). fresh_of (master_of h l)) (right.1 ∙ padded-points h.points file)
              ∙ ap (λ (y : Header). fresh_of (master_of y (padded (first_points y.points file)))) (sym header_read.1) in
              record {
                answer_value = sym n;
                book_value = f ∙ m ∙ rw n;
                index_after = e ∙ ap (λ (y : Header). cleared y.points x) (sym header_read.1) ∙ rw n;
              }
