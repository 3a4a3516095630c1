-- Indexes compared place by place, and a slice that says what an index says. Assumes nothing.
use Prim.Native.Nat.{ℕ, zero, suc, ◌+◌, ◌≤◌, ◌<◌}
use mathlib.Core.Path.{◌≡◌, refl, sym, ap, ap₂, ◌∙◌}
use mathlib.Core.Bool.{Bool, true, false, not, ◌&&◌, ◌||◌}
use mathlib.Core.List.{List, ◌++◌}
use native.Mathlib.Numerals.{add-one}
use native.Mathlib.Omega.{arith}
use borrow.Author.Tests.{eqb-true, eq-eqb, ltb-false, lt-ltb, le-ltb, not-false}
use lib.Dec.{eqb}
use lib.ListN.{length, get_or, take, drop, length-append, take-append-drop, get_or-append}
use lib.Seq.{ext_get_or, get_or-take, length-take-le}
use Rattle.lists.specs.Lists.{any_below}
use Rattle.lists.proofs.Laws.{none-at, tests_same}
use Rattle.index.specs.Index.{places_of, index_of, indexed, short_index, differ}
use Rattle.index.proofs.Laws.{length-index}

-- a slice that is not too short has the places
pub long_enough : (count : ℕ) (slice : List ℕ) → short_index count slice ≡ false → places_of count ≤ length slice
unfolding short_index
long_enough count slice h = ltb-false (length slice) (places_of count) h

-- one that has fewer is too short
pub is_short : (count : ℕ) (slice : List ℕ) → length slice < places_of count → short_index count slice ≡ true
unfolding short_index
is_short count slice h = lt-ltb (length slice) (places_of count) h

-- and one that has them is not
pub not_short : (count : ℕ) (slice : List ℕ) → places_of count ≤ length slice → short_index count slice ≡ false
unfolding short_index
not_short count slice h = le-ltb (length slice) (places_of count) h

-- none of the places below n passes a test where each of them fails it
none_below : (p : ℕ → Bool) (n : ℕ) → ((i : ℕ) → i < n → p i ≡ false) → any_below p n ≡ false
unfolding any_below
none_below p zero h = refl
none_below p (suc n) h = rw (none_below p n (λ i k. h i (omega arith)), h n (omega arith))

-- one that has the places has them in its part in front
pub front_long : (count places : ℕ) (slice : List ℕ) → places ≡ places_of count → short_index count slice ≡ false
    → length (take places slice) ≡ places
front_long count places slice e h = length-take-le places slice (omega (arith, e, long_enough count slice h))

-- none of no places differs
pub none_differ : (one other : List ℕ) → true ≡ not (differ 0 one other)
unfolding differ any_below
none_differ one other = refl

-- both of two tests hold where neither fails
both_hold : (a b : Bool) → (not a && b) ≡ not (a || not b)
both_hold true b = refl
both_hold false true = refl
both_hold false false = refl

-- one place more
pub differ-next : (n : ℕ) (one other : List ℕ) (same : Bool) → same ≡ not (differ n one other)
    → (same && eqb (get_or one n 0) (get_or other n 0)) ≡ not (differ (n + 1) one other)
unfolding differ any_below
differ-next n one other same e =
    rw (add-one, e) (both_hold (differ n one other) (eqb (get_or one n 0) (get_or other n 0)))

-- and so by the parts with the first n places, where k of them were compared
pub place_compared : (n k m : ℕ) (one other : List ℕ) (same : Bool) (x y : ℕ) → same ≡ not (differ k one other) → k < n → m ≡ k + 1
    → x ≡ get_or (take n one) k 0 → y ≡ get_or (take n other) k 0 → (same && eqb x y) ≡ not (differ m one other)
place_compared n k m one other same x y e h one_more ex ey =
    ap₂ (λ (a b : ℕ). same && eqb a b) (ex ∙ get_or-take n one k 0 h) (ey ∙ get_or-take n other k 0 h)
    ∙ differ-next k one other same e
    ∙ ap (λ (i : ℕ). not (differ i one other)) (sym one_more)

-- An index of so many points, in a month of so many quarters, of the first n entries.
module _ (count quarters n : ℕ) (j : List ℕ) where
  -- a slice differs from it where it differs from a table with it in front
  pub differ_table : (slice table rest : List ℕ) → table ≡ indexed count quarters n j rest
      → differ (places_of count) slice table ≡ differ (places_of count) slice (index_of count quarters n j)
  unfolding differ
  differ_table slice table rest e =
      tests_same (λ k. not (eqb (get_or slice k 0) (get_or table k 0))) (λ k. not (eqb (get_or slice k 0) (get_or (index_of count quarters n j) k 0)))
      (places_of count)
      (λ k h.
      ap (λ (x : ℕ). not (eqb (get_or slice k 0) x))
      (ap (λ (l : List ℕ). get_or l k 0) e
      ∙ get_or-append (index_of count quarters n j) (drop (places_of count) rest) 0 k (omega (arith, length-index count quarters j rest n))))

  -- a slice that does not differ says what the index says
  pub says : (slice : List ℕ) → places_of count ≤ length slice → differ (places_of count) slice (index_of count quarters n j) ≡ false
      → slice ≡ indexed count quarters n j slice
  unfolding differ
  says slice long h =
      let front = places_of count in
      let size : length (take front slice) ≡ front = length-take-le front slice long in
      let same : take front slice ≡ index_of count quarters n j =
      ext_get_or 0 (take front slice) (index_of count quarters n j) (size ∙ sym (length-index count quarters j slice n))
      (λ i within.
      let k : i < front = omega (arith, size) in
      get_or-take front slice i 0 k
      ∙ eqb-true (get_or slice i 0) (get_or (index_of count quarters n j) i 0)
      (not-false _ (none-at (λ x. not (eqb (get_or slice x 0) (get_or (index_of count quarters n j) x 0))) front i h k))) in
      sym (take-append-drop front slice) ∙ ap (λ (l : List ℕ). l ++ drop front slice) same

  -- and one that says it has the places, and does not differ
  pub said_long : (slice : List ℕ) → slice ≡ indexed count quarters n j slice → places_of count ≤ length slice
  said_long slice e =
      let size : length slice ≡ length (index_of count quarters n j ++ drop (places_of count) slice) = ap length e in
      omega (arith, length-append (index_of count quarters n j) (drop (places_of count) slice), length-index count quarters j slice n)

  pub said : (slice : List ℕ) → slice ≡ indexed count quarters n j slice → differ (places_of count) slice (index_of count quarters n j) ≡ false
  unfolding differ
  said slice e =
      none_below (λ k. not (eqb (get_or slice k 0) (get_or (index_of count quarters n j) k 0))) (places_of count)
      (λ k h.
      ap not
      (eq-eqb (get_or slice k 0) (get_or (index_of count quarters n j) k 0)
      (ap (λ (l : List ℕ). get_or l k 0) e
      ∙ get_or-append (index_of count quarters n j) (drop (places_of count) slice) 0 k (omega (arith, length-index count quarters j slice n)))))
