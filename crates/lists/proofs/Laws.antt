-- Laws of the tests over lists and places. Assumes nothing.
use Prim.Native.Nat.{ℕ, zero, suc, ◌+◌, ◌≤◌, ◌<◌}
use mathlib.Core.Path.{◌≡◌, refl, sym, ap, ap₂, ◌∙◌}
use mathlib.Core.Bool.{Bool, true, false, ◌||◌, or-false, or_assoc, or-true}
use mathlib.Core.List.{List, [], ◌∷◌, ◌++◌}
use native.Mathlib.Decide.{dec_lt}
use native.Mathlib.Numerals.{add-one}
use native.Mathlib.Omega.{arith}
use native.Mathlib.Nat.{le_of_suc-le-suc, not-suc-le-zero}
use borrow.Author.Tests.{eqb-true, eqb-false}
use lib.Dec.{eqb}
use lib.ListN.{length, get_or, set, take, length-append, length-set}
use lib.Seq.{take-nil, take_all, take-append-le, ext_get_or, get_or-set_same, get_or-set_other}
use Rattle.refusals.proofs.Tests.{both, neither, second_fails}
use Rattle.lists.specs.Lists.{any_of, all_of, any_below, places_below}

module _ {A : Type 0} (p : A → Bool) where
  -- one of those before the last, or the last
  pub any_snoc : (l : List A) (x : A) → any_of p (l ++ x ∷ []) ≡ (any_of p l || p x)
  unfolding any_of
  any_snoc [] x = or-false (p x)
  any_snoc (y ∷ l) x = rw (any_snoc l x) (sym (or_assoc (p y) (any_of p l) (p x)))

  -- each of a list passes where all do
  pub all_at : (l : List A) (i : ℕ) (d : A) → all_of p l ≡ true → i < length l → p (get_or l i d) ≡ true
  unfolding all_of
  all_at [] i d h k = absurd (omega arith)
  all_at (x ∷ l) zero d h k = (both (p x) (all_of p l) h).0
  all_at (x ∷ l) (suc i) d h k = all_at l i d (both (p x) (all_of p l) h).1 (omega arith)

  -- one more that passes, after those that all do
  pub all_snoc : (l : List A) (x : A) → all_of p l ≡ true → p x ≡ true → all_of p (l ++ x ∷ []) ≡ true
  unfolding all_of
  all_snoc [] x h k = rw k
  all_snoc (y ∷ l) x h k = let b = both (p y) (all_of p l) h in rw b.0 (all_snoc l x b.1 k)

  -- Those of a list that are counted, one after the other.
  module _ (d : A) where
    next : (xs : List A) (i : ℕ) → i < length xs → all_of p (take i xs) ≡ true → p (get_or xs i d) ≡ true → all_of p (take (suc i) xs) ≡ true
    unfolding all_of
    next [] i h a e = absurd (not-suc-le-zero h)
    next (x ∷ xs) zero h a e = rw e
    next (x ∷ xs) (suc i) h a e =
        let k = both (p x) (all_of p (take i xs)) a in
        rw k.0 (next xs i (le_of_suc-le-suc h) k.1 e)

    -- one more that passes
    pub all_next : (xs : List A) (i : ℕ) → i < length xs → all_of p (take i xs) ≡ true → p (get_or xs i d) ≡ true
        → all_of p (take (i + 1) xs) ≡ true
    all_next xs i h a e = rw add-one (next xs i h a e)

    -- one that does not
    pub all_stop : (xs : List A) (i n : ℕ) → i < length xs → i < n → p (get_or xs i d) ≡ false → all_of p (take n xs) ≡ false
    unfolding all_of
    all_stop [] i n h k e = absurd (not-suc-le-zero h)
    all_stop (x ∷ xs) i zero h k e = absurd (not-suc-le-zero k)
    all_stop (x ∷ xs) zero (suc n) h k e = rw e
    all_stop (x ∷ xs) (suc i) (suc n) h k e =
        second_fails (p x) _ (all_stop xs i n (le_of_suc-le-suc h) (le_of_suc-le-suc k) e)

-- where all places of two lists but one agree, setting that one turns one list into the other
pub set_agrees : {A : Type 0} (d : A) (a b : List A) (k : ℕ) (v : A) → length a ≡ length b → k < length a → v ≡ get_or b k d
    → ((i : ℕ) → i < length a → (i ≡ k → ⊥) → get_or a i d ≡ get_or b i d) → set a k v ≡ b
set_agrees d a b k v as_long inside here others =
    ext_get_or d (set a k v) b (length-set a k v ∙ as_long) (λ i within. at i (omega (arith, length-set a k v)) (eqb i k) refl)
  where
    at : (i : ℕ) → i < length a → (same : Bool) → eqb i k ≡ same → get_or (set a k v) i d ≡ get_or b i d
    at i small true e = rw (eqb-true i k e) (get_or-set_same a k v d inside ∙ here)
    at i small false e = get_or-set_other a k i v d (eqb-false i k e) ∙ others i small (eqb-false i k e)

-- A test of places.
module _ (p : ℕ → Bool) where
  -- where none below n + 1 passes, none below n does, nor n itself
  pub none_last : (n : ℕ) → any_below p (suc n) ≡ false → (any_below p n ≡ false) × (p n ≡ false)
  unfolding any_below
  none_last n h = neither (any_below p n) (p n) h

  -- and none of them does
  pub none-at : (n i : ℕ) → any_below p n ≡ false → i < n → p i ≡ false
  none-at zero i h k = absurd (omega arith)
  none-at (suc n) i h k = let l = none_last n h in go (dec_lt i n) l.1 (none-at n i l.0)
    where
      go : Dec (i < n) → p n ≡ false → (i < n → p i ≡ false) → p i ≡ false
      go (yes b) last before = before b
      go (no b) last before = let e : i ≡ n = omega arith in ap p e ∙ last

  -- one that passes is one of any more places
  pub any_further : (i n : ℕ) → p i ≡ true → i < n → any_below p n ≡ true
  unfolding any_below
  any_further i zero h k = absurd (omega arith)
  any_further i (suc n) h k = go (dec_lt i n) (any_further i n h)
    where
      go : Dec (i < n) → (i < n → any_below p n ≡ true) → (any_below p n || p n) ≡ true
      go (yes b) before = rw (before b)
      go (no b) before = let e : n ≡ i = omega arith in rw (ap p e ∙ h, or-true)

  -- one more that does not pass
  pub none-next : (i : ℕ) → any_below p i ≡ false → p i ≡ false → any_below p (i + 1) ≡ false
  unfolding any_below
  none-next i h k = rw (add-one, h, k)

-- What stands at places.
module _ {A : Type 0} (f : ℕ → A) where
  -- there are as many as asked for
  pub length_places : (n : ℕ) → length (places_below f n) ≡ n
  unfolding places_below
  length_places zero = refl
  length_places (suc n) = omega (arith, length_places n, length-append (places_below f n) (f n ∷ []))

  -- the first of them
  pub take_places : (m n : ℕ) → m ≤ n → take m (places_below f n) ≡ places_below f m
  unfolding places_below
  take_places m zero h = let e : 0 ≡ m = omega arith in take-nil m ∙ ap (places_below f) e
  take_places m (suc n) h = go (dec_lt n m) (take_places m n)
    where
      go : Dec (n < m) → (m ≤ n → take m (places_below f n) ≡ places_below f m) → take m (places_below f (suc n)) ≡ places_below f m
      go (yes p) before =
          let e : suc n ≡ m = omega arith in
          take_all m (places_below f (suc n)) (omega (arith, length_places (suc n))) ∙ ap (places_below f) e
      go (no p) before =
          take-append-le m (places_below f n) (f n ∷ []) (omega (arith, length_places n)) ∙ before (omega arith)

-- places that hold the same
pub places_same : {A : Type 0} (f g : ℕ → A) (n : ℕ) → ((i : ℕ) → i < n → f i ≡ g i) → places_below f n ≡ places_below g n
unfolding places_below
places_same f g zero h = refl
places_same {A} f g (suc n) h =
    ap₂ (λ (l : List A) (x : A). l ++ x ∷ []) (places_same f g n (λ i k. h i (omega arith))) (h n (omega arith))

-- tests that say the same of each place
pub tests_same : (p q : ℕ → Bool) (n : ℕ) → ((i : ℕ) → i < n → p i ≡ q i) → any_below p n ≡ any_below q n
unfolding any_below
tests_same p q zero h = refl
tests_same p q (suc n) h = ap₂ ◌||◌ (tests_same p q n (λ i k. h i (omega arith))) (h n (omega arith))

-- what holds of each place holds of them all
pub all_places : {A : Type 0} (p : A → Bool) (f : ℕ → A) (n : ℕ) → ((i : ℕ) → i < n → p (f i) ≡ true) → all_of p (places_below f n) ≡ true
unfolding places_below all_of
all_places p f zero h = refl
all_places p f (suc n) h = all_snoc p (places_below f n) (f n) (all_places p f n (λ i k. h i (omega arith))) (h n (omega arith))
