-- Numbers as bytes, and numbers put into a list one after the other, from any place on. Assumes nothing.
use Prim.Native.Nat.{ℕ, ◌+◌, ◌*◌, ◌≤◌, ◌<◌}
use mathlib.Core.Path.{◌≡◌, refl, sym, ap, ap₂, ◌∙◌}
use mathlib.Core.List.{List, [], ◌∷◌, ◌++◌, append_assoc, append-nil}
use native.Mathlib.Numerals.{add-one}
use native.Mathlib.Omega.{arith}
use lib.ListN.{length, get_or, take, drop, length-append}
use lib.Seq.{paste, paste-zero, take-paste, drop-paste, length-paste, take_all, take-suc, length-take-le, drop-drop}
use Rattle.bits.specs.Fields.{bytes, words, with_words}
use Rattle.bits.proofs.Bytes.{length-bytes}

-- each number takes eight bytes
pub length-words : (ns : List ℕ) → length (words ns) ≡ 8 * length ns
unfolding words
length-words [] = refl
length-words (n ∷ ns) = length-append (bytes n 8) (words ns) ∙ omega (arith, length-bytes n 8, length-words ns)

-- the bytes of numbers behind numbers
pub words-++ : (ms ns : List ℕ) → words (ms ++ ns) ≡ words ms ++ words ns
unfolding words
words-++ [] ns = refl
words-++ (m ∷ ms) ns = ap (λ (l : List ℕ). bytes m 8 ++ l) (words-++ ms ns) ∙ sym (append_assoc (bytes m 8) (words ms) (words ns))

-- a copy behind a copy is one copy
paste_more : (d : List ℕ) (at : ℕ) (s t : List ℕ) (m n : ℕ) → length s ≡ m → length t ≡ n → at ≤ length d
    → paste (paste d at s m) (at + m) t n ≡ paste d at (s ++ t) (m + n)
paste_more d at s t m n es et h =
    let whole : take (m + n) (s ++ t) ≡ take m s ++ take n t =
    take_all (m + n) (s ++ t) (omega (arith, length-append s t))
    ∙ ap₂ ◌++◌ (sym (take_all m s (omega arith))) (sym (take_all n t (omega arith)))
    in
    let e : at + m + n ≡ at + (m + n) = omega arith in
    let rest : drop (at + m + n) (paste d at s m) ≡ drop (at + (m + n)) d =
    sym (drop-drop n (at + m) (paste d at s m)) ∙ ap (drop n) (drop-paste d at s m h (omega arith))
    ∙ drop-drop n (at + m) d ∙ ap (λ (k : ℕ). drop k d) e
    in
    ap₂ (λ (p q : List ℕ). p ++ take n t ++ q) (take-paste d at s m h (omega arith)) rest
    ∙ ap (λ (l : List ℕ). l ++ drop (at + (m + n)) d)
    (append_assoc (take at d) (take m s) (take n t) ∙ ap (λ (l : List ℕ). take at d ++ l) (sym whole))

-- numbers behind numbers are stored as one list of numbers
pub with_more : (out : List ℕ) (at : ℕ) (ms ns : List ℕ) → at + 8 * length ms + 8 * length ns ≤ length out
    → with_words (with_words out at ms) (at + 8 * length ms) ns ≡ with_words out at (ms ++ ns)
unfolding with_words
with_more out at ms ns h =
    let e : 8 * length ms + 8 * length ns ≡ 8 * length (ms ++ ns) = omega (arith, length-append ms ns) in
    paste_more out at (words ms) (words ns) (8 * length ms) (8 * length ns) (length-words ms) (length-words ns) (omega arith)
    ∙ ap₂ (paste out at) (sym (words-++ ms ns)) e

-- storing keeps the length
pub length_with : (out : List ℕ) (at : ℕ) (ns : List ℕ) → at + 8 * length ns ≤ length out → length (with_words out at ns) ≡ length out
unfolding with_words
length_with out at ns h = length-paste out at (words ns) (8 * length ns) h (omega (arith, length-words ns))

-- no numbers change nothing
pub with_none : (out : List ℕ) (at : ℕ) → with_words out at [] ≡ out
unfolding with_words
with_none out at = sym (paste-zero out at (words []))

-- numbers from the start on
pub with_front : (out ns : List ℕ) → 8 * length ns ≤ length out → with_words out 0 ns ≡ words ns ++ drop (length (words ns)) out
unfolding with_words
with_front out ns h =
    let e : 0 + 8 * length ns ≡ length (words ns) = omega (arith, length-words ns) in
    ap₂ (λ (l : List ℕ) (k : ℕ). l ++ drop k out) (take_all (8 * length ns) (words ns) (omega (arith, length-words ns))) e

-- one number
with_one : (out : List ℕ) (at n : ℕ) → with_words out at (n ∷ []) ≡ paste out at (bytes n 8) 8
unfolding with_words words
with_one out at n = ap (λ (l : List ℕ). paste out at l 8) (append-nil (bytes n 8))

-- The first i of some numbers, as far as `put_words` has come.
module _ (out : List ℕ) (at : ℕ) (ns : List ℕ) (room : at + 8 * length ns ≤ length out) where
  -- the list keeps its length
  pub length-first : (i : ℕ) (xs : List ℕ) → i ≤ length ns → xs ≡ with_words out at (take i ns) → length xs ≡ length out
  length-first i xs h e = ap length e ∙ length_with out at (take i ns) (omega (arith, length-take-le i ns h))

  -- one more
  pub first_next : (i : ℕ) (xs ys : List ℕ) → i < length ns → xs ≡ with_words out at (take i ns)
      → ys ≡ paste xs (at + 8 * i) (bytes (get_or ns i 0) 8) 8 → ys ≡ with_words out at (take (i + 1) ns)
  first_next i xs ys h e d =
      let ms = take i ns in
      let n = get_or ns i 0 in
      let k : length ms ≡ i = length-take-le i ns (omega arith) in
      let place : at + 8 * i ≡ at + 8 * length ms = omega arith in
      let one : take (i + 1) ns ≡ ms ++ n ∷ [] = ap (λ (j : ℕ). take j ns) (add-one i) ∙ take-suc ns i 0 h in
      d
      ∙ sym (with_one xs (at + 8 * i) n)
      ∙ ap₂ (λ (l : List ℕ) (j : ℕ). with_words l j (n ∷ [])) e place
      ∙ with_more out at ms (n ∷ []) (omega arith)
      ∙ ap (with_words out at) (sym one)

  -- all of them
  pub first_all : (i : ℕ) (xs : List ℕ) → length ns ≤ i → xs ≡ with_words out at (take i ns) → xs ≡ with_words out at ns
  first_all i xs h e = e ∙ ap (with_words out at) (take_all i ns h)
