-- A page that is written one text after the other. Assumes nothing.
use Prim.Native.Nat.{ℕ, zero, suc, ◌+◌, ◌-◌, ◌≤◌}
use mathlib.Core.Path.{◌≡◌, refl, sym, ap, subst, ◌∙◌}
use mathlib.Core.List.{List, [], ◌∷◌, ◌++◌, append_assoc}
use native.Mathlib.Numerals.{unary_clauses}
use native.Mathlib.Omega.{arith}
use borrow.Rule.Slice.PartMut.{put_mid}
use lib.ListN.{length, set, take, drop, replicate, length-append, length-replicate}
use lib.Seq.{sets, sets-eq, set_comm}
use Rattle.std.proofs.lemmas.List.Edits.{paste_all}
use Rattle.std.proofs.lemmas.Slice.{put_mid-paste}
use Rattle.statement_text.specs.declared.page.Page.{Page}
use Rattle.statement_text.specs.Steps.{Behind}
use Rattle.statement_text.specs.Text.{page_of}

-- a text stored behind another
stored_behind : (s t l : List ℕ) (i : ℕ) → sets (sets l i s) (i + length s) t ≡ sets l i (s ++ t)
stored_behind [] t l i = let e : i + 0 ≡ i = omega arith in ap (λ (k : ℕ). sets l k t) e
stored_behind (b ∷ s) t l i =
    let e : i + suc (length s) ≡ suc i + length s = omega arith in
    ap (λ (k : ℕ). sets (sets (set l i b) (suc i) s) k t) e ∙ stored_behind s t (set l i b) (suc i)

-- the last byte of a text may be stored first
pub last_first : (s l : List ℕ) (i b : ℕ) → sets (set l (i + length s) b) i s ≡ sets l i (s ++ b ∷ [])
last_first [] l i b = let e : i + 0 ≡ i = omega arith in ap (λ (k : ℕ). set l k b) e
last_first (a ∷ s) l i b =
    let e : i + suc (length s) ≡ suc i + length s = omega arith in
    ap (λ (m : List ℕ). sets m (suc i) s) (set_comm l (i + suc (length s)) i b a (λ h. omega arith))
    ∙ ap (λ (k : ℕ). sets (set (set l i a) k b) (suc i) s) e
    ∙ last_first s (set l i a) (suc i) b

-- nothing is written
pub none : (p : Page) → Behind p [] p
none p = record { stored = refl; longer = omega arith }

-- a text behind another
infixl 20 ◌then◌
pub ◌then◌ : {p q r : Page} {s t : List ℕ} → Behind p s q → Behind q t r → Behind p (s ++ t) r
◌then◌ {p} {q} {r} {s} {t} first second =
    record {
      stored = second.stored ∙ ap (λ (l : List ℕ). sets l q.length t) first.stored
          ∙ ap (λ (n : ℕ). sets (sets p.bytes p.length s) n t) first.longer
          ∙ stored_behind s t p.bytes p.length;
      longer = omega (arith, first.longer, second.longer, length-append s t);
    }

-- a word copied behind the text of a page
pub copied : (l w new : List ℕ) (at k : ℕ) → new ≡ w → k ≡ length w → at + length w ≤ length l → put_mid at k l new ≡ sets l at w
copied l w new at k e n h =
    put_mid-paste at k l new w (length w) e (sym n) refl
    ∙ paste_all l at w (length w) refl
    ∙ sym (append_assoc (take at l) w (drop (at + length w) l))
    ∙ sym (sets-eq w l at h)

-- zeros without the first of them
fewer : (k n : ℕ) → drop k (replicate {A = ℕ} n 0) ≡ replicate (n - k) 0
fewer zero n = simp unary_clauses
fewer (suc k) zero = let e : zero ≡ zero - suc k = omega arith in ap (λ (m : ℕ). replicate m 0) e
fewer (suc k) (suc n) = simp unary_clauses (fewer k n)

-- a text stored from the start of zeros
on_zeros : (n : ℕ) (t : List ℕ) → length t ≤ n → sets (replicate {A = ℕ} n 0) 0 t ≡ t ++ replicate (n - length t) 0
on_zeros n t h =
    let e : 0 + length t ≡ length t = omega arith in
    sets-eq t (replicate n 0) 0 (omega (arith, length-replicate {A = ℕ} n 0))
    ∙ ap (λ (l : List ℕ). t ++ l) (ap (λ (k : ℕ). drop k (replicate n 0)) e ∙ fewer (length t) n)

-- a text on a page that had none
from_blank : {p r : Page} {t : List ℕ} → p ≡ page_of [] → Behind p t r → r.length ≤ 2048 → r ≡ page_of t
unfolding page_of
from_blank {p} {r} {t} e b h =
    let n : p.length ≡ 0 = ap (λ (q : Page). q.length) e in
    let size : r.length ≡ length t = omega (arith, b.longer) in
    let bytes = b.stored ∙ ap (λ (q : Page). sets q.bytes q.length t) e ∙ on_zeros 2048 t (omega arith) in
    λ i. record { bytes = bytes i; length = size i }

-- the text of a page lies within it
page_long : (l : List ℕ) (p : Page) → p ≡ page_of l → p.length ≤ length p.bytes
unfolding page_of
page_long l p e =
    let k : length l ≤ length (l ++ replicate (2048 - length l) 0) = omega (arith, length-append l (replicate (2048 - length l) 0)) in
    subst (λ (q : Page). q.length ≤ length q.bytes) (sym e) k

-- both, of the text t by whatever name
pub printed : {p r : Page} {s t : List ℕ} → p ≡ page_of [] → Behind p s r → r.length ≤ 2048 → s ≡ t
    → (r ≡ page_of t) × (r.length ≤ length r.bytes)
printed e b h same = let page = from_blank e b h ∙ ap page_of same in (page, page_long _ _ page)
