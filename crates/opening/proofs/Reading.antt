-- The points of a file as they are read, one after the other; the places past them are zero. Assumes nothing.
use Prim.Native.Nat.{ℕ, suc, ◌+◌, ◌-◌, ◌*◌, ◌<◌}
use mathlib.Core.Path.{◌≡◌, refl, sym, ap, subst, ◌∙◌}
use mathlib.Core.Bool.{Bool, true, false, cond}
use mathlib.Core.List.{List, [], ◌∷◌, ◌++◌}
use native.Mathlib.Numerals.{add-one}
use native.Mathlib.Omega.{arith}
use lib.ListN.{length, take, drop, set, replicate}
use lib.Seq.{append_snoc, set-append_seam}
use Rattle.bits.proofs.Parts.{part}
use Rattle.lists.specs.Lists.{places_below}
use Rattle.lists.proofs.Laws.{length_places, none-next, any_further}
use Rattle.point_record.specs.declared.Point.{Point}
use Rattle.std.specs.Prelude.{Option, None, Some, MatchOption, unwrap_or, ⊤}
use Rattle.point_record.specs.Point.{decoded_point, point_in, wrong_point, no_point}
use Rattle.point_record.proofs.Laws.{point_reads}
use Rattle.opening.specs.Opening.{point_bytes, first_points, any_wrong, read_points}

-- so many points are read
pub length-points : (n : ℕ) (file : List ℕ) → length (first_points n file) ≡ n
length-points n file = length_places (λ i. point_in (point_bytes i file)) n

-- the first points, and zeros in the places past them
abbrev pub with_zeros : ℕ → List ℕ → List Point
with_zeros n file = first_points n file ++ replicate (8 - n) no_point

-- one more
pub zeros_next : (n : ℕ) (file : List ℕ) (p : Point) → n < 8 → p ≡ point_in (point_bytes n file)
    → set (with_zeros n file) n p ≡ with_zeros (n + 1) file
unfolding places_below
zeros_next n file p h e =
    let l = length-points n file in
    let rest : List Point = replicate (8 - (n + 1)) no_point in
    let r : 8 - n ≡ suc (8 - (n + 1)) = omega arith in
    ap (λ (m : ℕ). set (first_points n file ++ replicate m no_point) n p) r
    ∙ ap (λ (m : ℕ). set (first_points n file ++ no_point ∷ rest) m p) (sym l)
    ∙ set-append_seam (first_points n file) no_point rest p
    ∙ sym (append_snoc (first_points n file) p rest)
    ∙ ap (λ (x : Point). first_points n file ++ x ∷ [] ++ rest) e
    ∙ ap (λ (m : ℕ). first_points m file ++ rest) (sym (add-one n))

-- the part of the file that the code lends for a point are its bytes
pub point_part : (n : ℕ) (file : List ℕ) → take (7 + 21 * n + 21 - (7 + 21 * n)) (drop (7 + 21 * n) file) ≡ point_bytes n file
unfolding point_bytes
point_part n file = part (7 + 21 * n) 21 file

-- The answer for the point at n.
module _ (n : ℕ) (file : List ℕ) (a : Option Point) (read : a ≡ decoded_point (take (7 + 21 * n + 21 - (7 + 21 * n)) (drop (7 + 21 * n) file))) where
  answer : decoded_point (point_bytes n file) ≡ a
  answer = sym (read ∙ ap decoded_point (point_part n file))

  -- a point that is read is one more
  pub right_next : (p : Point) → a ≡ Some p → any_wrong n file ≡ false → (any_wrong (n + 1) file ≡ false) × (p ≡ point_in (point_bytes n file))
  right_next p e w =
      let r = point_reads.read_is (point_bytes n file) p (answer ∙ e) in
      (none-next (λ i. wrong_point (point_bytes i file)) n w r.0, sym r.1)

  -- one that is refused makes the file wrong
  pub wrong_here : a ≡ None → (m : ℕ) → n < m → any_wrong m file ≡ true
  wrong_here e m h = any_further (λ i. wrong_point (point_bytes i file)) n m (point_reads.refused_is (point_bytes n file) (answer ∙ e)) h

-- So many points as the code hands them back: none where one is wrong,
pub none_read : (n : ℕ) (file : List ℕ) → any_wrong n file ≡ true → None ≡ read_points n file
unfolding read_points
none_read n file w = rw w refl

-- and all of them where none is.
pub all_read : (n i : ℕ) (file : List ℕ) (ps : List Point) → i ≡ n → any_wrong i file ≡ false → ps ≡ with_zeros i file
    → Some ps ≡ read_points n file
unfolding read_points
all_read n i file ps e w r = rw (← e) (rw w (ap Some r))

-- And what is handed back says which it was.
module _ (n : ℕ) (file : List ℕ) where
  pub is_wrong : None ≡ read_points n file → any_wrong n file ≡ true
  unfolding read_points
  is_wrong = go (any_wrong n file)
    where
      go : (t : Bool) → None ≡ cond t None (Some (with_zeros n file)) → t ≡ true
      go true e = refl
      go false e = absurd (subst (λ (o : Option (List Point)). MatchOption o ⊤ (λ _. ⊥)) e tt)

  pub is_right : (ps : List Point) → Some ps ≡ read_points n file → (any_wrong n file ≡ false) × (ps ≡ with_zeros n file)
  unfolding read_points
  is_right ps = go (any_wrong n file)
    where
      go : (t : Bool) → Some ps ≡ cond t None (Some (with_zeros n file)) → (t ≡ false) × (ps ≡ with_zeros n file)
      go true e = absurd (subst (λ (o : Option (List Point)). MatchOption o ⊥ (λ _. ⊤)) e tt)
      go false e = (refl, ap (λ (o : Option (List Point)). unwrap_or o ps) e)
