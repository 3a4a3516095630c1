-- The totals restated: an entry more and an entry less each change one place of the machine's totals. Assumes nothing.
use Prim.Native.Nat.{ℕ, suc, ◌+◌, ◌-◌, ◌^◌, ◌≤◌, ◌<◌}
use mathlib.Core.Path.{◌≡◌, sym, ap, ◌∙◌}
use mathlib.Core.List.{List, [], ◌∷◌, ◌++◌}
use native.Mathlib.Omega.{arith}
use lib.ListN.{length}
use Rattle.quantity.specs.Quantity.{capped}
use Rattle.point_record.specs.declared.Point.{Point}
use Rattle.entry_record.specs.declared.Entry.{Entry}
use Rattle.worth.specs.declared.Figures.{Figures}
use Rattle.worth.specs.Figures.{Column, figure, each}
use Rattle.worth.proofs.Columns.{columns, each_column}
use Rattle.machine.specs.Machine.{worth_in, total_of, totals_of}
use Rattle.machine.proofs.Totals.{totals_get, totals-set, total_here, total_other}
use Rattle.journal.specs.Journal.{entries, entry_at, standing_place}
use Rattle.journal.proofs.Entries.{one_more}
use Rattle.restating.specs.Restating.{exchanged, restated, worth_at}
use Rattle.restating.specs.Steps.{exchanged_held}
use Rattle.audit.proofs.Places.{key_worth_lem}

-- figures that add up with those that go out to what there was and those that come in
exchange : (a x o b : Figures) → ((c : Column) → figure b c + figure o c ≡ figure a c + figure x c) → exchanged a x o ≡ b
exchange a x o b same =
    columns (exchanged a x o) b
    (λ c. let e = each_column (λ d. figure a d + figure x d - figure o d) c in omega (arith, same c))

-- no sum is cut off at 64 bits that is below 2 to the power of 64
pub held : (a x o : Figures) → ((c : Column) → figure a c + figure x c < 2 ^ 64) → exchanged_held a x o ≡ exchanged a x o
unfolding exchanged_held
held a x o small =
    columns (each (λ c. capped 64 (figure a c + figure x c) - figure o c)) (exchanged a x o)
    (λ c.
    let u = each_column (λ d. capped 64 (figure a d + figure x d) - figure o d) c in
    let v = each_column (λ d. figure a d + figure x d - figure o d) c in
    omega (arith, small c))

-- The first n entries of a journal, and a point of at most eight.
module _ (ps : List Point) (n : ℕ) (j : List ℕ) where
  -- one law of both steps: the worth x comes in at a point's place, and o goes out
  one_place : (l m : List Entry) (p : ℕ) (x o : Figures) → p < length ps → length ps ≤ 8
      → ((k : ℕ) → (k ≡ p → ⊥) → total_of ps m k ≡ total_of ps l k)
      → ((c : Column) → figure (total_of ps m p) c + figure o c ≡ figure (total_of ps l p) c + figure x c)
      → restated (totals_of ps l) p x o ≡ totals_of ps m
  one_place l m p x o inside most others same =
      totals-set ps p inside most l m _ others
      (ap (λ (f : Figures). exchanged f x o) (totals_get ps p inside most l) ∙ exchange (total_of ps l p) x o (total_of ps m p) same)

  -- the figures of a point after an entry more
  step : (e : Entry) (c : Column)
      → figure (total_of ps (entries n j ++ e ∷ []) e.point) c + figure (worth_at ps (standing_place e.point e.quarter n j) j) c
      ≡ figure (total_of ps (entries n j) e.point) c + figure (worth_in ps e) c
  step e c = omega (arith, total_here ps (entries n j) e c, key_worth_lem ps e.point e.quarter n j c)

  -- an entry more: its worth comes in, and that of the entry standing for its key goes out
  pub one_in : (e : Entry) → e.point < length ps → length ps ≤ 8
      → restated (totals_of ps (entries n j)) e.point (worth_in ps e) (worth_at ps (standing_place e.point e.quarter n j) j)
      ≡ totals_of ps (entries n j ++ e ∷ [])
  one_in e inside most =
      one_place (entries n j) (entries n j ++ e ∷ []) e.point (worth_in ps e) (worth_at ps (standing_place e.point e.quarter n j) j)
      inside most (total_other ps (entries n j) e) (step e)

  -- an entry less: its worth goes out, and that of the entry standing for its key before it comes in
  pub one_out : let e = entry_at n j in
      e.point < length ps → length ps ≤ 8
      → restated (totals_of ps (entries (suc n) j)) e.point (worth_at ps (standing_place e.point e.quarter n j) j) (worth_in ps e)
      ≡ totals_of ps (entries n j)
  one_out inside most =
      let e = entry_at n j in
      let x = worth_at ps (standing_place e.point e.quarter n j) j in
      ap (λ (l : List Entry). restated (totals_of ps l) e.point x (worth_in ps e)) (one_more n j)
      ∙ one_place (entries n j ++ e ∷ []) (entries n j) e.point x (worth_in ps e) inside most
      (λ k other. sym (total_other ps (entries n j) e k other)) (λ c. sym (step e c))
