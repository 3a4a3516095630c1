-- The five shares at the front of a slice. Assumes nothing.
use Prim.Native.Nat.{ℕ, ◌≤◌}
use mathlib.Core.Path.{◌≡◌, ap, ◌∙◌}
use mathlib.Core.List.{List, [], ◌∷◌, ◌++◌}
use lib.ListN.{length, drop}
use Rattle.bits.specs.Fields.{words, with_words}
use Rattle.bits.proofs.Sequence.{length-words, with_front}
use Rattle.quarter.specs.declared.Shares.{Shares}
use Rattle.reactive.specs.QuarterHour.{image}

-- the five numbers, put from the first byte on
pub stored : (s : Shares) (l xs : List ℕ) (n₁ n₂ n₃ n₄ n₅ : ℕ)
    → n₁ ≡ s.paid.0
    → n₂ ≡ s.free.0
    → n₃ ≡ s.billed.0
    → n₄ ≡ s.allowance.0
    → n₅ ≡ s.disconnected.0
    → 40 ≤ length l
    → xs ≡ with_words l 0 (n₁ ∷ n₂ ∷ n₃ ∷ n₄ ∷ n₅ ∷ [])
    → xs ≡ image s ++ drop 40 l
unfolding image
stored s l xs n₁ n₂ n₃ n₄ n₅ e₁ e₂ e₃ e₄ e₅ room e =
    let ns = s.paid.0 ∷ s.free.0 ∷ s.billed.0 ∷ s.allowance.0 ∷ s.disconnected.0 ∷ [] in
    e
    ∙ (λ i. with_words l 0 (e₁ i ∷ e₂ i ∷ e₃ i ∷ e₄ i ∷ e₅ i ∷ []))
    ∙ with_front l ns room
    ∙ ap (λ (k : ℕ). words ns ++ drop k l) (length-words ns)
