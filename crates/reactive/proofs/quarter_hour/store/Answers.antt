-- `reactive::quarter_hour::store` meets its contract: five numbers, one after the other.
use Rattle.reactive.proofs.Shares.{stored}
use Rattle.reactive.proofs.quarter_hour.store.Goals as goal

pub returns : goal.returns
returns c =
    let put = c in
    let n₅ = put in
    let n₄ = n₅ in
    let n₃ = n₄ in
    let n₂ = n₃ in
    let n₁ = n₂ in
    let s = n₁ in
    stored s.args.shares s.args.bytes.now _ _ _ _ _ _ n₁.count.ensures n₂.count-2.ensures n₃.count-3.ensures
    n₄.count-4.ensures n₅.count-5.ensures s.requires put.put_words.ensures
