-- `statement_text::page::Page::word` meets its contract.
use mathlib.Core.Path.{◌≡◌, refl}
use native.Mathlib.Omega.{arith}
use borrow.Author.Rules.{rules}
use lib.ListN.{length}
use Rattle.statement_text.proofs.Pages.{copied}
use Rattle.statement_text.proofs.page.Page.word.Goals as goal

pub returns : goal.returns
returns c =
    let room : length c.args.self.bytes ≡ 2048 = search rules in
    record { stored = copied _ _ _ _ _ c.copy_from_slice.ensures.after (omega arith) (omega arith); longer = refl }
