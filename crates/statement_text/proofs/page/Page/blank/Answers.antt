-- `statement_text::page::Page::blank` meets its contract.
use mathlib.Core.Path.{refl}
use Rattle.statement_text.specs.Text.{page_of}
use Rattle.statement_text.proofs.page.Page.blank.Goals as goal

pub returns : goal.returns
unfolding page_of
returns c = record { value = refl; length_value = refl }
