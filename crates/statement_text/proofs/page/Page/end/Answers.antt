-- `statement_text::page::Page::end` meets its contract.
use Rattle.statement_text.proofs.page.Page.end.Goals as goal

pub returns : goal.returns
returns c = c.byte.ensures
