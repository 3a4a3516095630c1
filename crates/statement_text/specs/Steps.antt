-- What a step of writing does to a page. No exported contract speaks of it. Assumes nothing.
use Rattle.std.specs.Prelude.{ℕ, ◌+◌, ◌≡◌, List, length}
use Rattle.std.proofs.lemmas.List.Edits.{sets}
use Rattle.statement_text.specs.declared.page.Page.{Page}

-- r is the page p with this text stored behind its own
pub record Behind (p : Page) (text : List ℕ) (r : Page) : Type 0 where
  pub stored : r.bytes ≡ sets p.bytes p.length text
  pub longer : r.length ≡ p.length + length text
