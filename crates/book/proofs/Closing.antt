-- Close and totals, after the book was judged. Assumes nothing.
use mathlib.Core.Path.{◌≡◌}
use mathlib.Core.Bool.{true, false}
use native.Mathlib.Omega.{arith}
use Rattle.std.specs.Prelude.{Ok, Err}
use Rattle.answers.specs.declared.Refusal.{Refusal}
use Rattle.answers.specs.Numbers.{number_of}
use Rattle.answers.proofs.Refusing.{refused-number}
use Rattle.refusals.specs.Refusals.{first}
use Rattle.refusals.proofs.First.{skip, stop, refuse}
use Rattle.machine.specs.Machine.{close}
use Rattle.book.specs.declared.Book.{Book}
use Rattle.book.specs.Library.{Lent, guards, with_closed, outcome, called, totals_answer, totals_given}
use Rattle.book.proofs.Numbers.{sound_refused, sound_accepted}
use Rattle.book.proofs.Sound.{Sound}

module _ (b : Book) (l : Lent) where
  -- a closed book cannot be closed
  pub closed_already : Sound b l → b.closed ≡ true → outcome 8 b l ≡ called b l close
  closed_already s h = sound_refused s close 8 (omega arith) (stop 8 0 h)

  -- an open one can
  pub closed_now : Sound b l → b.closed ≡ false → outcome 0 (with_closed b true) l ≡ called b l close
  closed_now s h = sound_accepted s close (skip 8 0 h)

  -- totals gives nothing beside a number
  pub given_nothing : (r : Refusal) → number_of r ≡ first (guards b l) → totals_answer (Err r) ≡ totals_given b l
  unfolding totals_given
  given_nothing r h = rw (← h, refuse (refused-number r))

  -- and else what the book stores
  pub given-totals : 0 ≡ first (guards b l) → totals_answer (Ok (record { points = b.totals; length = b.length })) ≡ totals_given b l
  unfolding totals_given
  given-totals h = rw (← h)
