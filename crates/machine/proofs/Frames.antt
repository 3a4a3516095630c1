-- What a file's header and points say stays through every list of calls. Assumes nothing.
use mathlib.Core.Path.{◌≡◌, refl, ◌∙◌}
use mathlib.Core.Bool.{Bool, true, false, cond}
use mathlib.Core.List.{List, [], ◌∷◌}
use lib.Dec.{eqb}
use Rattle.refusals.specs.Refusals.{first}
use Rattle.machine.specs.Machine.{State, Change, deliver, take_back, close, Call, change, totals, conditions, step, changed, next, run}

-- through a step
step-frame : (s : State) (c : Change) → (step s c).frame ≡ s.frame
step-frame s (deliver bytes) = refl
step-frame s take_back = refl
step-frame s close = refl

-- through a call, accepted or not
next-frame : (s : State) (c : Call) → (next s c).frame ≡ s.frame
unfolding changed
next-frame s (change c) = go (eqb (first (conditions s c)) 0)
  where
    go : (accepted : Bool) → (cond accepted (step s c) s).frame ≡ s.frame
    go true = step-frame s c
    go false = refl
next-frame s totals = refl

-- through all
pub run-frame : (s : State) (cs : List Call) → (run s cs).frame ≡ s.frame
unfolding run
run-frame s [] = refl
run-frame s (c ∷ cs) = run-frame (next s c) cs ∙ next-frame s c
