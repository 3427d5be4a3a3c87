use Rattle.std.proofs.Common.{◌≡◌, ◌==◌, ℕ, List, [], ◌∷◌, Some, length, false, refl, sym, ◌∙◌}
use Rattle.text.specs.Values.{number_on, number}
use Rattle.text.proofs.values.number.Goals as goal

-- digits go on from no number as from 0
from_zero : (w : List ℕ) → (length w == 0) ≡ false → number_on (Some 0) w ≡ number w
from_zero [] some = cc
from_zero (c ∷ cs) some = refl

pub loop-c-init : goal.loop-c-init
loop-c-init c = from_zero c.args.word.now (sym c.is_empty.ensures ∙ c.if-is_empty.false)
