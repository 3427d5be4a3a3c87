-- Outcomes: a value or the first fault. Assumes nothing.
--   demanded   a test that was passed, or the fault of one that was not
--   and_then   a judgement after another: the first fault ends it
--   each      k judgements in a row, from number i on: the first fault ends them
--   Gives     what a call answered and left is what the outcome says; a refusal leaves all as it was
--   Tells     the same of what a call may leave in any state when it refuses, as working space
use Rattle.std.specs.Prelude.{◌≡◌, ℕ, zero, suc, ◌+◌, Bool, cond, Ok, Err, Result, MatchResult}
use Rattle.fault.specs.declared.Fault.{Fault}

abbrev pub demanded : Bool → Fault → Result (Unit {0}) Fault
demanded passed f = cond passed (Ok tt) (Err f)

abbrev pub and_then : {X Y : Type 0} → Result X Fault → (X → Result Y Fault) → Result Y Fault
and_then (Ok x) f = f x
and_then (Err e) f = Err e

abbrev pub each : {X : Type 0} → (ℕ → Result X Fault) → ℕ → ℕ → Result (Unit {0}) Fault
each f i zero = Ok tt
each f i (suc k) = and_then (f i) λ _. each f (i + 1) k

abbrev pub Gives : {X : Type 0} → Result (Unit {0}) Fault → Result X Fault → X → X → Type 0
Gives r outcome before after = MatchResult r (λ _. outcome ≡ Ok after) (λ e. (outcome ≡ Err e) × (after ≡ before))

abbrev pub Tells : {X : Type 0} → Result (Unit {0}) Fault → Result X Fault → X → Type 0
Tells r outcome after = MatchResult r (λ _. outcome ≡ Ok after) (λ e. outcome ≡ Err e)
