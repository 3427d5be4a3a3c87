-- Big-endian numbers in a store. Assumes nothing.
--   word   the number in the w bytes at a place, or the refusal there
--   word_by   the same of any type of numbers
--   held   a place held at the largest number of 64 bits, which lies past every store
use Rattle.std.specs.Prelude.{ℕ, ◌-◌, ◌^◌, min, List, Ok, Result}
use Rattle.fault.specs.declared.Fault.{Fault}
use Rattle.fault.specs.Outcomes.{and_then}
use Rattle.byte_lists.specs.Numbers.{be}
use Rattle.store.specs.Stores.{load}

abbrev pub word : List ℕ → ℕ → ℕ → Result ℕ Fault
word bs place w = and_then (load bs place w) λ b. Ok (be b)

abbrev pub word_by : {N : Type 0} → (List ℕ → N) → ℕ → List ℕ → ℕ → Result N Fault
word_by of_bytes width bs place = and_then (load bs place width) λ b. Ok (of_bytes b)

abbrev pub held : ℕ → ℕ
held x = min (2 ^ 64 - 1) x
