-- Lists of calls to a store: what they answer and leave, from bytes and limit alone. Assumes nothing.
--   Answer    what one call told, showed or did
--   answer    the answer of a call; a read takes at most `room` bytes
--   left      the bytes after a call
--   answers   the answers of a list of calls, one for each
--   leaves    the bytes after a list of calls
use Rattle.std.specs.Prelude.{ℕ, min, List, [], ◌∷◌, length, Ok, Err, Result}
use Rattle.fault.specs.declared.Fault.{Fault}
use Rattle.store.specs.Stores.{load, stored, grown}
use Rattle.store.specs.declared.calls.StoreCall.{StoreCall}
use Rattle.store.specs.declared.calls.StoreCall.TheVariants.{Length, Limit, Read, Replace, Grow}

pub data Answer : Type 0 where
  told : ℕ → Answer
  showed : Result (List ℕ) Fault → Answer
  did : Result (Unit {0}) Fault → Answer

-- whether a call was refused, and by which fault
abbrev pub verdict : {X : Type 0} → Result X Fault → Result (Unit {0}) Fault
verdict (Ok x) = Ok tt
verdict (Err e) = Err e

abbrev pub answer : ℕ → StoreCall → List ℕ → ℕ → Answer
answer room Length bs limit = told (length bs)
answer room Limit bs limit = told limit
answer room (Read first count) bs limit = showed (load bs first (min count room))
answer room (Replace first new) bs limit = did (verdict (stored bs first new.now))
answer room (Grow n) bs limit = did (verdict (grown bs limit n))

-- what a call that was refused or not leaves
abbrev pub after : List ℕ → Result (List ℕ) Fault → List ℕ
after bs (Ok new) = new
after bs (Err e) = bs

abbrev pub left : StoreCall → List ℕ → ℕ → List ℕ
left Length bs limit = bs
left Limit bs limit = bs
left (Read first count) bs limit = bs
left (Replace first new) bs limit = after bs (stored bs first new.now)
left (Grow n) bs limit = after bs (grown bs limit n)

abbrev pub answers : ℕ → ℕ → List StoreCall → List ℕ → List Answer
answers room limit [] bs = []
answers room limit (c ∷ cs) bs = answer room c bs limit ∷ answers room limit cs (left c bs limit)

abbrev pub leaves : ℕ → List StoreCall → List ℕ → List ℕ
leaves limit [] bs = bs
leaves limit (c ∷ cs) bs = leaves limit cs (left c bs limit)
