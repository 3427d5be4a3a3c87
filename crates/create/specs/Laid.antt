-- Numbers written to a store one after another; one that does not fit is left out. Assumes nothing.
use Rattle.std.specs.Prelude.{ℕ, min, List, [], ◌∷◌}
use Rattle.byte_lists.specs.Numbers.{be_bytes}
use Rattle.byte_lists.specs.declared.Field.{Field}
use Rattle.store.specs.Calls.{after}
use Rattle.store.specs.Stores.{stored}

abbrev pub laid_field : Field → List ℕ → List ℕ
laid_field f bs = after bs (stored bs f.at (be_bytes (min f.wide 8) f.value))

abbrev pub laid : List Field → List ℕ → List ℕ
laid [] bs = bs
laid (f ∷ fs) bs = laid fs (laid_field f bs)
