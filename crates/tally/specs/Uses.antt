-- What clusters are used as and how they are marked, by the numbers of a tally word. Assumes nothing.
--   use_number    0 is free, 15 several
--   mark_number   0 not reached from this table, 1 reached once, 2 reached more than once from some table
--   use_name      what a person reads of a use, as bytes
use Rattle.std.specs.Prelude.{ℕ, List, codes}
use Rattle.walk.specs.References.{kind_number}
use Rattle.walk.specs.Names.{kind_name}
use Rattle.tally.specs.declared.uses.Used.{Used}
use Rattle.tally.specs.declared.uses.Used.TheVariants.{Free, As, Several}
use Rattle.tally.specs.declared.words.Mark.{Mark}
use Rattle.tally.specs.declared.words.Mark.TheVariants.{Unseen, Once, Often}

abbrev pub use_number : Used → ℕ
use_number Free = 0
use_number (As kind) = kind_number kind
use_number Several = 15

abbrev pub mark_number : Mark → ℕ
mark_number Unseen = 0
mark_number Once = 1
mark_number Often = 2

abbrev pub use_name : Used → List ℕ
use_name Free = codes "free"
use_name (As kind) = kind_name kind
use_name Several = codes "several"
