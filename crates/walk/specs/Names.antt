-- What a person reads of a kind. Assumes nothing.
--   kind_name   its name, as bytes
use Rattle.std.specs.Prelude.{ℕ, List, codes}
use Rattle.walk.specs.declared.kinds.Kind.{Kind}
use Rattle.walk.specs.declared.kinds.Kind.TheVariants.{Header, RefcountTable, Block, LiveL1, SnapshotTable, SnapshotL1, L2, Data}

abbrev pub kind_name : Kind → List ℕ
kind_name Header = codes "header"
kind_name RefcountTable = codes "refcount table"
kind_name Block = codes "refcount block"
kind_name LiveL1 = codes "L1 table"
kind_name SnapshotTable = codes "snapshot table"
kind_name SnapshotL1 = codes "snapshot L1 table"
kind_name L2 = codes "L2 table"
kind_name Data = codes "data"
