-- How the words are filled while an image is walked. Assumes nothing.
--   touched     a list of words after one reference of a pass; a cluster past the list has no word
--   all_touched after a list of references, one after another
--   walked      after the walk of one L1 table: the table itself, what it leads to, and the marks taken back
--   filled      after the walk of an image, with the marks of clusters that were reached more than once
use Rattle.std.specs.Prelude.{ℕ, List, [], ◌∷◌, ◌++◌, slice_index, slice_set}
use Rattle.format.specs.declared.numbers.Numbers.{Numbers}
use Rattle.snapshot.specs.declared.records.Snapshot.{Snapshot}
use Rattle.walk.specs.declared.kinds.Kind.{Kind}
use Rattle.walk.specs.declared.kinds.Kind.TheVariants.{Header, LiveL1, SnapshotL1}
use Rattle.walk.specs.References.{Ref, kind_number, named, table_refs, block_refs, record_refs, tree_refs}
use Rattle.tally.specs.Words.{noted, unseen}

-- the two passes over a tree
pub data Pass : Type 0 where
  Note : Pass
  Forget : Pass

-- what a pass makes of a word
abbrev pub word_after : Pass → Kind → ℕ → ℕ
word_after Note kind w = noted (kind_number kind) w
word_after Forget kind w = unseen w

abbrev pub touched : Pass → Ref → List ℕ → List ℕ
touched pass r words = slice_set words r.host (word_after pass r.kind (slice_index words r.host))

abbrev pub all_touched : Pass → List Ref → List ℕ → List ℕ
all_touched pass [] words = words
all_touched pass (r ∷ rs) words = all_touched pass rs (touched pass r words)

abbrev pub walked : Numbers → List ℕ → Kind → ℕ → List ℕ → List ℕ
walked n bs kind l1 words = all_touched Forget (tree_refs n bs l1) (all_touched Note (tree_refs n bs l1) (touched Note (named n kind l1) words))

abbrev pub all_walked : Numbers → List ℕ → List Snapshot → List ℕ → List ℕ
all_walked n bs [] words = words
all_walked n bs (r ∷ rs) words = all_walked n bs rs (walked n bs SnapshotL1 r.head.l1 words)

-- what is named by the header and the refcount table
abbrev pub fixed_refs : Numbers → List ℕ → List Ref
fixed_refs n bs = named n Header 0 ∷ (table_refs n ++ block_refs n bs)

abbrev pub filled : Numbers → List ℕ → List Snapshot → List ℕ → List ℕ
filled n bs rs words = all_walked n bs rs (all_touched Note (record_refs n) (walked n bs LiveL1 n.l1 (all_touched Note (fixed_refs n bs) words)))
