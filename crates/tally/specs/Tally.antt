-- The tally: for each host cluster the kind that it is named as, and how often. Assumes nothing.
--   times        how often a cluster is named
--   merged       a kind joined by another: 0 is none, 15 several
--   kind_from    the kind of a cluster after some references, from the kind before them
--   tally_word   the kind in bits 31 to 28, and the references below, held at 2 to the 28 less 1
--   tally        a word for each of k host clusters
--   any_twice    whether the L1 table of one of some snapshots reaches a cluster more than once
--   twice        whether the live one or a snapshot's does
use Rattle.std.specs.Prelude.{ℕ, ◌+◌, ◌-◌, ◌*◌, ◌^◌, min, Bool, false, cond, ◌||◌, List, [], ◌∷◌, map, ◌==◌, nat_le}
use Rattle.std.specs.List.{range_with_len}
use Rattle.format.specs.declared.numbers.Numbers.{Numbers}
use Rattle.snapshot.specs.declared.records.Snapshot.{Snapshot}
use Rattle.walk.specs.References.{Ref, kind_number, tree_refs}

abbrev pub times : ℕ → List Ref → ℕ
times h [] = 0
times h (r ∷ rs) = cond (h == r.host) 1 0 + times h rs

abbrev pub merged : ℕ → ℕ → ℕ
merged j k = cond (j == 0) k (cond (j == k) k 15)

abbrev pub kind_from : ℕ → ℕ → List Ref → ℕ
kind_from h j [] = j
kind_from h j (r ∷ rs) = kind_from h (cond (h == r.host) (merged j (kind_number r.kind)) j) rs

abbrev pub tally_word : List Ref → ℕ → ℕ
tally_word refs h = kind_from h 0 refs * 2 ^ 28 + min (2 ^ 28 - 1) (times h refs)

abbrev pub tally : List Ref → ℕ → List ℕ
tally refs k = map (tally_word refs) (range_with_len 0 k)

abbrev pub any_twice : Numbers → List ℕ → List Snapshot → ℕ → Bool
any_twice n bs [] h = false
any_twice n bs (r ∷ rs) h = nat_le 2 (times h (tree_refs n bs r.head.l1)) || any_twice n bs rs h

abbrev pub twice : Numbers → List ℕ → List Snapshot → ℕ → Bool
twice n bs rs h = nat_le 2 (times h (tree_refs n bs n.l1)) || any_twice n bs rs h
