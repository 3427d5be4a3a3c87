-- What the guest can see of an image: the live picture, and the picture of each snapshot.
--   Picture   what each guest cluster shows, by L1 index and L2 index
--   edit      a picture with one place changed
--   Kept      a snapshot's id and picture
--   Image     the live picture and all snapshots
--   no_snap, no_shot   what stands past the end of a list of snapshots
--   entry     the L2 entry that an L1 table leads to
--   read      the picture of an L1 table; kept: that of a snapshot, with its id
--   view      the image of a state
use Rattle.std.specs.Prelude.{ℕ, cond, List, [], map, ◌==◌, slice_index, slice_index_or}
use Rattle.model.specs.Clusters.{Entry, hole, Seen, nothing, seen, Heap, Shape}
use Rattle.model.specs.References.{Snap, State, l1, l2}

abbrev pub Picture : Type 0
Picture = ℕ → ℕ → Seen

abbrev pub edit : Picture → ℕ → ℕ → Seen → Picture
edit p i j z k l = cond (k == i) (cond (l == j) z (p k l)) (p k l)

pub record Kept : Type 0 where
  pub id : List ℕ
  pub shot : Picture

pub record Image : Type 0 where
  pub now : Picture
  pub past : List Kept

abbrev pub no_snap : Snap
no_snap = record { id = []; table = 0 }

abbrev pub no_shot : Kept
no_shot = record { id = []; shot = λ i j. nothing }

module _ (v : Shape) where
  abbrev pub entry : Heap → ℕ → ℕ → ℕ → Entry
  entry m t i j = slice_index_or (l2 v m (slice_index (l1 v m t) i)) j hole

  abbrev pub read : Heap → ℕ → Picture
  read m t i j = seen m (entry m t i j)

  abbrev pub kept : Heap → Snap → Kept
  kept m n = record { id = n.id; shot = read m n.table }

  abbrev pub view : State → Image
  view s = record { now = read s.heap s.live; past = map (kept s.heap) s.snaps }
