-- The law over whole histories: after any list of calls the image is clean and shows what a naive machine shows.
--   imagine    what a call does on the naive machine, in which a snapshot is a whole copy of the picture; imagined: a list of calls
--   Free       a cluster that can be used as a new one
--   Writable   what a write asks for: new clusters only where they are used
--   Allowed    what a call asks for; AllowedRun: what each call of a list asks for
--   Stands     the promise for one history
--   Law        the promise for every history, from each state of which Start holds
--   In         an element of a list
--   Taken      the snapshot was taken in the run, and shows what the live image showed then
--   Lasting    each snapshot at the end was there at the start, or was taken in the run; from each state of which Start holds
--   sample     a short history: write, take a snapshot, write again, go back to it, drop it
--   Witness    a shape that keeps its laws, a state of which Start holds, and the short history, allowed there
use Rattle.std.specs.Prelude.{◌≡◌, ℕ, ◌<◌, false, ◌⊎◌, List, [], ◌∷◌, ◌++◌, map, length, ◌≢◌, slice_index_or}
use Rattle.model.specs.Clusters.{Cluster, host, Seen, holds, Shape, Laws}
use Rattle.model.specs.References.{State}
use Rattle.model.specs.Pictures.{edit, Kept, Image, no_shot, read, kept, view}
use Rattle.model.specs.Calls.{Op, Write, Take, Drop, Restore, Claim, Release, Rewrite, without, mine, table_at, entry_at, step, run}
use Rattle.model.specs.Invariant.{Clean}

abbrev pub imagine : Image → Op → Image
imagine a (Write i j f p q) = record { now = edit a.now i j (holds (f (a.now i j))); past = a.past }
imagine a (Take n p) = record { now = a.now; past = a.past ++ (record { id = n; shot = a.now } ∷ []) }
imagine a (Drop k) = record { now = a.now; past = without k a.past }
imagine a (Restore k) = record { now = (slice_index_or a.past k no_shot).shot; past = a.past }
imagine a (Claim c w) = a
imagine a (Release c w) = a
imagine a (Rewrite c w) = a

abbrev pub imagined : Image → List Op → Image
imagined a [] = a
imagined a (o ∷ os) = imagined (imagine a o) os

module _ (v : Shape) where
  pub record Free (s : State) (p : ℕ) : Type 0 where
    pub pos : 0 < p
    pub fits : p < v.limit
    pub none : s.count p ≡ 0

  -- both judged before the call: the L2 table is not the live table's own, the data is not its own
  pub record Writable (s : State) (i j : ℕ) (f : Seen → Cluster) (p q : ℕ) : Type 0 where
    pub row : i < v.wide
    pub column : j < v.deep
    pub size : (z : Seen) → length (f z) ≡ v.size
    pub table : mine s (table_at v s i) ≡ false → Free s p
    pub cell : mine s (host (entry_at v s i j)) ≡ false → Free s q
    pub two : mine s (table_at v s i) ≡ false → mine s (host (entry_at v s i j)) ≡ false → q ≢ p

  abbrev pub Allowed : State → Op → Type 0
  Allowed s (Write i j f p q) = Writable s i j f p q
  Allowed s (Take n p) = Free s p
  Allowed s (Drop k) = k < length s.snaps
  Allowed s (Restore k) = k < length s.snaps
  Allowed s (Claim c w) = Free s c × (length w ≡ v.size)
  Allowed s (Release c w) = (0 < c) × (0 < s.fixed c) × (length w ≡ v.size)
  Allowed s (Rewrite c w) = (0 < c) × (0 < s.fixed c) × (length w ≡ v.size)

  abbrev pub AllowedRun : State → List Op → Type 0
  AllowedRun s [] = Unit
  AllowedRun s (o ∷ os) = Allowed s o × AllowedRun (step v s o) os

  pub record Stands (s t : State) (os : List Op) : Type 0 where
    pub clean : Clean v t
    pub shown : view v t ≡ imagined (view v s) os

abbrev pub Law : (Shape → State → Type 0) → Type 0
Law Start = (v : Shape) → Laws v → (s : State) (os : List Op) → Start v s → AllowedRun v s os → Stands v s (run v s os) os

abbrev pub In : {X : Type 0} → X → List X → Type 0
In z [] = ⊥
In z (x ∷ xs) = (z ≡ x) ⊎ In z xs

pub record Taken (v : Shape) (s : State) (os : List Op) (z : Kept) : Type 0 where
  pub before : List Op
  pub after : List Op
  pub id : List ℕ
  pub place : ℕ
  pub is : os ≡ before ++ (Take id place ∷ after)
  pub shows : z ≡ record { id = id; shot = read v (run v s before).heap (run v s before).live }

abbrev pub Lasting : (Shape → State → Type 0) → Type 0
Lasting Start = (v : Shape) → Laws v → (s : State) (os : List Op) → Start v s → AllowedRun v s os → (z : Kept) → In z (map (kept v (run v s os).heap) (run v s os).snaps) → In z (map (kept v s.heap) s.snaps) ⊎ Taken v s os z

abbrev pub sample : Cluster → List Op
sample w = Write 0 0 (λ z. w) 2 3 ∷ Take (97 ∷ []) 4 ∷ Write 0 0 (λ z. w) 5 6 ∷ Restore 0 ∷ Drop 0 ∷ []

pub record Witness (Start : Shape → State → Type 0) : Type 0 where
  pub shape : Shape
  pub laws : Laws shape
  pub state : State
  pub starts : Start shape state
  pub allowed : (w : Cluster) → length w ≡ shape.size → AllowedRun shape state (sample w)
