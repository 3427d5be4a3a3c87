-- The words of an image that was walked are its tally, and the marks tell which clusters a table reaches twice. Assumes nothing.
use Rattle.std.proofs.Common.{◌≡◌, ℕ, Option, None, Some, zero, suc, ◌+◌, ◌*◌, ◌/◌, ◌^◌, ◌<◌, min, Bool, true, false, cond, ◌||◌, eqb, leb, ◌⊎◌, List, [], ◌∷◌, ◌++◌, map, length, get_or, Ok, Err, Result, sym, refl, ap, ◌∙◌, subst, inl, inr, append_assoc, add-zero, arith}
use Rattle.std.proofs.lemmas.List.FromFn.{fill_by_all}
use Rattle.std.proofs.lemmas.List.{get_or-map, length-map}
use Rattle.std.proofs.lemmas.Bool.{cond-true, cond_both, le-leb}
use Rattle.fault.specs.declared.Fault.{Fault}
use Rattle.format.specs.declared.numbers.Numbers.{Numbers}
use Rattle.format.specs.Clusters.{cluster}
use Rattle.format.specs.declared.entries.Entry.{Entry}
use Rattle.tables.specs.Refcounts.{blocks}
use Rattle.snapshot.specs.declared.records.Snapshot.{Snapshot}
use Rattle.walk.specs.declared.kinds.Kind.{Kind}
use Rattle.walk.specs.declared.kinds.Kind.TheVariants.{Header, RefcountTable, LiveL1, SnapshotL1, L2, Data}
use Rattle.guest.specs.Shown.{l1_at}
use Rattle.walk.specs.References.{Ref, kind_number, named, gather, offset_refs, entry_refs, l2_at, l2_named, branch, branch_refs, tree_refs, table_refs, block_at, named_block, block_refs, record_refs, l1_refs, snapshot_refs, references, entries_of}
use Rattle.tally.specs.Tally.{times, kind_from, tally, tally_word, any_twice, twice}
use Rattle.tally.specs.Words.{packed, mark_in, unmarked}
use Rattle.tally.specs.Filling.{Note, Forget, all_touched, walked, all_walked, fixed_refs, filled}
use Rattle.tally.proofs.Marks.{Fits, plain, word_mark, unmarked_is, mark_most}
use Rattle.tally.proofs.Notes.{at_host, length-touched, all_at, noted_all, forgot_all, mark_from, back, taken_back, Deep, Flat, mark_deep, mark_flat, times-append, kind_append, deep_append, flat_append}

-- what an L1 table leads to is reached from it
data_deep : (n : Numbers) (o : Option ℕ) → Deep (offset_refs n Data o)
data_deep n None = tt
data_deep n (Some at) = (omega arith, tt)

entry_deep : (n : Numbers) (r : Result Entry Fault) → Deep (entry_refs n r)
entry_deep n (Ok e) = data_deep n e.offset
entry_deep n (Err f) = tt

gather_deep : (f : ℕ → List Ref) (k i : ℕ) → ((j : ℕ) → Deep (f j)) → Deep (gather f i k)
gather_deep f zero i h = tt
gather_deep f (suc k) i h = deep_append (f i) (gather f (i + 1) k) (h i) (gather_deep f k (i + 1) h)

named_deep : (n : Numbers) (bs : List ℕ) (i : ℕ) (o : Option ℕ) → Deep (l2_named n bs i o)
named_deep n bs i None = tt
named_deep n bs i (Some l2) = (omega arith, gather_deep (λ g. entry_refs n (l2_at n bs l2 g)) _ _ (λ g. entry_deep n (l2_at n bs l2 g)))

branch_deep : (n : Numbers) (bs : List ℕ) (i : ℕ) (r : Result Entry Fault) → Deep (branch n bs i r)
branch_deep n bs i (Ok e) = named_deep n bs i e.offset
branch_deep n bs i (Err f) = tt

pub tree_deep : (n : Numbers) (bs : List ℕ) (l1 : ℕ) → Deep (tree_refs n bs l1)
tree_deep n bs l1 = gather_deep (branch_refs n bs l1) (entries_of n) 0 (λ i. branch_deep n bs i (l1_at n bs l1 i))

-- the header and the refcount table reach nothing through an L1 table
gather-flat : (f : ℕ → List Ref) (k i : ℕ) → ((j : ℕ) → Flat (f j)) → Flat (gather f i k)
gather-flat f zero i h = tt
gather-flat f (suc k) i h = flat_append (f i) (gather f (i + 1) k) (h i) (gather-flat f k (i + 1) h)

block_flat : (n : Numbers) (r : Result (Option ℕ) Fault) → Flat (named_block n r)
block_flat n (Ok None) = tt
block_flat n (Ok (Some b)) = (omega arith, tt)
block_flat n (Err f) = tt

fixed_flat : (n : Numbers) (bs : List ℕ) → Flat (fixed_refs n bs)
fixed_flat n bs =
    let row : ℕ → List Ref = λ i. record { kind = RefcountTable; host = n.refcounts / cluster n + i } ∷ [] in
    let named-at : ℕ → List Ref = λ i. named_block n (block_at n bs i) in
    (omega arith, flat_append (table_refs n) (block_refs n bs) (gather-flat row (min n.extent 64) 0 (λ i. (omega arith, tt))) (gather-flat named-at (blocks n) 0 (λ i. block_flat n (block_at n bs i))))

record_flat : (n : Numbers) → Flat (record_refs n)
record_flat n = cond_both (eqb n.snapshots 0) [] _ Flat (λ _. tt) (λ _. (omega arith, tt))

-- between the walks of two tables a mark is 0 or 2
abbrev pub Settled : ℕ → Type 0
Settled m = (m ≡ 0) ⊎ (m ≡ 2)

-- the mark after the walk of a table that reaches a cluster k times
mark_table : (m k : ℕ) → Settled m → taken_back k (min 2 (m + k)) ≡ cond (leb 2 k) 2 m
mark_table m zero s = omega arith
mark_table m (suc zero) (inl e) = subst (λ x. back (min 2 (x + 1)) ≡ x) (sym e) refl
mark_table m (suc zero) (inr e) = subst (λ x. back (min 2 (x + 1)) ≡ x) (sym e) refl
mark_table m (suc (suc k)) s =
    let full : min 2 (m + suc (suc k)) ≡ 2 = omega arith in
    ap back full ∙ sym (cond-true (leb 2 (suc (suc k))) 2 m (le-leb 2 (suc (suc k)) (omega arith)))

settled_after : (m : ℕ) (b : Bool) → Settled m → Settled (cond b 2 m)
settled_after m true s = inr refl
settled_after m false s = s

-- what the word of a cluster is
pub record Is (w j m t : ℕ) : Type 0 where
  pub is : w ≡ packed j m t
  pub fits : Fits j m
  pub settled : Settled m

moved : {w j m t : ℕ} (j2 m2 t2 : ℕ) → j ≡ j2 → m ≡ m2 → t ≡ t2 → Is w j m t → Is w j2 m2 t2
moved {w} {j} {m} {t} j2 m2 t2 p q r x = subst (λ a. Is w a m2 t2) p (subst (λ a. Is w j a t2) q (subst (λ a. Is w j m a) r x))

-- marks of two tables
either : (a b : Bool) (m : ℕ) → cond b 2 (cond a 2 m) ≡ cond (a || b) 2 m
either true true m = refl
either true false m = refl
either false b m = refl

length-one : (n : Numbers) (bs : List ℕ) (kind : Kind) (l1 : ℕ) (words : List ℕ) → length (walked n bs kind l1 words) ≡ length words
length-one n bs kind l1 words = length-touched Forget (tree_refs n bs l1) (all_touched Note (named n kind l1 ∷ tree_refs n bs l1) words) ∙ length-touched Note (named n kind l1 ∷ tree_refs n bs l1) words

module _ (n : Numbers) (bs : List ℕ) (h : ℕ) where
  -- the walk of one table
  module _ (kind : Kind) (low : kind_number kind < 7) (l1 : ℕ) (words : List ℕ) (lt : h < length words) (j m t : ℕ) (was : Is (get_or words h 0) j m t) where
    tree : List Ref
    tree = tree_refs n bs l1

    root : Ref
    root = named n kind l1

    noted-words : List ℕ
    noted-words = all_touched Note (root ∷ tree) words

    mark_root : mark_from h m (root ∷ tree) ≡ min 2 (m + times h tree)
    unfolding tree root
    mark_root =
        let one = mark_flat h m (root ∷ []) (low, tt) in
        ap (λ x. mark_from h x tree) one ∙ mark_deep h m tree (tree_deep n bs l1) (mark_most was.fits)

    pub walked_is : Is (get_or (walked n bs kind l1 words) h 0) (kind_from h j (l1_refs n bs kind l1)) (cond (leb 2 (times h (tree_refs n bs l1))) 2 m) (t + times h (l1_refs n bs kind l1))
    unfolding tree root noted-words
    walked_is =
        let k = times h tree in
        let j2 = kind_from h j (root ∷ tree) in
        let t2 = t + times h (root ∷ tree) in
        let noted = noted_all h (root ∷ tree) j m t was.fits in
        let forgot = forgot_all h tree j2 (mark_from h m (root ∷ tree)) t2 noted.1 in
        let mark : taken_back k (mark_from h m (root ∷ tree)) ≡ cond (leb 2 k) 2 m = ap (taken_back k) mark_root ∙ mark_table m k was.settled in
        record {
          is = all_at Forget tree noted-words h (subst (λ x. h < x) (sym (length-touched Note (root ∷ tree) words)) lt)
              ∙ ap (at_host Forget h tree) (all_at Note (root ∷ tree) words h lt ∙ ap (at_host Note h (root ∷ tree)) was.is ∙ noted.0)
              ∙ forgot.0
              ∙ ap (λ x. packed j2 x t2) mark;
          fits = subst (Fits j2) mark forgot.1;
          settled = settled_after m (leb 2 k) was.settled;
        }

  -- references that are not reached from a table
  flat_is : (rs : List Ref) → Flat rs → (words : List ℕ) → h < length words → (j m t : ℕ) → Is (get_or words h 0) j m t → Is (get_or (all_touched Note rs words) h 0) (kind_from h j rs) m (t + times h rs)
  flat_is rs f words lt j m t was =
      let noted = noted_all h rs j m t was.fits in
      let mark = mark_flat h m rs f in
      record {
        is = all_at Note rs words h lt ∙ ap (at_host Note h rs) was.is ∙ noted.0 ∙ ap (λ x. packed (kind_from h j rs) x (t + times h rs)) mark;
        fits = subst (Fits (kind_from h j rs)) mark noted.1;
        settled = was.settled;
      }

  -- the walks of some snapshots' tables
  all_is : (rs : List Snapshot) (words : List ℕ) → h < length words → (j m t : ℕ) → Is (get_or words h 0) j m t →
      Is (get_or (all_walked n bs rs words) h 0) (kind_from h j (snapshot_refs n bs rs)) (cond (any_twice n bs rs h) 2 m) (t + times h (snapshot_refs n bs rs))
  all_is [] words lt j m t was = moved j m (t + 0) refl refl (sym (add-zero t)) was
  all_is (r ∷ rs) words lt j m t was =
      let low : kind_number SnapshotL1 < 7 = omega arith in
      let one = walked_is SnapshotL1 low r.head.l1 words lt j m t was in
      let long = length-one n bs SnapshotL1 r.head.l1 words in
      let refs = l1_refs n bs SnapshotL1 r.head.l1 in
      let later = snapshot_refs n bs rs in
      let rest = all_is rs (walked n bs SnapshotL1 r.head.l1 words) (subst (λ x. h < x) (sym long) lt) _ _ _ one in
      moved (kind_from h j (refs ++ later)) (cond (any_twice n bs (r ∷ rs) h) 2 m) (t + times h (refs ++ later))
      (sym (kind_append h j refs later)) (either (leb 2 (times h (tree_refs n bs r.head.l1))) (any_twice n bs rs h) m) (omega (arith, times-append h refs later)) rest

  the_sum : (a b c d : List Ref) → 0 + times h a + times h b + times h c + times h d ≡ times h (a ++ (b ++ (c ++ d)))
  the_sum a b c d = omega (arith, times-append h a (b ++ (c ++ d)), times-append h b (c ++ d), times-append h c d)

  -- the walk of an image, from a word of 0
  pub filled_is : (rs : List Snapshot) (words : List ℕ) → h < length words → get_or words h 0 ≡ 0 →
      Is (get_or (filled n bs rs words) h 0) (kind_from h 0 (references n bs rs)) (cond (twice n bs rs h) 2 0) (times h (references n bs rs))
  filled_is rs words lt none =
      let low : kind_number LiveL1 < 7 = omega arith in
      let start : Is (get_or words h 0) 0 0 0 = record { is = none; fits = plain (omega arith); settled = inl refl } in
      let fixed = fixed_refs n bs in
      let live = l1_refs n bs LiveL1 n.l1 in
      let table = record_refs n in
      let snaps = snapshot_refs n bs rs in
      let words1 = all_touched Note fixed words in
      let lt1 = subst (λ x. h < x) (sym (length-touched Note fixed words)) lt in
      let is1 = flat_is fixed (fixed_flat n bs) words lt 0 0 0 start in
      let words2 = walked n bs LiveL1 n.l1 words1 in
      let lt2 = subst (λ x. h < x) (sym (length-one n bs LiveL1 n.l1 words1)) lt1 in
      let is2 = walked_is LiveL1 low n.l1 words1 lt1 _ _ _ is1 in
      let words3 = all_touched Note table words2 in
      let lt3 = subst (λ x. h < x) (sym (length-touched Note table words2)) lt2 in
      let is3 = flat_is table (record_flat n) words2 lt2 _ _ _ is2 in
      let is4 = all_is rs words3 lt3 _ _ _ is3 in
      let whole : fixed ++ (live ++ (table ++ snaps)) ≡ references n bs rs = ap (λ l. named n Header 0 ∷ l) (append_assoc (table_refs n) (block_refs n bs) (live ++ (table ++ snaps))) in
      let j1 = kind_from h 0 fixed in
      let kinds = sym (kind_append h 0 fixed (live ++ (table ++ snaps)) ∙ kind_append h j1 live (table ++ snaps) ∙ kind_append h (kind_from h j1 live) table snaps) in
      moved (kind_from h 0 (references n bs rs)) (cond (twice n bs rs h) 2 0) (times h (references n bs rs))
      (kinds ∙ ap (kind_from h 0) whole) (either (leb 2 (times h (tree_refs n bs n.l1))) (any_twice n bs rs h) 0) (the_sum fixed live table snaps ∙ ap (times h) whole) is4

length_all : (n : Numbers) (bs : List ℕ) (rs : List Snapshot) (words : List ℕ) → length (all_walked n bs rs words) ≡ length words
length_all n bs [] words = refl
length_all n bs (r ∷ rs) words = length_all n bs rs (walked n bs SnapshotL1 r.head.l1 words) ∙ length-one n bs SnapshotL1 r.head.l1 words

two_marks : (b : Bool) → eqb (cond {A = ℕ} b 2 0) 2 ≡ b
two_marks true = refl
two_marks false = refl

-- the whole list: its words are the tally once the marks are gone, and a mark tells whether a table reaches a cluster twice
module _ (n : Numbers) (bs : List ℕ) (rs : List Snapshot) (words : List ℕ) where
  pub length-filled : length (filled n bs rs words) ≡ length words
  length-filled =
      let words1 = all_touched Note (fixed_refs n bs) words in
      let words2 = walked n bs LiveL1 n.l1 words1 in
      length_all n bs rs (all_touched Note (record_refs n) words2) ∙ length-touched Note (record_refs n) words2 ∙ length-one n bs LiveL1 n.l1 words1 ∙ length-touched Note (fixed_refs n bs) words

  module _ (blank : (h : ℕ) → h < length words → get_or words h 0 ≡ 0) where
    word_is : (h : ℕ) → h < length words → unmarked (get_or (filled n bs rs words) h 0) ≡ tally_word (references n bs rs) h
    word_is h lt =
        let x = filled_is n bs h rs words lt (blank h lt) in
        ap unmarked x.is ∙ unmarked_is (times h (references n bs rs)) x.fits

    pub filled-tally : map unmarked (filled n bs rs words) ≡ tally (references n bs rs) (length words)
    filled-tally =
        fill_by_all (tally_word (references n bs rs)) (map unmarked (filled n bs rs words)) (length words) 0 (length-map (filled n bs rs words) unmarked ∙ length-filled)
        (λ h lt. get_or-map unmarked (filled n bs rs words) h 0 0 (subst (λ k. h < k) (sym length-filled) lt) ∙ word_is h lt)

    pub filled-twice : (h : ℕ) → h < length words → eqb (mark_in (get_or (filled n bs rs words) h 0 / 2 ^ 28)) 2 ≡ twice n bs rs h
    filled-twice h lt =
        let x = filled_is n bs h rs words lt (blank h lt) in
        ap (λ w. eqb (mark_in (w / 2 ^ 28)) 2) x.is ∙ ap (λ m. eqb m 2) (word_mark (times h (references n bs rs)) x.fits) ∙ two_marks (twice n bs rs h)
