-- What the words of a walked image add up to are the totals. Assumes nothing.
use Rattle.std.proofs.Common.{◌≡◌, ℕ, ◌+◌, ◌/◌, ◌%◌, ◌^◌, ◌<◌, Bool, eqb, List, length, get_or, ap, ◌∙◌, arith}
use Rattle.format.specs.declared.numbers.Numbers.{Numbers}
use Rattle.tables.specs.Refcounts.{count}
use Rattle.snapshot.specs.declared.records.Snapshot.{Snapshot}
use Rattle.walk.specs.References.{references}
use Rattle.tally.specs.Tally.{times, kind_from, twice}
use Rattle.tally.specs.Words.{kind_in, mark_in}
use Rattle.tally.specs.Filling.{filled}
use Rattle.tally.proofs.Marks.{word_kind, packed_low}
use Rattle.tally.proofs.Filled.{filled_is, filled-twice}
use Rattle.image_check.specs.Totals.{sum, sum_by, one, clusters_of, held_times, leaks, lacks, repeats, leaked, leaked_past, short, mixed, repeated}
use Rattle.image_check.proofs.Sums.{sum_same}
use Rattle.image_check.proofs.Found.{leaking, lacking, mixing, repeating}

module _ (n : Numbers) (bs : List ℕ) (rs : List Snapshot) (words : List ℕ) (long : length words ≡ clusters_of n bs) (blank : (h : ℕ) → h < length words → get_or words h 0 ≡ 0) where
  word : ℕ → ℕ
  word h = get_or (filled n bs rs words) h 0

  refs_is : (h : ℕ) → h < length words → word h % 2 ^ 28 ≡ held_times (references n bs rs) h
  unfolding word
  refs_is h lt =
      let x = filled_is n bs h rs words lt (blank h lt) in
      ap (λ w. w % 2 ^ 28) x.is ∙ packed_low (kind_from h 0 (references n bs rs)) _ (times h (references n bs rs))

  kind_is : (h : ℕ) → h < length words → kind_in (word h / 2 ^ 28) ≡ kind_from h 0 (references n bs rs)
  unfolding word
  kind_is h lt =
      let x = filled_is n bs h rs words lt (blank h lt) in
      ap (λ w. kind_in (w / 2 ^ 28)) x.is ∙ word_kind (times h (references n bs rs)) x.fits

  mark_is : (h : ℕ) → h < length words → eqb (mark_in (word h / 2 ^ 28)) 2 ≡ twice n bs rs h
  unfolding word
  mark_is h lt = filled-twice n bs rs words blank h lt

  -- a sum over the words is the sum over the clusters
  by_cluster : (f : ℕ → ℕ → Bool) (g : ℕ → Bool) → ((h : ℕ) → h < length words → f h (word h) ≡ g h) → sum_by f (filled n bs rs words) (length words) ≡ sum (λ h. one (g h)) 0 (clusters_of n bs)
  unfolding word
  by_cluster f g same =
      sum_same (λ h. one (f h (get_or (filled n bs rs words) h 0))) (λ h. one (g h)) (length words) 0 (λ h a b. ap one (same h (omega arith)))
      ∙ ap (sum (λ h. one (g h)) 0) long

  pub leaked_is : sum_by (leaking n bs) (filled n bs rs words) (length words) + leaked_past n bs ≡ leaked n bs (references n bs rs)
  leaked_is = ap (λ x. x + leaked_past n bs) (by_cluster (leaking n bs) (λ h. leaks (held_times (references n bs rs) h) (count n bs h)) (λ h lt. ap (λ x. leaks x (count n bs h)) (refs_is h lt)))

  pub short_is : sum_by (lacking n bs) (filled n bs rs words) (length words) ≡ short n bs (references n bs rs)
  short_is = by_cluster (lacking n bs) (λ h. lacks (held_times (references n bs rs) h) (count n bs h)) (λ h lt. ap (λ x. lacks x (count n bs h)) (refs_is h lt))

  pub mixed_is : sum_by mixing (filled n bs rs words) (length words) ≡ mixed n bs (references n bs rs)
  mixed_is = by_cluster mixing (λ h. eqb (kind_from h 0 (references n bs rs)) 15) (λ h lt. ap (λ x. eqb x 15) (kind_is h lt))

  pub repeated_is : sum_by repeating (filled n bs rs words) (length words) ≡ repeated n bs rs (references n bs rs)
  repeated_is =
      by_cluster repeating (λ h. repeats (kind_from h 0 (references n bs rs)) (held_times (references n bs rs) h) (twice n bs rs h))
      (λ h lt. ap (λ x. repeats x (word h % 2 ^ 28) (eqb (mark_in (word h / 2 ^ 28)) 2)) (kind_is h lt)
      ∙ ap (λ x. repeats (kind_from h 0 (references n bs rs)) x (eqb (mark_in (word h / 2 ^ 28)) 2)) (refs_is h lt)
      ∙ ap (repeats (kind_from h 0 (references n bs rs)) (held_times (references n bs rs) h)) (mark_is h lt))
