-- A word leads to what its entry shows. Assumes nothing.
use Rattle.std.proofs.Common.{◌≡◌, ℕ, Option, None, Some, ◌+◌, ◌-◌, ◌*◌, ◌/◌, ◌%◌, ◌^◌, ◌<◌, ◌≤◌, min, Bool, true, false, cond, not, eqb, List, length, Ok, refl, ap, ◌∙◌, add-mul, div-add-mod', div-mul-le_self, arith}
use Rattle.std.proofs.lemmas.Nat.{le-div}
use Rattle.std.proofs.lemmas.Bool.{and_parts, cond-false, ne_eqb, leb-true, eqb-true}
use Rattle.byte_lists.specs.Runs.{zeros}
use Rattle.store.specs.Stores.{load}
use Rattle.disk.specs.Readings.{Reading}
use Rattle.format.specs.declared.numbers.Numbers.{Numbers}
use Rattle.format.specs.Clusters.{cluster, per_cluster}
use Rattle.format.proofs.Clusters.{cluster_least}
use Rattle.format.specs.declared.entries.Entry.{Entry}
use Rattle.format.specs.Entries.{placed}
use Rattle.store.specs.Words.{held}
use Rattle.guest.specs.Shown.{offset_shows, entry_shows}
use Rattle.guest.proofs.Entered.{Placed}
use Rattle.mapping.specs.Maps.{offset_word, word_of}
use Rattle.mapping.specs.Copies.{word_shows}

-- a whole cluster of a store of at most 2 to the 28 clusters
module _ (c o len : ℕ) (pos : 0 < c) (whole : o % c ≡ 0) (inside : o + c ≤ len) (few : len / c ≤ 2 ^ 28) where
  host_few : o / c < 2 ^ 28
  host_few =
      let up : (o / c + 1) * c ≡ o / c * c + 1 * c = add-mul (o / c) 1 c in
      omega (arith, le-div (o / c + 1) len c pos (omega (arith, div-mul-le_self o c)))

  host_is : o / c * c ≡ o
  host_is = omega (arith, div-add-mod' o c)

module _ (n : Numbers) (bs : List ℕ) (backing : Reading) (s : ℕ) (few : length bs / cluster n ≤ 2 ^ 28) where
  data_shows : (o : ℕ) → o % cluster n ≡ 0 → o + cluster n ≤ length bs →
      word_shows n bs backing (2 ^ 31 + min (2 ^ 30 - 1) (o / cluster n)) s ≡ load bs (held (o + s % per_cluster n * 512)) 512
  data_shows o whole inside =
      let c = cluster n in
      let pos : 0 < c = omega (arith, cluster_least n.bits) in
      let host = host_few c o (length bs) pos whole inside few in
      let w = 2 ^ 31 + min (2 ^ 30 - 1) (o / c) in
      let high : w / 2 ^ 30 ≡ 2 = omega arith in
      let low : w % 2 ^ 30 ≡ o / c = omega arith in
      let place : w % 2 ^ 30 * c ≡ o = ap (λ k. k * c) low ∙ host_is c o (length bs) pos whole inside few in
      cond-false (eqb (w / 2 ^ 30) 0) _ _ (ne_eqb (w / 2 ^ 30) 0 (λ e. omega arith))
      ∙ cond-false (eqb (w / 2 ^ 30) 1) _ _ (ne_eqb (w / 2 ^ 30) 1 (λ e. omega arith))
      ∙ ap (λ k. load bs (held (k + s % per_cluster n * 512)) 512) place

  parts_show : (z : Bool) (o : Option ℕ) (copied : Bool) → placed n (length bs) o copied ≡ true →
      word_shows n bs backing (cond z (2 ^ 30) (offset_word n o)) s ≡ cond z (Ok (zeros 512)) (offset_shows n bs backing o s)
  parts_show true o copied h = refl
  parts_show false None copied h = refl
  parts_show false (Some o) copied h =
      let p = and_parts (eqb (o % cluster n) 0) _ (and_parts (not (eqb o 0)) _ h).1 in
      data_shows o (eqb-true (o % cluster n) 0 p.0) (omega (arith, leb-true (o + 1 * cluster n) (length bs) p.1))

  pub word_leads : (e : Entry) → Placed n (length bs) e → word_shows n bs backing (word_of n e) s ≡ entry_shows n bs backing e s
  word_leads e h = parts_show e.zero e.offset e.copied h
