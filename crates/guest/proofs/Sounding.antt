-- What a mount shows is a sound disk: whole sectors or faults, over any store and any sound backing disk. Assumes nothing.
use Rattle.std.proofs.Common.{◌≡◌, ℕ, Option, None, Some, ◌+◌, ◌*◌, ◌/◌, ◌%◌, ◌^◌, ◌||◌, eqb, leb, List, length, Ok, Err, Result, refl, arith}
use Rattle.std.proofs.lemmas.Bool.{cond_both, leb-true}
use Rattle.fault.specs.declared.Fault.{Fault}
use Rattle.fault.specs.declared.Layer.TheVariants.{Store}
use Rattle.fault.specs.declared.Reason.TheVariants.{PastStore}
use Rattle.fault.specs.Faults.{fault}
use Rattle.fault.specs.Outcomes.{and_then}
use Rattle.byte_lists.specs.Runs.{run, zeros, Octets}
use Rattle.byte_lists.proofs.Runs.{length-zeros, length_run}
use Rattle.byte_lists.proofs.Octets.{octets_zeros, octets_run}
use Rattle.store.specs.Stores.{load}
use Rattle.disk.specs.Readings.{Reading, Sound, shown}
use Rattle.disk.specs.Sounds.{Whole, sound_shown}
use Rattle.format.specs.declared.numbers.Numbers.{Numbers}
use Rattle.format.specs.declared.entries.Entry.{Entry}
use Rattle.format.specs.Clusters.{per_cluster}
use Rattle.store.specs.Words.{held}
use Rattle.guest.specs.Shown.{guest_entry, guest_sectors, mount_sectors, passed_up, under, offset_shows, entry_shows, shows, table_reading, live_reading, mount_reading}

whole_zeros : Whole (Ok (zeros 512))
whole_zeros = (length-zeros 512, octets_zeros 512)

whole_load : (bs : List ℕ) (at : ℕ) → Octets bs → Whole (load bs at 512)
whole_load bs at o =
    cond_both (leb (at + 512) (length bs)) (Ok (run bs at 512)) (Err (fault PastStore Store at)) Whole
    (λ e. (length_run bs at 512 (leb-true (at + 512) (length bs) e), octets_run bs at 512 o)) (λ _. tt)

whole_passed : (r : Result (List ℕ) Fault) → Whole r → Whole (passed_up r)
whole_passed (Ok bs) h = h
whole_passed (Err f) h = tt

whole_then : {X : Type 0} (r : Result X Fault) (f : X → Result (List ℕ) Fault) → ((x : X) → Whole (f x)) → Whole (and_then r f)
whole_then (Ok x) f h = h x
whole_then (Err e) f h = tt

module _ (n : Numbers) (bs : List ℕ) (backing : Reading) (o : Octets bs) (sound : Sound backing) where
  whole_under : (s : ℕ) → Whole (under n backing s)
  whole_under s =
      cond_both (eqb n.name 0 || leb backing.sectors s) (Ok (zeros 512)) (passed_up (backing.answer s)) Whole (λ _. whole_zeros) (λ _. whole_passed (backing.answer s) (sound.whole s))

  whole_offset : (at : Option ℕ) (s : ℕ) → Whole (offset_shows n bs backing at s)
  whole_offset None s = whole_under s
  whole_offset (Some at) s = whole_load bs (held (at + s % per_cluster n * 512)) o

  whole_entry : (e : Entry) (s : ℕ) → Whole (entry_shows n bs backing e s)
  whole_entry e s = cond_both e.zero (Ok (zeros 512)) (offset_shows n bs backing e.offset s) Whole (λ _. whole_zeros) (λ _. whole_offset e.offset s)

  pub whole_shows : (table s : ℕ) → Whole (shows n bs backing table s)
  whole_shows table s = whole_then (guest_entry n bs table (s / per_cluster n)) (λ e. entry_shows n bs backing e s) (λ e. whole_entry e s)

  pub sound_table : (table : ℕ) → Sound (table_reading n bs backing table)
  sound_table table = sound_shown (guest_sectors n) (shows n bs backing table) (omega arith) (λ s. whole_shows table s)

  pub sound_live : Sound (live_reading n bs backing)
  sound_live = sound_table n.l1

pub sound_mount : (header : Result Numbers Fault) (bs : List ℕ) (backing : Reading) → Octets bs → Sound backing → Sound (mount_reading header bs backing)
sound_mount (Ok n) bs backing o sound = sound_live n bs backing o sound
sound_mount (Err f) bs backing o sound = sound_shown (2 ^ 55) (λ s. Err f) (omega arith) (λ s. tt)

-- the same reading with the header judged at each sector, and the number of sectors named
abbrev pub sector_by_sector : Result Numbers Fault → List ℕ → Reading → Reading
sector_by_sector header bs backing = shown (mount_sectors header) (λ s. and_then header λ n. shows n bs backing n.l1 s)

pub mount_reading-by_sector : (header : Result Numbers Fault) (bs : List ℕ) (backing : Reading) → mount_reading header bs backing ≡ sector_by_sector header bs backing
mount_reading-by_sector (Ok n) bs backing = refl
mount_reading-by_sector (Err f) bs backing = refl
