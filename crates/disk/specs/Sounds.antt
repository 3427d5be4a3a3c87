-- The readings of the disks are sound. Assumes nothing.
use Rattle.std.proofs.Common.{◌≡◌, ℕ, ◌*◌, ◌^◌, ◌≤◌, min, cond, ltb, List, length, drop, IfOk, Ok, Err, Result, arith, length-take}
use Rattle.std.proofs.lemmas.Bool.{cond-false, cond_both, le-ltb}
use Rattle.fault.specs.declared.Fault.{Fault}
use Rattle.fault.specs.declared.Layer.TheVariants.{Disk}
use Rattle.fault.specs.declared.Reason.TheVariants.{Spoiled}
use Rattle.fault.specs.Faults.{fault}
use Rattle.byte_lists.specs.Runs.{run, zeros, Octets}
use Rattle.byte_lists.proofs.Runs.{length-grow, length-zeros}
use Rattle.byte_lists.proofs.Octets.{octets_of, octets_run, octets_grow, octets_zeros}
use Rattle.disk.specs.Readings.{Sound, shown, past_end}
use Rattle.disk.specs.declared.raw.RawDisk.{RawDisk}
use Rattle.disk.specs.declared.rescued.RescuedDisk.{RescuedDisk}
use Rattle.disk.specs.declared.zeros.ZerosDisk.{ZerosDisk}
use Rattle.disk.specs.Disks.{zeros_reading, raw_reading, rescued_reading, sector, sectors_of, spoilt}

short : (bs : List ℕ) (at n : ℕ) → length (run bs at n) ≤ n
unfolding run
short bs at n = omega (arith, length-take n (drop at bs))

pub length-sector : (bs : List ℕ) (s : ℕ) → length (sector bs s) ≡ 512
unfolding sector
length-sector bs s = length-grow (run bs (s * 512) 512) 512 (short bs (s * 512) 512)

pub octets_sector : (bs : List ℕ) (s : ℕ) → Octets bs → Octets (sector bs s)
unfolding sector
octets_sector bs s o = octets_grow (run bs (s * 512) 512) 512 (octets_run bs (s * 512) 512 o)

abbrev pub Whole : Result (List ℕ) Fault → Type 0
Whole r = IfOk r (λ bs. (length bs ≡ 512) × Octets bs)

-- answers that are whole make a sound reading
pub sound_shown : (n : ℕ) (answers : ℕ → Result (List ℕ) Fault) → n ≤ 2 ^ 55 → ((s : ℕ) → Whole (answers s)) → Sound (shown n answers)
sound_shown n answers most whole = record {
  most = most;
  ends = λ s h. cond-false (ltb s n) (answers s) (past_end s) (le-ltb s n h);
  whole = λ s. cond_both (ltb s n) (answers s) (past_end s) Whole (λ _. whole s) (λ _. tt);
}

pub sound_zeros : (n : ℕ) → Sound (zeros_reading n)
sound_zeros n = sound_shown (min n (2 ^ 55)) (λ s. Ok (zeros 512)) (omega arith) (λ s. (length-zeros 512, octets_zeros 512))

pub sound_raw : (bs : List ℕ) → sectors_of (length bs) ≤ 2 ^ 55 → Octets bs → Sound (raw_reading bs)
sound_raw bs most o = sound_shown (sectors_of (length bs)) (λ s. Ok (sector bs s)) most (λ s. (length-sector bs s, octets_sector bs s o))

pub sound_rescued : (bs spoiled : List ℕ) → sectors_of (length bs) ≤ 2 ^ 55 → Octets bs → Sound (rescued_reading bs spoiled)
sound_rescued bs spoiled most o =
    sound_shown (sectors_of (length bs)) (λ s. cond (spoilt spoiled s) (Err (fault Spoiled Disk s)) (Ok (sector bs s))) most
    (λ s. cond_both (spoilt spoiled s) (Err (fault Spoiled Disk s)) (Ok (sector bs s)) Whole (λ _. tt) (λ _. (length-sector bs s, octets_sector bs s o)))

-- what each disk owes
pub zeros_sound : (d : ZerosDisk) → Sound (zeros_reading d.count)
zeros_sound d = sound_zeros d.count

pub raw_sound : (d : RawDisk) → Sound (raw_reading d.list.now)
raw_sound d = sound_raw d.list.now d.most (octets_of d.list.now d.octets)

pub rescued_sound : (d : RescuedDisk) → Sound (rescued_reading d.raw.list.now d.spoiled.now)
rescued_sound d = sound_rescued d.raw.list.now d.spoiled.now d.raw.most (octets_of d.raw.list.now d.raw.octets)
