-- What stores and disks of any kind mean. Assumes nothing.
--   any_bytes      the bytes in use of a store
--   any_limit      what their length never passes
--   base_reading   the sectors of a disk
use Rattle.std.specs.Prelude.{ℕ, ◌≤◌, List, length}
use Rattle.byte_lists.specs.Runs.{Octets}
use Rattle.store.specs.Flat.{flat_bytes, flat_limit, flat_octets, flat_held}
use Rattle.store.specs.Split.{split_bytes, split_limit, split_octets, split_held}
use Rattle.disk.specs.Readings.{Reading, Sound}
use Rattle.disk.specs.Disks.{zeros_reading, raw_reading, rescued_reading}
use Rattle.disk.specs.Sounds.{zeros_sound, raw_sound, rescued_sound}
use Rattle.lent.specs.declared.any_store.AnyStore.{AnyStore}
use Rattle.lent.specs.declared.any_store.AnyStore.TheVariants.{Flat, Split}
use Rattle.lent.specs.declared.base_disk.BaseDisk.{BaseDisk}
use Rattle.lent.specs.declared.base_disk.BaseDisk.TheVariants.{Zeros, Raw, Rescued}

abbrev pub any_bytes : AnyStore → List ℕ
any_bytes (Flat s) = flat_bytes s
any_bytes (Split s) = split_bytes s

abbrev pub any_limit : AnyStore → ℕ
any_limit (Flat s) = flat_limit s
any_limit (Split s) = split_limit s

abbrev pub base_reading : BaseDisk → Reading
base_reading (Zeros d) = zeros_reading d.count
base_reading (Raw d) = raw_reading d.list.now
base_reading (Rescued d) = rescued_reading d.raw.list.now d.spoiled.now

-- what every store and every disk owes
pub any_octets : (s : AnyStore) → Octets (any_bytes s)
any_octets (Flat s) = flat_octets s
any_octets (Split s) = split_octets s

pub any_held : (s : AnyStore) → length (any_bytes s) ≤ any_limit s
any_held (Flat s) = flat_held s
any_held (Split s) = split_held s

pub base_sound : (d : BaseDisk) → Sound (base_reading d)
base_sound (Zeros d) = zeros_sound d
base_sound (Raw d) = raw_sound d
base_sound (Rescued d) = rescued_sound d
