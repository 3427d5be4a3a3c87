-- What a flat store means. Assumes nothing.
--   flat_bytes   the bytes in use: the front of the list
--   flat_limit   the length of the list
use Rattle.std.specs.Prelude.{ℕ, ◌≤◌, List, length, take}
use Rattle.std.proofs.Common.{arith, length-take}
use Rattle.byte_lists.specs.Runs.{Octets}
use Rattle.byte_lists.proofs.Octets.{octets_of, octets_take}
use Rattle.store.specs.declared.flat.FlatStore.{FlatStore}

abbrev pub flat_bytes : FlatStore → List ℕ
flat_bytes s = take s.used s.list.now

abbrev pub flat_limit : FlatStore → ℕ
flat_limit s = length s.list.now

-- its elements are bytes, and it never passes its limit
pub flat_octets : (s : FlatStore) → Octets (flat_bytes s)
flat_octets s = octets_take s.used s.list.now (octets_of s.list.now s.octets)

pub flat_held : (s : FlatStore) → length (flat_bytes s) ≤ flat_limit s
flat_held s = omega (arith, length-take s.used s.list.now)
