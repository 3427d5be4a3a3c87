-- What a store that owns its bytes means. Assumes nothing.
--   memory_bytes   the bytes in use: all of them
--   memory_limit   their number
use Rattle.std.specs.Prelude.{ℕ, ◌≤◌, List, length, vec_items}
use Rattle.std.proofs.Common.{arith}
use Rattle.byte_lists.specs.Runs.{Octets}
use Rattle.byte_lists.proofs.Octets.{octets_of}
use Rattle.memory.specs.declared.MemoryStore.{MemoryStore}

abbrev pub memory_bytes : MemoryStore → List ℕ
memory_bytes s = vec_items s.content

abbrev pub memory_limit : MemoryStore → ℕ
memory_limit s = length (vec_items s.content)

-- its elements are bytes, and it never passes its limit
pub memory_octets : (s : MemoryStore) → Octets (memory_bytes s)
memory_octets s = octets_of (memory_bytes s) s.octets

pub memory_held : (s : MemoryStore) → length (memory_bytes s) ≤ memory_limit s
memory_held s = omega arith
