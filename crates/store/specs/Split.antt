-- What a split store means. Assumes nothing.
--   joined        both lists, the second following the first
--   split_bytes   the bytes in use: the front of both lists
--   split_limit   their length together
--   Across        how a run of n bytes at a place lies across a seam: k of its bytes before it, from low on, the rest from high on behind it
use Rattle.std.specs.Prelude.{◌≡◌, ℕ, ◌+◌, ◌-◌, ◌<◌, ◌≤◌, max, List, ◌++◌, length, take}
use Rattle.std.proofs.Common.{arith, length-take}
use Rattle.byte_lists.specs.Runs.{Octets}
use Rattle.byte_lists.proofs.Octets.{octets_of, octets_take, octets_append}
use Rattle.store.specs.declared.split.SplitStore.{SplitStore}

abbrev pub joined : SplitStore → List ℕ
joined s = s.front.now ++ s.back.now

abbrev pub split_bytes : SplitStore → List ℕ
split_bytes s = take s.used (joined s)

abbrev pub split_limit : SplitStore → ℕ
split_limit s = length (joined s)

-- its elements are bytes, and it never passes its limit
pub split_octets : (s : SplitStore) → Octets (split_bytes s)
split_octets s = octets_take s.used (joined s) (octets_append s.front.now s.back.now (octets_of s.front.now s.front_octets) (octets_of s.back.now s.back_octets))

pub split_held : (s : SplitStore) → length (split_bytes s) ≤ split_limit s
split_held s = omega (arith, length-take s.used (joined s))

pub record Across (at n seam k low high : ℕ) : Type 0 where
  pub few : k ≤ n
  pub front : low + k ≤ seam
  pub back : seam + high + (n - k) ≤ max seam (at + n)
  pub here : 0 < k → low ≡ at
  pub there : k < n → at + k ≡ seam + high
  pub least : low ≤ at
  pub behind : seam ≤ at → seam + high ≡ at
  pub ahead : at ≤ seam → high ≡ 0
