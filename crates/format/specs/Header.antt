-- The header: its fields, and the judgement of each, row by row as docs/FORMAT.md has them. Assumes nothing.
--   fields   the numbers that the first bytes hold
--   good     a test that must pass, else the fault at its place
--   judged   the numbers if all rows are good, or the first fault
--   header   the judgement of a store's bytes
use Rattle.std.specs.Prelude.{ℕ, ◌+◌, ◌-◌, ◌*◌, ◌/◌, ◌%◌, ◌^◌, min, Bool, cond, not, ◌&&◌, ◌||◌, List, length, Ok, Err, Result, ◌==◌, nat_le, slice_index}
use Rattle.fault.specs.declared.Fault.{Fault}
use Rattle.fault.specs.declared.Layer.TheVariants.{Header}
use Rattle.fault.specs.declared.Reason.{Reason}
use Rattle.fault.specs.declared.Reason.TheVariants.{NotQcow2, Version, ClusterBits, StoreLength, Features, HeaderForm, GuestSize, TablePlace, BackingName}
use Rattle.fault.specs.Faults.{fault}
use Rattle.fault.specs.Outcomes.{and_then}
use Rattle.byte_lists.specs.Numbers.{number}
use Rattle.format.specs.declared.numbers.Numbers.{Numbers}
use Rattle.format.specs.Clusters.{cluster, cluster_of, per_table, span_of, begun}

-- the number at an offset, in bytes that begin at offset k
abbrev pub at_offset : ℕ → List ℕ → ℕ → ℕ → ℕ
at_offset k bs offset w = number bs (offset - k) w

-- a number that only version 3 has, and what stands for it in version 2
abbrev pub since_3 : ℕ → List ℕ → ℕ → ℕ → ℕ → ℕ
since_3 k bs offset w else' = cond (at_offset k bs 4 4 == 3) (at_offset k bs offset w) else'

-- the fields, in bytes that begin at offset k
abbrev pub fields_from : ℕ → List ℕ → Numbers
fields_from k bs = record {
  version = at_offset k bs 4 4;
  name = at_offset k bs 8 8;
  letters = at_offset k bs 16 4;
  bits = at_offset k bs 20 4;
  size = at_offset k bs 24 8;
  crypt = at_offset k bs 32 4;
  entries = at_offset k bs 36 4;
  l1 = at_offset k bs 40 8;
  refcounts = at_offset k bs 48 8;
  extent = at_offset k bs 56 4;
  snapshots = at_offset k bs 60 4;
  records = at_offset k bs 64 8;
  incompatible = since_3 k bs 72 8 0;
  autoclear = since_3 k bs 88 8 0;
  order = since_3 k bs 96 4 4;
  header = since_3 k bs 100 4 72;
}

abbrev pub fields : List ℕ → Numbers
fields bs = fields_from 0 bs

abbrev pub good : Bool → Reason → ℕ → Result (Unit {0}) Fault
good test why place = cond test (Ok tt) (Err (fault why Header place))

-- at least 512 bytes, that open with 51 46 49 FB
abbrev pub opens : List ℕ → Bool
opens bs = nat_le 512 (length bs) && (slice_index bs 0 == 0x51 && (slice_index bs 1 == 0x46 && (slice_index bs 2 == 0x49 && slice_index bs 3 == 0xFB)))

abbrev pub version_good : Numbers → Bool
version_good n = n.version == 2 || n.version == 3

abbrev pub bits_good : Numbers → Bool
bits_good n = nat_le 9 n.bits && nat_le n.bits 21

-- whole clusters, at most 2 to the 28
abbrev pub length_good : Numbers → ℕ → Bool
length_good n len = len % cluster n == 0 && nat_le (len / cluster n) (2 ^ 28)

abbrev pub header_good : Numbers → Bool
header_good n = n.version == 2 || (nat_le 104 n.header && (nat_le n.header (cluster n) && n.header % 8 == 0))

-- the L1 entries that the guest size needs
abbrev pub needed : Numbers → ℕ
needed n = begun n.size (span_of (cluster n))

abbrev pub size_good : Numbers → Bool
size_good n = not (n.size == 0) && (n.size % 512 == 0 && nat_le (needed n) (per_table n))

-- a table of so many clusters at an offset
abbrev pub table_good : Numbers → ℕ → ℕ → ℕ → Bool
table_good n len offset clusters = not (offset == 0) && (offset % cluster n == 0 && nat_le (offset + clusters * cluster n) len)

abbrev pub extent_good : Numbers → Bool
extent_good n = nat_le 1 n.extent && nat_le n.extent 64

abbrev pub records_good : Numbers → ℕ → Bool
records_good n len = n.snapshots == 0 || table_good n len n.records 1

abbrev pub has_backing : Numbers → Bool
has_backing n = not (n.name == 0)

abbrev pub letters_good : Numbers → Bool
letters_good n = n.name == 0 || (nat_le 1 n.letters && nat_le n.letters 1023)

abbrev pub name_good : Numbers → Bool
name_good n = n.name == 0 || (nat_le n.header n.name && nat_le (n.name + n.letters) (cluster n))

-- rows 2 to 6: what kind of image it is
abbrev pub kind_judged : Numbers → ℕ → Result (Unit {0}) Fault
kind_judged n len =
    and_then (good (version_good n) Version 4) λ _.
    and_then (good (bits_good n) ClusterBits 20) λ _.
    and_then (good (length_good n len) StoreLength len) λ _.
    and_then (good (n.crypt == 0) Features 32) λ _.
    and_then (good (n.incompatible == 0) Features 72) λ _.
    and_then (good (n.autoclear == 0) Features 88) λ _.
    and_then (good (n.order == 4) HeaderForm 96) λ _.
    good (header_good n) HeaderForm 100

-- rows 7 to 9: its size, the places of its tables, and its backing name
abbrev pub places_judged : Numbers → ℕ → Result (Unit {0}) Fault
places_judged n len =
    and_then (good (size_good n) GuestSize 24) λ _.
    and_then (good (n.entries == needed n) GuestSize 36) λ _.
    and_then (good (table_good n len n.l1 1) TablePlace 40) λ _.
    and_then (good (extent_good n) TablePlace 56) λ _.
    and_then (good (table_good n len n.refcounts n.extent) TablePlace 48) λ _.
    and_then (good (nat_le n.snapshots 64) TablePlace 60) λ _.
    and_then (good (records_good n len) TablePlace 64) λ _.
    and_then (good (letters_good n) BackingName 16) λ _.
    good (name_good n) BackingName 8

abbrev pub judged : Numbers → ℕ → Result Numbers Fault
judged n len = and_then (kind_judged n len) λ _. and_then (places_judged n len) λ _. Ok n

-- the judgement of a store of length len from its first bytes
abbrev pub header_of : List ℕ → ℕ → Result Numbers Fault
header_of first len = and_then (good (opens first) NotQcow2 0) λ _. judged (fields first) len

abbrev pub header : List ℕ → Result Numbers Fault
header bs = header_of bs (length bs)

-- whether a header has a backing name, and so many bytes hold all of it
abbrev pub name_in : Numbers → ℕ → Bool
name_in n length = not (n.name == 0) && nat_le (n.name + n.letters) length

-- the cluster bits that the first bytes claim, if they are good ones
abbrev pub claimed : List ℕ → Bool
claimed first = nat_le 24 (length first) && (nat_le 9 (number first 20 4) && nat_le (number first 20 4) 21)

-- n filled up to a multiple of c, held at the largest number of 64 bits
abbrev pub filled_up : ℕ → ℕ → ℕ
filled_up n c = cond (n % c == 0) n (min (2 ^ 64 - 1) (n + (c - n % c)))

-- the length of a file whose last, part cluster is filled up with zeros
abbrev pub filled_length : List ℕ → ℕ → ℕ
filled_length first len = cond (claimed first) (filled_up len (cluster_of (number first 20 4))) len
