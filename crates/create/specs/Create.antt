-- Creating an image: what is asked for, when it is refused, and the bytes that it leaves. Assumes nothing.
--   wanted           the numbers of the image that is asked for
--   asked            a test that must pass, else the fault at its place
--   create_judged    whether it is refused
--   created          the four clusters: header, refcount table, one block, L1 table
--   create_outcome   the bytes of the store afterwards, or the fault
use Rattle.std.specs.Prelude.{ℕ, ◌+◌, ◌*◌, ◌/◌, Bool, cond, ◌&&◌, List, [], ◌∷◌, Ok, Err, Result, ◌==◌, nat_le}
use Rattle.fault.specs.declared.Fault.{Fault}
use Rattle.fault.specs.declared.Layer.TheVariants.{Call, Store}
use Rattle.fault.specs.declared.Reason.{Reason}
use Rattle.fault.specs.declared.Reason.TheVariants.{Version, ClusterBits, GuestSize, NameTooLong, NotEmpty, NoRoom}
use Rattle.fault.specs.Faults.{fault}
use Rattle.fault.specs.Outcomes.{and_then}
use Rattle.byte_lists.specs.Runs.{put, zeros}
use Rattle.byte_lists.specs.Fields.{field, spelled}
use Rattle.byte_lists.specs.declared.Field.{Field}
use Rattle.format.specs.declared.numbers.Numbers.{Numbers}
use Rattle.format.specs.Clusters.{cluster, cluster_of, span_of, begun}
use Rattle.format.specs.Header.{version_good, bits_good, size_good}

abbrev pub header_length : ℕ → ℕ
header_length v = cond (v == 3) 104 72

-- the name stands behind the header and eight zero bytes
abbrev pub name_place : ℕ → ℕ → ℕ
name_place v letters = cond (letters == 0) 0 (header_length v + 8)

abbrev pub wanted : ℕ → ℕ → ℕ → ℕ → Numbers
wanted v b size letters = record {
  version = v;
  name = name_place v letters;
  letters = letters;
  bits = b;
  size = size;
  crypt = 0;
  entries = begun size (span_of (cluster_of b));
  l1 = 3 * cluster_of b;
  refcounts = cluster_of b;
  extent = 1;
  snapshots = 0;
  records = 0;
  incompatible = 0;
  autoclear = 0;
  order = 4;
  header = header_length v;
}

abbrev pub asked : Bool → Reason → ℕ → Result (Unit {0}) Fault
asked test why place = cond test (Ok tt) (Err (fault why Call place))

abbrev pub name_fits : Numbers → Bool
name_fits n = nat_le n.letters 1023 && nat_le (n.header + 8 + n.letters) (cluster n)

-- four clusters within the limit
abbrev pub room : Numbers → ℕ → Result (Unit {0}) Fault
room n limit = cond (nat_le (4 * cluster n) limit) (Ok tt) (Err (fault NoRoom Store (limit / cluster n)))

abbrev pub create_judged : Numbers → ℕ → ℕ → Result (Unit {0}) Fault
create_judged n len limit =
    and_then (asked (version_good n) Version 4) λ _.
    and_then (asked (bits_good n) ClusterBits 20) λ _.
    and_then (asked (size_good n) GuestSize 24) λ _.
    and_then (asked (name_fits n) NameTooLong 0) λ _.
    and_then (asked (len == 0) NotEmpty len) λ _.
    room n limit

-- the fields that both versions have
abbrev pub shared_fields : Numbers → List Field
shared_fields n =
    field 0 4 0x514649FB ∷ field 4 4 n.version ∷ field 8 8 n.name ∷ field 16 4 n.letters ∷ field 20 4 n.bits ∷ field 24 8 n.size ∷ field 32 4 n.crypt
    ∷ field 36 4 n.entries ∷ field 40 8 n.l1 ∷ field 48 8 n.refcounts ∷ field 56 4 n.extent ∷ field 60 4 n.snapshots ∷ field 64 8 n.records ∷ []

-- those of version 3
abbrev pub late_fields : Numbers → List Field
late_fields n = field 72 8 n.incompatible ∷ field 88 8 n.autoclear ∷ field 96 4 n.order ∷ field 100 4 n.header ∷ []

abbrev pub header_fields : Numbers → List Field
header_fields n = cond (n.version == 3) (late_fields n) []

-- the table names one block, and that counts the four clusters
abbrev pub table_fields : ℕ → List Field
table_fields c = field c 8 (2 * c) ∷ field (2 * c) 2 1 ∷ field (2 * c + 2) 2 1 ∷ field (2 * c + 4) 2 1 ∷ field (2 * c + 6) 2 1 ∷ []

unfoldable pub created : Numbers → List ℕ → List ℕ
created n name = spelled (table_fields (cluster n)) (spelled (header_fields n) (spelled (shared_fields n) (put (zeros (4 * cluster n)) n.name name)))

abbrev pub create_outcome : Numbers → List ℕ → ℕ → ℕ → Result (List ℕ) Fault
create_outcome n name len limit = and_then (create_judged n len limit) λ _. Ok (created n name)
