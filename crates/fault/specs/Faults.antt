-- Faults: the number and the words of each reason, the letter of each layer. Assumes nothing.
--   number   the number of a reason
--   words    its words for people, as bytes
--   letter   the letter of a layer, as a code
--   fault    a fault where it first arises
--   deeper   a fault that has passed one backing disk more
--   shown    a fault as text: number, layer, place and depth
--   refusal_shown, verdict_shown   the same for people, with its words; and what a call came to, `ok` or that
--   same_reason, same_fault   whether two are one: by numbers, and by all parts
use Rattle.std.specs.Prelude.{ℕ, ◌+◌, min, Bool, ◌&&◌, ◌==◌, List, ◌++◌, codes, decimal, Ok, Err, Result}
use Rattle.std.proofs.Math.Utf8.{encode}
use Rattle.fault.specs.declared.Layer.{Layer}
use Rattle.fault.specs.declared.Layer.TheVariants.{Header, Tables, Disk, Store, Call}
use Rattle.fault.specs.declared.Reason.{Reason}
use Rattle.fault.specs.declared.Reason.TheVariants.{NotQcow2, Version, ClusterBits, StoreLength, Features, HeaderForm, GuestSize, TablePlace, BackingName, NameTooLong, NotEmpty, NotClean, Sectors, BadEntry, Compressed, NoRoom, BadId, IdInUse, NoSuchId, SnapshotsFull, ListTooShort, PastDisk, Spoiled, PastStore, Growth}
use Rattle.fault.specs.declared.Fault.{Fault}

abbrev pub number : Reason → ℕ
number NotQcow2 = 1
number Version = 2
number ClusterBits = 3
number StoreLength = 4
number Features = 5
number HeaderForm = 6
number GuestSize = 7
number TablePlace = 8
number BackingName = 9
number NameTooLong = 10
number NotEmpty = 11
number NotClean = 12
number Sectors = 13
number BadEntry = 14
number Compressed = 15
number NoRoom = 16
number BadId = 17
number IdInUse = 18
number NoSuchId = 19
number SnapshotsFull = 20
number ListTooShort = 21
number PastDisk = 22
number Spoiled = 23
number PastStore = 24
number Growth = 25

abbrev pub letter : Layer → ℕ
letter Header = 72
letter Tables = 84
letter Disk = 66
letter Store = 83
letter Call = 67

abbrev pub words : Reason → List ℕ
words NotQcow2 = codes "not a QCOW2 image"
words Version = codes "version is not 2 or 3"
words ClusterBits = codes "cluster bits are not 9 to 21"
words StoreLength = codes "length is not whole clusters, or too many"
words Features = codes "encrypted, or features that are not supported"
words HeaderForm = codes "refcount order or header length is not supported"
words GuestSize = codes "guest size or L1 entries are wrong"
words TablePlace = codes "a table's place or size is wrong"
words BackingName = codes "the backing name's length or place is wrong"
words NameTooLong = codes "the backing name is too long"
words NotEmpty = codes "the store is not empty"
words NotClean = codes "not checked, or the check found errors"
words Sectors = codes "the sectors or the buffer do not fit the call"
words BadEntry = codes "a bad table entry or snapshot record"
words Compressed = codes "a compressed cluster"
words NoRoom = codes "no room for a new cluster"
words BadId = codes "the id or name is too long or empty"
words IdInUse = codes "the id is in use"
words NoSuchId = codes "no snapshot has this id"
words SnapshotsFull = codes "the snapshot table is full"
words ListTooShort = codes "the word list is too short"
words PastDisk = codes "past the end of the disk"
words Spoiled = codes "a spoiled sector"
words PastStore = codes "past the end of the store"
words Growth = codes "growth out of bounds"

abbrev pub fault : Reason → Layer → ℕ → Fault
fault why where' at = record { reason = why; layer = where'; place = at; depth = 0 }

abbrev pub deeper : Fault → Fault
deeper f = record { reason = f.reason; layer = f.layer; place = f.place; depth = min 255 (f.depth + 1) }

abbrev pub shown : Fault → List ℕ
shown f = decimal (number f.reason) ++ (codes " " ++ (encode (letter f.layer) ++ (codes " " ++ (decimal f.place ++ (codes " " ++ decimal f.depth)))))

abbrev pub same_reason : Reason → Reason → Bool
same_reason x y = number x == number y

abbrev pub same_fault : Fault → Fault → Bool
same_fault x y = same_reason x.reason y.reason && (letter x.layer == letter y.layer) && (x.place == y.place) && (x.depth == y.depth)

abbrev pub refusal_shown : Fault → List ℕ
refusal_shown f = codes "refused " ++ (shown f ++ (codes ": " ++ words f.reason))

abbrev pub verdict_shown : Result (Unit {0}) Fault → List ℕ
verdict_shown (Ok u) = codes "ok"
verdict_shown (Err f) = refusal_shown f
