-- The verbs: the word that begins a call. Assumes nothing.
--   usage     the line as a person would be told to write it
--   is_word   whether a word that may be missing is this one
--   begins    whether a word is the first of a verb's usage
--   all_verbs all verbs
--   verb_in   the first verb of a list that a word begins
use Rattle.std.specs.Prelude.{ℕ, Bool, false, cond, List, [], ◌∷◌, Some, None, codes, Option}
use Rattle.std.specs.Str.{bytes_eq}
use Rattle.text.specs.Words.{words, nth}
use Rattle.text.specs.declared.verbs.Verb.{Verb}
use Rattle.text.specs.declared.verbs.Verb.TheVariants.{StoreFlat, StoreSplit, StoreLength, StoreLimit, StoreRead, StoreReplace, StoreGrow, DiskZeros, DiskRaw, DiskRescued, DiskSectors, DiskRead, Create, Mount, Read, Peek, Map, Check}

abbrev pub usage : Verb → List ℕ
usage StoreFlat = codes "store-flat LIMIT [BYTES]"
usage StoreSplit = codes "store-split LIMIT1 LIMIT2 [BYTES]"
usage StoreLength = codes "store-length"
usage StoreLimit = codes "store-limit"
usage StoreRead = codes "store-read FIRST COUNT"
usage StoreReplace = codes "store-replace FIRST BYTES"
usage StoreGrow = codes "store-grow LENGTH"
usage DiskZeros = codes "disk-zeros SECTORS"
usage DiskRaw = codes "disk-raw BYTES"
usage DiskRescued = codes "disk-rescued BYTES SPOILED"
usage DiskSectors = codes "disk-sectors"
usage DiskRead = codes "disk-read SECTOR"
usage Create = codes "create VERSION BITS SIZE NAME"
usage Mount = codes "mount"
usage Read = codes "read SECTOR [LENGTH]"
usage Peek = codes "peek ID SECTOR [LENGTH]"
usage Map = codes "map ID WORDS"
usage Check = codes "check WORDS"

abbrev pub is_word : Option (List ℕ) → List ℕ → Bool
is_word None name = false
is_word (Some w) name = bytes_eq w name

unfoldable pub begins : Verb → List ℕ → Bool
begins v name = is_word (nth 0 (words (usage v))) name

abbrev pub all_verbs : List Verb
all_verbs = StoreFlat ∷ StoreSplit ∷ StoreLength ∷ StoreLimit ∷ StoreRead ∷ StoreReplace ∷ StoreGrow ∷ DiskZeros ∷ DiskRaw ∷ DiskRescued ∷ DiskSectors ∷ DiskRead ∷ Create ∷ Mount ∷ Read ∷ Peek ∷ Map ∷ Check ∷ []

abbrev pub verb_in : List Verb → List ℕ → Option Verb
verb_in [] name = None
verb_in (v ∷ vs) name = cond (begins v name) (Some v) (verb_in vs name)
