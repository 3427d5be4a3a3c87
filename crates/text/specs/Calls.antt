-- The calls that lines make, as plain data. Assumes nothing.
--   Asked       a call with its arguments, or a line that is none, with words that say so
--   meant       what the code's call means
--   number_at   the number that the word at a place spells, and so for bytes and lists; with _or a word that may be left out
--   or_else     what a word spells, or something else if it is left out
--   parsed      the call that a verb and the words of its line make, if they make one
--   or_mistake  a call, or the mistake of its verb
--   asked       what words ask, by their verb
--   heard       what a line asks, by its words; nothing if it has none
use Rattle.std.specs.Prelude.{ℕ, List, [], Some, None, vec_items, codes, Option}
use Rattle.std.specs.Option.{option_map}
use Rattle.text.specs.Words.{nth}
use Rattle.text.specs.Values.{opt_then, number, numbers, spelled, hex_bytes}
use Rattle.text.specs.Verbs.{usage, all_verbs, verb_in}
use Rattle.text.specs.declared.values.Form.{Form}
use Rattle.text.specs.declared.values.Form.TheVariants.{Hexadecimal, Plain}
use Rattle.text.specs.declared.verbs.Verb.{Verb}
use Rattle.text.specs.declared.verbs.Verb.TheVariants.{StoreFlat, StoreSplit, StoreLength, StoreLimit, StoreRead, StoreReplace, StoreGrow, DiskZeros, DiskRaw, DiskRescued, DiskSectors, DiskRead, Create, Mount, Read, Peek, Map, Check}
use Rattle.text.specs.declared.calls.Call.{Call}
use Rattle.text.specs.declared.calls.Call.TheVariants as call

pub data Asked : Type 0 where
  store_flat : ℕ → List ℕ → Asked
  store_split : ℕ → ℕ → List ℕ → Asked
  store_length : Asked
  store_limit : Asked
  store_read : ℕ → ℕ → Asked
  store_replace : ℕ → List ℕ → Asked
  store_grow : ℕ → Asked
  disk_zeros : ℕ → Asked
  disk_raw : List ℕ → Asked
  disk_rescued : List ℕ → List ℕ → Asked
  disk_sectors : Asked
  disk_read : ℕ → Asked
  create : ℕ → ℕ → ℕ → List ℕ → Asked
  mount : Asked
  read : ℕ → ℕ → Asked
  peek : List ℕ → ℕ → ℕ → Asked
  map : List ℕ → ℕ → Asked
  check : ℕ → Asked
  mistake : List ℕ → Asked

abbrev pub meant : Call → Asked
meant (call.StoreFlat n bs) = store_flat n (vec_items bs)
meant (call.StoreSplit m n bs) = store_split m n (vec_items bs)
meant call.StoreLength = store_length
meant call.StoreLimit = store_limit
meant (call.StoreRead first n) = store_read first n
meant (call.StoreReplace first bs) = store_replace first (vec_items bs)
meant (call.StoreGrow n) = store_grow n
meant (call.DiskZeros n) = disk_zeros n
meant (call.DiskRaw bs) = disk_raw (vec_items bs)
meant (call.DiskRescued bs ns) = disk_rescued (vec_items bs) (vec_items ns)
meant call.DiskSectors = disk_sectors
meant (call.DiskRead s) = disk_read s
meant (call.Create v b size name) = create v b size (vec_items name)
meant call.Mount = mount
meant (call.Read s n) = read s n
meant (call.Peek id s n) = peek (vec_items id) s n
meant (call.Map id n) = map (vec_items id) n
meant (call.Check n) = check n
meant (call.Mistake words) = mistake words.now

-- a word that may be left out
abbrev pub or_else : {X : Type 0} → Option (List ℕ) → (List ℕ → Option X) → X → Option X
or_else None f x = Some x
or_else (Some w) f x = f w

abbrev pub number_at : List (List ℕ) → ℕ → Option ℕ
number_at ws i = opt_then (nth i ws) number

abbrev pub number_or : List (List ℕ) → ℕ → ℕ → Option ℕ
number_or ws i n = or_else (nth i ws) number n

abbrev pub bytes_at : List (List ℕ) → ℕ → Form → Option (List ℕ)
bytes_at ws i form = opt_then (nth i ws) (spelled form)

abbrev pub bytes_or : List (List ℕ) → ℕ → Option (List ℕ)
bytes_or ws i = or_else (nth i ws) hex_bytes []

abbrev pub numbers_at : List (List ℕ) → ℕ → Option (List ℕ)
numbers_at ws i = opt_then (nth i ws) numbers

abbrev pub parsed : Verb → List (List ℕ) → Option Asked
parsed StoreFlat ws = opt_then (number_at ws 1) λ n. opt_then (bytes_or ws 2) λ bs. Some (store_flat n bs)
parsed StoreSplit ws = opt_then (number_at ws 1) λ m. opt_then (number_at ws 2) λ n. opt_then (bytes_or ws 3) λ bs. Some (store_split m n bs)
parsed StoreLength ws = Some store_length
parsed StoreLimit ws = Some store_limit
parsed StoreRead ws = opt_then (number_at ws 1) λ first. opt_then (number_at ws 2) λ n. Some (store_read first n)
parsed StoreReplace ws = opt_then (number_at ws 1) λ first. opt_then (bytes_at ws 2 Hexadecimal) λ bs. Some (store_replace first bs)
parsed StoreGrow ws = opt_then (number_at ws 1) λ n. Some (store_grow n)
parsed DiskZeros ws = opt_then (number_at ws 1) λ n. Some (disk_zeros n)
parsed DiskRaw ws = opt_then (bytes_at ws 1 Hexadecimal) λ bs. Some (disk_raw bs)
parsed DiskRescued ws = opt_then (bytes_at ws 1 Hexadecimal) λ bs. opt_then (numbers_at ws 2) λ ns. Some (disk_rescued bs ns)
parsed DiskSectors ws = Some disk_sectors
parsed DiskRead ws = opt_then (number_at ws 1) λ s. Some (disk_read s)
parsed Create ws = opt_then (number_at ws 1) λ v. opt_then (number_at ws 2) λ b. opt_then (number_at ws 3) λ size. opt_then (bytes_at ws 4 Plain) λ name. Some (create v b size name)
parsed Mount ws = Some mount
parsed Read ws = opt_then (number_at ws 1) λ s. opt_then (number_or ws 2 512) λ n. Some (read s n)
parsed Peek ws = opt_then (bytes_at ws 1 Plain) λ id. opt_then (number_at ws 2) λ s. opt_then (number_or ws 3 512) λ n. Some (peek id s n)
parsed Map ws = opt_then (bytes_at ws 1 Plain) λ id. opt_then (number_at ws 2) λ n. Some (map id n)
parsed Check ws = opt_then (number_at ws 1) λ n. Some (check n)

-- words that make no call of their verb are a mistake, with the words that would
abbrev pub or_mistake : Verb → Option Asked → Asked
or_mistake v None = mistake (usage v)
or_mistake v (Some a) = a

abbrev pub asked : Option Verb → List (List ℕ) → Asked
asked None ws = mistake (codes "unknown word")
asked (Some v) ws = or_mistake v (parsed v ws)

abbrev pub heard : List (List ℕ) → Option Asked
heard ws = option_map (λ w. asked (verb_in all_verbs w) ws) (nth 0 ws)
