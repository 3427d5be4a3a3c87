-- A session's state as plain data, and what each call does to it. Assumes nothing.
--   Kept       a store: its bytes in use, and its limit
--   State      the current store and mount, if there are any, and the current disk
--   empty      the state at the start
--   verdict    what a call told that may be refused
--   shows      what a call told that may be refused and else shows bytes
--   lists      what a call told that may be refused and else lists words
--   blank_words   a list of words before a call
--   with_store, with_disk   the state with a new store, with a new disk
--   on_store, on_mount      what is asked of the store, of the mount, or the mistake that there is none
--   changing   a call that changes the store's bytes unless it is refused
--   mounting   a new mount
--   checking   a check, which marks the mount unless it is refused
--   held       a number held at the largest of 32 bits
--   creation   what create leaves of a store
--   step       what a call tells, and the state after it
--   in_use     the bytes in use of a store, if there is one
--   turn       the record line of what was heard, if anything was, and the state after it
--   spoken     the same of a line of text
use Rattle.std.specs.Prelude.{ℕ, ◌+◌, ◌-◌, ◌^◌, min, false, List, [], length, take, replicate, Some, None, Ok, Err, codes, Option, Result}
use Rattle.fault.specs.declared.Fault.{Fault}
use Rattle.store.specs.Stores.{load, stored, grown}
use Rattle.store.specs.Calls.{after}
use Rattle.disk.specs.Readings.{Reading}
use Rattle.disk.specs.Disks.{zeros_reading, raw_reading, rescued_reading}
use Rattle.format.specs.Header.{header}
use Rattle.create.specs.Create.{wanted, create_outcome}
use Rattle.image.specs.Calls.{read_outcome, peek_outcome}
use Rattle.mapping.specs.Maps.{map_outcome}
use Rattle.image_check.specs.Outcome.{Checked, check_outcome, found_clean}
use Rattle.text.specs.Words.{words}
use Rattle.text.specs.Calls as ask
use Rattle.text.specs.Calls.{Asked, heard}
use Rattle.answer.specs.Records.{Told, done, number, bytes, listed, checked, refused, mistaken, record_line}
use Rattle.script.specs.declared.session.Mounted.{Mounted}

pub record Kept : Type 0 where
  pub content : List ℕ
  pub limit : ℕ

pub record State : Type 0 where
  pub store : Option Kept
  pub mounted : Option Mounted
  pub disk : Reading

abbrev pub empty : State
empty = record { store = None; mounted = None; disk = zeros_reading 0 }

abbrev pub verdict : {X : Type 0} → Result X Fault → Told
verdict (Ok x) = done
verdict (Err f) = refused f

abbrev pub shows : Result (List ℕ) Fault → Told
shows (Ok bs) = bytes bs
shows (Err f) = refused f

abbrev pub lists : Result (List ℕ) Fault → Told
lists (Ok ws) = listed ws
lists (Err f) = refused f

abbrev pub blank_words : ℕ → List ℕ
blank_words n = replicate n 0xeeeeeeee

-- a new store is not mounted
abbrev pub with_store : State → ℕ → List ℕ → State
with_store s limit bs = record { store = Some (record { content = take limit bs; limit = limit }); mounted = None; disk = s.disk }

abbrev pub with_disk : State → Reading → State
with_disk s d = record { store = s.store; mounted = s.mounted; disk = d }

abbrev pub on_kept : State → Option Kept → (Kept → Told × State) → Told × State
on_kept s None f = (mistaken (codes "no store"), s)
on_kept s (Some k) f = f k

abbrev pub on_store : State → (Kept → Told × State) → Told × State
on_store s f = on_kept s s.store f

-- a call that changes the store's bytes unless it is refused
abbrev pub changing : State → Kept → Result (List ℕ) Fault → Told × State
changing s k outcome = (verdict outcome, record { store = Some (record { content = after k.content outcome; limit = k.limit }); mounted = s.mounted; disk = s.disk })

-- a new mount has not been checked
abbrev pub mounting : State → Kept → Told × State
mounting s k = (done, record { store = s.store; mounted = Some (record { header = header k.content; clean = false }); disk = s.disk })

-- the mount is then clean exactly if all five totals are zero
abbrev pub checking : Mounted → Result Checked Fault → State → Told × State
checking m (Ok c) s = (checked c.totals c.words, record { store = s.store; mounted = Some (record { header = m.header; clean = found_clean c.totals }); disk = s.disk })
checking m (Err f) s = (refused f, s)

abbrev pub on_mounted : State → Option Mounted → (Mounted → Told × State) → Told × State
on_mounted s None f = (mistaken (codes "no mount"), s)
on_mounted s (Some m) f = f m

abbrev pub on_mount : State → (Mounted → Kept → Told × State) → Told × State
on_mount s f = on_mounted s s.mounted λ m. on_store s (f m)

-- the largest number of 32 bits is no good version or cluster bits
abbrev pub held : ℕ → ℕ
held n = min n (2 ^ 32 - 1)

abbrev pub creation : ℕ → ℕ → ℕ → List ℕ → Kept → Result (List ℕ) Fault
creation v b size name k = create_outcome (wanted (held v) (held b) size (length name)) name (length k.content) k.limit

abbrev pub step : State → Asked → Told × State
step s (ask.store_flat n bs) = (done, with_store s n bs)
step s (ask.store_split m n bs) = (done, with_store s (m + n) bs)
step s ask.store_length = on_store s λ k. (number (length k.content), s)
step s ask.store_limit = on_store s λ k. (number k.limit, s)
step s (ask.store_read first n) = on_store s λ k. (shows (load k.content first n), s)
step s (ask.store_replace first bs) = on_store s λ k. changing s k (stored k.content first bs)
step s (ask.store_grow n) = on_store s λ k. changing s k (grown k.content k.limit n)
step s (ask.disk_zeros n) = (done, with_disk s (zeros_reading n))
step s (ask.disk_raw bs) = (done, with_disk s (raw_reading bs))
step s (ask.disk_rescued bs ns) = (done, with_disk s (rescued_reading bs ns))
step s ask.disk_sectors = (number s.disk.sectors, s)
step s (ask.disk_read sector) = (shows (s.disk.answer sector), s)
step s (ask.create v b size name) = on_store s λ k. changing s k (creation v b size name k)
step s ask.mount = on_store s (mounting s)
step s (ask.read sector n) = on_mount s λ m k. (shows (read_outcome m.header k.content s.disk sector n), s)
step s (ask.peek id sector n) = on_mount s λ m k. (shows (peek_outcome m.header k.content s.disk id sector n), s)
step s (ask.map id n) = on_mount s λ m k. (lists (map_outcome m.header k.content id (blank_words n)), s)
step s (ask.check n) = on_mount s λ m k. checking m (check_outcome m.header k.content (blank_words n)) s
step s (ask.mistake words) = (mistaken words, s)

-- the store's bytes in use; without a store, none
abbrev pub in_use : Option Kept → List ℕ
in_use None = []
in_use (Some k) = k.content

abbrev pub turn : State → Option Asked → Option (List ℕ) × State
turn s None = (None, s)
turn s (Some a) = (Some (record_line (step s a).0 (in_use (step s a).1.store)), (step s a).1)

-- a line of text: its words, what they ask, and what that does
unfoldable pub spoken : State → List ℕ → Option (List ℕ) × State
spoken s text = turn s (heard (words text))
