-- What a session means, and what its changes do. Assumes nothing.
--   kept           a store of a session
--   lists_kept     the store over lists that were made for it
--   disk_reading   the disk of a session
--   state          all that a session means
--   refilled       a store with other bytes, as far as they fit
--   with_bytes     a state with a store so refilled
--   changed        a state after a change
--   Stepped        an outcome is that of a step: what it answers, and the state after what it changes
--   tells          what a call without an outcome tells; nothing, if there was no memory
--   Meets          an answer gives the outcome of a step, or what the step tells where it changes nothing; it may be that there was no memory
--   Found          an answer gives what is there, or the words that there is none; it may be that there was no memory
--   Said           what a line gave and left is what its text says
--   Spoken         what a line gave and left is what the text says; without memory nothing changed
use Rattle.std.specs.Prelude.{◌≡◌, ℕ, List, take, Some, None, vec_items, string_bytes, Option, Result, String, IfSome, MatchResult}
use Rattle.std.specs.Option.{option_map}
use Rattle.std.specs.declared.alloc.AllocError.{AllocError}
use Rattle.std.specs.declared.alloc.Global.{Global}
use Rattle.disk.specs.Readings.{Reading}
use Rattle.disk.specs.Disks.{zeros_reading, raw_reading, rescued_reading}
use Rattle.lent.specs.Lists.{space_limit, lists_bytes, lists_limit}
use Rattle.lent.specs.declared.lists.Lists.{Lists}
use Rattle.text.specs.Calls.{Asked}
use Rattle.answer.specs.Records.{Told, told, refused, mistaken}
use Rattle.script.specs.States.{Kept, State, step, spoken}
use Rattle.script.specs.declared.session.Base.{Base}
use Rattle.script.specs.declared.session.Base.TheVariants as base
use Rattle.script.specs.declared.session.Saved.{Saved}
use Rattle.script.specs.declared.session.Session.{Session}
use Rattle.script.specs.declared.outcome.Change.{Change}
use Rattle.script.specs.declared.outcome.Change.TheVariants as change
use Rattle.script.specs.declared.outcome.Outcome.{Outcome}
use Rattle.script.specs.declared.outcome.Unmet.{Unmet}
use Rattle.script.specs.declared.outcome.Unmet.TheVariants as unmet

abbrev pub kept : Saved → Kept
kept s = record { content = take (space_limit s.space) (vec_items s.content); limit = space_limit s.space }

abbrev pub lists_kept : Lists → Kept
lists_kept l = record { content = lists_bytes l; limit = lists_limit l }

abbrev pub disk_reading : Base → Reading
disk_reading (base.Zeros n) = zeros_reading n
disk_reading (base.Raw bs) = raw_reading (vec_items bs)
disk_reading (base.Rescued bs ns) = rescued_reading (vec_items bs) (vec_items ns)

abbrev pub state : Session → State
state s = record { store = option_map kept s.store; mounted = s.mounted; disk = disk_reading s.disk }

abbrev pub refilled : List ℕ → Option Kept → Option Kept
refilled bs k = option_map (λ (k : Kept). record { content = take k.limit bs; limit = k.limit }) k

abbrev pub with_bytes : List ℕ → State → State
with_bytes bs s = record { store = refilled bs s.store; mounted = s.mounted; disk = s.disk }

abbrev pub changed : Change → State → State
changed change.Nothing s = s
changed (change.Content bs) s = with_bytes (vec_items bs) s
changed (change.Store new) s = record { store = Some (kept new); mounted = None; disk = s.disk }
changed (change.Mount m) s = record { store = s.store; mounted = Some m; disk = s.disk }
changed (change.Disk d) s = record { store = s.store; mounted = s.mounted; disk = disk_reading d }

pub record Stepped (s : State) (a : Asked) (o : Outcome) : Type 0 where
  pub answer : told o.answer ≡ (step s a).0
  pub state : changed o.change s ≡ (step s a).1

abbrev pub tells : Unmet → Option Told
tells (unmet.Mistake words) = Some (mistaken words.now)
tells (unmet.Refused f) = Some (refused f)
tells (unmet.OutOfMemory e) = None

abbrev pub Meets : State → Asked → Result Outcome Unmet → Type 0
Meets s a r = MatchResult r (Stepped s a) λ e. IfSome (tells e) λ t. step s a ≡ (t, s)

abbrev pub Found : {T X : Type 0} → Result T Unmet → (T → X) → Option X → List ℕ → Type 0
Found r view there none = MatchResult r (λ x. Some (view x) ≡ there) λ e. IfSome (tells e) λ t. (None ≡ there) × (t ≡ mistaken none)

pub record Said (s : State) (text : List ℕ) (o : Option (String Global)) (t : State) : Type 0 where
  pub line : option_map string_bytes o ≡ (spoken s text).0
  pub state : t ≡ (spoken s text).1

abbrev pub Spoken : State → List ℕ → Result (Option (String Global)) AllocError → State → Type 0
Spoken s text r t = MatchResult r (λ o. Said s text o t) (λ e. t ≡ s)
