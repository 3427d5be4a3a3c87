-- What a chain of images shows. Assumes nothing.
--   chain_of   the disk that layers show over a base: each is a mount, by its header's judgement and its bytes, over those behind it
use Rattle.std.specs.Prelude.{ℕ, List, [], ◌∷◌, Result}
use Rattle.fault.specs.declared.Fault.{Fault}
use Rattle.byte_lists.specs.Runs.{Octets}
use Rattle.disk.specs.Readings.{Reading, Sound}
use Rattle.format.specs.declared.numbers.Numbers.{Numbers}
use Rattle.guest.specs.Shown.{mount_reading}
use Rattle.guest.proofs.Sounding.{sound_mount}

abbrev pub chain_of : {L : Type 0} → (L → Result Numbers Fault) → (L → List ℕ) → List L → Reading → Reading
chain_of header bytes [] base = base
chain_of header bytes (l ∷ ls) base = mount_reading (header l) (bytes l) (chain_of header bytes ls base)

-- what every disk owes, from what each layer's store and the base owe
pub sound_chain : {L : Type 0} (header : L → Result Numbers Fault) (bytes : L → List ℕ) → ((l : L) → Octets (bytes l)) → (base : Reading) → Sound base → (ls : List L) → Sound (chain_of header bytes ls base)
sound_chain header bytes o base sound [] = sound
sound_chain header bytes o base sound (l ∷ ls) = sound_mount (header l) (bytes l) (chain_of header bytes ls base) (o l) (sound_chain header bytes o base sound ls)
