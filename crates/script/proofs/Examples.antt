-- Worked lines, by computing the definitions. Assumes nothing.
use Rattle.std.proofs.Common.{◌≡◌, Some, None, codes, refl}
use lib.Utf8.{encode}
use Rattle.std.specs.Fmt.{digits}
use Rattle.byte_lists.specs.Numbers.{be_bytes}
use Rattle.byte_lists.specs.Runs.{run}
use Rattle.answer.specs.Digest.{digest}
use Rattle.text.specs.Verbs.{begins}
use Rattle.script.specs.States.{State, empty, spoken}

-- a session that has a store with two bytes in use
two : State
unfolding spoken begins
two = (spoken empty (codes "store-flat 4 0aFF")).1

blank_line : (spoken empty (codes "  # a comment")).0 ≡ None
unfolding spoken begins
blank_line = refl

first_line : (spoken empty (codes "disk-sectors")).0 ≡ Some (codes "ok 0 | 0 cbf29ce484222325")
unfolding spoken begins digits digest be_bytes
first_line = refl

no_store : (spoken empty (codes "store-length")).0 ≡ Some (codes "error no store | 0 cbf29ce484222325")
unfolding spoken begins digits digest be_bytes
no_store = refl

last_byte : (spoken two (codes "store-read 1 1")).0 ≡ Some (codes "ok ff | 2 0853c907b50711c6")
unfolding two spoken begins digits digest be_bytes run
last_byte = refl

past_end : (spoken two (codes "store-read 1 2")).0 ≡ Some (codes "fault 24 S 1 0 | 2 0853c907b50711c6")
unfolding two spoken begins digits digest be_bytes run encode
past_end = refl
