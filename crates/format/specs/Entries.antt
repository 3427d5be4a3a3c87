-- Entries of L1 and L2 tables, judged. Assumes nothing.
--   leads        where a number of the format leads: 0 is nowhere
--   offset_in    where the offset leads, bits 9 to 55
--   copied_in    the copied flag, bit 63
--   placed       no offset and no copied flag, or an offset at a whole cluster of the store
--   l1_entry     an L1 entry, or the fault at its place
--   l2_entry     an L2 entry, or the fault at its place: compressed before bad
use Rattle.std.specs.Prelude.{ℕ, Option, None, Some, ◌*◌, ◌/◌, ◌%◌, ◌^◌, Bool, false, cond, not, ◌&&◌, ◌||◌, Ok, Err, Result, ◌==◌}
use Rattle.fault.specs.declared.Fault.{Fault}
use Rattle.fault.specs.declared.Layer.TheVariants.{Tables}
use Rattle.fault.specs.declared.Reason.TheVariants.{BadEntry, Compressed}
use Rattle.fault.specs.Faults.{fault}
use Rattle.format.specs.declared.numbers.Numbers.{Numbers}
use Rattle.format.specs.declared.entries.Entry.{Entry}
use Rattle.format.specs.Header.{table_good}

abbrev pub leads : ℕ → Option ℕ
leads x = cond (x == 0) None (Some x)

abbrev pub offset_in : ℕ → Option ℕ
offset_in w = leads (w % 2 ^ 56 / 512 * 512)

abbrev pub copied_in : ℕ → Bool
copied_in w = w / 2 ^ 63 % 2 == 1

abbrev pub compressed_in : ℕ → Bool
compressed_in w = w / 2 ^ 62 % 2 == 1

abbrev pub zero_in : ℕ → Bool
zero_in w = w % 2 == 1

abbrev pub placed : Numbers → ℕ → Option ℕ → Bool → Bool
placed n len None copied = not copied
placed n len (Some offset) copied = table_good n len offset 1

-- bits 0 to 8 and 56 to 62 are zero
abbrev pub l1_plain : ℕ → Bool
l1_plain w = w % 512 == 0 && w / 2 ^ 56 % 128 == 0

-- bits 1 to 8 and 56 to 61 are zero, and bit 0 in version 2
abbrev pub l2_plain : Numbers → ℕ → Bool
l2_plain n w = w % 512 / 2 == 0 && (w / 2 ^ 56 % 64 == 0 && (n.version == 3 || not (zero_in w)))

abbrev pub entry_of : ℕ → Bool → Entry
entry_of w zero' = record { offset = offset_in w; copied = copied_in w; zero = zero' }

abbrev pub l1_entry : Numbers → ℕ → ℕ → ℕ → Result Entry Fault
l1_entry n len place w = cond (l1_plain w && placed n len (offset_in w) (copied_in w)) (Ok (entry_of w false)) (Err (fault BadEntry Tables place))

abbrev pub l2_entry : Numbers → ℕ → ℕ → ℕ → Result Entry Fault
l2_entry n len place w =
    cond (compressed_in w) (Err (fault Compressed Tables place))
    (cond (l2_plain n w && placed n len (offset_in w) (copied_in w)) (Ok (entry_of w (zero_in w))) (Err (fault BadEntry Tables place)))
