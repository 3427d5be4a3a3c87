-- What is known of a guest cluster's entry that was judged good. Assumes nothing.
use Rattle.std.proofs.Common.{◌≡◌, ℕ, Option, None, Some, true, ◌/◌, ◌&&◌, List, length, Ok, refl, subst}
use Rattle.std.proofs.lemmas.Bool.{and_parts}
use Rattle.fault.proofs.Outcomes.{then_ok, passed, not_refused}
use Rattle.store.specs.Words.{word}
use Rattle.format.specs.declared.numbers.Numbers.{Numbers}
use Rattle.format.specs.declared.entries.Entry.{Entry}
use Rattle.format.specs.Clusters.{per_table}
use Rattle.format.specs.Entries.{placed, l2_plain, compressed_in, offset_in, copied_in, zero_in, entry_of, l2_entry}
use Rattle.guest.specs.Shown.{l1_at, l2_place, l2_under, guest_entry, empty}

abbrev pub Placed : Numbers → ℕ → Entry → Type 0
Placed n len e = placed n len e.offset e.copied ≡ true

pub l2-placed : (n : Numbers) (len place w : ℕ) (e : Entry) → l2_entry n len place w ≡ Ok e → Placed n len e
l2-placed n len place w e h =
    let a = not_refused (compressed_in w) _ _ e h in
    let b = passed (l2_plain n w && placed n len (offset_in w) (copied_in w)) (entry_of w (zero_in w)) e _ a.1 in
    subst (Placed n len) b.1 (and_parts (l2_plain n w) _ b.0).1

under-placed : (n : Numbers) (bs : List ℕ) (g : ℕ) (l2 : Option ℕ) (e : Entry) → l2_under n bs g l2 ≡ Ok e → Placed n (length bs) e
under-placed n bs g None e h =
    let same : empty ≡ e = cc h in
    subst (Placed n (length bs)) same refl
under-placed n bs g (Some l2) e h =
    let a = then_ok (word bs (l2_place n l2 g) 8) _ e h in
    l2-placed n (length bs) (l2_place n l2 g) a.0 e a.1.1

pub entry-placed : (n : Numbers) (bs : List ℕ) (l1 g : ℕ) (e : Entry) → guest_entry n bs l1 g ≡ Ok e → Placed n (length bs) e
entry-placed n bs l1 g e h =
    let a = then_ok (l1_at n bs l1 (g / per_table n)) _ e h in
    under-placed n bs g a.0.offset e a.1.1
