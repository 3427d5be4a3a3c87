-- What a list holds after a list of numbers was set. Assumes nothing.
use Rattle.std.proofs.Common.{◌≡◌, ℕ, zero, suc, ◌+◌, ◌^◌, ◌<◌, ◌≤◌, List, [], ◌∷◌, length, get_or, sym, refl, ap, ◌∙◌, subst, inl, arith}
use Rattle.byte_lists.specs.Runs.{run, Octets}
use Rattle.byte_lists.specs.Numbers.{be, number, spell}
use Rattle.byte_lists.specs.Fields.{field, spelled, Ordered}
use Rattle.byte_lists.specs.declared.Field.{Field}
use Rattle.byte_lists.proofs.Numbers.{length-spell, number-spell_same, run-spell_apart}
use Rattle.byte_lists.proofs.Octets.{octets_spell}

-- an ordered list ends no earlier than it begins
pub ordered_end : (from end : ℕ) (fs : List Field) → Ordered from end fs → from ≤ end
ordered_end from end [] o = o
ordered_end from end (f ∷ fs) o = omega (arith, o.0, ordered_end (f.at + f.wide) end fs o.1)

pub length-spelled : (from : ℕ) (fs : List Field) (bs : List ℕ) → Ordered from (length bs) fs → length (spelled fs bs) ≡ length bs
length-spelled from [] bs o = refl
length-spelled from (f ∷ fs) bs o =
    let next = spell bs f.at f.wide f.value in
    let e : length next ≡ length bs = length-spell bs f.at f.wide f.value (ordered_end (f.at + f.wide) (length bs) fs o.1) in
    length-spelled (f.at + f.wide) fs next (subst (λ n. Ordered (f.at + f.wide) n fs) (sym e) o.1) ∙ e

-- a run below all of the numbers is as before
pub run-spelled_below : (from : ℕ) (fs : List Field) (bs : List ℕ) (a n : ℕ) → a + n ≤ from → Ordered from (length bs) fs → run (spelled fs bs) a n ≡ run bs a n
run-spelled_below from [] bs a n low o = refl
run-spelled_below from (f ∷ fs) bs a n low o =
    let next = spell bs f.at f.wide f.value in
    let fits = ordered_end (f.at + f.wide) (length bs) fs o.1 in
    let e : length next ≡ length bs = length-spell bs f.at f.wide f.value fits in
    run-spelled_below (f.at + f.wide) fs next a n (omega (arith, o.0)) (subst (λ m. Ordered (f.at + f.wide) m fs) (sym e) o.1)
    ∙ run-spell_apart bs f.at f.wide f.value a n (inl (omega (arith, o.0))) fits

-- each number that fits reads as it was set
pub number_spelled : (from : ℕ) (fs : List Field) (bs : List ℕ) (i : ℕ) → i < length fs → Ordered from (length bs) fs → (get_or fs i (field 0 0 0)).value < 256 ^ (get_or fs i (field 0 0 0)).wide →
    number (spelled fs bs) (get_or fs i (field 0 0 0)).at (get_or fs i (field 0 0 0)).wide ≡ (get_or fs i (field 0 0 0)).value
unfolding number
number_spelled from [] bs i lt o fits = absurd (omega arith)
number_spelled from (f ∷ fs) bs zero lt o fits =
    let next = spell bs f.at f.wide f.value in
    let inside = ordered_end (f.at + f.wide) (length bs) fs o.1 in
    let e : length next ≡ length bs = length-spell bs f.at f.wide f.value inside in
    ap be (run-spelled_below (f.at + f.wide) fs next f.at f.wide (omega arith) (subst (λ m. Ordered (f.at + f.wide) m fs) (sym e) o.1))
    ∙ number-spell_same bs f.at f.wide f.value fits inside
number_spelled from (f ∷ fs) bs (suc i) lt o fits =
    let next = spell bs f.at f.wide f.value in
    let e : length next ≡ length bs = length-spell bs f.at f.wide f.value (ordered_end (f.at + f.wide) (length bs) fs o.1) in
    number_spelled (f.at + f.wide) fs next i (omega arith) (subst (λ m. Ordered (f.at + f.wide) m fs) (sym e) o.1) fits

pub octets_spelled : (fs : List Field) (bs : List ℕ) → Octets bs → Octets (spelled fs bs)
octets_spelled [] bs o = o
octets_spelled (f ∷ fs) bs o = octets_spelled fs (spell bs f.at f.wide f.value) (octets_spell bs f.at f.wide f.value o)
