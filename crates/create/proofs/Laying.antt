-- Numbers written to a store one after another. Assumes nothing.
use Rattle.std.proofs.Common.{◌≡◌, ℕ, ◌+◌, ◌-◌, ◌≤◌, min, List, [], ◌∷◌, length, take, drop, sym, refl, ap, ◌∙◌, subst, arith}
use Rattle.std.proofs.lemmas.List.{take_all}
use Rattle.std.specs.List.{AllByRecursion as All}
use Rattle.byte_lists.specs.Runs.{put}
use Rattle.byte_lists.specs.Numbers.{be_bytes, spell}
use Rattle.byte_lists.specs.Fields.{spelled, Ordered}
use Rattle.byte_lists.specs.declared.Field.{Field}
use Rattle.byte_lists.proofs.Numbers.{be_bytes_last, length-spell}
use Rattle.byte_lists.specs.Numbers.{length-be_bytes}
use Rattle.byte_lists.proofs.Fields.{ordered_end}
use Rattle.store.specs.Calls.{after}
use Rattle.store.specs.Stores.{stored}
use Rattle.store.proofs.Outcomes.{stores}
use Rattle.create.specs.Laid.{laid, laid_field}

-- the last bytes of the eight of a number
pub last_bytes : (bytes : List ℕ) (x low w : ℕ) → bytes ≡ be_bytes 8 x → low + w ≡ 8 → take (8 - low) (drop low bytes) ≡ be_bytes w x
last_bytes bytes x low w e sum =
    let d : drop low bytes ≡ be_bytes w x = ap (drop low) e ∙ ap (λ k. drop low (be_bytes k x)) (sym sum) ∙ be_bytes_last low w x in
    ap (take (8 - low)) d ∙ take_all (8 - low) (be_bytes w x) (omega (arith, length-be_bytes w x))

-- a number that fits in its place is written
field-laid : (f : Field) (bs : List ℕ) → f.wide ≤ 8 → f.at + f.wide ≤ length bs → laid_field f bs ≡ spell bs f.at f.wide f.value
unfolding spell
field-laid f bs few fits =
    let w : min f.wide 8 ≡ f.wide = omega arith in
    ap (λ k. after bs (stored bs f.at (be_bytes k f.value))) w
    ∙ ap (after bs) (stores bs f.at (be_bytes f.wide f.value) (put bs f.at (be_bytes f.wide f.value)) (omega (arith, length-be_bytes f.wide f.value)) refl)

-- and so are all of an ordered list
pub all_laid : (from : ℕ) (fs : List Field) (bs : List ℕ) → All (λ f. f.wide ≤ 8) fs → Ordered from (length bs) fs → laid fs bs ≡ spelled fs bs
all_laid from [] bs few o = refl
all_laid from (f ∷ fs) bs few o =
    let fits = ordered_end (f.at + f.wide) (length bs) fs o.1 in
    let next = spell bs f.at f.wide f.value in
    let e : length next ≡ length bs = length-spell bs f.at f.wide f.value fits in
    ap (laid fs) (field-laid f bs few.0 fits) ∙ all_laid (f.at + f.wide) fs next few.1 (subst (λ n. Ordered (f.at + f.wide) n fs) (sym e) o.1)
