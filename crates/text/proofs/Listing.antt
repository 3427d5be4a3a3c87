-- A list of numbers, part by part. Assumes nothing.
--   listed    the numbers so far, and those of the parts that are left
use Rattle.std.proofs.Common.{◌≡◌, ℕ, ◌+◌, ◌<◌, ◌==◌, length, get_or, drop, Bool, true, false, cond, List, [], ◌∷◌, ◌++◌, Some, None, Option, refl, sym, ap, ◌∙◌}
use Rattle.std.proofs.lemmas.List.{append-nil, at_drop_more}
use Rattle.std.specs.List.{onto_first, slice_split}
use Rattle.std.specs.Option.{option_to_list}
use Rattle.text.specs.Values.{digit_more, number, number_on, numbers_on, opt_then}

abbrev pub listed : List ℕ → List (List ℕ) → Option (List ℕ)
listed all [] = Some all
listed all (p ∷ ps) = opt_then (number p) λ n. listed (all ++ n ∷ []) ps

-- the same where the first part goes on a number that is begun
abbrev listed_on : List ℕ → Option ℕ → List (List ℕ) → Option (List ℕ)
listed_on all begun [] = Some (all ++ option_to_list begun)
listed_on all begun (p ∷ ps) = opt_then (number_on begun p) λ n. listed (all ++ n ∷ []) ps

abbrev parts : List ℕ → List (List ℕ)
parts cs = slice_split (λ c. c == 44) cs

none_begun : (all : List ℕ) (ps : List (List ℕ)) → listed_on all None ps ≡ listed all ps
none_begun all [] = ap (λ l. Some l) (append-nil all)
none_begun all (p ∷ ps) = refl

digit_goes_on : (d : Option ℕ) (all cs p : List ℕ) (ps : List (List ℕ)) → ((n : ℕ) → numbers_on all (Some n) cs ≡ opt_then (number_on (Some n) p) λ m. listed (all ++ m ∷ []) ps)
    → opt_then (opt_then {Y = Option ℕ × Option ℕ} d λ n. Some (Some n, None)) (λ t. numbers_on (all ++ option_to_list t.1) t.0 cs) ≡ opt_then (opt_then d λ n. number_on (Some n) p) λ m. listed (all ++ m ∷ []) ps
digit_goes_on None all cs p ps e = refl
digit_goes_on (Some n) all cs p ps e = ap (λ l. numbers_on l (Some n) cs) (append-nil all) ∙ e n

part_step : (t : Bool) (all : List ℕ) (begun : Option ℕ) (c : ℕ) (cs : List ℕ) (ps : List (List ℕ)) → ((l : List ℕ) (b : Option ℕ) → numbers_on l b cs ≡ listed_on l b ps)
    → opt_then (cond t (opt_then {Y = Option ℕ × Option ℕ} begun λ n. Some (None, Some n)) (opt_then (digit_more begun c) λ n. Some (Some n, None))) (λ t. numbers_on (all ++ option_to_list t.1) t.0 cs) ≡ listed_on all begun (cond t ([] ∷ ps) (onto_first c ps))
part_step true all None c cs ps e = refl
part_step true all (Some n) c cs ps e = e (all ++ n ∷ []) None ∙ none_begun (all ++ n ∷ []) ps
part_step false all begun c cs [] e = digit_goes_on (digit_more begun c) all cs [] [] (λ n. e all (Some n))
part_step false all begun c cs (p ∷ ps) e = digit_goes_on (digit_more begun c) all cs p ps (λ n. e all (Some n))

numbers_parts : (all : List ℕ) (begun : Option ℕ) (cs : List ℕ) → numbers_on all begun cs ≡ listed_on all begun (parts cs)
numbers_parts all begun [] = refl
numbers_parts all begun (c ∷ cs) = part_step (c == 44) all begun c cs (parts cs) (λ l b. numbers_parts l b cs)

pub numbers_listed : (cs : List ℕ) → listed [] (parts cs) ≡ numbers_on [] None cs
numbers_listed cs = sym (none_begun [] (parts cs)) ∙ sym (numbers_parts [] None cs)

-- a part comes to the numbers so far
pub next_part : (all : List ℕ) (ps : List (List ℕ)) (i : ℕ) (p : List ℕ) → (i < length ps) × (p ≡ get_or ps i p) → listed all (drop i ps) ≡ opt_then (number p) λ n. listed (all ++ n ∷ []) (drop (i + 1) ps)
next_part all ps i p t = at_drop_more (listed all) ps i p t.0 ∙ ap (λ q. opt_then (number q) λ n. listed (all ++ n ∷ []) (drop (i + 1) ps)) (sym t.1)
