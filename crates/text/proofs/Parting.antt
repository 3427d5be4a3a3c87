-- How a line falls into words. Assumes nothing.
--   lettered   whether a part has letters
--   onto       letters before the first part
use Rattle.std.proofs.Common.{◌≡◌, ℕ, zero, suc, ◌+◌, Bool, true, false, cond, eqb, not, List, [], ◌∷◌, ◌++◌, length, take, sym, refl, ap, ◌∙◌, append_assoc, arith}
use Rattle.std.proofs.lemmas.Bool.{ne_eqb}
use Rattle.std.proofs.lemmas.List.{append-nil}
use Rattle.std.specs.List.{filter, onto_first, position_or_len, slice_get, slice_split}
use Rattle.text.specs.Words.{white, begun, code, parted, nth}

abbrev pub lettered : List ℕ → Bool
lettered w = not (eqb (length w) 0)

abbrev onto : List ℕ → List (List ℕ) → List (List ℕ)
onto w [] = w ∷ []
onto w (p ∷ ps) = (w ++ p) ∷ ps

code_step : (t : Bool) (b : ℕ) (bs : List ℕ) (n : ℕ) → code bs ≡ take n bs → cond t [] (b ∷ code bs) ≡ take (cond (not t) (1 + n) 0) (b ∷ bs)
code_step true b bs n e = refl
code_step false b bs n e = let next : 1 + n ≡ suc n = omega arith in ap (λ l. b ∷ l) e ∙ ap (λ k. take k (b ∷ bs)) (sym next)

pub code_before : (l : List ℕ) → code l ≡ take (position_or_len (λ b. eqb b 35) l) l
code_before [] = refl
code_before (b ∷ bs) = code_step (eqb b 35) b bs (position_or_len (λ b. eqb b 35) bs) (code_before bs)

first_kept : (t : Bool) (b : ℕ) (ps : List (List ℕ)) → onto [] (cond t ([] ∷ ps) (onto_first b ps)) ≡ cond t ([] ∷ ps) (onto_first b ps)
first_kept true b ps = refl
first_kept false b [] = refl
first_kept false b (p ∷ ps) = refl

onto_none : (bs : List ℕ) → onto [] (slice_split white bs) ≡ slice_split white bs
onto_none [] = refl
onto_none (b ∷ bs) = first_kept (white b) b (slice_split white bs)

onto_more : (w : List ℕ) (b : ℕ) (ps : List (List ℕ)) → onto (w ++ b ∷ []) ps ≡ onto w (onto_first b ps)
onto_more w b [] = refl
onto_more w b (p ∷ ps) = ap (λ l. l ∷ ps) (append_assoc w (b ∷ []) p)

kept : (w : List ℕ) (ps : List (List ℕ)) → begun w ++ ps ≡ cond (lettered (w ++ [])) ((w ++ []) ∷ ps) ps
kept [] ps = refl
kept (c ∷ w) ps = ap (λ l. (c ∷ l) ∷ ps) (sym (append-nil w)) ∙ ap (λ t. cond (not t) ((c ∷ (w ++ [])) ∷ ps) ps) (sym (ne_eqb (length (c ∷ (w ++ []))) 0 (λ e. absurd (omega arith))))

split_step : (t : Bool) (w : List ℕ) (b : ℕ) (bs : List ℕ) (ps : List (List ℕ)) → parted [] bs ≡ filter lettered ps → parted (w ++ b ∷ []) bs ≡ filter lettered (onto (w ++ b ∷ []) ps) → cond t (begun w ++ parted [] bs) (parted (w ++ b ∷ []) bs) ≡ filter lettered (onto w (cond t ([] ∷ ps) (onto_first b ps)))
split_step true w b bs ps e f = ap (λ l. begun w ++ l) e ∙ kept w (filter lettered ps)
split_step false w b bs ps e f = f ∙ ap (filter lettered) (onto_more w b ps)

split_on : (w bs : List ℕ) → parted w bs ≡ filter lettered (onto w (slice_split white bs))
split_on w [] = sym (append-nil (begun w)) ∙ kept w []
split_on w (b ∷ bs) = split_step (white b) w b bs (slice_split white bs) (split_on [] bs ∙ ap (filter lettered) (onto_none bs)) (split_on (w ++ b ∷ []) bs)

pub words_split : (bs : List ℕ) → parted [] bs ≡ filter lettered (slice_split white bs)
words_split bs = split_on [] bs ∙ ap (filter lettered) (onto_none bs)

pub nth_get : (n : ℕ) (ws : List (List ℕ)) → slice_get ws n ≡ nth n ws
nth_get n [] = refl
nth_get zero (w ∷ ws) = refl
nth_get (suc n) (w ∷ ws) = nth_get n ws
