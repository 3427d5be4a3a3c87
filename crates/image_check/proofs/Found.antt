-- What the words add up to, one after another. Assumes nothing.
use Rattle.std.proofs.Common.{◌≡◌, ℕ, ◌+◌, ◌-◌, ◌/◌, ◌%◌, ◌^◌, ◌<◌, ◌≤◌, Bool, eqb, List, length, get_or, arith}
use Rattle.format.specs.declared.numbers.Numbers.{Numbers}
use Rattle.tables.specs.Refcounts.{count}
use Rattle.tally.specs.Words.{kind_in, mark_in}
use Rattle.image_check.specs.Totals.{sum, sum_by, one, leaks, lacks, repeats}
use Rattle.image_check.proofs.Sums.{sum_more, one_most}

-- what was found up to a place and what is left give the whole
abbrev pub Left : (ℕ → ℕ → Bool) → List ℕ → ℕ → ℕ → Type 0
Left f words found i = (found + sum (λ h. one (f h (get_or words h 0))) i (length words - i) ≡ sum_by f words (length words)) × (found ≤ i)

pub left_more : (f : ℕ → ℕ → Bool) (words : List ℕ) (found i x : ℕ) → i < length words → x ≡ one (f i (get_or words i 0)) → Left f words found i → Left f words (found + x) (i + 1)
left_more f words found i x lt e inv =
    let more = sum_more (λ h. one (f h (get_or words h 0))) i (length words) lt in
    (omega (arith, more, e, inv.0), omega (arith, e, one_most (f i (get_or words i 0)), inv.1))

-- the four tests of a word
module _ (n : Numbers) (bs : List ℕ) where
  abbrev pub leaking : ℕ → ℕ → Bool
  leaking h w = leaks (w % 2 ^ 28) (count n bs h)

  abbrev pub lacking : ℕ → ℕ → Bool
  lacking h w = lacks (w % 2 ^ 28) (count n bs h)

abbrev pub mixing : ℕ → ℕ → Bool
mixing h w = eqb (kind_in (w / 2 ^ 28)) 15

abbrev pub repeating : ℕ → ℕ → Bool
repeating h w = repeats (kind_in (w / 2 ^ 28)) (w % 2 ^ 28) (eqb (mark_in (w / 2 ^ 28)) 2)
