-- Lists of spoiled sectors as text. Assumes nothing.
--   Listed     what a text lists: sectors, or else its first bad line, from 1 on
--   listed_as  what the code's answer means; nothing if there was no memory
--   words      the words of a refusal
--   said       what a line says without its comment
--   number     a decimal number of at most 64 bits, where a plus may stand first
--   entry      the number that a word spells, or that it says nothing; none if it is bad
--   heard      the same of a line
--   or_bad     what comes after a line, from what it says; or that it is bad, with its number from 1 on
--   listed_on  what numbered lines list after sectors
--   listed     what a text lists
use Rattle.std.specs.Prelude.{ℕ, ◌+◌, ◌^◌, cond, ◌&&◌, ◌==◌, List, [], ◌∷◌, ◌++◌, length, Option, Some, None, Result, Ok, Err, nat_lt, vec_items, codes, decimal, Vec}
use Rattle.std.specs.List.{before_first, enumerate_from}
use Rattle.std.specs.Option.{option_map, option_to_list}
use Rattle.std.specs.Str.{trim, all_ascii_digits}
use Rattle.std.specs.Str.Lines.{lines}
use Rattle.std.specs.Str.Parse.{digits_value, without_leading_plus}
use Rattle.std.specs.declared.alloc.Global.{Global}
use Rattle.listing.specs.declared.spoiled.BadList.{BadList}
use Rattle.listing.specs.declared.spoiled.BadList.TheVariants.{Line, OutOfMemory}

pub data Listed : Type 0 where
  sectors : List ℕ → Listed
  bad_line : ℕ → Listed

abbrev pub listed_as : Result (Vec ℕ Global) BadList → Option Listed
listed_as (Ok v) = Some (sectors (vec_items v))
listed_as (Err (Line n)) = Some (bad_line n)
listed_as (Err OutOfMemory) = None

abbrev pub words : BadList → List ℕ
words (Line n) = codes "line " ++ (decimal n ++ codes " is no sector number")
words OutOfMemory = codes "out of memory"

-- 35 is the '#'
abbrev pub said : List ℕ → List ℕ
said l = trim (before_first (λ b. b == 35) l)

abbrev pub numeral : List ℕ → Option ℕ
numeral ds = cond (nat_lt 0 (length ds) && all_ascii_digits ds && nat_lt (digits_value 10 ds) (2 ^ 64)) (Some (digits_value 10 ds)) None

abbrev pub number : List ℕ → Option ℕ
number word = numeral (without_leading_plus word)

abbrev pub entry : List ℕ → Option (Option ℕ)
entry word = cond (length word == 0) (Some None) (option_map (λ n. Some n) (number word))

unfoldable pub heard : List ℕ → Option (Option ℕ)
heard l = entry (said l)

abbrev pub or_bad : ℕ → Option (Option ℕ) → (Option ℕ → Listed) → Listed
or_bad i None f = bad_line (i + 1)
or_bad i (Some o) f = f o

abbrev pub listed_on : List ℕ → List (ℕ × List ℕ) → Listed
listed_on all [] = sectors all
listed_on all (e ∷ es) = or_bad e.0 (heard e.1) (λ o. listed_on (all ++ option_to_list o) es)

unfoldable pub listed : List ℕ → Listed
listed text = listed_on [] (enumerate_from 0 (lines text))
