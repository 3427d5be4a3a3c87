-- The values that words spell. Assumes nothing.
--   Tells        an answer gives what words spell, or says that they spell nothing; it may be that there was no memory
--   opt_then     a value after another, or none
--   gathered     the values of a word, where each letter leads to a state and may complete a value, and the end may too
--   within       whether a number lies between two
--   short        a number, if it has at most 64 bits
--   digit_more   the number that is begun, with one digit more; none past 64 bits
--   number       a decimal number of at most 64 bits
--   dash         the word for none
--   number_on    a number that is begun, with all of its digits
--   counted      the number that is begun after a letter, and the one that the letter ends
--   numbers      numbers with commas between them
--   nibble       a hexadecimal digit
--   octet        the byte of two such digits
--   turned       what comes after a letter, and the byte that the letter completes
--   first        what a word spells first
--   may_end      whether a word may end where this comes next
--   spelled      the bytes that a word spells: two digits for each, or each as itself unless a '%' comes before two digits
--   hex_bytes    the bytes that a word of digits spells
use Rattle.std.specs.Prelude.{◌≡◌, ℕ, ◌+◌, ◌-◌, ◌*◌, ◌^◌, Bool, true, false, cond, ◌&&◌, List, [], ◌∷◌, ◌++◌, Some, None, Option, ◌==◌, nat_le, nat_lt, Result, MatchResult}
use Rattle.std.specs.Option.{unwrap_or, option_to_list}
use Rattle.text.specs.declared.values.Form.{Form}
use Rattle.text.specs.declared.values.Form.TheVariants.{Hexadecimal, Plain}
use Rattle.text.specs.declared.values.Misread.{Misread}
use Rattle.text.specs.declared.values.Misread.TheVariants.{Misspelt}
use Rattle.text.specs.declared.values.Next.{Next}
use Rattle.text.specs.declared.values.Next.TheVariants.{Letter, High, Low}

abbrev pub Tells : {T X : Type 0} → Result T Misread → (T → X) → Option X → Type 0
Tells r view o = MatchResult r (λ x. Some (view x) ≡ o) (λ e. e ≡ Misspelt → None ≡ o)

abbrev pub opt_then : {X Y : Type 0} → Option X → (X → Option Y) → Option Y
opt_then None f = None
opt_then (Some x) f = f x

abbrev pub gathered : {S : Type 0} → (S → ℕ → Option (S × Option ℕ)) → (List ℕ → S → Option (List ℕ)) → List ℕ → S → List ℕ → Option (List ℕ)
gathered turn end all s [] = end all s
gathered turn end all s (c ∷ cs) = opt_then (turn s c) λ t. gathered turn end (all ++ option_to_list t.1) t.0 cs

abbrev pub within : ℕ → ℕ → ℕ → Bool
within low high c = nat_le low c && nat_le c high

abbrev pub short : ℕ → Option ℕ
short n = cond (nat_lt n (2 ^ 64)) (Some n) None

abbrev pub digit_more : Option ℕ → ℕ → Option ℕ
digit_more begun c = cond (within 48 57 c) (short (unwrap_or begun 0 * 10 + (c - 48))) None

abbrev pub number_on : Option ℕ → List ℕ → Option ℕ
number_on begun [] = begun
number_on begun (c ∷ cs) = opt_then (digit_more begun c) λ n. number_on (Some n) cs

abbrev pub number : List ℕ → Option ℕ
number word = number_on None word

abbrev pub dash : List ℕ → Bool
dash [] = false
dash (c ∷ []) = c == 45
dash (c ∷ d ∷ cs) = false

abbrev pub counted : Option ℕ → ℕ → Option (Option ℕ × Option ℕ)
counted begun c = cond (c == 44) (opt_then begun λ n. Some (None, Some n)) (opt_then (digit_more begun c) λ n. Some (Some n, None))

-- the last number ends with the word
abbrev pub counted_all : List ℕ → Option ℕ → Option (List ℕ)
counted_all all begun = opt_then begun λ n. Some (all ++ n ∷ [])

abbrev pub numbers_on : List ℕ → Option ℕ → List ℕ → Option (List ℕ)
numbers_on all begun cs = gathered counted counted_all all begun cs

abbrev pub numbers : List ℕ → Option (List ℕ)
numbers word = cond (dash word) (Some []) (numbers_on [] None word)

-- of either case
abbrev pub nibble : ℕ → Option ℕ
nibble c = cond (within 48 57 c) (Some (c - 48)) (cond (within 97 102 c) (Some (c - 87)) (cond (within 65 70 c) (Some (c - 55)) None))

abbrev pub octet : ℕ → ℕ → Option ℕ
octet high low = opt_then (nibble high) λ h. opt_then (nibble low) λ l. Some (h * 16 + l)

abbrev pub first : Form → Next
first Hexadecimal = High
first Plain = Letter

abbrev pub may_end : Form → Next → Bool
may_end Hexadecimal Letter = false
may_end Hexadecimal High = true
may_end Hexadecimal (Low h) = false
may_end Plain Letter = true
may_end Plain High = false
may_end Plain (Low h) = false

abbrev pub turned : Form → Next → ℕ → Option (Next × Option ℕ)
turned form Letter c = cond (c == 37) (Some (High, None)) (Some (Letter, Some c))
turned form High c = Some (Low c, None)
turned form (Low h) c = opt_then (octet h c) λ b. Some (first form, Some b)

abbrev pub turned_all : Form → List ℕ → Next → Option (List ℕ)
turned_all form all next = cond (may_end form next) (Some all) None

abbrev pub spelled_on : Form → List ℕ → Next → List ℕ → Option (List ℕ)
spelled_on form all next cs = gathered (turned form) (turned_all form) all next cs

abbrev pub spelled : Form → List ℕ → Option (List ℕ)
spelled form word = cond (dash word) (Some []) (spelled_on form [] (first form) word)

abbrev pub hex_bytes : List ℕ → Option (List ℕ)
hex_bytes word = spelled Hexadecimal word
