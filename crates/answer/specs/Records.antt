-- Record lines. Assumes nothing.
--   Told          what a call answered, as plain data
--   told          what the code's answer means
--   hexadecimal   two digits for each byte
--   bytes_shown   an answer of bytes as text, '-' for none
--   word_shown    a word of 32 bits as text; words_shown: a list of them, '-' for none
--   totals_shown  the five totals of a check as text
--   shown         an answer as text
--   record_line   an answer, and then the length and the digest of the store's bytes in use
use Rattle.std.specs.Prelude.{ℕ, ◌/◌, ◌%◌, List, [], ◌∷◌, ◌++◌, length, vec_items, codes, decimal}
use Rattle.std.specs.Char.{digit_char}
use Rattle.fault.specs.Faults.{shown as fault_shown}
use Rattle.fault.specs.declared.Fault.{Fault}
use Rattle.byte_lists.specs.Numbers.{be_bytes}
use Rattle.answer.specs.Digest.{digest}
use Rattle.answer.specs.declared.answers.Answer.{Answer}
use Rattle.answer.specs.declared.answers.Answer.TheVariants as answer

pub data Told : Type 0 where
  done : Told
  number : ℕ → Told
  bytes : List ℕ → Told
  listed : List ℕ → Told
  checked : ℕ × ℕ × ℕ × ℕ × ℕ → List ℕ → Told
  refused : Fault → Told
  mistaken : List ℕ → Told

abbrev pub told : Answer → Told
told answer.Done = done
told (answer.Number n) = number n
told (answer.Bytes bs) = bytes (vec_items bs)
told (answer.Words ws) = listed (vec_items ws)
told (answer.Checked t ws) = checked t (vec_items ws)
told (answer.Refused f) = refused f
told (answer.Mistake words) = mistaken words.now

abbrev pub hexadecimal : List ℕ → List ℕ
hexadecimal [] = []
hexadecimal (b ∷ bs) = digit_char (b / 16 % 16) ∷ digit_char (b % 16) ∷ hexadecimal bs

abbrev pub bytes_shown : List ℕ → List ℕ
bytes_shown [] = codes "ok -"
bytes_shown (b ∷ bs) = codes "ok " ++ hexadecimal (b ∷ bs)

-- a word of 32 bits, in eight digits
abbrev pub word_shown : ℕ → List ℕ
word_shown w = hexadecimal (be_bytes 4 w)

-- each behind a comma
abbrev pub more_words : List ℕ → List ℕ
more_words [] = []
more_words (w ∷ ws) = codes "," ++ (word_shown w ++ more_words ws)

abbrev pub words_shown : List ℕ → List ℕ
words_shown [] = codes "-"
words_shown (w ∷ ws) = word_shown w ++ more_words ws

abbrev pub totals_shown : ℕ × ℕ × ℕ × ℕ × ℕ → List ℕ
totals_shown t = decimal t.0 ++ (codes " " ++ (decimal t.1 ++ (codes " " ++ (decimal t.2 ++ (codes " " ++ (decimal t.3 ++ (codes " " ++ decimal t.4)))))))

abbrev pub shown : Told → List ℕ
shown done = codes "ok"
shown (number n) = codes "ok " ++ decimal n
shown (bytes bs) = bytes_shown bs
shown (listed ws) = codes "ok " ++ words_shown ws
shown (checked t ws) = codes "ok " ++ (totals_shown t ++ (codes " " ++ words_shown ws))
shown (refused f) = codes "fault " ++ fault_shown f
shown (mistaken words) = codes "error " ++ words

abbrev pub record_line : Told → List ℕ → List ℕ
record_line t content = shown t ++ (codes " | " ++ (decimal (length content) ++ (codes " " ++ hexadecimal (be_bytes 8 (digest content)))))
