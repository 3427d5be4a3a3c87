-- The digest of a store's bytes: 64-bit FNV-1a. Assumes nothing.
--   mixed    a digest with one byte more
--   fnv      going on from a digest of the bytes before
--   digest   of all bytes
use Rattle.std.specs.Prelude.{ℕ, ◌*◌, ◌%◌, ◌^◌, List, [], ◌∷◌, bit_xor}

abbrev pub mixed : ℕ → ℕ → ℕ
mixed h b = (bit_xor h b * 0x100000001b3) % 2 ^ 64

abbrev pub fnv : ℕ → List ℕ → ℕ
fnv h [] = h
fnv h (b ∷ bs) = fnv (mixed h b) bs

unfoldable pub digest : List ℕ → ℕ
digest bs = fnv 0xcbf29ce484222325 bs
