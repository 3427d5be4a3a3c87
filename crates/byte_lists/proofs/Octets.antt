-- Every byte stays below 256. Assumes nothing.
use Rattle.std.proofs.Common.{◌≡◌, ℕ, zero, suc, ◌+◌, ◌-◌, ◌<◌, List, [], ◌∷◌, ◌++◌, length, get_or, take, drop, sym, subst, arith}
use Rattle.byte_lists.specs.Runs.{run, put, zeros, grow, Octets, EachOctet}
use Rattle.byte_lists.specs.Numbers.{be_bytes, spell}

-- an element is below 256, and so is what stands past the end
pub octet_at : (bs : List ℕ) (i : ℕ) → Octets bs → get_or bs i 0 < 256
unfolding Octets
octet_at [] i o = omega arith
octet_at (b ∷ bs) zero o = o.0
octet_at (b ∷ bs) (suc i) o = octet_at bs i o.1

-- elements below 256 make octets
pub octets_from : (bs : List ℕ) → ((i : ℕ) → i < length bs → get_or bs i 0 < 256) → Octets bs
unfolding Octets
octets_from [] h = tt
octets_from (b ∷ bs) h = (h 0 (omega arith), octets_from bs (λ i lt. h (suc i) (omega arith)))

pub octets_append : (xs ys : List ℕ) → Octets xs → Octets ys → Octets (xs ++ ys)
unfolding Octets
octets_append [] ys p q = q
octets_append (x ∷ xs) ys p q = (p.0, octets_append xs ys p.1 q)

pub octets_take : (n : ℕ) (bs : List ℕ) → Octets bs → Octets (take n bs)
unfolding Octets
octets_take zero bs o = tt
octets_take (suc n) [] o = tt
octets_take (suc n) (b ∷ bs) o = (o.0, octets_take n bs o.1)

pub octets_drop : (n : ℕ) (bs : List ℕ) → Octets bs → Octets (drop n bs)
unfolding Octets
octets_drop zero bs o = o
octets_drop (suc n) [] o = tt
octets_drop (suc n) (b ∷ bs) o = octets_drop n bs o.1

pub octets_run : (bs : List ℕ) (at n : ℕ) → Octets bs → Octets (run bs at n)
unfolding run
octets_run bs at n o = octets_take n (drop at bs) (octets_drop at bs o)

pub octets_put : (bs : List ℕ) (at : ℕ) (new : List ℕ) → Octets bs → Octets new → Octets (put bs at new)
unfolding put
octets_put bs at new o p =
    octets_append (take at bs) (new ++ drop (at + length new) bs) (octets_take at bs o) (octets_append new (drop (at + length new) bs) p (octets_drop (at + length new) bs o))

pub octets_zeros : (n : ℕ) → Octets (zeros n)
unfolding zeros Octets
octets_zeros zero = tt
octets_zeros (suc n) = (omega arith, octets_zeros n)

pub octets_grow : (bs : List ℕ) (n : ℕ) → Octets bs → Octets (grow bs n)
unfolding grow
octets_grow bs n o = octets_append bs (zeros (n - length bs)) o (octets_zeros (n - length bs))

pub octets_be_bytes : (w x : ℕ) → Octets (be_bytes w x)
unfolding be_bytes Octets
octets_be_bytes zero x = tt
octets_be_bytes (suc w) x = (omega arith, octets_be_bytes w x)

pub octets_spell : (bs : List ℕ) (at w x : ℕ) → Octets bs → Octets (spell bs at w x)
unfolding spell
octets_spell bs at w x o = octets_put bs at (be_bytes w x) o (octets_be_bytes w x)

-- a list whose reads are all below 256
pub octets_of : (bs : List ℕ) → EachOctet bs → Octets bs
octets_of bs h = octets_from bs (λ i _. h i)

pub octets_in : (bs : List ℕ) → Octets bs → EachOctet bs
octets_in bs o i = octet_at bs i o

-- what a list reads after a replacement
pub octets_after : (bs : List ℕ) (at : ℕ) (new after : List ℕ) → after ≡ put bs at new → EachOctet bs → Octets new → EachOctet after
octets_after bs at new after is h o = octets_in after (subst Octets (sym is) (octets_put bs at new (octets_of bs h) o))
