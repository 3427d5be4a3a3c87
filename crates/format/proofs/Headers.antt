-- The judgement of a header, from parts of the bytes. Assumes nothing.
use Rattle.std.proofs.Common.{◌≡◌, ℕ, ◌+◌, ◌<◌, ◌≤◌, true, cond, ◌&&◌, eqb, leb, List, [], ◌∷◌, length, get_or, drop, Ok, Err, sym, refl, ap, ◌∙◌, zero-add, arith}
use Rattle.std.proofs.lemmas.Bool.{and_from, and_parts, eq-eqb, le-leb, leb-true, lt-leb}
use Rattle.fault.specs.declared.Fault.{Fault}
use Rattle.fault.specs.declared.Layer.TheVariants.{Header}
use Rattle.fault.specs.declared.Reason.TheVariants.{NotQcow2}
use Rattle.fault.specs.Faults.{fault}
use Rattle.fault.specs.Outcomes.{and_then}
use Rattle.byte_lists.specs.Runs.{run}
use Rattle.byte_lists.specs.Numbers.{number}
use Rattle.byte_lists.proofs.Runs.{length_run, get_or-run}
use Rattle.byte_lists.proofs.Numbers.{number-run}
use Rattle.format.specs.Header.{opens, fields, fields_from, judged, kind_judged, places_judged, header, header_of, good}
use Rattle.format.specs.declared.numbers.Numbers.{Numbers}

pub opens_from : (bs : List ℕ) → 512 ≤ length bs → get_or bs 0 0 ≡ 0x51 → get_or bs 1 0 ≡ 0x46 → get_or bs 2 0 ≡ 0x49 → get_or bs 3 0 ≡ 0xFB → opens bs ≡ true
opens_from bs h a b c d =
    and_from (leb 512 (length bs)) _ (le-leb 512 (length bs) h)
    (and_from (eqb (get_or bs 0 0) 0x51) _ (eq-eqb (get_or bs 0 0) 0x51 a)
    (and_from (eqb (get_or bs 1 0) 0x46) _ (eq-eqb (get_or bs 1 0) 0x46 b) (and_from (eqb (get_or bs 2 0) 0x49) _ (eq-eqb (get_or bs 2 0) 0x49 c) (eq-eqb (get_or bs 3 0) 0xFB d))))

pub opens_long : (bs : List ℕ) → opens bs ≡ true → 512 ≤ length bs
opens_long bs o = leb-true 512 (length bs) (and_parts (leb 512 (length bs)) _ o).0

-- a list that has 4 bytes and more
four_more : (bs : List ℕ) → 4 ≤ length bs → bs ≡ get_or bs 0 0 ∷ get_or bs 1 0 ∷ get_or bs 2 0 ∷ get_or bs 3 0 ∷ drop 4 bs
four_more (a ∷ b ∷ c ∷ d ∷ bs) h = refl
four_more [] h = absurd (omega arith)
four_more (a ∷ []) h = absurd (omega arith)
four_more (a ∷ b ∷ []) h = absurd (omega arith)
four_more (a ∷ b ∷ c ∷ []) h = absurd (omega arith)

-- the fields, read behind the first four bytes
pub fields_behind : (bs rest : List ℕ) → drop 4 bs ≡ rest → 4 ≤ length bs → fields bs ≡ fields_from 4 rest
unfolding number run
fields_behind bs rest e h = ap fields (four_more bs h) ∙ ap (λ l. fields_from 4 l) e

-- a judgement that follows the opening bytes
module _ (bs : List ℕ) (len : ℕ) (n : Numbers) (o : opens bs ≡ true) (e : n ≡ fields bs) where
  opened : header_of bs len ≡ judged n len
  opened = ap (λ t. and_then (good t NotQcow2 0) (λ _. judged (fields bs) len)) o ∙ ap (λ m. judged m len) (sym e)

  pub header_kind : (f : Fault) → Err f ≡ kind_judged n len → Err f ≡ header_of bs len
  header_kind f k = sym (opened ∙ ap (λ r. and_then r (λ _. and_then (places_judged n len) (λ _. Ok n))) (sym k))

  pub header_places : (u : Unit {0}) (f : Fault) → Ok u ≡ kind_judged n len → Err f ≡ places_judged n len → Err f ≡ header_of bs len
  header_places u f k p =
      sym (opened ∙ ap (λ r. and_then r (λ _. and_then (places_judged n len) (λ _. Ok n))) (sym k) ∙ ap (λ r. and_then r (λ _. Ok n)) (sym p))

  pub header_ok : (u v : Unit {0}) → Ok u ≡ kind_judged n len → Ok v ≡ places_judged n len → Ok n ≡ header_of bs len
  header_ok u v k p = sym (opened ∙ ap (λ r. and_then r (λ _. and_then (places_judged n len) (λ _. Ok n))) (sym k) ∙ ap (λ r. and_then r (λ _. Ok n)) (sym p))

-- bytes that agree on each field of the first 512 have the same fields
same_fields : (xs ys : List ℕ) → ((o w : ℕ) → o + w ≤ 512 → number xs o w ≡ number ys o w) → fields xs ≡ fields ys
same_fields xs ys p =
    let v = p 4 4 (omega arith) in
    let name = p 8 8 (omega arith) in
    let letters = p 16 4 (omega arith) in
    let bits = p 20 4 (omega arith) in
    let size = p 24 8 (omega arith) in
    let crypt = p 32 4 (omega arith) in
    let entries = p 36 4 (omega arith) in
    let l1 = p 40 8 (omega arith) in
    let refcounts = p 48 8 (omega arith) in
    let extent = p 56 4 (omega arith) in
    let snapshots = p 60 4 (omega arith) in
    let records = p 64 8 (omega arith) in
    let incompatible = p 72 8 (omega arith) in
    let autoclear = p 88 8 (omega arith) in
    let order = p 96 4 (omega arith) in
    let header = p 100 4 (omega arith) in
    λ k. record {
      version = v k;
      name = name k;
      letters = letters k;
      bits = bits k;
      size = size k;
      crypt = crypt k;
      entries = entries k;
      l1 = l1 k;
      refcounts = refcounts k;
      extent = extent k;
      snapshots = snapshots k;
      records = records k;
      incompatible = cond (eqb (v k) 3) (incompatible k) 0;
      autoclear = cond (eqb (v k) 3) (autoclear k) 0;
      order = cond (eqb (v k) 3) (order k) 4;
      header = cond (eqb (v k) 3) (header k) 72;
    }

-- the first 512 bytes decide
pub header-first : (bs : List ℕ) → 512 ≤ length bs → header_of (run bs 0 512) (length bs) ≡ header bs
header-first bs h =
    let first = run bs 0 512 in
    let at : (i : ℕ) → i < 512 → get_or first i 0 ≡ get_or bs i 0 = λ i lt. get_or-run bs 0 512 i lt ∙ ap (λ k. get_or bs k 0) (zero-add i) in
    let long : leb 512 (length first) ≡ leb 512 (length bs) = le-leb 512 (length first) (omega (arith, length_run bs 0 512 h)) ∙ sym (le-leb 512 (length bs) h) in
    let a = at 0 (omega arith) in let b = at 1 (omega arith) in let c = at 2 (omega arith) in let d = at 3 (omega arith) in
    let o : opens first ≡ opens bs = λ k. long k && (eqb (a k) 0x51 && (eqb (b k) 0x46 && (eqb (c k) 0x49 && eqb (d k) 0xFB))) in
    let f : fields first ≡ fields bs = same_fields first bs (λ p w le. number-run bs 0 512 p w le ∙ ap (λ k. number bs k w) (zero-add p)) in
    λ k. and_then (good (o k) NotQcow2 0) (λ _. judged (f k) (length bs))

-- a store that has no 512 bytes
pub header-short : (bs : List ℕ) → length bs < 512 → header bs ≡ Err (fault NotQcow2 Header 0)
header-short bs h = ap (λ t. and_then (good (t && (eqb (get_or bs 0 0) 0x51 && (eqb (get_or bs 1 0) 0x46 && (eqb (get_or bs 2 0) 0x49 && eqb (get_or bs 3 0) 0xFB)))) NotQcow2 0) (λ _. judged (fields bs) (length bs))) (lt-leb 512 (length bs) h)
