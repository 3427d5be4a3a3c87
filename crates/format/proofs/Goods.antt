-- What is known of a header that was judged good: every row's test. Assumes nothing.
use Rattle.std.proofs.Common.{◌≡◌, ℕ, ◌/◌, ◌%◌, ◌^◌, ◌≤◌, Bool, true, false, eqb, leb, List, length, Ok, Result, sym, refl, subst}
use Rattle.std.proofs.lemmas.Bool.{and_parts, leb-true, eqb-true}
use Rattle.fault.specs.declared.Fault.{Fault}
use Rattle.fault.specs.declared.Reason.{Reason}
use Rattle.fault.specs.declared.Reason.TheVariants.{NotQcow2}
use Rattle.fault.specs.Outcomes.{and_then}
use Rattle.fault.proofs.Outcomes.{not_both, then_ok}
use Rattle.format.specs.declared.numbers.Numbers.{Numbers}
use Rattle.format.specs.Clusters.{cluster}
use Rattle.format.specs.Header.{good, opens, fields, version_good, bits_good, length_good, header_good, size_good, needed, table_good, extent_good, records_good, letters_good, name_good, kind_judged, places_judged, judged, header}

-- one row was passed
row : {Y : Type 0} (t : Bool) (why : Reason) (place : ℕ) (f : Unit {0} → Result Y Fault) (y : Y) → and_then (good t why place) f ≡ Ok y → (t ≡ true) × (f tt ≡ Ok y)
row true why place f y e = (refl, e)
row false why place f y e = absurd (not_both y _ e refl)

last : (t : Bool) (why : Reason) (place : ℕ) (y : Unit {0}) → good t why place ≡ Ok y → t ≡ true
last true why place y e = refl
last false why place y e = absurd (not_both y _ e refl)

pub record Kind (n : Numbers) (len : ℕ) : Type 0 where
  pub version : version_good n ≡ true
  pub bits : bits_good n ≡ true
  pub whole : length_good n len ≡ true
  pub crypt : eqb n.crypt 0 ≡ true
  pub incompatible : eqb n.incompatible 0 ≡ true
  pub autoclear : eqb n.autoclear 0 ≡ true
  pub order : eqb n.order 4 ≡ true
  pub header : header_good n ≡ true

pub record Places (n : Numbers) (len : ℕ) : Type 0 where
  pub size : size_good n ≡ true
  pub entries : eqb n.entries (needed n) ≡ true
  pub l1 : table_good n len n.l1 1 ≡ true
  pub extent : extent_good n ≡ true
  pub refcounts : table_good n len n.refcounts n.extent ≡ true
  pub snapshots : leb n.snapshots 64 ≡ true
  pub records : records_good n len ≡ true
  pub letters : letters_good n ≡ true
  pub name : name_good n ≡ true

pub kind_good : (n : Numbers) (len : ℕ) (u : Unit {0}) → kind_judged n len ≡ Ok u → Kind n len
kind_good n len u e =
    let a = row (version_good n) _ _ _ u e in
    let b = row (bits_good n) _ _ _ u a.1 in
    let c = row (length_good n len) _ _ _ u b.1 in
    let d = row (eqb n.crypt 0) _ _ _ u c.1 in
    let f = row (eqb n.incompatible 0) _ _ _ u d.1 in
    let g = row (eqb n.autoclear 0) _ _ _ u f.1 in
    let h = row (eqb n.order 4) _ _ _ u g.1 in
    record {
      version = a.0;
      bits = b.0;
      whole = c.0;
      crypt = d.0;
      incompatible = f.0;
      autoclear = g.0;
      order = h.0;
      header = last (header_good n) _ _ u h.1;
    }

pub places_good : (n : Numbers) (len : ℕ) (u : Unit {0}) → places_judged n len ≡ Ok u → Places n len
places_good n len u e =
    let a = row (size_good n) _ _ _ u e in
    let b = row (eqb n.entries (needed n)) _ _ _ u a.1 in
    let c = row (table_good n len n.l1 1) _ _ _ u b.1 in
    let d = row (extent_good n) _ _ _ u c.1 in
    let f = row (table_good n len n.refcounts n.extent) _ _ _ u d.1 in
    let g = row (leb n.snapshots 64) _ _ _ u f.1 in
    let h = row (records_good n len) _ _ _ u g.1 in
    let i = row (letters_good n) _ _ _ u h.1 in
    record {
      size = a.0;
      entries = b.0;
      l1 = c.0;
      extent = d.0;
      refcounts = f.0;
      snapshots = g.0;
      records = h.0;
      letters = i.0;
      name = last (name_good n) _ _ u i.1;
    }

pub record Good (bs : List ℕ) (n : Numbers) : Type 0 where
  pub opening : opens bs ≡ true
  pub is : n ≡ fields bs
  pub kind : Kind n (length bs)
  pub places : Places n (length bs)

judged-good : (m n : Numbers) (len : ℕ) → judged m len ≡ Ok n → (m ≡ n) × (Kind m len × Places m len)
judged-good m n len e =
    let a = then_ok (kind_judged m len) _ n e in
    let b = then_ok (places_judged m len) _ n a.1.1 in
    (cc b.1.1, (kind_good m len a.0 a.1.0, places_good m len b.0 b.1.0))

pub header_facts : (bs : List ℕ) (n : Numbers) → header bs ≡ Ok n → Good bs n
header_facts bs n e =
    let o = row (opens bs) NotQcow2 0 (λ _. judged (fields bs) (length bs)) n e in
    let j = judged-good (fields bs) n (length bs) o.1 in
    record {
      opening = o.0;
      is = sym j.0;
      kind = subst (λ m. Kind m (length bs)) j.0 j.1.0;
      places = subst (λ m. Places m (length bs)) j.0 j.1.1;
    }

-- a good image has whole clusters, at most 2 to the 28
pub clusters_most : (bs : List ℕ) (n : Numbers) → Good bs n → (length bs % cluster n ≡ 0) × (length bs / cluster n ≤ 2 ^ 28)
clusters_most bs n g =
    let p = and_parts (eqb (length bs % cluster n) 0) _ g.kind.whole in
    (eqb-true (length bs % cluster n) 0 p.0, leb-true (length bs / cluster n) (2 ^ 28) p.1)
