-- What create made is judged good, with the numbers asked for. Assumes nothing.
use Rattle.std.proofs.Common.{◌≡◌, ℕ, ◌+◌, ◌*◌, ◌^◌, ◌<◌, ◌≤◌, true, cond, eqb, ◌⊎◌, List, [], length, get_or, drop, sym, ap, ◌∙◌, zero-add, arith, rules, tests}
use Rattle.std.proofs.lemmas.Bool.{eq-eqb, eqb-true, cond-true, cond_both}
use Rattle.byte_lists.specs.Runs.{run}
use Rattle.byte_lists.specs.Numbers.{be, be_bytes, number, spell}
use Rattle.byte_lists.specs.Fields.{field, spelled}
use Rattle.byte_lists.proofs.Runs.{get_or-run, run-put_same}
use Rattle.byte_lists.proofs.Numbers.{length-spell}
use Rattle.byte_lists.specs.Numbers.{length-be_bytes}
use Rattle.byte_lists.proofs.Fields.{number_spelled, run-spelled_below}
use Rattle.format.specs.declared.numbers.Numbers.{Numbers}
use Rattle.format.specs.Clusters.{cluster}
use Rattle.format.specs.Header.{opens, fields}
use Rattle.format.proofs.Clusters.{cluster_least}
use Rattle.format.proofs.Headers.{opens_from}
use Rattle.create.specs.Create.{shared_fields, late_fields, header_fields, table_fields, created}
use Rattle.create.proofs.Filling.{named, shared, headed, length-named, length_shared, length_headed, length-created}
use Rattle.create.proofs.Lists.{shared_ordered, late_ordered, header_ordered, table_ordered}

-- numbers that fit their fields
pub record Fitting (n : Numbers) : Type 0 where
  pub version : n.version < 256 ^ 4
  pub name : n.name < 256 ^ 8
  pub letters : n.letters < 256 ^ 4
  pub bits : n.bits < 256 ^ 4
  pub size : n.size < 256 ^ 8
  pub crypt : n.crypt < 256 ^ 4
  pub entries : n.entries < 256 ^ 4
  pub l1 : n.l1 < 256 ^ 8
  pub refcounts : n.refcounts < 256 ^ 8
  pub extent : n.extent < 256 ^ 4
  pub snapshots : n.snapshots < 256 ^ 4
  pub records : n.records < 256 ^ 8
  pub incompatible : n.incompatible < 256 ^ 8
  pub autoclear : n.autoclear < 256 ^ 8
  pub order : n.order < 256 ^ 4
  pub header : n.header < 256 ^ 4

module _ (n : Numbers) (name : List ℕ) (fits : n.name + length name ≤ 4 * cluster n) where
  least : 512 ≤ cluster n
  least = cluster_least n.bits

  -- below the tables the image is as the header left it
  below_tables : (at w : ℕ) → at + w ≤ cluster n → run (created n name) at w ≡ run (headed n name fits) at w
  unfolding created
  below_tables at w h =
      run-spelled_below (cluster n) (table_fields (cluster n)) (headed n name fits) at w h
      (table_ordered (cluster n) (length (headed n name fits)) least (omega (arith, length_headed n name fits)))

  below_late : (at w : ℕ) → at + w ≤ 72 → run (headed n name fits) at w ≡ run (shared n name fits) at w
  below_late at w h =
      run-spelled_below 72 (header_fields n) (shared n name fits) at w h (header_ordered n (length (shared n name fits)) (omega (arith, length_shared n name fits, least)))

  -- a field that both versions have
  field_shared : (i : ℕ) → i < 13 → (get_or (shared_fields n) i (field 0 0 0)).at + (get_or (shared_fields n) i (field 0 0 0)).wide ≤ 72 →
      (get_or (shared_fields n) i (field 0 0 0)).value < 256 ^ (get_or (shared_fields n) i (field 0 0 0)).wide →
      number (created n name) (get_or (shared_fields n) i (field 0 0 0)).at (get_or (shared_fields n) i (field 0 0 0)).wide ≡ (get_or (shared_fields n) i (field 0 0 0)).value
  unfolding number
  field_shared i lt low small =
      let f = get_or (shared_fields n) i (field 0 0 0) in
      ap be (below_tables f.at f.wide (omega (arith, least)) ∙ below_late f.at f.wide low)
      ∙ number_spelled 0 (shared_fields n) (named n name fits) i lt (shared_ordered n (length (named n name fits)) (omega (arith, length-named n name fits, least))) small

  -- a field of version 3
  field_late : (i : ℕ) → i < 4 → n.version ≡ 3 → (get_or (late_fields n) i (field 0 0 0)).at + (get_or (late_fields n) i (field 0 0 0)).wide ≤ 104 →
      (get_or (late_fields n) i (field 0 0 0)).value < 256 ^ (get_or (late_fields n) i (field 0 0 0)).wide →
      number (created n name) (get_or (late_fields n) i (field 0 0 0)).at (get_or (late_fields n) i (field 0 0 0)).wide ≡ (get_or (late_fields n) i (field 0 0 0)).value
  unfolding number
  field_late i lt three low small =
      let f = get_or (late_fields n) i (field 0 0 0) in
      let e : header_fields n ≡ late_fields n = cond-true (eqb n.version 3) (late_fields n) [] (eq-eqb n.version 3 three) in
      ap be (below_tables f.at f.wide (omega (arith, least)))
      ∙ ap (λ l. number (spelled l (shared n name fits)) f.at f.wide) e
      ∙ number_spelled 72 (late_fields n) (shared n name fits) i lt (late_ordered n (length (shared n name fits)) (omega (arith, length_shared n name fits, least))) small

  -- the opening bytes
  first_four : run (created n name) 0 4 ≡ be_bytes 4 0x514649FB
  unfolding spell
  first_four =
      let z = named n name fits in
      let next = spell z 0 4 0x514649FB in
      let e : length next ≡ length z = length-spell z 0 4 0x514649FB (omega (arith, length-named n name fits, least)) in
      below_tables 0 4 (omega (arith, least))
      ∙ below_late 0 4 (omega arith)
      ∙ run-spelled_below 4 (drop 1 (shared_fields n)) next 0 4 (omega arith) (shared_ordered n (length next) (omega (arith, e, length-named n name fits, least))).1
      ∙ run-put_same z 0 (be_bytes 4 0x514649FB) 4 (sym (length-be_bytes 4 0x514649FB)) (omega arith)

  byte_at : (i : ℕ) → i < 4 → get_or (created n name) i 0 ≡ get_or (be_bytes 4 0x514649FB) i 0
  byte_at i lt = sym (get_or-run (created n name) 0 4 i lt ∙ ap (λ k. get_or (created n name) k 0) (zero-add i)) ∙ ap (λ l. get_or l i 0) first_four

  pub created-opens : opens (created n name) ≡ true
  unfolding be_bytes
  created-opens =
      opens_from (created n name) (omega (arith, length-created n name fits, least)) (byte_at 0 (omega arith)) (byte_at 1 (omega arith)) (byte_at 2 (omega arith)) (byte_at 3 (omega arith))

  module _ (fit : Fitting n) (kind : (n.version ≡ 2) ⊎ (n.version ≡ 3)) where
    -- a field that only version 3 has, or what stands for it in version 2
    since : (x y d : ℕ) → (n.version ≡ 3 → x ≡ y) → (n.version ≡ 2 → d ≡ y) → cond (eqb (number (created n name) 4 4) 3) x d ≡ y
    since x y d late early =
        ap (λ v. cond (eqb v 3) x d) (field_shared 1 (omega arith) (omega arith) fit.version)
        ∙ cond_both (eqb n.version 3) x d (λ z. z ≡ y) (λ e. late (eqb-true n.version 3 e)) (λ e. early (search (rules, tests)))

    pub created-fields : (n.version ≡ 2 → (n.incompatible ≡ 0) × ((n.autoclear ≡ 0) × ((n.order ≡ 4) × (n.header ≡ 72)))) → fields (created n name) ≡ n
    created-fields two =
        let e-version = field_shared 1 (omega arith) (omega arith) fit.version in
        let e-name = field_shared 2 (omega arith) (omega arith) fit.name in
        let e-letters = field_shared 3 (omega arith) (omega arith) fit.letters in
        let e-bits = field_shared 4 (omega arith) (omega arith) fit.bits in
        let e-size = field_shared 5 (omega arith) (omega arith) fit.size in
        let e-crypt = field_shared 6 (omega arith) (omega arith) fit.crypt in
        let e-entries = field_shared 7 (omega arith) (omega arith) fit.entries in
        let e-l1 = field_shared 8 (omega arith) (omega arith) fit.l1 in
        let e-refcounts = field_shared 9 (omega arith) (omega arith) fit.refcounts in
        let e-extent = field_shared 10 (omega arith) (omega arith) fit.extent in
        let e-snapshots = field_shared 11 (omega arith) (omega arith) fit.snapshots in
        let e-records = field_shared 12 (omega arith) (omega arith) fit.records in
        let e-incompatible = since _ _ 0 (λ three. field_late 0 (omega arith) three (omega arith) fit.incompatible) (λ e. sym (two e).0) in
        let e-autoclear = since _ _ 0 (λ three. field_late 1 (omega arith) three (omega arith) fit.autoclear) (λ e. sym (two e).1.0) in
        let e-order = since _ _ 4 (λ three. field_late 2 (omega arith) three (omega arith) fit.order) (λ e. sym (two e).1.1.0) in
        let e-header = since _ _ 72 (λ three. field_late 3 (omega arith) three (omega arith) fit.header) (λ e. sym (two e).1.1.1) in
        λ k. record {
          version = e-version k;
          name = e-name k;
          letters = e-letters k;
          bits = e-bits k;
          size = e-size k;
          crypt = e-crypt k;
          entries = e-entries k;
          l1 = e-l1 k;
          refcounts = e-refcounts k;
          extent = e-extent k;
          snapshots = e-snapshots k;
          records = e-records k;
          incompatible = e-incompatible k;
          autoclear = e-autoclear k;
          order = e-order k;
          header = e-header k;
        }
