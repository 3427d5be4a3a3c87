-- A chain by its top layer: what it shows and what is below. Assumes nothing.
use Rattle.std.proofs.Common.{◌≡◌, ℕ, Option, None, Some, is_none, ◌-◌, ◌/◌, ◌^◌, ◌<◌, ◌≤◌, min, Bool, true, false, cond, not, ◌&&◌, ◌||◌, eqb, ltb, leb, List, [], ◌∷◌, length, get_or, take, drop, Ok, Err, Result, sym, refl, ap, ◌∙◌, inl, inr, arith}
use Rattle.std.proofs.lemmas.List.{take_rest}
use Rattle.std.proofs.lemmas.Bool.{cond-true, cond-false, lt-ltb, le-ltb, le-leb, lt-leb, ltb-true, ltb-false, and_parts, and_cases, not-true, not-false, or_left, or_right, or_from, false≢true}
use Rattle.fault.specs.declared.Fault.{Fault}
use Rattle.fault.specs.Outcomes.{and_then}
use Rattle.byte_lists.specs.Runs.{zeros}
use Rattle.disk.specs.Readings.{Reading, past_end}
use Rattle.disk.specs.Disks.{zeros_reading}
use Rattle.format.specs.declared.numbers.Numbers.{Numbers}
use Rattle.format.specs.Header.{has_backing}
use Rattle.format.specs.Clusters.{per_cluster}
use Rattle.format.specs.declared.entries.Entry.{Entry}
use Rattle.guest.specs.Shown.{mount_sectors, mount_reading, guest_entry, passed_up, under, offset_shows, entry_shows, shows}
use Rattle.guest.proofs.Sounding.{mount_reading-by_sector, sector_by_sector}
use Rattle.chain.specs.Chains.{chain_of}

module _ {L : Type 0} (header : L → Result Numbers Fault) (bytes : L → List ℕ) (base : Reading) where
  chain : List L → Reading
  chain ls = chain_of header bytes ls base

  -- a top layer, over what is left
  pub chain_top : (ls : List L) (x : L) → 1 ≤ length ls → x ≡ get_or ls 0 x → chain_of header bytes ls base ≡ mount_reading (header x) (bytes x) (chain_of header bytes (take (length ls - 1) (drop 1 ls)) base)
  chain_top [] x h e = absurd (omega arith)
  chain_top (l ∷ ls) x h e =
      ap (λ y. mount_reading (header y) (bytes y) (chain_of header bytes ls base)) (sym e)
      ∙ ap (λ r. mount_reading (header x) (bytes x) (chain_of header bytes r base)) (sym (take_rest (l ∷ ls) 1))

  module _ (ls rest : List L) (x : L) (some : 1 ≤ length ls) (first : x ≡ get_or ls 0 x) (others : rest ≡ take (length ls - 1) (drop 1 ls)) where
    below : Reading
    below = chain_of header bytes rest base

    top : chain_of header bytes ls base ≡ mount_reading (header x) (bytes x) below
    unfolding below
    top = chain_top ls x some first ∙ ap (λ r. mount_reading (header x) (bytes x) (chain_of header bytes r base)) (sym others)

    seen : chain_of header bytes ls base ≡ sector_by_sector (header x) (bytes x) below
    seen = top ∙ mount_reading-by_sector (header x) (bytes x) below

    pub top_past : (s : ℕ) → mount_sectors (header x) ≤ s → (chain_of header bytes ls base).answer s ≡ past_end s
    top_past s h = ap (λ r. r.answer s) seen ∙ cond-false (ltb s (mount_sectors (header x))) _ _ (le-ltb s (mount_sectors (header x)) h)

    pub top_bad : (s : ℕ) (f : Fault) → s < mount_sectors (header x) → header x ≡ Err f → (chain_of header bytes ls base).answer s ≡ Err f
    unfolding below
    top_bad s f lt e =
        ap (λ r. r.answer s) seen ∙ cond-true (ltb s (mount_sectors (header x))) _ _ (lt-ltb s (mount_sectors (header x)) lt)
        ∙ ap (λ h. and_then h λ n. shows n (bytes x) (chain_of header bytes rest base) n.l1 s) e

    module _ (s : ℕ) (n : Numbers) (lt : s < mount_sectors (header x)) (is : header x ≡ Ok n) where
      shown : (chain_of header bytes ls base).answer s ≡ shows n (bytes x) below n.l1 s
      unfolding below
      shown =
          ap (λ r. r.answer s) seen ∙ cond-true (ltb s (mount_sectors (header x))) _ _ (lt-ltb s (mount_sectors (header x)) lt)
          ∙ ap (λ h. and_then h λ m. shows m (bytes x) (chain_of header bytes rest base) m.l1 s) is

      pub top_entry : (e : Entry) → Ok e ≡ guest_entry n (bytes x) n.l1 (s / per_cluster n) → (chain_of header bytes ls base).answer s ≡ entry_shows n (bytes x) (chain_of header bytes rest base) e s
      unfolding below
      top_entry e h = shown ∙ ap (λ r. and_then r λ y. entry_shows n (bytes x) below y s) (sym h)

-- whether the disk below shows through an entry
abbrev pub goes : Numbers → Entry → ℕ → ℕ → Bool
goes n e s below = not e.zero && (is_none e.offset && (has_backing n && ltb s below))

module _ (n : Numbers) (bs : List ℕ) (low : Reading) (s : ℕ) where
  nothing_under : not (eqb n.name 0) && ltb s low.sectors ≡ false → under n (zeros_reading 0) s ≡ under n low s
  nothing_under e = elim (and_cases (not (eqb n.name 0)) _ e) [
    | inl a ↦
        cond-true (eqb n.name 0 || leb (min 0 (2 ^ 55)) s) _ _ (or_right (eqb n.name 0) _ (le-leb (min 0 (2 ^ 55)) s (omega arith)))
        ∙ sym (cond-true (eqb n.name 0 || leb low.sectors s) _ _ (or_left (eqb n.name 0) _ (not-false (eqb n.name 0) a)))
    | inr b ↦
        cond-true (eqb n.name 0 || leb (min 0 (2 ^ 55)) s) _ _ (or_right (eqb n.name 0) _ (le-leb (min 0 (2 ^ 55)) s (omega arith)))
        ∙ sym (cond-true (eqb n.name 0 || leb low.sectors s) _ _ (or_right (eqb n.name 0) _ (le-leb low.sectors s (ltb-false s low.sectors b))))
  ]

  parts_stay : (z : Bool) (o : Option ℕ) → not z && (is_none o && (has_backing n && ltb s low.sectors)) ≡ false →
      cond z (Ok (zeros 512)) (offset_shows n bs (zeros_reading 0) o s) ≡ cond z (Ok (zeros 512)) (offset_shows n bs low o s)
  parts_stay true o h = refl
  parts_stay false None h = nothing_under h
  parts_stay false (Some at) h = refl

  -- where it does not, any disk may stand below
  pub stays : (e : Entry) (k : ℕ) → k ≡ low.sectors → false ≡ goes n e s k → entry_shows n bs (zeros_reading 0) e s ≡ entry_shows n bs low e s
  stays e k is h = parts_stay e.zero e.offset (ap (λ j. goes n e s j) (sym is) ∙ sym h)

  parts_go : (z : Bool) (o : Option ℕ) → not z && (is_none o && (has_backing n && ltb s low.sectors)) ≡ true →
      cond z (Ok (zeros 512)) (offset_shows n bs low o s) ≡ passed_up (low.answer s)
  parts_go true o h = absurd (false≢true h)
  parts_go false (Some at) h = absurd (false≢true h)
  parts_go false None h =
      let b = and_parts (has_backing n) _ h in
      cond-false (eqb n.name 0 || leb low.sectors s) _ _ (or_from (eqb n.name 0) _ (not-true (eqb n.name 0) b.0) (lt-leb low.sectors s (ltb-true s low.sectors b.1)))

  -- where it does, its answer is passed up
  pub passes : (e : Entry) (k : ℕ) → k ≡ low.sectors → true ≡ goes n e s k → entry_shows n bs low e s ≡ passed_up (low.answer s)
  passes e k is h = parts_go e.zero e.offset (ap (λ j. goes n e s j) (sym is) ∙ sym h)
