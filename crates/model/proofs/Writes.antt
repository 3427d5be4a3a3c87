-- A write, in each of its cases: the state after it, that it is clean, and what it shows.
use Rattle.std.proofs.Common.{◌≡◌, ℕ, zero, suc, ◌+◌, ◌-◌, ◌<◌, ◌≤◌, true, false, cond, ◌⊎◌, List, length, get_or, set, sym, refl, ap, ◌∙◌, subst, inl, inr, arith}
use Rattle.std.proofs.lemmas.Bool.{cond-true, cond-false, cond_both}
use Rattle.model.specs.Clusters.{Cluster, Entry, hole, zeros, at, host, Seen, holds, put, seen, Shape, Laws}
use Rattle.model.specs.References.{State, total, hit, lows, to_any, to_data, cell2, l1, l2, weigh}
use Rattle.model.specs.Pictures.{Picture, edit, Image, read, view}
use Rattle.model.specs.Calls.{Write, mine, table_at, entry_at, unmark, in_place, move_data, move_both, write, rewrite}
use Rattle.model.specs.Invariant.{Marked2, Sound, Clean}
use Rattle.model.specs.Law.{imagine, Free, Writable}
use Rattle.model.proofs.Sums.{missed, put_self, put_other}
use Rattle.model.proofs.Frame.{at_most, low_at, cell2_frame, cell2_self}
use Rattle.model.proofs.Facts.{free_live, free_all, cell2_pos, cell2_shaped}
use Rattle.model.proofs.Flags.{put_marked2, fresh_marked, recount_marked2}
use Rattle.model.proofs.Fixed.{alone_view, alone_sound, alone_flagged}
use Rattle.model.proofs.InPlace.{edited, edit_image, place_facts, place_sound, place_flagged, place_view}
use Rattle.model.proofs.Entries.{l2-set, l2-set_sound, l2-set-view, l2-set_flagged}
use Rattle.model.proofs.Tables.{l1-set, l1-set_sound, l1-set-view, l1-set_flagged}
use Rattle.model.proofs.Owners.{mine_once, moves_both}

-- what is promised of the state t, which shows the image a
abbrev Does : Shape → State → Image → Type 0
Does v t a = Clean v t × (view v t ≡ a)

edit_same : (p : Picture) (i j : ℕ) → edit p i j (p i j) ≡ p
edit_same p i j = sym (edited p p i j (p i j) refl (λ l ne. refl) (λ k l ne. refl))

-- bytes for a cluster c that is neither the live L1 table nor the L2 table under entry i
module _ (v : Shape) (ok : Laws v) (s : State) (i j c : ℕ) (w : Cluster) (pos : 0 < c) (offL : hit c s.live ≡ 0) (offT : hit c (table_at v s i) ≡ 0) where
  after_top : put s.heap c w s.live ≡ s.heap s.live
  after_top = put_other s.heap c w s.live (missed c s.live pos offL)

  after_table : table_at v (rewrite v s c w) i ≡ table_at v s i
  after_table = ap (λ k. get_or (v.as1 k) i 0) after_top

  after_cell : cell2 v (put s.heap c w) (table_at v (rewrite v s c w) i) ≡ cell2 v s.heap (table_at v s i)
  after_cell = ap (cell2 v (put s.heap c w)) after_table ∙ cell2_frame v ok s.heap c w pos (table_at v s i) (missed c (table_at v s i) pos offT)

  after-entry : entry_at v (rewrite v s c w) i j ≡ entry_at v s i j
  after-entry = ap (λ k. get_or (v.as2 k) j hole) after_cell

  -- then the entry j of the L2 table set to x
  abbrev data_and_entry : ℕ → (ℕ → ℕ) → State
  data_and_entry x n = record {
    heap = put (put s.heap c w) (table_at v s i) (v.put2 (s.heap (table_at v s i)) j x);
    count = n;
    fixed = s.fixed;
    live = s.live;
    snaps = s.snaps;
  }

  data_and_entry_is : (x : ℕ) (n : ℕ → ℕ) → l2-set v (rewrite v s c w) i j x n ≡ data_and_entry x n
  data_and_entry_is x n =
      let m = s.heap in
      let e : put (put m c w) (table_at v (rewrite v s c w) i) (v.put2 (put m c w (table_at v (rewrite v s c w) i)) j x) ≡ put (put m c w) (table_at v s i) (v.put2 (m (table_at v s i)) j x) =
      ap (λ t. put (put m c w) t (v.put2 (put m c w t) j x)) after_table
      ∙ ap (λ k. put (put m c w) (table_at v s i) (v.put2 k j x)) (put_other m c w (table_at v s i) (missed c (table_at v s i) pos offT)) in
      λ k. record { heap = e k; count = n; fixed = s.fixed; live = s.live; snaps = s.snaps }

  data_and_entry_does : (n : ℕ → ℕ) → Clean v (rewrite v s c w) → view v (rewrite v s c w) ≡ view v s → i < v.wide → j < v.deep → c < v.limit →
      0 < table_at v s i → s.count (table_at v s i) ≡ 1 → (s.count c ≡ 0) ⊎ ((c ≡ host (entry_at v s i j)) × (s.count c ≡ 1)) →
      ((h : ℕ) → n h + hit h (host (entry_at v s i j)) ≡ s.count h + hit h c) →
      Does v (data_and_entry c n) (edit_image i j (holds w) (view v s))
  data_and_entry_does n clean shown inside column fits there once new balance =
      let r = rewrite v s c w in
      let there1 : 0 < table_at v r i = omega (arith, after_table, there) in
      let once1 : s.count (table_at v r i) ≡ 1 = ap s.count after_table ∙ once in
      let new1 : (s.count c ≡ 0) ⊎ (c ≡ host (entry_at v r i j)) = elim new [ inl z ↦ inl z | inr e ↦ inr (e.0 ∙ ap host (sym after-entry)) ] in
      let own : (s.count c ≡ 0) ⊎ (s.count c ≡ 1) = elim new [ inl z ↦ inl z | inr e ↦ inr e.1 ] in
      let balance1 : (h : ℕ) → n h + hit h (host (entry_at v r i j)) ≡ s.count h + hit h c = λ h. ap (λ e. n h + hit h (host e)) after-entry ∙ balance h in
      let a = l2-set_sound v ok r clean.sound i j inside column c pos fits n there1 once1 new1 balance1 in
      let b = l2-set_flagged v ok r clean.sound i j inside column c pos fits n there1 once1 new1 balance1 own clean.flagged in
      let d = l2-set-view v ok r clean.sound i j inside column c pos fits n there1 once1 new1 balance1 in
      let z : Does v (l2-set v r i j c n) (edit_image i j (holds w) (view v s)) =
      (record { sound = a; flagged = b }, d ∙ ap (λ k. edit_image i j (holds k) (view v r)) (put_self s.heap c w) ∙ ap (edit_image i j (holds w)) shown) in
      subst (λ t. Does v t (edit_image i j (holds w) (view v s))) (data_and_entry_is c n) z

module _ (v : Shape) (ok : Laws v) (s : State) (clean : Clean v s) (i j : ℕ) (inside : i < v.wide) (column : j < v.deep) (w : Cluster) (sized : length w ≡ v.size) where
  abbrev t : ℕ
  t = table_at v s i

  abbrev d : ℕ
  d = host (entry_at v s i j)

  abbrev xs : List ℕ
  xs = l1 v s.heap s.live

  sound : Sound v s
  sound = clean.sound

  -- nothing that the live table leads to is a free cluster
  free_off_live : (q : ℕ) → s.count q ≡ 0 → (hit q s.live ≡ 0) × (hit q t ≡ 0) × (hit q d ≡ 0)
  free_off_live q none = omega (arith, free_live v ok s sound q none, at_most v ok (to_any q) s.heap xs i, low_at v ok (to_any q) (l2 v s.heap t) j)

  -- the clusters that an entry leads to are counted
  led : (h : ℕ) → hit h t + hit h d ≤ s.count h
  led h = omega (arith, sound.counted h, at_most v ok (to_any h) s.heap xs i, low_at v ok (to_any h) (l2 v s.heap t) j)

  free_clean : (q : ℕ) → Free v s q → Clean v (rewrite v s q w)
  free_clean q free = record {
    sound = alone_sound v ok s sound q w free.pos (free_all v ok s sound q free.none) sized;
    flagged = alone_flagged v ok s sound q w free.pos (free_all v ok s sound q free.none) clean.flagged;
  }

  data_does : (q : ℕ) → Free v s q → mine s t ≡ true → Does v (move_data v s i j w q) (edit_image i j (holds w) (view v s))
  data_does q free own =
      let f = free_off_live q free.none in
      let o = mine_once s t own in
      data_and_entry_does v ok s i j q w free.pos f.0 f.1 (λ h. (s.count h + hit h q) - hit h d) (free_clean q free)
      (alone_view v ok s sound q w free.pos (free_all v ok s sound q free.none)) inside column free.fits o.0 o.1 (inl free.none)
      (λ h. omega (arith, led h))

  module _ (ownT : mine s t ≡ true) (own_d : mine s d ≡ true) where
    facts : (0 < d) × (s.count d ≡ 1)
    facts = mine_once s d own_d

    place_clean : Clean v (rewrite v s d w)
    place_clean = record {
      sound = place_sound v ok s sound i j inside w column facts.0 facts.1 sized;
      flagged = place_flagged v ok s sound i j inside w column facts.0 facts.1 clean.flagged;
    }

    -- a plain entry
    plain_does : (a : ℕ) → entry_at v s i j ≡ at a → Does v (rewrite v s d w) (edit_image i j (holds w) (view v s))
    plain_does a is =
        let shows : seen (put s.heap d w) (entry_at v s i j) ≡ holds w = ap (seen (put s.heap d w)) is ∙ ap (λ h. holds (put s.heap d w h)) (sym (ap host is)) ∙ ap holds (put_self s.heap d w) in
        (place_clean, place_view v ok s sound i j inside w column facts.0 facts.1 ∙ ap (λ z. edit_image i j z (view v s)) shows)

    -- a marked entry: its bytes show only as the mark goes
    marked_does : (h : ℕ) → entry_at v s i j ≡ zeros h → Does v (data_and_entry v ok s i j d w facts.0 (place_facts v ok s sound i j inside w column facts.0 facts.1).0 (place_facts v ok s sound i j inside w column facts.0 facts.1).2 d s.count) (edit_image i j (holds w) (view v s))
    marked_does h is =
        let f = place_facts v ok s sound i j inside w column facts.0 facts.1 in
        let o = mine_once s t ownT in
        let same : view v (rewrite v s d w) ≡ view v s =
        place_view v ok s sound i j inside w column facts.0 facts.1
        ∙ ap (λ z. edit_image i j z (view v s)) (ap (seen (put s.heap d w)) is ∙ sym (ap (seen s.heap) is))
        ∙ (λ k. record { now = edit_same (read v s.heap s.live) i j k; past = (view v s).past }) in
        data_and_entry_does v ok s i j d w facts.0 f.0 f.2 s.count place_clean same inside column
        (sound.within d (omega (arith, facts.1))) o.0 o.1 (inr (refl, facts.1)) (λ k. refl)

    -- by what the entry is
    place_does : (e : Entry) → entry_at v s i j ≡ e → Does v (in_place v s i j w) (edit_image i j (holds w) (view v s))
    place_does e is =
        subst (λ k. Does v k (edit_image i j (holds w) (view v s)))
        (λ k. record { heap = unmark v (put s.heap d w) t (v.put2 (s.heap t) j d) (sym is k); count = s.count; fixed = s.fixed; live = s.live; snaps = s.snaps })
        (go e is)
      where
        go : (e : Entry) → entry_at v s i j ≡ e → Does v (record { heap = unmark v (put s.heap d w) t (v.put2 (s.heap t) j d) e; count = s.count; fixed = s.fixed; live = s.live; snaps = s.snaps }) (edit_image i j (holds w) (view v s))
        go hole at-hole = absurd (omega (arith, facts.0, ap host at-hole))
        go (zeros h) at_mark = marked_does h at_mark
        go (at a) at-data = plain_does a at-data

  -- the new L2 table: the old entries, with the new data in place of the old
  module _ (p q : ℕ) (freep : Free v s p) (freeq : Free v s q) (two : q ≡ p → ⊥) where
    w2 : Cluster
    w2 = v.put2 (cell2 v s.heap t) j q

    w2_sized : length w2 ≡ v.size
    unfolding w2
    w2_sized = ok.size2 (cell2 v s.heap t) j q (cell2_shaped v ok s.heap sound.shaped t) column

    abbrev s1 : State
    s1 = rewrite v s q w

    abbrev s2 : State
    s2 = rewrite v s1 p w2

    clean1 : Clean v s1
    clean1 = free_clean q freeq

    none2 : weigh v (to_any p) s1 ≡ 0
    none2 = free_all v ok s1 clean1.sound p freep.none

    clean2 : Clean v s2
    clean2 = record {
      sound = alone_sound v ok s1 clean1.sound p w2 freep.pos none2 w2_sized;
      flagged = alone_flagged v ok s1 clean1.sound p w2 freep.pos none2 clean1.flagged;
    }

    shown2 : view v s2 ≡ view v s
    shown2 = alone_view v ok s1 clean1.sound p w2 freep.pos none2 ∙ alone_view v ok s sound q w freeq.pos (free_all v ok s sound q freeq.none)

    off1 : (hit q s.live ≡ 0) × (hit q t ≡ 0) × (hit q d ≡ 0)
    off1 = free_off_live q freeq.none

    off2 : (hit p s.live ≡ 0) × (hit p t ≡ 0) × (hit p d ≡ 0)
    off2 = free_off_live p freep.none

    off3 : hit p (table_at v s1 i) ≡ 0
    off3 = ap (hit p) (after_table v ok s i j q w freeq.pos off1.0 off1.1) ∙ off2.1

    top2 : s2.heap s.live ≡ s.heap s.live
    top2 = after_top v ok s1 i j p w2 freep.pos off2.0 off3 ∙ after_top v ok s i j q w freeq.pos off1.0 off1.1

    table2 : table_at v s2 i ≡ t
    table2 = after_table v ok s1 i j p w2 freep.pos off2.0 off3 ∙ after_table v ok s i j q w freeq.pos off1.0 off1.1

    cells2 : cell2 v s2.heap (table_at v s2 i) ≡ cell2 v s.heap t
    cells2 = after_cell v ok s1 i j p w2 freep.pos off2.0 off3 ∙ after_cell v ok s i j q w freeq.pos off1.0 off1.1

    copy2 : l2 v s2.heap p ≡ set (l2 v s2.heap (table_at v s2 i)) j (at q)
    unfolding w2
    copy2 =
        ap v.as2 (cell2_self v ok s1.heap p w2 freep.pos)
        ∙ ok.set2 (cell2 v s.heap t) j q (cell2_shaped v ok s.heap sound.shaped t) column freeq.pos freeq.fits
        ∙ ap (λ k. set (v.as2 k) j (at q)) (sym cells2)

    data2 : s2.heap q ≡ w
    data2 = put_other s1.heap p w2 q two ∙ put_self s.heap q w

    balance2 : (h : ℕ) → (move_both v s i j w p q).count h + hit h (table_at v s2 i) + hit h (host (entry_at v s2 i j)) ≡ s.count h + hit h p + hit h q
    balance2 h =
        ap (λ x. (move_both v s i j w p q).count h + hit h x + hit h (host (entry_at v s2 i j))) table2
        ∙ ap (λ c. (move_both v s i j w p q).count h + hit h t + hit h (host (get_or (v.as2 c) j hole))) cells2
        ∙ omega (arith, led h)

    cell_marked : Marked2 v s.count (cell2 v s.heap t)
    unfolding cell2
    cell_marked = go t refl
      where
        go : (x : ℕ) → t ≡ x → Marked2 v s.count (cell2 v s.heap t)
        go zero e = subst (λ k. Marked2 v s.count (cell2 v s.heap k)) (sym e) (fresh_marked v ok s.count)
        go (suc x) e = subst (λ k. Marked2 v s.count k) (sym (cell2_pos v ok s.heap t (omega arith))) (clean.flagged.low i inside (omega arith))

    marked2 : (l : ℕ → ℕ) → l q ≡ 1 → ((h : ℕ) → 0 < total (lows (to_data h)) (l2 v s2.heap (table_at v s2 i)) → l h ≡ s.count h) → Marked2 v l (s2.heap p)
    unfolding w2
    marked2 l own agree = subst (λ k. Marked2 v l k) (sym (put_self s1.heap p w2))
        (put_marked2 v ok l (cell2 v s.heap t) j q (cell2_shaped v ok s.heap sound.shaped t) column freeq.pos freeq.fits own
        (recount_marked2 v ok s.count l (cell2 v s.heap t) (λ h named. agree h (subst (λ k. 0 < total (lows (to_data h)) (v.as2 k)) (sym cells2) named)) cell_marked))

    both_does : Does v (move_both v s i j w p q) (edit_image i j (holds w) (view v s))
    unfolding w2
    both_does =
        let n = (move_both v s i j w p q).count in
        let fp : Free v s2 p = record { pos = freep.pos; fits = freep.fits; none = freep.none } in
        let fq : Free v s2 q = record { pos = freeq.pos; fits = freeq.fits; none = freeq.none } in
        let a = l1-set_sound v ok s2 clean2.sound i j inside column p q fp fq two n copy2 balance2 in
        let b = l1-set_flagged v ok s2 clean2.sound i j inside column p q fp fq two n copy2 balance2 marked2 clean2.flagged in
        let c = l1-set-view v ok s2 clean2.sound i j inside column p q fp fq two n copy2 balance2 in
        let e : (l1-set v s2 i p n).heap ≡ (move_both v s i j w p q).heap = ap (λ k. put s2.heap s.live (v.put1 k i p)) top2 in
        let z : Does v (l1-set v s2 i p n) (edit_image i j (holds w) (view v s)) =
        (record { sound = a; flagged = b }, c ∙ ap (λ k. edit_image i j (holds k) (view v s2)) data2 ∙ ap (edit_image i j (holds w)) shown2) in
        subst (λ k. Does v k (edit_image i j (holds w) (view v s))) (λ k. record { heap = e k; count = n; fixed = s.fixed; live = s.live; snaps = s.snaps }) z

pub write_stands : (v : Shape) (ok : Laws v) (s : State) (i j : ℕ) (f : Seen → Cluster) (p q : ℕ) → Clean v s → Writable v s i j f p q →
    Clean v (write v s i j f p q) × (view v (write v s i j f p q) ≡ imagine (view v s) (Write i j f p q))
write_stands v ok s i j f p q clean a =
    let z = read v s.heap s.live i j in
    let x = table_at v s i in
    let e = host (entry_at v s i j) in
    let goal : State → Type 0 = λ r. Clean v r × (view v r ≡ edit_image i j (holds (f z)) (view v s)) in
    cond_both (mine s x) (cond (mine s e) (in_place v s i j (f z)) (move_data v s i j (f z) q)) (move_both v s i j (f z) p q) goal
    (λ ownT. cond_both (mine s e) (in_place v s i j (f z)) (move_data v s i j (f z) q) goal
    (λ own_d. place_does v ok s clean i j a.row a.column (f z) (a.size z) ownT own_d (entry_at v s i j) refl)
    (λ shared. data_does v ok s clean i j a.row a.column (f z) (a.size z) q (a.cell shared) ownT))
    (λ shared. let both = moves_both v ok s clean.sound i j shared in
    both_does v ok s clean i j a.row a.column (f z) (a.size z) p q (a.table shared) (a.cell both) (a.two shared both))

-- the state after a write, case by case, as the refcounts before it decide
module _ (v : Shape) (s : State) (i j : ℕ) (f : Seen → Cluster) (p q : ℕ) where
  abbrev new : Cluster
  new = f (read v s.heap s.live i j)

  placed : (e : Entry) → mine s (table_at v s i) ≡ true → entry_at v s i j ≡ e → mine s (host e) ≡ true →
      write v s i j f p q ≡ record { heap = unmark v (put s.heap (host e) new) (table_at v s i) (v.put2 (s.heap (table_at v s i)) j (host e)) e; count = s.count; fixed = s.fixed; live = s.live; snaps = s.snaps }
  placed e ownT is own_d =
      cond-true _ _ _ ownT ∙ cond-true _ _ _ (ap (λ z. mine s (host z)) is ∙ own_d)
      ∙ (λ k. record { heap = unmark v (put s.heap (host (is k)) new) (table_at v s i) (v.put2 (s.heap (table_at v s i)) j (host (is k))) (is k); count = s.count; fixed = s.fixed; live = s.live; snaps = s.snaps })

  -- neither moves, and the entry is plain
  pub write_plain : (d : ℕ) → mine s (table_at v s i) ≡ true → entry_at v s i j ≡ at d → mine s d ≡ true →
      write v s i j f p q ≡ record { heap = put s.heap d new; count = s.count; fixed = s.fixed; live = s.live; snaps = s.snaps }
  write_plain d = placed (at d)

  -- neither moves, and the entry is marked as reading zeros
  pub write_marked : (d : ℕ) → mine s (table_at v s i) ≡ true → entry_at v s i j ≡ zeros d → mine s d ≡ true →
      write v s i j f p q ≡ record { heap = put (put s.heap d new) (table_at v s i) (v.put2 (s.heap (table_at v s i)) j d); count = s.count; fixed = s.fixed; live = s.live; snaps = s.snaps }
  write_marked d = placed (zeros d)

  -- the data moves
  pub write_data : mine s (table_at v s i) ≡ true → mine s (host (entry_at v s i j)) ≡ false → write v s i j f p q ≡ move_data v s i j new q
  write_data ownT shared = cond-true _ _ _ ownT ∙ cond-false _ _ _ shared

  -- the table moves, and with it the data
  pub write_both : mine s (table_at v s i) ≡ false → write v s i j f p q ≡ move_both v s i j new p q
  write_both shared = cond-false _ _ _ shared
