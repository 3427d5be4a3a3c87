-- New bytes for a data cluster that one entry of the live image refers to, in place.
use Rattle.std.proofs.Common.{◌≡◌, ℕ, ◌+◌, ◌<◌, length, get_or, set, sym, refl, ap, ◌∙◌, subst, inl, inr, arith}
use mathlib.Core.Path.{fun_ext}
use Rattle.std.proofs.lemmas.List.{get_or-set_other}
use Rattle.std.proofs.lemmas.Bool.{cond-true, cond-false, eq-eqb, ne_eqb, cases_eq}
use Rattle.model.specs.Clusters.{Cluster, hole, host, Seen, put, seen, Shape, Laws}
use Rattle.model.specs.References.{State, total, hit, Weight, lows, to_any, to_data, cell2, l1, l2, under, tree, snapped}
use Rattle.model.specs.Pictures.{Picture, edit, Image, read, view}
use Rattle.model.specs.Calls.{table_at, entry_at, rewrite}
use Rattle.model.specs.Invariant.{Flagged, Sound}
use Rattle.model.proofs.Sums.{total-set, hit_self, missed}
use Rattle.model.proofs.Frame.{under_zero, at_most, low_at, cell2_frame, trees_frame, seen_frame, reads_frame, singles_frame}
use Rattle.model.proofs.Moves.{spot_tree, spot_others, spot_here}
use Rattle.model.proofs.Facts.{same_sound}
use Rattle.model.proofs.Flags.{flagged_put}

-- a picture is the edited one if it is so here, along the row, and in the other rows
pub edited : (p q : Picture) (i j : ℕ) (z : Seen) → p i j ≡ z → ((l : ℕ) → (l ≡ j → ⊥) → p i l ≡ q i l) → ((k l : ℕ) → (k ≡ i → ⊥) → p k l ≡ q k l) → p ≡ edit q i j z
edited p q i j z here along others = fun_ext λ k. fun_ext λ l.
    elim (cases_eq k i) [
      | inl e ↦ subst (λ n. p n l ≡ edit q i j z n l) (sym e)
          (elim (cases_eq l j) [
            | inl f ↦ subst (λ n. p i n ≡ edit q i j z i n) (sym f) (here ∙ sym (cond-true _ _ _ (eq-eqb i i refl) ∙ cond-true _ _ _ (eq-eqb j j refl)))
            | inr ne ↦ along l ne ∙ sym (cond-true _ _ _ (eq-eqb i i refl) ∙ cond-false _ _ _ (ne_eqb l j ne))
          ])
      | inr ne ↦ others k l ne ∙ sym (cond-false _ _ _ (ne_eqb k i ne))
    ]

-- the image with one place of the live picture changed
abbrev pub edit_image : ℕ → ℕ → Seen → Image → Image
edit_image i j z a = record { now = edit a.now i j z; past = a.past }

module _ (v : Shape) (ok : Laws v) (s : State) (sound : Sound v s) (i j : ℕ) (inside : i < v.wide) (w : Cluster) (column : j < v.deep) (pos : 0 < host (entry_at v s i j)) (once : s.count (host (entry_at v s i j)) ≡ 1) where
  abbrev d : ℕ
  d = host (entry_at v s i j)

  -- one entry refers to d, and nothing else does
  pub place_facts : (hit d s.live ≡ 0) × (total (under v (to_any d) s.heap) (set (l1 v s.heap s.live) i 0) ≡ 0) × (hit d (table_at v s i) ≡ 0) × (total (lows (to_any d)) (set (l2 v s.heap (table_at v s i)) j hole) ≡ 0) × (total (snapped v (to_any d) s.heap) s.snaps ≡ 0)
  place_facts =
      let m = s.heap in
      let xs = l1 v m s.live in
      let es = l2 v m (table_at v s i) in
      let a = total-set (under v (to_any d) m) xs i 0 0 (omega (arith, ok.length1 (m s.live))) in
      let b = total-set (lows (to_any d)) es j hole hole (omega (arith, ok.length2 (cell2 v m (table_at v s i)))) in
      let z = under_zero v ok (to_any d) m in
      let o = (to_any d).no_low in
      let self = hit_self d pos in
      omega (arith, sound.counted d)

  place_tree : (W : Weight) → tree v W (put s.heap d w) s.live ≡ tree v W s.heap s.live
  place_tree W =
      let m = s.heap in
      let y = table_at v s i in
      let f = place_facts in
      let a = spot_tree v ok m s.live i d w (l1 v m s.live) refl pos inside f.0 f.1 W in
      let b : under v W (put m d w) y ≡ under v W m y = ap (λ k. W.mid y + total (lows W) (v.as2 k)) (cell2_frame v ok m d w pos y (missed d y pos f.2)) in
      omega arith

  pub place_sound : length w ≡ v.size → Sound v (rewrite v s d w)
  place_sound sized = same_sound v ok s d w sound
      (λ W. omega (arith, place_tree W, trees_frame v ok s.heap d w pos W s.snaps place_facts.4))
      (record {
        now = λ h. omega (arith, place_tree (to_any h), sound.single.now h);
        past = λ h. singles_frame v ok s.heap d w pos h s.snaps place_facts.4 (sound.single.past h);
      })
      sized

  pub place_flagged : Flagged v s → Flagged v (rewrite v s d w)
  place_flagged f =
      let m = s.heap in
      let xs = l1 v m s.live in
      let a = at_most v ok (to_data d) m xs i in
      let b = low_at v ok (to_data d) (l2 v m (table_at v s i)) j in
      flagged_put v ok s d w pos f place_facts.0 (omega (arith, a, b, hit_self d pos, sound.kinds d))

  place_row : (l : ℕ) → read v (put s.heap d w) s.live i l ≡ seen (put s.heap d w) (get_or (l2 v s.heap (table_at v s i)) l hole)
  place_row l =
      let m = s.heap in
      let f = place_facts in
      spot_here v ok m s.live i d w (l1 v m s.live) refl pos inside f.0 f.1 l
      ∙ ap (λ k. seen (put m d w) (get_or (v.as2 k) l hole)) (cell2_frame v ok m d w pos (table_at v s i) (missed d (table_at v s i) pos f.2))

  place_now : read v (put s.heap d w) s.live ≡ edit (read v s.heap s.live) i j (seen (put s.heap d w) (entry_at v s i j))
  place_now =
      let m = s.heap in
      let es = l2 v m (table_at v s i) in
      let f = place_facts in
      edited (read v (put m d w) s.live) (read v m s.live) i j (seen (put m d w) (entry_at v s i j))
      (place_row j)
      (λ l ne. place_row l ∙ seen_frame v ok m d w pos (get_or es l hole)
      (subst (λ e. lows (to_any d) e ≡ 0) (get_or-set_other es j l hole hole ne) (omega (arith, f.3, low_at v ok (to_any d) (set es j hole) l))))
      (λ k l ne. spot_others v ok m s.live i d w (l1 v m s.live) refl pos inside f.0 f.1 k l ne)

  pub place_view : view v (rewrite v s d w) ≡ edit_image i j (seen (put s.heap d w) (entry_at v s i j)) (view v s)
  place_view = λ k. record { now = place_now k; past = reads_frame v ok s.heap d w pos s.snaps place_facts.4 k }
