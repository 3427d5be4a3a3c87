-- What a reader gets by the words of a map is what read and peek answer. Assumes nothing.
use Rattle.std.proofs.Common.{◌≡◌, ℕ, ◌/◌, ◌^◌, ◌<◌, ◌≤◌, true, false, cond, ◌&&◌, eqb, ltb, leb, List, ◌++◌, length, get_or, drop, Ok, Err, Result, sym, refl, ap, ◌∙◌, inl, inr, zero-add, arith, length-append}
use Rattle.std.proofs.lemmas.List.FromFn.{length-map-range_with_len, get_or-map-range_with_len}
use Rattle.std.proofs.lemmas.List.{get_or_append_left}
use Rattle.std.proofs.lemmas.Bool.{and_parts, and_from, cases_Bool, cond-true, le-leb, ltb-true, eqb-false}
use Rattle.fault.specs.declared.Fault.{Fault}
use Rattle.fault.specs.Outcomes.{and_then, each}
use Rattle.fault.proofs.Outcomes.{not_both, then_ok, then_is, passed, same_after, each_is}
use Rattle.disk.specs.Readings.{Reading}
use Rattle.format.specs.declared.numbers.Numbers.{Numbers}
use Rattle.format.specs.Clusters.{cluster, per_cluster}
use Rattle.format.proofs.Goods.{header_facts, clusters_most}
use Rattle.snapshot.specs.All.{id_judged, table}
use Rattle.guest.specs.Shown.{guest_entry, guest_clusters, guest_sectors, entry_shows, shows}
use Rattle.guest.proofs.Guests.{cluster-within}
use Rattle.guest.proofs.Entered.{entry-placed}
use Rattle.image.specs.Honest.{Honest}
use Rattle.image.specs.Calls.{read_outcome, peek_outcome, room_judged}
use Rattle.mapping.specs.Maps.{word_in, words_of, map_id_judged, table_for, map_outcome}
use Rattle.mapping.specs.Copies.{word_shows, copy_outcome, shown_outcome}
use Rattle.mapping.proofs.Words.{word_leads}

module _ (n : Numbers) (bs : List ℕ) (backing : Reading) (s l1 : ℕ) (before words : List ℕ) (u : Unit {0}) (few : length bs / cluster n ≤ 2 ^ 28)
    (good : each (guest_entry n bs l1) 0 (guest_clusters n) ≡ Ok u) (is : words_of n bs l1 (guest_clusters n) ++ drop (guest_clusters n) before ≡ words) (lt : s < guest_sectors n) where
  k : ℕ
  k = guest_clusters n

  g : ℕ
  g = s / per_cluster n

  word_at : ℕ → ℕ
  word_at i = word_in n (guest_entry n bs l1 i)

  long : length (words_of n bs l1 k) ≡ k
  long = length-map-range_with_len (λ i. word_in n (guest_entry n bs l1 i)) 0 k

  room : room_judged (length words) (guest_clusters n) ≡ Ok tt
  unfolding k
  room = let e = ap length (sym is) ∙ length-append (words_of n bs l1 k) (drop k before) in cond-true (leb k (length words)) (Ok tt) _ (le-leb k (length words) (omega (arith, long, e)))

  within : g < k
  unfolding g k
  within = cluster-within n s lt

  the_word : get_or words g 0 ≡ word_at g
  unfolding word_at k g
  the_word =
      ap (λ l. get_or l g 0) (sym is)
      ∙ get_or_append_left (words_of n bs l1 k) (drop k before) 0 g (omega (arith, within, long))
      ∙ get_or-map-range_with_len (λ i. word_in n (guest_entry n bs l1 i)) 0 k g g 0 within (zero-add g)

  pub by_word : (and_then (room_judged (length words) (guest_clusters n)) λ _. word_shows n bs backing (get_or words (s / per_cluster n) 0) s) ≡ shows n bs backing l1 s
  unfolding g k word_at
  by_word =
      let found = each_is (guest_entry n bs l1) k 0 u good g within in
      let e = found.0 in
      let there : guest_entry n bs l1 g ≡ Ok e = ap (guest_entry n bs l1) (sym (zero-add g)) ∙ found.1 in
      then_is (room_judged (length words) k) (λ _. word_shows n bs backing (get_or words g 0) s) tt room
      ∙ ap (λ w. word_shows n bs backing w s) (the_word ∙ ap (word_in n) there)
      ∙ word_leads n bs backing s few e (entry-placed n bs l1 g e there)
      ∙ sym (then_is (guest_entry n bs l1 g) (λ x. entry_shows n bs backing x s) e there)

module _ (n : Numbers) (bs : List ℕ) (backing : Reading) (id words : List ℕ) (s l1 room : ℕ)
    (table_is : table_for n bs id ≡ Ok l1) (id-good : leb (length id) 16 ≡ true)
    (shown : s < guest_sectors n → (and_then (room_judged (length words) (guest_clusters n)) λ _. word_shows n bs backing (get_or words (s / per_cluster n) 0) s) ≡ shows n bs backing l1 s) where
  passes : eqb room 512 && ltb s (guest_sectors n) ≡ true → s < guest_sectors n
  passes e = ltb-true s (guest_sectors n) (and_parts (eqb room 512) _ e).1

  as_read : eqb (length id) 0 ≡ true → copy_outcome (Ok n) bs backing words s room ≡ read_outcome (Ok n) bs backing s room
  as_read e =
      let live : Ok n.l1 ≡ Ok l1 = sym (ap (λ b. cond b (Ok n.l1) (table n bs id)) e) ∙ table_is in
      let same : n.l1 ≡ l1 = cc live in
      same_after (eqb room 512 && ltb s (guest_sectors n)) tt _ _ _ (λ t. shown (passes t) ∙ ap (λ x. shows n bs backing x s) (sym same))

  as_peek : eqb (length id) 0 ≡ false → copy_outcome (Ok n) bs backing words s room ≡ peek_outcome (Ok n) bs backing id s room
  as_peek e =
      let there : table n bs id ≡ Ok l1 = sym (ap (λ b. cond b (Ok n.l1) (table n bs id)) e) ∙ table_is in
      let fine : id_judged id ≡ Ok tt = cond-true (leb 1 (length id) && leb (length id) 16) (Ok tt) _ (and_from (leb 1 (length id)) _ (le-leb 1 (length id) (omega (arith, eqb-false (length id) 0 e))) id-good) in
      same_after (eqb room 512 && ltb s (guest_sectors n)) tt _ _ _
      (λ t. shown (passes t) ∙ sym (then_is (id_judged id) (λ _. and_then (table n bs id) λ x. shows n bs backing x s) tt fine ∙ then_is (table n bs id) (λ x. shows n bs backing x s) l1 there))

  pub as_shown : copy_outcome (Ok n) bs backing words s room ≡ shown_outcome (Ok n) bs backing id s room
  as_shown = elim (cases_Bool (eqb (length id) 0)) [
    | inl e ↦ as_read e ∙ sym (ap (λ b. cond b (read_outcome (Ok n) bs backing s room) (peek_outcome (Ok n) bs backing id s room)) e)
    | inr e ↦ as_peek e ∙ sym (ap (λ b. cond b (read_outcome (Ok n) bs backing s room) (peek_outcome (Ok n) bs backing id s room)) e)
  ]

pub reader : (header : Result Numbers Fault) (bs : List ℕ) (backing : Reading) (words : List ℕ) (s room : ℕ) (id before : List ℕ) → Honest bs header → map_outcome header bs id before ≡ Ok words → copy_outcome header bs backing words s room ≡ shown_outcome header bs backing id s room
reader (Err f) bs backing words s room id before honest e = absurd (not_both words f e refl)
reader (Ok n) bs backing words s room id before honest e =
    let a = then_ok (map_id_judged id) _ words e in
    let b = then_ok (room_judged (length before) (guest_clusters n)) _ words a.1.1 in
    let t = then_ok (table_for n bs id) _ words b.1.1 in
    let l1 = t.0 in
    let j = then_ok (each (guest_entry n bs l1) 0 (guest_clusters n)) _ words t.1.1 in
    let few = (clusters_most bs n (header_facts bs n (sym honest))).1 in
    as_shown n bs backing id words s l1 room t.1.0 (passed (leb (length id) 16) tt a.0 _ a.1.0).0 (by_word n bs backing s l1 before words j.0 few j.1.0 (cc j.1.1))
