use Rattle.std.proofs.Common.{◌/◌, ◌<◌, ◌≤◌, ◌&&◌, eqb, ltb, leb, length, sym, subst, arith}
use Rattle.std.proofs.lemmas.Bool.{and_parts, leb-true, ltb-true}
use Rattle.fault.proofs.Outcomes.{passed}
use Rattle.guest.specs.Shown.{guest_sectors}
use Rattle.guest.proofs.Guests.{cluster-within}
use Rattle.mapping.proofs.copies.copy_out.Goals as goal

pub bounds-words-cluster : goal.bounds-words-cluster
bounds-words-cluster g c =
    let n = c.in_ok-n.n in
    let s = c.args.sector in
    let k = c.guest_clusters.result in
    let words = c.args.words.now in
    let t = (passed (eqb (length c.args.buffer.now) 512 && ltb s (guest_sectors n)) tt _ _ (sym c.in_ok-judge_sector.ensures.value)).0 in
    let lt : s < guest_sectors n = ltb-true s (guest_sectors n) (and_parts (eqb (length c.args.buffer.now) 512) _ t).1 in
    let fits : k ≤ length words = leb-true k (length words) (passed (leb k (length words)) tt _ _ (sym c.in_ok-judge_room.ensures.value)).0 in
    subst (λ p. s / p < length words) (sym c.cluster_sectors.ensures.value) (omega (arith, cluster-within n s lt, c.guest_clusters.ensures.value))
