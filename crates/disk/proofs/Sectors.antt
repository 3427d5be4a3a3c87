-- A sector of a byte list, a part sector filled with zeros. Assumes nothing.
use Rattle.std.proofs.Common.{◌≡◌, ℕ, ◌-◌, ◌*◌, ◌≤◌, min, List, ◌++◌, length, take, drop, sym, ap, ◌∙◌, inl, inr, arith, length-drop}
use Rattle.std.proofs.lemmas.List.{take_all}
use Rattle.std.proofs.lemmas.Bool.{cases_lt}
use Rattle.byte_lists.specs.Runs.{run, grow, zeros}
use Rattle.byte_lists.proofs.Runs.{length_run}
use Rattle.disk.specs.Disks.{sector}

-- a run that passes the end is what there is
run_cut : (bs : List ℕ) (at m n : ℕ) → n ≡ min (length bs - at) m → run bs at m ≡ run bs at n
unfolding run
run_cut bs at m n e = elim (cases_lt n m) [
  | inl less ↦ let f = length-drop at bs in take_all m (drop at bs) (omega arith) ∙ sym (take_all n (drop at bs) (omega arith))
  | inr more ↦ ap (λ k. take k (drop at bs)) (omega arith)
]

-- what there is of a sector, then zeros
pub sector_is : (bs : List ℕ) (s n : ℕ) → n ≡ min (length bs - s * 512) 512 → s * 512 ≤ length bs → run bs (s * 512) n ++ zeros (512 - n) ≡ sector bs s
unfolding sector grow
sector_is bs s n e h =
    let long : length (run bs (s * 512) n) ≡ n = length_run bs (s * 512) n (omega arith) in
    ap (λ k. run bs (s * 512) n ++ zeros (512 - k)) (sym long) ∙ ap (λ l. l ++ zeros (512 - length l)) (sym (run_cut bs (s * 512) 512 n e))
