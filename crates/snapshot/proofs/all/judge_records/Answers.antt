use Rattle.std.proofs.Common.{◌+◌, ◌-◌, ◌<◌, sym, ap, ◌∙◌, arith}
use Rattle.std.proofs.lemmas.Result.{err_from_is_err_and}
use Rattle.snapshot.specs.Records.{size}
use Rattle.snapshot.specs.All.{many, records_from, kept}
use Rattle.snapshot.proofs.Found.{one_bad, one-twice, one_more}
use Rattle.snapshot.proofs.all.judge_records.Goals as goal

pub returns-in_err-r : goal.returns-in_err-r
returns-in_err-r g c =
    let n = c.args.n in
    let bs = g.S.Store.bytes c.args.s.now in
    let lt : c.loop-i.i < many n = omega arith in
    let p = err_from_is_err_and c.from_residual.result c.from_residual.ensures.1 in
    rw (p.1, p.2) (record { value = sym c.loop-i.invariant.2 ∙ one_bad n bs (many n) c.loop-i.i c.loop-i.at (kept c.loop-i.all) lt _ c.in_err-r.ensures.value })

pub returns-in_err-judge_id : goal.returns-in_err-judge_id
returns-in_err-judge_id g c =
    let n = c.args.n in
    let bs = g.S.Store.bytes c.args.s.now in
    let lt : c.loop-i.i < many n = omega arith in
    let p = err_from_is_err_and c.from_residual-in_err-judge_id.result c.from_residual-in_err-judge_id.ensures.1 in
    rw (p.1, p.2) (record {
      value = sym c.loop-i.invariant.2 ∙ one-twice n bs (many n) c.loop-i.i c.loop-i.at (kept c.loop-i.all) lt c.in_ok-r.r c.in_ok-r.ensures.value _ c.in_err-judge_id.ensures.value;
    })

pub loop-i-preserved : goal.loop-i-preserved
loop-i-preserved g c =
    let n = c.args.n in
    let bs = g.S.Store.bytes c.args.s.now in
    let lt : c.loop-i.i < many n = omega arith in
    let r = c.in_ok-r.r in (
      c.push.ensures.count ∙ ap (λ k. k + 1) c.loop-i.invariant.0,
      omega (arith, c.in_ok-r.ensures.ends, c.size-at.ensures.value),
      ap (λ k. records_from n bs (many n - (c.loop-i.i + 1)) (c.loop-i.at + k) (kept c.push.new.self)) c.size-at.ensures.value
          ∙ ap (records_from n bs (many n - (c.loop-i.i + 1)) (c.loop-i.at + size r.head)) c.push.ensures.kept
          ∙ sym (one_more n bs (many n) c.loop-i.i c.loop-i.at (kept c.loop-i.all) lt r c.in_ok-r.ensures.value _ c.in_ok-judge_id.ensures.value)
          ∙ c.loop-i.invariant.2,
    )
