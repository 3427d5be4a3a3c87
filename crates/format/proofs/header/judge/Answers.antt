use Rattle.std.proofs.Common.{◌≡◌, ℕ, true, List, drop, sym, ◌∙◌, arith}
use Rattle.std.proofs.lemmas.Result.{err_from_is_err_and}
use Rattle.format.specs.Header.{opens, fields, fields_from}
use Rattle.format.specs.declared.numbers.Numbers.{Numbers}
use Rattle.format.proofs.Headers.{header_kind, header_places, header_ok, fields_behind, opens_long}
use Rattle.format.proofs.header.judge.Goals as goal

-- what the reader found behind the opening bytes are the fields
read : (bs rest : List ℕ) (n : Numbers) → (opens bs ≡ true) × (drop 4 bs ≡ rest) → n ≡ fields_from 4 rest → n ≡ fields bs
read bs rest n o e = e ∙ sym (fields_behind bs rest o.1 (omega (arith, opens_long bs o.0)))

pub returns-in_err-judge_kind : goal.returns-in_err-judge_kind
returns-in_err-judge_kind c =
    let bs = c.args.first.now in
    let o = c.in-Some.ensures.value in
    let n = c.read_fields-n.result in
    let p = err_from_is_err_and c.from_residual.result c.from_residual.ensures.1 in
    rw (p.1, p.2) (record { value = header_kind bs c.args.length n o.0 (read bs c.in-Some.rest.now n o c.read_fields-n.ensures.value) _ c.in_err-judge_kind.ensures.value })

pub returns-in_err-judge_places : goal.returns-in_err-judge_places
returns-in_err-judge_places c =
    let bs = c.args.first.now in
    let o = c.in-Some.ensures.value in
    let n = c.read_fields-n.result in
    let p = err_from_is_err_and c.from_residual-in_err-judge_places.result c.from_residual-in_err-judge_places.ensures.1 in
    rw (p.1, p.2) (record {
      value = header_places bs c.args.length n o.0 (read bs c.in-Some.rest.now n o c.read_fields-n.ensures.value) _ _ c.in_ok-judge_kind.ensures.value c.in_err-judge_places.ensures.value;
    })

pub returns : goal.returns
returns c =
    let bs = c.args.first.now in
    let o = c.in-Some.ensures.value in
    let n = c.read_fields-n.result in
    record {
      value = header_ok bs c.args.length n o.0 (read bs c.in-Some.rest.now n o c.read_fields-n.ensures.value) _ _ c.in_ok-judge_kind.ensures.value c.in_ok-judge_places.ensures.value;
    }
