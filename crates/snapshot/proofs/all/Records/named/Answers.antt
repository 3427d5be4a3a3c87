use Rattle.std.proofs.Common.{◌≡◌, ℕ, suc, ◌+◌, Bool, true, false, cond, List, [], ◌∷◌, Option, Some, None, Ok, Err, Result, MatchResult, Bor, refl, sym, ap, ◌∙◌, subst, slice_index_or, zero-add, rules, tests, arith}
use Rattle.std.proofs.lemmas.Iterator.{YieldsList-from_slice}
use Rattle.std.proofs.lemmas.Iterator.Search.{find_from_yields_List}
use Rattle.std.specs.List.{find, position_from}
use Rattle.std.specs.Option.{option_map, ok_or}
use Rattle.std.specs.Str.{bytes_eq}
use Rattle.fault.specs.declared.Fault.{Fault}
use Rattle.fault.specs.declared.Layer.TheVariants.{Call}
use Rattle.fault.specs.declared.Reason.TheVariants.{NoSuchId}
use Rattle.fault.specs.Faults.{fault}
use Rattle.snapshot.specs.declared.records.Snapshot.{Snapshot}
use Rattle.snapshot.specs.Records.{id_of}
use Rattle.snapshot.specs.All.{no_snapshot, chosen, kept}
use Rattle.snapshot.proofs.all.Records.named.Goals as goal

first : (all : List Snapshot) (r : Snapshot) (i : ℕ) (b : Bool) (o : Option ℕ) (x : Option Snapshot) → slice_index_or all i no_snapshot ≡ r → chosen all o ≡ ok_or x (fault NoSuchId Call 0) → chosen all (cond b (Some i) o) ≡ ok_or (cond b (Some r) x) (fault NoSuchId Call 0)
first all r i true o x e f = ap Ok e
first all r i false o x e f = f

-- what is found is what stands at the place that is found
found : (p : Snapshot → Bool) (all rs : List Snapshot) (i : ℕ) → ((k : ℕ) → slice_index_or all (i + k) no_snapshot ≡ slice_index_or rs k no_snapshot) → chosen all (position_from p i rs) ≡ ok_or (find p rs) (fault NoSuchId Call 0)
found p all [] i h = refl
found p all (r ∷ rs) i h =
    let here : i ≡ i + 0 = omega arith in
    let next : (k : ℕ) → i + 1 + k ≡ i + suc k = λ k. omega arith in
    first all r i (p r) (position_from p (i + 1) rs) (find p rs) (ap (λ k. slice_index_or all k no_snapshot) here ∙ h 0) (found p all rs (i + 1) (λ k. ap (λ j. slice_index_or all j no_snapshot) (next k) ∙ h (suc k)))

pub returns : goal.returns
returns c =
    let all = kept c.args.self.now in
    let p : Snapshot → Bool = λ r. bytes_eq c.args.id.now (id_of r) in
    let is = find_from_yields_List p _ _ c.find.result c.find.ensures.ran (YieldsList-from_slice all cc) (λ x b q k. search (rules, tests)) in
    let whole = found p all all 0 (λ k. ap (λ j. slice_index_or all j no_snapshot) (zero-add k)) in
    record { value = c.ok_or.ensures.value ∙ ap (ok_or c.copied.result) c.new.ensures.value ∙ ap (λ o. ok_or o (fault NoSuchId Call 0)) (c.copied.ensures ∙ is) ∙ sym whole }
