use Rattle.std.proofs.Common.{◌≡◌, ◌≤◌, ◌-◌, ◌⊎◌, inl, inr, ℕ, min, List, [], ◌∷◌, ◌++◌, length, get_or, take, drop, refl, sym, ap, ◌∙◌, String, string_bytes, codes, append-nil, arith, length-drop}
use Rattle.std.proofs.lemmas.List.{append_assoc, take_all, get_or_default}
use Rattle.std.proofs.lemmas.Bool.{eqb-true, ne_eqb, eqb-false}
use Rattle.std.specs.declared.alloc.Global.{Global}
use Rattle.fault.specs.declared.Fault.{Fault}
use Rattle.layers.specs.Refusals.{where_in, refused_words, refusal}
use Rattle.layers.proofs.opened.words_of.Goals as goal
use Rattle.layers.proofs.opened.words_of.Goals.{then-f-eq0-via-then-f-eq0, then-f-eq0-via-else-f-eq0+then-is_empty}

rest_whole : (ps : List (String Global)) → take (length ps - 1) (drop 1 ps) ≡ drop 1 ps
rest_whole ps = take_all (length ps - 1) (drop 1 ps) (simp length-drop (omega arith))

nowhere : (ps : List (String Global)) (depth : ℕ) → (depth ≡ 0) ⊎ (length ps ≡ 0) → where_in ps depth ≡ []
nowhere [] depth either = refl
nowhere (p ∷ ps) depth (inl none) = rw none refl
nowhere (p ∷ ps) depth (inr none) = absurd (omega arith)

alone : (ps : List (String Global)) (top : String Global) (f : Fault) →
    1 ≤ length ps → top ≡ get_or ps 0 top → (f.depth ≡ 0) ⊎ (length (drop 1 ps) ≡ 0) →
    refusal ps f ≡ string_bytes top ++ (codes ": " ++ refused_words f)
alone [] top f some is either = absurd (omega arith)
alone (p ∷ ps) top f some is either =
    rw is (ap (λ w. string_bytes p ++ (codes ": " ++ (refused_words f ++ w))) (nowhere ps f.depth either)
    ∙ ap (λ w. string_bytes p ++ (codes ": " ++ w)) (append-nil (refused_words f)))

somewhere : (ps : List (String Global)) (depth below : ℕ) (at : String Global) →
    (depth ≡ 0 → ⊥) → (length ps ≡ 0 → ⊥) → below ≡ min depth (length ps) → at ≡ get_or ps (below - 1) at →
    where_in ps depth ≡ codes ", in " ++ string_bytes at
somewhere [] depth below at deep some least is = absurd (some refl)
somewhere (p ∷ ps) depth below at deep some least is =
    rw (ne_eqb depth 0 deep) (ap (λ t. codes ", in " ++ string_bytes t)
    (ap (λ n. get_or (p ∷ ps) (n - 1) p) (sym least) ∙ (get_or_default (p ∷ ps) (below - 1) p at (omega arith) ∙ sym is)))

under : (ps : List (String Global)) (top at : String Global) (f : Fault) (below : ℕ) →
    1 ≤ length ps → top ≡ get_or ps 0 top →
    (f.depth ≡ 0 → ⊥) → (length (drop 1 ps) ≡ 0 → ⊥) → below ≡ min f.depth (length (drop 1 ps)) → at ≡ get_or (drop 1 ps) (below - 1) at →
    refusal ps f ≡ string_bytes top ++ (codes ": " ++ (refused_words f ++ (codes ", in " ++ string_bytes at)))
under [] top at f below some is deep more least was = absurd (omega arith)
under (p ∷ ps) top at f below some is deep more least was =
    rw is (ap (λ w. string_bytes p ++ (codes ": " ++ (refused_words f ++ w))) (somewhere ps f.depth below at deep more least was))

pub returns-then-f-eq0 : goal.returns-then-f-eq0
returns-then-f-eq0 c =
    let ps = c.args.paths.now in
    let none : (c.args.f.depth ≡ 0) ⊎ (length (drop 1 ps) ≡ 0) =
    elim c.then-f-eq0.branch [
      | then-f-eq0-via-then-f-eq0 w ↦ inl w.if-f-eq0.true
      | then-f-eq0-via-else-f-eq0+then-is_empty w ↦ inr (ap length (sym (rest_whole ps)) ∙ eqb-true _ 0 (sym w.if-is_empty.ensures))
    ] in
    let e = alone ps c.top-item.result c.args.f c.in-len1-up.len_at_least c.top-item.is none in
    record { value = simp (e, append_assoc) (simp append_assoc at c.format-then-f-eq0.ensures.ok) }

pub returns : goal.returns
returns c =
    let ps = c.args.paths.now in
    let e = under ps c.top-item.result c.index-rest-below.result c.args.f c.min-below.result c.in-len1-up.len_at_least c.top-item.is c.if-f-eq0.false
    (λ none. eqb-false _ 0 (sym c.if-is_empty.ensures) (ap length (rest_whole ps) ∙ none))
    (rw (rest_whole ps) at c.min-below.ensures)
    (rw (rest_whole ps) at c.index-rest-below.is) in
    record { value = simp (e, append_assoc) (simp append_assoc at c.format-2.ensures.ok) }
