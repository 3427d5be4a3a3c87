-- Refusals in words for people. Assumes nothing.
--   said            what a stop says where there was memory for its words, or not
--   Says            that a stop says a text, or that memory ran out
--   refused_words   a fault as text and its reason's words
--   where_in        for a fault of a file below the first, the file's path: that so deep, or else the last one
--   refusal         the text for a fault, where an image and the files below it have these paths
use Rattle.std.specs.Prelude.{◌≡◌, ℕ, ◌-◌, min, cond, List, [], ◌∷◌, ◌++◌, length, get_or, ◌==◌, String, string_bytes, codes, Ok, Err, Result}
use Rattle.std.specs.declared.alloc.Global.{Global}
use Rattle.std.specs.declared.alloc.AllocError.{AllocError}
use Rattle.fault.specs.declared.Fault.{Fault}
use Rattle.fault.specs.Faults.{refusal_shown}
use Rattle.layers.specs.declared.stop.Stop.{Stop}
use Rattle.layers.specs.declared.stop.Stop.TheVariants.{Said, Memory, System, Other}

abbrev pub said : Result (String Global) AllocError → Stop
said (Ok text) = Said text
said (Err e) = Memory e

abbrev pub Says : Stop → List ℕ → Type 0
Says (Said text) told = string_bytes text ≡ told
Says (Memory e) told = Unit {0}
Says (System e) told = ⊥
Says (Other e) told = ⊥

abbrev pub refused_words : Fault → List ℕ
refused_words = refusal_shown

abbrev pub where_in : List (String Global) → ℕ → List ℕ
where_in [] depth = []
where_in (p ∷ ps) depth = cond (depth == 0) [] (codes ", in " ++ string_bytes (get_or (p ∷ ps) (min depth (length (p ∷ ps)) - 1) p))

abbrev pub refusal : List (String Global) → Fault → List ℕ
refusal [] f = refused_words f
refusal (top ∷ rest) f = string_bytes top ++ (codes ": " ++ (refused_words f ++ where_in rest f.depth))
