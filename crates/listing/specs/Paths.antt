-- Where a name in an image leads. Assumes nothing.
--   beside   a name as seen from a folder, if there is one
--   joined   the path that a name means in the header of an image at a path
use Rattle.std.specs.Prelude.{ℕ, List, Option, Some, None}
use Rattle.std.specs.Path.{path_parent, path_join}

abbrev pub beside : Option (List ℕ) → List ℕ → List ℕ
beside None name = name
beside (Some folder) name = path_join folder name

abbrev pub joined : List ℕ → List ℕ → List ℕ
joined path name = beside (path_parent path) name
