-- The first bytes of a file. Assumes nothing.
--   opens   whether they begin with 51 46 49 FB, as an image does
--   part    what there is of them where the file is so long and so many were read, a part cluster filled up
use Rattle.std.specs.Prelude.{ℕ, min, max, Bool, ◌&&◌, List, length, ◌==◌, nat_le, slice_index, take}
use Rattle.format.specs.Header.{filled_length}

abbrev pub opens : List ℕ → Bool
opens bs = nat_le 4 (length bs) && (slice_index bs 0 == 0x51 && (slice_index bs 1 == 0x46 && (slice_index bs 2 == 0x49 && slice_index bs 3 == 0xFB)))

abbrev pub part : List ℕ → ℕ → ℕ → List ℕ
part bs len read = take (min (max (filled_length bs len) read) (length bs)) bs
