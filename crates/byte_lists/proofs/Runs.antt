-- Laws of runs, replacements and growth: what each is after each. Assumes nothing.
use Rattle.std.proofs.Common.{◌≡◌, ℕ, ◌+◌, ◌-◌, ◌<◌, ◌≤◌, ◌⊎◌, List, [], ◌++◌, length, get_or, take, drop, sym, refl, ap, ◌∙◌, inl, inr, append-nil, add-zero, arith, length-append, length-drop, length-take}
use lib.ListN.{length-replicate}
use Rattle.std.proofs.lemmas.List.{places, same_lists, get_or-take, get_or-drop, take_all, drop_all, drop-drop, take_at, drop_at, take-replicate, drop-replicate, take-append-drop}
use Rattle.byte_lists.specs.Runs.{run, put, zeros, grow}

-- a run inside the list has the length asked for
pub length_run : (bs : List ℕ) (at n : ℕ) → at + n ≤ length bs → length (run bs at n) ≡ n
unfolding run
length_run bs at n h = simp (length-take, length-drop) (omega arith)

-- an element of a run is the list's
pub get_or-run : (bs : List ℕ) (at n i : ℕ) → i < n → get_or (run bs at n) i 0 ≡ get_or bs (at + i) 0
unfolding run
get_or-run bs at n i h = get_or-take n (drop at bs) i 0 h ∙ get_or-drop at bs i 0

-- the whole list is a run of itself
pub run_whole : (bs : List ℕ) (n : ℕ) → length bs ≤ n → run bs 0 n ≡ bs
unfolding run
run_whole bs n h = take_all n bs h

-- an empty run
pub run_none : (bs : List ℕ) (at : ℕ) → run bs at 0 ≡ []
unfolding run
run_none bs at = refl

-- a run of a run
pub run-run : (bs : List ℕ) (at n i k : ℕ) → i + k ≤ n → run (run bs at n) i k ≡ run bs (at + i) k
unfolding run
run-run bs at n i k h =
    same_lists (take k (drop i (take n (drop at bs)))) (take k (drop (at + i) bs)) (simp (length-take, length-drop) (omega arith)) (λ j d lt. grind (arith, places))

-- a run in two parts
pub run_split : (bs : List ℕ) (at m n : ℕ) → at + m ≤ length bs → run bs at (m + n) ≡ run bs at m ++ run bs (at + m) n
unfolding run
run_split bs at m n h =
    same_lists (take (m + n) (drop at bs)) (take m (drop at bs) ++ take n (drop (at + m) bs)) (simp (length-append, length-take, length-drop) (omega arith)) (λ j d lt. grind (arith, places))

-- a replacement keeps the length
pub length-put : (bs : List ℕ) (at : ℕ) (new : List ℕ) → at + length new ≤ length bs → length (put bs at new) ≡ length bs
unfolding put
length-put bs at new h = simp (length-append, length-take, length-drop) (omega arith)

-- the run at the place of a replacement is the new one
pub run-put_same : (bs : List ℕ) (at : ℕ) (new : List ℕ) (n : ℕ) → n ≡ length new → at ≤ length bs → run (put bs at new) at n ≡ new
unfolding run put
run-put_same bs at new n e h =
    ap (take n) (drop_at (take at bs) (new ++ drop (at + length new) bs) at (simp length-take (omega arith)))
    ∙ take_at new (drop (at + length new) bs) n (sym e)

-- a run inside a replacement is a run of the new bytes
pub run-put_inside : (bs : List ℕ) (at : ℕ) (new : List ℕ) (i n : ℕ) → i + n ≤ length new → at ≤ length bs → run (put bs at new) (at + i) n ≡ run new i n
run-put_inside bs at new i n fits h =
    sym (run-run (put bs at new) at (length new) i n fits) ∙ ap (λ l. run l i n) (run-put_same bs at new (length new) refl h)

-- a run below a replacement is as before
pub run-put_below : (bs : List ℕ) (at : ℕ) (new : List ℕ) (a n : ℕ) → a + n ≤ at → at ≤ length bs → run (put bs at new) a n ≡ run bs a n
unfolding run put
run-put_below bs at new a n low h =
    same_lists (take n (drop a (take at bs ++ (new ++ drop (at + length new) bs)))) (take n (drop a bs)) (simp (length-append, length-take, length-drop) (omega arith)) (λ j d lt. grind (arith, places))

-- a run above a replacement is as before
pub run-put_above : (bs : List ℕ) (at : ℕ) (new : List ℕ) (a n : ℕ) → at + length new ≤ a → at + length new ≤ length bs → run (put bs at new) a n ≡ run bs a n
unfolding run put
run-put_above bs at new a n high h =
    same_lists (take n (drop a (take at bs ++ (new ++ drop (at + length new) bs)))) (take n (drop a bs)) (simp (length-append, length-take, length-drop) (omega arith)) (λ j d lt. grind (arith, places))

-- a run apart from a replacement is as before
pub run-put_apart : (bs : List ℕ) (at : ℕ) (new : List ℕ) (a n : ℕ) → (a + n ≤ at) ⊎ (at + length new ≤ a) → at + length new ≤ length bs → run (put bs at new) a n ≡ run bs a n
run-put_apart bs at new a n (inl low) h = run-put_below bs at new a n low (omega arith)
run-put_apart bs at new a n (inr high) h = run-put_above bs at new a n high h

-- a replacement inside a run
pub run-put_around : (bs : List ℕ) (a n i : ℕ) (new : List ℕ) → i + length new ≤ n → a + n ≤ length bs → run (put bs (a + i) new) a n ≡ put (run bs a n) i new
unfolding run put
run-put_around bs a n i new fits h =
    same_lists (take n (drop a (take (a + i) bs ++ (new ++ drop (a + i + length new) bs)))) (take i (take n (drop a bs)) ++ (new ++ drop (i + length new) (take n (drop a bs))))
    (simp (length-append, length-take, length-drop) (omega arith)) (λ j d lt. grind (arith, places))

-- an element below, in and above a replacement
pub get_or-put_below : (bs : List ℕ) (at : ℕ) (new : List ℕ) (i : ℕ) → i < at → at ≤ length bs → get_or (put bs at new) i 0 ≡ get_or bs i 0
unfolding put
get_or-put_below bs at new i low h = grind (arith, places)

pub get_or-put_inside : (bs : List ℕ) (at : ℕ) (new : List ℕ) (i j : ℕ) → at + i ≡ j → i < length new → at ≤ length bs → get_or (put bs at new) j 0 ≡ get_or new i 0
unfolding put
get_or-put_inside bs at new i j e lt h = grind (arith, places)

pub get_or-put_above : (bs : List ℕ) (at : ℕ) (new : List ℕ) (i : ℕ) → at + length new ≤ i → at ≤ length bs → get_or (put bs at new) i 0 ≡ get_or bs i 0
unfolding put
get_or-put_above bs at new i high h = grind (arith, places)

-- nothing replaced
pub put_none : (bs : List ℕ) (at : ℕ) → put bs at [] ≡ bs
unfolding put
put_none bs at = rw add-zero (take-append-drop at bs)

-- a list of the same length replaces the whole
pub put_whole : (bs new : List ℕ) → length new ≡ length bs → put bs 0 new ≡ new
unfolding put
put_whole bs new e = ap (λ l. new ++ l) (drop_all (0 + length new) bs (omega arith)) ∙ append-nil new

-- what stood there, put back
pub put_back : (bs : List ℕ) (at n : ℕ) → at + n ≤ length bs → put bs at (run bs at n) ≡ bs
unfolding put run
put_back bs at n h =
    same_lists (take at bs ++ (take n (drop at bs) ++ drop (at + length (take n (drop at bs))) bs)) bs
    (simp (length-append, length-take, length-drop) (omega arith)) (λ j d lt. grind (arith, places))

-- a second replacement at the same place hides the first
pub put-put_same : (bs : List ℕ) (at : ℕ) (old new : List ℕ) → length old ≡ length new → at + length new ≤ length bs → put (put bs at old) at new ≡ put bs at new
unfolding put
put-put_same bs at old new e h =
    same_lists (put (put bs at old) at new) (put bs at new) (simp (length-append, length-take, length-drop) (omega arith)) (λ j d lt. grind (arith, places))

-- replacements apart from each other go in either order
pub put-put_apart : (bs : List ℕ) (a : ℕ) (x : List ℕ) (b : ℕ) (y : List ℕ) → a + length x ≤ b → b + length y ≤ length bs → put (put bs a x) b y ≡ put (put bs b y) a x
unfolding put
put-put_apart bs a x b y low h =
    same_lists (put (put bs a x) b y) (put (put bs b y) a x) (simp (length-append, length-take, length-drop) (omega arith)) (λ j d lt. grind (arith, places))

-- a replacement in two parts
pub put-append : (bs : List ℕ) (at : ℕ) (x y : List ℕ) → at + length x + length y ≤ length bs → put bs at (x ++ y) ≡ put (put bs at x) (at + length x) y
unfolding put
put-append bs at x y h =
    same_lists (put bs at (x ++ y)) (put (put bs at x) (at + length x) y) (simp (length-append, length-take, length-drop) (omega arith)) (λ j d lt. grind (arith, places))

-- zeros have the length asked for
pub length-zeros : (n : ℕ) → length (zeros n) ≡ n
unfolding zeros
length-zeros n = length-replicate {A = ℕ} n 0

-- a run of zeros is zeros
pub run-zeros : (m at n : ℕ) → at + n ≤ m → run (zeros m) at n ≡ zeros n
unfolding run zeros
run-zeros m at n h = ap (take n) (drop-replicate at m 0) ∙ take-replicate n (m - at) 0 (omega arith)

-- a grown list has the length asked for, and never less than it had
pub length-grow : (bs : List ℕ) (n : ℕ) → length bs ≤ n → length (grow bs n) ≡ n
unfolding grow zeros
length-grow bs n h = simp (length-append, length-replicate) (omega arith)

-- growth to the own length or less changes nothing
pub grow_none : (bs : List ℕ) (n : ℕ) → n ≤ length bs → grow bs n ≡ bs
unfolding grow zeros
grow_none bs n h = let e : n - length bs ≡ 0 = omega arith in ap (λ k. bs ++ zeros k) e ∙ append-nil bs

-- growth in two steps
pub grow-grow : (bs : List ℕ) (m n : ℕ) → length bs ≤ m → m ≤ n → grow (grow bs m) n ≡ grow bs n
unfolding grow zeros
grow-grow bs m n h k =
    same_lists (grow (grow bs m) n) (grow bs n) (simp (length-append, length-replicate) (omega arith)) (λ j d lt. grind (arith, places))

-- a run of what stood before growth is as before
pub run-grow_old : (bs : List ℕ) (m at n : ℕ) → at + n ≤ length bs → run (grow bs m) at n ≡ run bs at n
unfolding run grow
run-grow_old bs m at n h =
    same_lists (take n (drop at (bs ++ zeros (m - length bs)))) (take n (drop at bs)) (simp (length-append, length-take, length-drop) (omega arith)) (λ j d lt. grind (arith, places))

-- a run of what growth added is zeros
pub run-grow_new : (bs : List ℕ) (m at n : ℕ) → length bs ≤ at → at + n ≤ m → run (grow bs m) at n ≡ zeros n
unfolding run grow
run-grow_new bs m at n h k =
    let e : length bs + (at - length bs) ≡ at = omega arith in
    ap (λ a. take n (drop a (bs ++ zeros (m - length bs)))) (sym e)
    ∙ ap (take n) (sym (drop-drop (at - length bs) (length bs) (bs ++ zeros (m - length bs))))
    ∙ ap (λ l. take n (drop (at - length bs) l)) (drop_at bs (zeros (m - length bs)) (length bs) refl)
    ∙ run-zeros (m - length bs) (at - length bs) n (omega arith)

-- any run within the new length: what stood there, then zeros
pub run-grow : (bs : List ℕ) (m at n : ℕ) → at + n ≤ m → run (grow bs m) at n ≡ grow (run bs at n) n
unfolding run grow zeros
run-grow bs m at n h =
    same_lists (run (grow bs m) at n) (grow (run bs at n) n) (simp (length-append, length-take, length-drop, length-replicate) (omega arith)) (λ j d lt. grind (arith, places, length-take, length-drop))

-- growth leaves a replacement in place
pub grow-put : (bs : List ℕ) (at : ℕ) (new : List ℕ) (n : ℕ) → at + length new ≤ length bs → grow (put bs at new) n ≡ put (grow bs n) at new
unfolding grow zeros put
grow-put bs at new n h =
    same_lists (grow (put bs at new) n) (put (grow bs n) at new) (simp (length-append, length-take, length-drop, length-replicate) (omega arith)) (λ j d lt. grind (arith, places, length-take, length-drop))

-- a run within the front of a list is the list's
pub run_take : (bs : List ℕ) (m at n : ℕ) → at + n ≤ m → run (take m bs) at n ≡ run bs at n
unfolding run
run_take bs m at n h =
    same_lists (take n (drop at (take m bs))) (take n (drop at bs)) (simp (length-take, length-drop) (omega arith)) (λ j d lt. grind (arith, places))

-- a replacement within the front of a list
pub take_put : (bs : List ℕ) (m at : ℕ) (new : List ℕ) → at + length new ≤ m → at + length new ≤ length bs → take m (put bs at new) ≡ put (take m bs) at new
unfolding put
take_put bs m at new h k =
    same_lists (take m (put bs at new)) (put (take m bs) at new) (simp (length-append, length-take, length-drop) (omega arith)) (λ j d lt. grind (arith, places))

-- zeros written behind the front of a list make the front grow
pub take-put-zeros : (bs : List ℕ) (m n : ℕ) → m ≤ n → n ≤ length bs → take n (put bs m (zeros (n - m))) ≡ grow (take m bs) n
unfolding put grow zeros
take-put-zeros bs m n h k =
    same_lists (take n (put bs m (zeros (n - m)))) (grow (take m bs) n) (simp (length-append, length-take, length-drop, length-replicate) (omega arith)) (λ j d lt. grind (arith, places, length-take, length-drop))

-- a front, cut at its own length
pub take-length : (bs : List ℕ) (m : ℕ) → take (length (take m bs)) bs ≡ take m bs
take-length bs m = same_lists (take (length (take m bs)) bs) (take m bs) (simp length-take (omega arith)) (λ j d lt. grind (arith, places, length-take))
