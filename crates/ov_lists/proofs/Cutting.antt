-- Paths whose ids stand one after another: one more path, more ids behind them, and the path at a place.
use Rattle.std.proofs.Common.{◌≡◌, ◌∙◌, ℕ, ◌+◌, ◌-◌, ◌<◌, ◌≤◌, zero, suc, List, [], ◌∷◌, ◌++◌, length, length-append}
use Rattle.std.proofs.Common.{take, drop, get_or, Some, refl, sym, ap, ap₂, arith}
use Rattle.std.proofs.lemmas.List.{length-drop, drop_at, drop_all, take-append-le, drop-append-le, take_rest}
use Rattle.std.proofs.lemmas.List.{get_or_read}
use Rattle.std.specs.List.{slice_range, slice_get}
use Rattle.ov_lists.specs.Building.{Building}
use Rattle.ov_lists.specs.Code.Cut.{paths_from, AreEnds, start_at}

-- no path begins after the end of the last one
pub start_below : (start : ℕ) (ends : List ℕ) (last : ℕ) → AreEnds start ends last → start ≤ last
start_below start [] last a = omega (arith, a)
start_below start (e ∷ ends) last a = let l = a.0 in let m = start_below e ends last a.1 in omega (arith, l, m)

-- one more end
pub end_more : (start : ℕ) (ends : List ℕ) (last e : ℕ) → AreEnds start ends last → last ≤ e
    → AreEnds start (ends ++ e ∷ []) e
end_more start [] last e a l = (omega (arith, a, l), refl)
end_more start (x ∷ ends) last e a l = (a.0, end_more x ends last e a.1 l)

-- one more path
pub path_more : (start : ℕ) (ends : List ℕ) (last e : ℕ) (ids : List ℕ) → AreEnds start ends last
    → paths_from start (ends ++ e ∷ []) ids ≡ paths_from start ends ids ++ slice_range ids last e ∷ []
path_more start [] last e ids a = ap (λ (s : ℕ). slice_range ids s e ∷ []) a
path_more start (x ∷ ends) last e ids a =
    ap (λ (ps : List (List ℕ)). slice_range ids start x ∷ ps) (path_more x ends last e ids a.1)

-- a part of a list is the same if more comes behind the list
range_kept : (ids more : List ℕ) (start e : ℕ) → start ≤ e → e ≤ length ids
    → slice_range (ids ++ more) start e ≡ slice_range ids start e
range_kept ids more start e l m =
    let n = length-drop start ids in
    ap (take (e - start)) (drop-append-le start ids more (omega (arith, l, m)))
    ∙ take-append-le (e - start) (drop start ids) more (omega (arith, l, m, n))

-- paths are the same if more ids come behind them
pub paths_kept : (start : ℕ) (ends : List ℕ) (last : ℕ) (ids more : List ℕ) → AreEnds start ends last
    → last ≤ length ids → paths_from start ends (ids ++ more) ≡ paths_from start ends ids
paths_kept start [] last ids more a l = refl
paths_kept start (e ∷ ends) last ids more a l =
    let m = start_below e ends last a.1 in
    ap₂ (λ (p : List ℕ) (ps : List (List ℕ)). p ∷ ps) (range_kept ids more start e a.0 (omega (arith, l, m)))
    (paths_kept e ends last ids more a.1 l)

-- the last path goes to the end of the ids
pub path_to_end : (start : ℕ) (ends : List ℕ) (last : ℕ) (ids : List ℕ) → AreEnds start ends last
    → paths_from start (ends ++ length ids ∷ []) ids ≡ paths_from start ends ids ++ drop last ids ∷ []
path_to_end start ends last ids a =
    path_more start ends last (length ids) ids a
    ∙ ap (λ (p : List ℕ). paths_from start ends ids ++ p ∷ []) (take_rest ids last)

-- one more path, whose ids come behind those of the others
pub pushed_ends : (ends ids path more_ends more_ids : List ℕ) (e : ℕ) → AreEnds 0 ends (length ids)
    → more_ends ≡ ends ++ e ∷ [] → more_ids ≡ ids ++ path → e ≡ length ids + length path
    → AreEnds 0 more_ends (length more_ids)
pushed_ends ends ids path more_ends more_ids e a to so is =
    let n = length-append ids path in
    rw (to, so, n, ← is) (end_more 0 ends (length ids) e a (omega (arith, is)))

pub pushed_paths : (ends ids path more_ends more_ids : List ℕ) (e : ℕ) → AreEnds 0 ends (length ids)
    → more_ends ≡ ends ++ e ∷ [] → more_ids ≡ ids ++ path → e ≡ length ids + length path
    → paths_from 0 more_ends more_ids ≡ paths_from 0 ends ids ++ path ∷ []
pushed_paths ends ids path more_ends more_ids e a to so is =
    let n = length-append ids path in
    ap₂ (paths_from 0) (to ∙ ap (λ (l : ℕ). ends ++ l ∷ []) (is ∙ sym n)) so
    ∙ path_to_end 0 ends (length ids) (ids ++ path) a
    ∙ ap₂ (λ (ps : List (List ℕ)) (p : List ℕ). ps ++ p ∷ []) (paths_kept 0 ends (length ids) ids path a (omega arith))
    (drop_at ids path (length ids) refl)

-- a list of paths while it is built
abbrev pub built : List (List ℕ) → List ℕ → Building
built paths begun = record { paths = paths; begun = begun }

-- if no id is behind the last end, all ids are before it
pub none_begun : (last : ℕ) (ids : List ℕ) → last ≤ length ids → drop last ids ≡ [] → last ≡ length ids
none_begun last ids l e = let n = length-drop last ids in let m = ap length e in omega (arith, l, n, m)

-- one more id of the path that is begun
pub id_pushed : (ends : List ℕ) (last : ℕ) (ids more : List ℕ) (x : ℕ) → AreEnds 0 ends last → last ≤ length ids
    → more ≡ ids ++ x ∷ [] → built (paths_from 0 ends more) (drop last more)
    ≡ built (paths_from 0 ends ids) (drop last ids ++ x ∷ [])
id_pushed ends last ids more x a l to =
    ap (λ (xs : List ℕ). built (paths_from 0 ends xs) (drop last xs)) to
    ∙ ap₂ built (paths_kept 0 ends last ids (x ∷ []) a l) (drop-append-le last ids (x ∷ []) l)

-- the path that is begun is ended
pub path_ended : (ends : List ℕ) (last : ℕ) (ids more : List ℕ) (e : ℕ) → AreEnds 0 ends last
    → more ≡ ends ++ e ∷ [] → e ≡ length ids → built (paths_from 0 more ids) (drop e ids)
    ≡ built (paths_from 0 ends ids ++ drop last ids ∷ []) []
path_ended ends last ids more e a to is =
    ap₂ built (ap (λ (es : List ℕ). paths_from 0 es ids) (to ∙ ap (λ (n : ℕ). ends ++ n ∷ []) is)
    ∙ path_to_end 0 ends last ids a) (drop_all e ids (omega (arith, is)))

-- there are as many paths as ends
pub count : (start : ℕ) (ends ids : List ℕ) → length (paths_from start ends ids) ≡ length ends
count start [] ids = refl
count start (e ∷ ends) ids = ap suc (count e ends ids)

-- the path at a place
pub path_at : (start : ℕ) (ends ids : List ℕ) (i : ℕ) → i < length ends
    → slice_get (paths_from start ends ids) i ≡ Some (slice_range ids (start_at start ends i) (get_or ends i 0))
path_at start [] ids i l = absurd (omega (arith, l))
path_at start (e ∷ ends) ids zero l = refl
path_at start (e ∷ ends) ids (suc zero) l = path_at e ends ids zero (omega (arith, l))
path_at start (e ∷ ends) ids (suc (suc i)) l = path_at e ends ids (suc i) (omega (arith, l))

-- the path at a place ends where it begins or later, and within the ids
pub within : (start : ℕ) (ends : List ℕ) (last i : ℕ) → AreEnds start ends last → i < length ends
    → (start_at start ends i ≤ get_or ends i 0) × (get_or ends i 0 ≤ last)
within start [] last i a l = absurd (omega (arith, l))
within start (e ∷ ends) last zero a l = (a.0, start_below e ends last a.1)
within start (e ∷ ends) last (suc zero) a l = within e ends last zero a.1 (omega (arith, l))
within start (e ∷ ends) last (suc (suc i)) a l = within e ends last (suc i) a.1 (omega (arith, l))

-- the same of where the path begins and ends
pub path_between : (ends ids : List ℕ) (i s e : ℕ) → i < length ends → s ≡ start_at 0 ends i → e ≡ get_or ends i e
    → slice_get (paths_from 0 ends ids) i ≡ Some (slice_range ids s e)
path_between ends ids i s e l from to =
    path_at 0 ends ids i l
    ∙ ap₂ (λ (m n : ℕ). Some (slice_range ids m n)) (sym from) (sym (get_or_read ends i e l to 0))

pub between : (ends : List ℕ) (last i s e : ℕ) → AreEnds 0 ends last → i < length ends → s ≡ start_at 0 ends i
    → e ≡ get_or ends i e → (s ≤ e) × (e ≤ last)
between ends last i s e a l from to =
    let w = within 0 ends last i a l in
    let m = w.0 in
    let n = w.1 in
    let o = get_or_read ends i e l to 0 in
    (omega (arith, m, from, o), omega (arith, n, o))
