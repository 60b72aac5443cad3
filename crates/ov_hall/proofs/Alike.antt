-- One who holds the passes of all drivers.
use Rattle.std.proofs.Common.{◌≡◌, ◌≢◌, ℕ, zero, suc, ◌+◌, ◌<◌, ◌≤◌, List, [], ◌∷◌, ◌++◌, length, map, refl, sym, ap}
use Rattle.std.proofs.Common.{◌∙◌, subst, ⊎_elim, arith}
use Rattle.std.proofs.lemmas.List.{append-nil}
use Rattle.ov_ids.specs.ParamsState.{ParamsState}
use Rattle.ov_snap.specs.declared.ghost_log_of_drivers.Mark.{Mark}
use Rattle.ov_snap.specs.declared.ghost_log_of_drivers.Ticket.{Ticket}
use Rattle.ov_snap.specs.Parts.{hit}
use Rattle.ov_snap.specs.Logs.{AreBelow, Begins, of_driver}
use Rattle.ov_hall.specs.Passes.{AllBegin, AreOfHall, first_seen, having_seen, numbers_from, seen_alike, standing_for}
use Rattle.ov_snap.specs.DriverSteps.{ticket}
use Rattle.ov_hall.proofs.Counting.{hits, hits_self}

pub alike_seen : (d n : ℕ) (old log : List Mark) → having_seen log (seen_alike d n old) ≡ seen_alike d n log
alike_seen d zero old log = refl
alike_seen d (suc n) old log = ap (λ l. ticket d log ∷ l) (alike_seen (d + 1) n old log)

pub first_alike : (d n : ℕ) (log : List Mark) → 0 < n → first_seen (seen_alike d n log) ≡ log
first_alike d zero log h = absurd (omega arith)
first_alike d (suc n) log h = refl

pub alike_stands : (n : ℕ) (log : List Mark) → 0 < n → 0 < standing_for 0 (seen_alike 0 n log)
alike_stands zero log h = absurd (omega arith)
alike_stands (suc n) log h = let one = hits_self 0 in omega (arith, one)

begins_of : (x d n : ℕ) (log old : List Mark) → d ≤ x → x < d + n → AllBegin (seen_alike d n log) old → Begins x log old
begins_of x d zero log old low high a = absurd (omega arith)
begins_of x d (suc n) log old low high a = ⊎_elim
    (λ (h : (x ≡ d) × (hit x d ≡ 1)). subst (λ y. Begins y log old) (sym h.0) a.0)
    (λ (h : (x ≢ d) × (hit x d ≡ 0)). let ne = h.0 in begins_of x (d + 1) n log old (omega arith) (omega arith) a.1)
    (hits x d)

cons_tail : {A : Type 0} {x y : A} {xs ys : List A} → x ∷ xs ≡ y ∷ ys → xs ≡ ys
cons_tail {A} e = ap tail e
  where
    tail : List A → List A
    tail [] = []
    tail (z ∷ zs) = zs

-- what is left of a list is one
pub same_rest : {A : Type 0} (xs ys zs : List A) → xs ++ ys ≡ xs ++ zs → ys ≡ zs
same_rest [] ys zs e = e
same_rest (x ∷ xs) ys zs e = same_rest xs ys zs (cons_tail e)

below_rest : (n : ℕ) (seen rest : List Mark) → AreBelow n (seen ++ rest) → AreBelow n rest
below_rest n [] rest a = a
below_rest n (x ∷ xs) rest a = below_rest n xs rest a.1

-- where all drivers have seen the same, nothing came after it
pub nothing_between : (n : ℕ) (log old : List Mark) → 0 < n → AllBegin (seen_alike 0 n log) old → AreBelow n old
    → old ≡ log
nothing_between n log old some a low = go b.0 b.1
  where
    b : Begins 0 log old
    b = begins_of 0 0 n log old (omega arith) (omega arith) a

    go : (rest : List Mark) → old ≡ log ++ rest → old ≡ log
    go [] e = e ∙ append-nil log
    go (m ∷ ms) e =
        let below = below_rest n log (m ∷ ms) (subst (AreBelow n) e low) in
        let mine = begins_of m.driver 0 n log old (omega arith) (omega (arith, below.0)) a in
        let same : mine.0 ≡ m ∷ ms = same_rest log mine.0 (m ∷ ms) (sym mine.1 ∙ e) in
        let none_here : of_driver m.driver (m ∷ ms) ≡ 0 = subst (λ l. of_driver m.driver l ≡ 0) same mine.2 in
        let one = hits_self m.driver in
        absurd (omega (arith, none_here, one))

-- the log in the lock is what all drivers have seen
pub sole_before : (n : ℕ) (ts : List Ticket) (old : List Mark) → 0 < n → ts ≡ seen_alike 0 n (first_seen ts)
    → AllBegin ts old → AreBelow n old → old ≡ first_seen ts
sole_before n ts old some is a low = nothing_between n (first_seen ts) old some (subst (λ l. AllBegin l old) is a) low

pub sole_seen : (n : ℕ) (ts us : List Ticket) (new : List Mark) → ts ≡ seen_alike 0 n (first_seen ts)
    → us ≡ having_seen new ts → us ≡ seen_alike 0 n new
sole_seen n ts us new is seen = seen ∙ (ap (having_seen new) is ∙ alike_seen 0 n (first_seen ts) new)

pub sole_first : (n : ℕ) (us : List Ticket) (new : List Mark) → 0 < n → us ≡ seen_alike 0 n new → first_seen us ≡ new
sole_first n us new some is = ap first_seen is ∙ first_alike 0 n new some

pub sole_after : (n : ℕ) (us : List Ticket) (new : List Mark) → 0 < n → us ≡ seen_alike 0 n new
    → us ≡ seen_alike 0 n (first_seen us)
sole_after n us new some is = is ∙ ap (seen_alike 0 n) (sym (sole_first n us new some is))

-- the passes of all drivers, taken together under the lock
pub drivers_seen : (d n : ℕ) (ts : List Ticket) (log : List Mark) → map (λ t. t.driver) ts ≡ numbers_from d n
    → having_seen log ts ≡ seen_alike d n log
drivers_seen d zero [] log e = refl
drivers_seen d (suc n) [] log e = absurd (let h = ap length e in omega (arith, h))
drivers_seen d zero (t ∷ ts) log e = absurd (let h = ap length e in omega (arith, h))
drivers_seen d (suc n) (t ∷ ts) log e = (λ i. ticket (head e i) log ∷ drivers_seen (d + 1) n ts log (cons_tail e) i)
  where
    head : {x y : ℕ} {xs ys : List ℕ} → x ∷ xs ≡ y ∷ ys → x ≡ y
    head e = ap first e
      where
        first : List ℕ → ℕ
        first [] = 0
        first (x ∷ xs) = x

pub fresh_of_hall : (params : ParamsState) (all d n : ℕ) → d + n ≤ all → AreOfHall params all (seen_alike d n [])
fresh_of_hall params all d zero h = tt
fresh_of_hall params all d (suc n) h = ((omega arith, tt), fresh_of_hall params all (d + 1) n (omega arith))

-- the drivers behind the first
pub alike_rest : (d m k : ℕ) (log : List Mark) (t : Ticket) (ts : List Ticket) → m ≡ k + 1 → t ∷ ts ≡ seen_alike d m log
    → ts ≡ seen_alike (d + 1) k log
alike_rest d zero k log t ts e is = absurd (omega arith)
alike_rest d (suc m) k log t ts e is = let same : m ≡ k = omega (arith, e) in
    cons_tail is ∙ ap (λ j. seen_alike (d + 1) j log) same

pub nothing_left : {A : Type 0} (xs : List A) → length xs ≡ 0 → xs ≡ []
nothing_left [] e = refl
nothing_left (x ∷ xs) e = absurd (omega arith)

-- the passes that have seen the same are those of all drivers, in order
pub alike_drivers : (d n : ℕ) (log : List Mark) → map (λ t. t.driver) (seen_alike d n log) ≡ numbers_from d n
alike_drivers d zero log = refl
alike_drivers d (suc n) log = ap (λ l. d ∷ l) (alike_drivers (d + 1) n log)
