-- The loops that check the entries, one turn at a time.
use Rattle.std.proofs.Common.{◌≡◌, ◌≢◌, ◌∙◌, ℕ, zero, suc, ◌+◌, ◌<◌, true, false, List, [], ◌∷◌, ◌++◌, length, take}
use Rattle.std.proofs.Common.{drop, get_or, slice_get, Option, Some, None, refl, sym, ap, subst, arith, inr, add-one}
use Rattle.std.proofs.Common.{length-append}
use Rattle.std.proofs.Math.Seq.{drop-cons}
use Rattle.ov_ids.specs.Members.{Has, Ascends}
use Rattle.ov_ids.proofs.Members.{has_place, ordered_at, place_in_take}
use Rattle.ov_graph.specs.Links.{LinkGraph}
use Rattle.ov_graph.specs.Code.Tests.{are_joined}
use Rattle.ov_cert.specs.declared.cert.PairPaths.{PairPaths}
use Rattle.ov_cert.specs.declared.fault.CheckFault.{CheckFault}
use Rattle.ov_graph.specs.Even.{later_members}
use Rattle.ov_cert.specs.Code.Tests.{is_pair_entry, unlinked_before, pairs_after, pairs_fault, first}
use Rattle.ov_cert.proofs.EntryOrder.Columns.{pairs_after_at, pairs_fault_append}

-- an unlinked earlier node with a right entry
pub record Turn (g : LinkGraph) (k : ℕ) (entries : List PairPaths) (next i j : ℕ) (rest : List ℕ) : Type 0 where
  pub left : pairs_fault g k entries next (unlinked_before g (i ∷ rest) j) ≡ pairs_fault g k entries (next + 1)
      (unlinked_before g rest j)
  pub count : length (unlinked_before g (i ∷ rest) j) ≡ length (unlinked_before g rest j) + 1

turn : (g : LinkGraph) (k : ℕ) (entries : List PairPaths) (next i j : ℕ) (rest : List ℕ)
    → are_joined g.links i j ≡ false → is_pair_entry g k (i, j) (slice_get entries next) ≡ true
    → Turn g k entries next i j rest
turn g k entries next i j rest off holds = record {
  left = rw (off, holds, add-one next) refl;
  count = rw (off, add-one (length (unlinked_before g rest j))) refl;
}

pub turn_at : (g : LinkGraph) (k : ℕ) (entries : List PairPaths) (next i j x : ℕ) (earlier : List ℕ)
    → x < length earlier → i ≡ get_or earlier x i → are_joined g.links i j ≡ false
    → is_pair_entry g k (i, j) (slice_get entries next) ≡ true →
    (pairs_fault g k entries (next + 1) (unlinked_before g (drop (x + 1) earlier) j) ≡ pairs_fault g k entries next
    (unlinked_before g (drop x earlier) j))
    × (length (unlinked_before g (drop x earlier) j) ≡ length (unlinked_before g (drop (x + 1) earlier) j) + 1)
turn_at g k entries next i j x earlier l is off holds =
    let e : drop x earlier ≡ i ∷ drop (x + 1) earlier = drop-cons earlier x i l ∙ rw (← is, add-one x) refl in
    let t = turn g k entries next i j (drop (x + 1) earlier) off holds in (
      sym (ap (λ (ys : List ℕ). pairs_fault g k entries next (unlinked_before g ys j)) e ∙ t.left),
      ap
          (λ (ys : List ℕ). length (unlinked_before g ys j)) e ∙ t.count,
    )

-- an earlier node of the first members differs from the present one
pub earlier_differ : (xs : List ℕ) (p i j : ℕ) → Ascends xs → p < length xs → j ≡ get_or xs p j → Has (take p xs) i
    → i ≢ j
earlier_differ xs p i j up l is h e =
    let q = place_in_take xs p i h in
    let a : get_or xs q.0 j < get_or xs p j = ordered_at (λ x y. x < y) xs q.0 p j up q.1 l in
    let b : get_or xs q.0 j ≡ i = same_default xs q.0 q.2 ∙ q.3 in
    omega (arith, a, b, is, e)
  where
    same_default : (xs : List ℕ) (q : ℕ) → q < length xs → get_or xs q j ≡ get_or xs q 0
    same_default [] q l = absurd (omega arith)
    same_default (x ∷ xs) zero l = refl
    same_default (x ∷ xs) (suc q) l = same_default xs q (omega arith)

pub has_at : (xs : List ℕ) (p x : ℕ) → p < length xs → x ≡ get_or xs p x → Has xs x
has_at xs p x l is = subst (Has xs) (sym is) (has_place xs p x l)

pub has_drop : (k : ℕ) (xs : List ℕ) (x : ℕ) → Has (drop k xs) x → Has xs x
has_drop zero xs x h = h
has_drop (suc k) [] x h = h
has_drop (suc k) (y ∷ xs) x h = inr (has_drop k xs x h)

pub later_member : (q : List ℕ) (k x : ℕ) → Has (later_members q k) x → Has q x
later_member q zero x h = absurd h
later_member q (suc k) x h = has_drop (suc k) q x h

-- the pairs of one of the first members, checked
pub column : (g : LinkGraph) (k : ℕ) (entries : List PairPaths) (count next p j : ℕ) (xs : List ℕ) → p < length xs
    → j ≡ get_or xs p j →
    next ≡ count + length (unlinked_before g (take p xs) j) → pairs_fault g k entries count
    (unlinked_before g (take p xs) j) ≡ None →
    (pairs_fault g k entries next (pairs_after g (take (p + 1) xs) (drop (p + 1) xs)) ≡ pairs_fault g k entries count
    (pairs_after g (take p xs) (drop p xs)))
    × (next + length (pairs_after g (take (p + 1) xs) (drop (p + 1) xs)) ≡ count + length
    (pairs_after g (take p xs) (drop p xs)))
column g k entries count next p j xs l is at none =
    let e = pairs_after_at g xs p j l in
    let cs = unlinked_before g (take p xs) (get_or xs p j) in
    let rest = pairs_after g (take (p + 1) xs) (drop (p + 1) xs) in
    let same : unlinked_before g (take p xs) j ≡ cs = ap (unlinked_before g (take p xs)) is in
    let n : pairs_fault g k entries count cs ≡ None = sym (ap (pairs_fault g k entries count) same) ∙ none in
    let m : next ≡ count + length cs = at ∙ ap (λ (ys : List (ℕ × ℕ)). count + length ys) same in
    let f = pairs_fault_append g k entries count cs rest in (
      ap (λ (m : ℕ). pairs_fault g k entries m rest) m ∙ sym
          (ap (pairs_fault g k entries count) e ∙ f ∙ ap (λ (o : Option CheckFault). first o
          (pairs_fault g k entries (count + length cs) rest)) n),
      (let x : length (pairs_after g (take p xs) (drop p xs)) ≡ length (cs ++ rest) = ap length e in omega
          (arith, m, x, length-append cs rest)),
    )

-- a fault of the pairs of one member is the fault of all pairs
pub column_fault : (g : LinkGraph) (k : ℕ) (entries : List PairPaths) (count p j : ℕ) (xs : List ℕ) (fault : CheckFault)
    → p < length xs → j ≡ get_or xs p j →
    pairs_fault g k entries count (unlinked_before g (take p xs) j) ≡ Some fault
    → pairs_fault g k entries count (pairs_after g (take p xs) (drop p xs)) ≡ Some fault
column_fault g k entries count p j xs fault l is some =
    let e = pairs_after_at g xs p j l in
    let cs = unlinked_before g (take p xs) (get_or xs p j) in
    let rest = pairs_after g (take (p + 1) xs) (drop (p + 1) xs) in
    let n : pairs_fault g k entries count cs ≡ Some fault = sym
    (ap (λ (x : ℕ). pairs_fault g k entries count (unlinked_before g (take p xs) x)) is) ∙ some in
    ap (pairs_fault g k entries count) e ∙ pairs_fault_append g k entries count cs rest
    ∙ ap (λ (o : Option CheckFault). first o (pairs_fault g k entries (count + length cs) rest)) n
