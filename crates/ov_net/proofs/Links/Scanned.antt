-- The links of live nodes, found one by one in their views, in order.
use Rattle.std.proofs.Common.{◌≡◌, ◌≢◌, ◌↔◌, ◌⊎◌, ℕ, zero, suc, ◌+◌, ◌<◌, List, [], ◌∷◌, ◌++◌, length, take, get_or}
use Rattle.std.proofs.Common.{Some, true, false, is_lt, inl, inr, refl, sym, ap, ap₂, subst, ◌∙◌, arith}
use Rattle.std.proofs.lemmas.Cmp.{by_ranked, ranked}
use Rattle.std.proofs.lemmas.List.{take_more}
use Rattle.std.specs.FinMap as map
use Rattle.std.specs.List.{AllByRecursion}
use Rattle.std.specs.Ordering.{nat_cmp}
use Rattle.ov_ids.specs.Members.{Has, Ascends, Ordered}
use Rattle.ov_ids.proofs.Members.{has_append_cases, has_append_left, has_append_right, ordered_at, place_in_take}
use Rattle.ov_peer.specs.PeerState.{PeerState}
use Rattle.ov_graph.specs.Links.{IsLink, Linked, Precedes}
use Rattle.ov_net.specs.Code.LinkChanges.{Holds, IsLive}
use Rattle.ov_net.specs.Code.WorldGraph.{AreUpwardOf, IsMutual, IsUpward, Mutual}
use Rattle.ov_net.specs.declared.member.Member.{Member}
use Rattle.ov_net.specs.declared.member.Member.TheVariants.{Live}
use Rattle.ov_net.proofs.Journal.Outcomes.{same_live, same_some}

all_more : {X : Type 0} (P : X → Type 0) (xs : List X) (y : X) → AllByRecursion P xs → P y
    → AllByRecursion P (xs ++ y ∷ [])
all_more P [] y all last = (last, tt)
all_more P (x ∷ xs) y all last = (all.0, all_more P xs y all.1 last)

-- one item more, behind all others
ordered_more : {X : Type 0} (R : X → X → Type 0) (xs : List X) (y : X) → Ordered R xs
    → ((x : X) → Has xs x → R x y) → Ordered R (xs ++ y ∷ [])
ordered_more R [] y up below = (tt, tt)
ordered_more R (x ∷ xs) y up below =
    (all_more (R x) xs y up.0 (below x (inl refl)), ordered_more R xs y up.1 (λ z h. below z (inr h)))

-- in an ascending list the ids before a place are below the one at it
below_next : (xs : List ℕ) (i x : ℕ) → Ascends xs → i < length xs → Has (take i xs) x → x < get_or xs i 0
below_next xs i x up inside h =
    let p = place_in_take xs i x h in
    subst (λ y. y < get_or xs i 0) p.3 (ordered_at (λ x y. x < y) xs p.0 i 0 up p.1 inside)

-- the id at a place, by the id that stands in for a missing one
at_place : (xs : List ℕ) (i b : ℕ) → i < length xs → b ≡ get_or xs i b → b ≡ get_or xs i 0
at_place xs i b inside is = is ∙ same xs i inside
  where
    same : (ys : List ℕ) (j : ℕ) → j < length ys → get_or ys j b ≡ get_or ys j 0
    same [] j l = absurd (omega (arith, l))
    same (y ∷ ys) zero l = refl
    same (y ∷ ys) (suc j) l = same ys j (omega (arith, l))

-- the test whether an id is below another
pub below_tested : (a b : ℕ) → is_lt (nat_cmp a b) ≡ true → a < b
below_tested a b e =
    by_ranked (a < b) (a ≡ b) (b < a) (nat_cmp a b) (ranked a b (nat_cmp a b) refl)
    (λ o p. p)
    (λ o p. let f : false ≡ true = sym (ap is_lt o) ∙ e in absurd (cc))
    (λ o p. let f : false ≡ true = sym (ap is_lt o) ∙ e in absurd (cc))

apart : (a b : ℕ) → a ≢ b → (a < b) ⊎ (b < a)
apart zero zero differ = absurd (differ refl)
apart zero (suc b) differ = inl (omega arith)
apart (suc a) zero differ = inr (omega arith)
apart (suc a) (suc b) differ =
    elim (apart a b (λ e. differ (ap suc e))) [ inl l ↦ inl (omega (arith, l)) | inr l ↦ inr (omega (arith, l)) ]

-- the links before a node, and those of the node with the first of its active members
pub record HeldSoFar (members : map.FinMap nat_cmp Member) (node : ℕ) (before : List (ℕ × ℕ)) (seen : List ℕ)
    (links : List (ℕ × ℕ)) : Type 0 where
  pub ascend : Ordered Precedes links
  pub each : (l : ℕ × ℕ) → Has links l ↔ (Has before l ⊎ AreUpwardOf members node seen l)

pub held_begun : (members : map.FinMap nat_cmp Member) (node : ℕ) (before : List (ℕ × ℕ)) → Ordered Precedes before
    → HeldSoFar members node before [] before
held_begun members node before up = record {
  ascend = up;
  each = λ l. ((λ h. inl h), (λ h. elim h [ inl k ↦ k | inr u ↦ absurd u.2 ]));
}

-- what is above the node and holds it, or does not, after one member more
seen_more : (members : map.FinMap nat_cmp Member) (node : ℕ) (seen : List ℕ) (b : ℕ) (l : ℕ × ℕ)
    → AreUpwardOf members node seen l → AreUpwardOf members node (seen ++ b ∷ []) l
seen_more members node seen b l u = (u.0, u.1, has_append_left seen (b ∷ []) l.1 u.2, u.3)

-- a member with a higher id that holds the node
pub held_more : (members : map.FinMap nat_cmp Member) (node : ℕ) (before : List (ℕ × ℕ)) (active : List ℕ) (i b : ℕ)
    (links : List (ℕ × ℕ)) → Ascends active → ((l : ℕ × ℕ) → Has before l → l.0 < node) → i < length active
    → b ≡ get_or active i b → (node < b) × Holds members b node → HeldSoFar members node before (take i active) links
    → HeldSoFar members node before (take (i + 1) active) (links ++ (node, b) ∷ [])
held_more members node before active i b links up below inside is upward so =
    subst (λ seen. HeldSoFar members node before seen (links ++ (node, b) ∷ [])) (sym longer) (record {
      ascend = ordered_more Precedes links (node, b) so.ascend precedes;
      each = λ l. (to l, from l);
    })
  where
    first : List ℕ
    first = take i active

    here : b ≡ get_or active i 0
    here = at_place active i b inside is

    longer : take (i + 1) active ≡ first ++ b ∷ []
    longer = take_more active i 0 inside ∙ ap (λ y. first ++ y ∷ []) (sym here)

    precedes : (l : ℕ × ℕ) → Has links l → Precedes l (node, b)
    precedes l h = elim ((so.each l).0 h) [
      | inl k ↦ inl (below l k)
      | inr u ↦ inr (u.0, subst (λ y. l.1 < y) (sym here) (below_next active i l.1 up inside u.2))
    ]

    to : (l : ℕ × ℕ) → Has (links ++ (node, b) ∷ []) l
        → Has before l ⊎ AreUpwardOf members node (first ++ b ∷ []) l
    to l h = elim (has_append_cases links ((node, b) ∷ []) l h) [
      | inl k ↦ elim ((so.each l).0 k) [ inl m ↦ inl m | inr u ↦ inr (seen_more members node first b l u) ]
      | inr k ↦ elim k [
        | inl e ↦ inr (subst (AreUpwardOf members node (first ++ b ∷ [])) e
            (refl, upward.0, has_append_right first (b ∷ []) b (inl refl), upward.1))
        | inr none ↦ absurd none
      ]
    ]

    from : (l : ℕ × ℕ) → Has before l ⊎ AreUpwardOf members node (first ++ b ∷ []) l
        → Has (links ++ (node, b) ∷ []) l
    from l (inl k) = has_append_left links ((node, b) ∷ []) l ((so.each l).1 (inl k))
    from l (inr u) = elim (has_append_cases first (b ∷ []) l.1 u.2) [
      | inl k ↦ has_append_left links ((node, b) ∷ []) l ((so.each l).1 (inr (u.0, u.1, k, u.3)))
      | inr k ↦ elim k [
        | inl e ↦ has_append_right links ((node, b) ∷ []) l (inl (ap₂ (λ (x y : ℕ). (x, y)) (sym u.0) e))
        | inr none ↦ absurd none
      ]
    ]

-- a member with a lower id, or that does not hold the node
pub held_same : (members : map.FinMap nat_cmp Member) (node : ℕ) (before : List (ℕ × ℕ)) (active : List ℕ) (i b : ℕ)
    (links : List (ℕ × ℕ)) → i < length active → b ≡ get_or active i b → ¬ ((node < b) × Holds members b node)
    → HeldSoFar members node before (take i active) links
    → HeldSoFar members node before (take (i + 1) active) links
held_same members node before active i b links inside is not so =
    subst (λ seen. HeldSoFar members node before seen links) (sym longer) (record {
      ascend = so.ascend;
      each = λ l. (
        (λ h. elim ((so.each l).0 h) [ inl m ↦ inl m | inr u ↦ inr (seen_more members node first b l u) ]),
        from l,
      );
    })
  where
    first : List ℕ
    first = take i active

    longer : take (i + 1) active ≡ first ++ b ∷ []
    longer = take_more active i 0 inside ∙ ap (λ y. first ++ y ∷ []) (sym (at_place active i b inside is))

    from : (l : ℕ × ℕ) → Has before l ⊎ AreUpwardOf members node (first ++ b ∷ []) l → Has links l
    from l (inl k) = (so.each l).1 (inl k)
    from l (inr u) = elim (has_append_cases first (b ∷ []) l.1 u.2) [
      | inl k ↦ (so.each l).1 (inr (u.0, u.1, k, u.3))
      | inr k ↦ elim k [
        | inl e ↦ absurd (not (subst (λ x. (x < b) × Holds members b x) u.0
            (subst (λ y. (l.0 < y) × Holds members y l.0) (sym e) (u.1, u.3))))
        | inr none ↦ absurd none
      ]
    ]

-- the links of a live node, by its active view
pub held_upward : (members : map.FinMap nat_cmp Member) (node : ℕ) (p : PeerState) (active : List ℕ)
    → map.get members node ≡ Some (Live p) → active ≡ p.hyparview.views.active
    → (l : ℕ × ℕ) → AreUpwardOf members node active l ↔ ((l.0 ≡ node) × IsUpward members l)
held_upward members node p active at same l = (
  (λ u. (
    u.0,
    (u.1, (p, ap (map.get members) u.0 ∙ at, subst (λ (s : List ℕ). Has s l.1) same u.2), u.3),
  )),
  (λ v. let held = v.1.1 in (
    v.0,
    v.1.0,
    subst (λ (s : List ℕ). Has s l.1) (sym same)
        (subst (λ (q : PeerState). Has q.hyparview.views.active l.1)
        (same_live held.0 p (same_some (Live held.0) (Live p) (sym held.1 ∙ ap (map.get members) v.0 ∙ at))) held.2),
    v.1.2,
  )),
)

-- the same of the links with those of a node behind them
pub upward_added : (members : map.FinMap nat_cmp Member) (node : ℕ) (p : PeerState) (active : List ℕ)
    (before links : List (ℕ × ℕ)) → map.get members node ≡ Some (Live p) → active ≡ p.hyparview.views.active
    → ((l : ℕ × ℕ) → Has links l ↔ (Has before l ⊎ AreUpwardOf members node active l))
    → (l : ℕ × ℕ) → Has links l ↔ (Has before l ⊎ ((l.0 ≡ node) × IsUpward members l))
upward_added members node p active before links at same each l =
    let own = held_upward members node p active at same l in (
      (λ h. elim ((each l).0 h) [ inl k ↦ inl k | inr u ↦ inr (own.0 u) ]),
      (λ h. (each l).1 (elim h [ inl k ↦ inl k | inr v ↦ inr (own.1 v) ])),
    )

-- a node that is not alive has no links
pub none_added : (members : map.FinMap nat_cmp Member) (node : ℕ) (links : List (ℕ × ℕ)) → ¬ IsLive members node
    → (l : ℕ × ℕ) → Has links l ↔ (Has links l ⊎ ((l.0 ≡ node) × IsUpward members l))
none_added members node links dead l = (
  (λ h. inl h),
  (λ h. elim h [
    | inl k ↦ k
    | inr v ↦ absurd (dead (subst (IsLive members) v.0 (v.1.1.0, v.1.1.1)))
  ]),
)

-- the links of the first live nodes
pub record LinksSoFar (members : map.FinMap nat_cmp Member) (seen : List ℕ) (links : List (ℕ × ℕ)) : Type 0 where
  pub ascend : Ordered Precedes links
  pub each : (l : ℕ × ℕ) → Has links l ↔ (Has seen l.0 × IsUpward members l)

pub links_begun : (members : map.FinMap nat_cmp Member) → LinksSoFar members [] []
links_begun members = record { ascend = tt; each = λ l. ((λ h. absurd h), (λ h. absurd h.0)) }

-- they are those of nodes with lower ids than the next one
pub links_below : (members : map.FinMap nat_cmp Member) (live : List ℕ) (i b : ℕ) (links : List (ℕ × ℕ)) → Ascends live
    → i < length live → b ≡ get_or live i b → LinksSoFar members (take i live) links
    → (l : ℕ × ℕ) → Has links l → l.0 < b
links_below members live i b links up inside is so l h =
    subst (λ y. l.0 < y) (sym (at_place live i b inside is)) (below_next live i l.0 up inside ((so.each l).0 h).0)

-- one live node more
pub links_more : (members : map.FinMap nat_cmp Member) (live : List ℕ) (i b : ℕ) (links more : List (ℕ × ℕ))
    → i < length live → b ≡ get_or live i b → LinksSoFar members (take i live) links → Ordered Precedes more
    → ((l : ℕ × ℕ) → Has more l ↔ (Has links l ⊎ ((l.0 ≡ b) × IsUpward members l)))
    → LinksSoFar members (take (i + 1) live) more
links_more members live i b links more inside is so up each =
    subst (λ seen. LinksSoFar members seen more) (sym longer) (record { ascend = up; each = λ l. (to l, from l) })
  where
    longer : take (i + 1) live ≡ take i live ++ b ∷ []
    longer = take_more live i 0 inside ∙ ap (λ y. take i live ++ y ∷ []) (sym (at_place live i b inside is))

    to : (l : ℕ × ℕ) → Has more l → Has (take i live ++ b ∷ []) l.0 × IsUpward members l
    to l h = elim ((each l).0 h) [
      | inl k ↦ let r = (so.each l).0 k in (has_append_left (take i live) (b ∷ []) l.0 r.0, r.1)
      | inr v ↦ (has_append_right (take i live) (b ∷ []) l.0 (inl (sym v.0)), v.1)
    ]

    from : (l : ℕ × ℕ) → Has (take i live ++ b ∷ []) l.0 × IsUpward members l → Has more l
    from l h = (each l).1 (elim (has_append_cases (take i live) (b ∷ []) l.0 h.0) [
      | inl k ↦ inl ((so.each l).1 (k, h.1))
      | inr k ↦ elim k [ inl e ↦ inr (sym e, h.1) | inr none ↦ absurd none ]
    ])

-- the live nodes and all their links are the graph of those that hold each other
pub scanned : (members : map.FinMap nat_cmp Member) (live : List ℕ) (links : List (ℕ × ℕ)) → Ascends live
    → ((a : ℕ) → Has live a ↔ IsLive members a) → Ordered Precedes links
    → ((l : ℕ × ℕ) → Has links l ↔ (Has live l.0 × IsUpward members l))
    → IsMutual (map.get members) (record { nodes = live; links = links })
unfolding Linked
scanned members live links up alive links_up each = record {
  graph = record { nodes_ascend = up; links_ascend = links_up; joins = joins };
  nodes = alive;
  links = λ a b. (to a b, from a b);
}
  where
    joins : (l : ℕ × ℕ) → Has links l → IsLink live l
    joins l h =
        let r = (each l).0 h in
        let held = r.1.2 in
        (r.1.0, r.0, (alive l.1).1 (held.0, held.1))

    to : (a b : ℕ) → Has links (a, b) ⊎ Has links (b, a) → Mutual (map.get members) a b
    to a b (inl h) =
        let u = ((each (a, b)).0 h).1 in
        let less = u.0 in
        record { differ = λ e. omega (arith, less, e); holds = u.1; held = u.2 }
    to a b (inr h) =
        let u = ((each (b, a)).0 h).1 in
        let less = u.0 in
        record { differ = λ e. omega (arith, less, e); holds = u.2; held = u.1 }

    from : (a b : ℕ) → Mutual (map.get members) a b → Has links (a, b) ⊎ Has links (b, a)
    from a b m = elim (apart a b m.differ) [
      | inl less ↦ inl ((each (a, b)).1 ((alive a).1 (m.holds.0, m.holds.1), (less, m.holds, m.held)))
      | inr less ↦ inr ((each (b, a)).1 ((alive b).1 (m.held.0, m.held.1), (less, m.held, m.holds)))
    ]

-- the same, of slices of these lists
pub scanned_as : (members : map.FinMap nat_cmp Member) (live seen shown : List ℕ) (links pairs : List (ℕ × ℕ))
    → seen ≡ live → shown ≡ live → pairs ≡ links → Ascends live → ((a : ℕ) → Has live a ↔ IsLive members a)
    → Ordered Precedes links → ((l : ℕ × ℕ) → Has links l ↔ (Has seen l.0 × IsUpward members l))
    → IsMutual (map.get members) (record { nodes = shown; links = pairs })
scanned_as members live seen shown links pairs e f g up alive links_up each =
    subst (λ (ids : List ℕ). IsMutual (map.get members) (record { nodes = ids; links = pairs })) (sym f)
    (subst (λ (ls : List (ℕ × ℕ)). IsMutual (map.get members) (record { nodes = live; links = ls })) (sym g)
    (scanned members live links up alive links_up (λ l.
    subst (λ (ids : List ℕ). Has links l ↔ (Has ids l.0 × IsUpward members l)) e (each l))))
