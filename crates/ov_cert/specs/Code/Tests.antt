-- The verdict as tests that compute. The code is proved against these tests. Each test is equivalent to a relation of
-- `Valid` or `Verdict`.
use Rattle.std.specs.Prelude.{ℕ, suc, ◌+◌, ◌&&◌, ◌||◌, ◌==◌, nat_lt, not, Bool, true, false, List, [], ◌∷◌, ◌++◌}
use Rattle.std.specs.Prelude.{◌≡◌, length, take, slice_get, if◌then◌else◌, Option, Some, None, is_none, Result}
use Rattle.std.specs.Prelude.{MatchResult}
use Rattle.std.specs.List.{list_all}
use Rattle.ov_ids.specs.Sets.{has, adding}
use Rattle.ov_ids.specs.Ascending.{ascends_after}
use Rattle.ov_graph.specs.Links.{LinkGraph}
use Rattle.ov_graph.specs.Code.Tests.{are_joined, neighbours_in}
use Rattle.ov_cert.specs.declared.cert.Cert.{Cert}
use Rattle.ov_cert.specs.declared.cert.Cert.TheVariants as cert
use Rattle.ov_cert.specs.declared.cert.Split.{Split}
use Rattle.ov_cert.specs.declared.cert.PairPaths.{PairPaths}
use Rattle.ov_cert.specs.declared.cert.FanPaths.{FanPaths}
use Rattle.ov_cert.specs.declared.fault.CheckFault.{CheckFault}
use Rattle.ov_cert.specs.declared.fault.CheckFault.TheVariants.{Count, Cut, Side, Pair, Fan, Extra, NotLinked, NoNodes}
use Rattle.ov_cert.specs.declared.fault.CheckFault.TheVariants.{BadGroup}
use Rattle.ov_graph.specs.Even.{later_members}

-- whether each node of the list is linked to the next one
abbrev pub chained : LinkGraph → List ℕ → Bool
chained g [] = true
chained g (a ∷ []) = true
chained g (a ∷ b ∷ rest) = are_joined g.links a b && chained g (b ∷ rest)

-- whether all ids are nodes outside the set, and no id occurs twice
abbrev pub fresh : LinkGraph → List ℕ → List ℕ → Bool
fresh g used [] = true
fresh g used (x ∷ xs) = has g.nodes x && (not (has used x) && fresh g (adding x used) xs)

-- the set after all these ids were added
abbrev pub entered : List ℕ → List ℕ → List ℕ
entered used [] = used
entered used (x ∷ xs) = entered (adding x used) xs

-- the list without its last item
abbrev pub without_last : List ℕ → List ℕ
without_last [] = []
without_last (a ∷ []) = []
without_last (a ∷ b ∷ rest) = a ∷ without_last (b ∷ rest)

-- the last item of the list; if the list is empty, a
abbrev pub last_of : ℕ → List ℕ → ℕ
last_of a [] = a
last_of a (b ∷ rest) = last_of b rest

-- the nodes of a path without its first and its last node
abbrev pub inner : List ℕ → List ℕ
inner [] = []
inner (a ∷ rest) = without_last rest

-- whether the path leads from i to j over links, and its inner nodes are distinct and unused
abbrev pub is_pair_path : LinkGraph → List ℕ → ℕ → ℕ → List ℕ → Bool
is_pair_path g used i j [] = false
is_pair_path g used i j (a ∷ []) = false
is_pair_path g used i j (a ∷ b ∷ rest) = (a == i) && ((last_of b rest == j) &&
    (chained g (a ∷ b ∷ rest) && fresh g used (without_last (b ∷ rest))))

-- whether each path is such a path; the inner nodes of a path count as used for the later paths
abbrev pub are_pair_paths : LinkGraph → List ℕ → ℕ → ℕ → List (List ℕ) → Bool
are_pair_paths g used i j [] = true
are_pair_paths g used i j (p ∷ ps) = is_pair_path g used i j p && are_pair_paths g (entered used (inner p)) i j ps

-- the nodes of a path without its first node
abbrev pub steps : List ℕ → List ℕ
steps [] = []
steps (a ∷ rest) = rest

-- whether x is a member with an id below j
abbrev pub is_earlier : List ℕ → ℕ → ℕ → Bool
is_earlier q j x = nat_lt x j && has q x

-- whether the path leads from j over links to a member below j, and its nodes after j are distinct and unused
abbrev pub is_fan_path : LinkGraph → List ℕ → List ℕ → ℕ → List ℕ → Bool
is_fan_path g q used j [] = false
is_fan_path g q used j (a ∷ []) = false
is_fan_path g q used j (a ∷ b ∷ rest) =
    (a == j) && (is_earlier q j (last_of b rest) && (chained g (a ∷ b ∷ rest) && fresh g used (b ∷ rest)))

-- whether each path is such a path; the nodes of a path count as used for the later paths
abbrev pub are_fan_paths : LinkGraph → List ℕ → List ℕ → ℕ → List (List ℕ) → Bool
are_fan_paths g q used j [] = true
are_fan_paths g q used j (p ∷ ps) = is_fan_path g q used j p && are_fan_paths g q (entered used (steps p)) j ps

-- whether the entry exists, names the pair, and has k right paths
abbrev pub is_pair_entry : LinkGraph → ℕ → ℕ × ℕ → Option PairPaths → Bool
is_pair_entry g k p None = false
is_pair_entry g k p (Some e) = (e.i == p.0) && ((e.j == p.1) &&
    ((length e.paths == k) && are_pair_paths g (adding p.1 (p.0 ∷ [])) p.0 p.1 e.paths))

-- whether the entry exists, names the member, and has a fan of k right paths
abbrev pub is_fan_entry : LinkGraph → List ℕ → ℕ → ℕ → Option FanPaths → Bool
is_fan_entry g q k j None = false
is_fan_entry g q k j (Some e) = (e.j == j) && ((length e.paths == k) && are_fan_paths g q (j ∷ []) j e.paths)

-- the earlier members that are not linked to j, each paired with j
abbrev pub unlinked_before : LinkGraph → List ℕ → ℕ → List (ℕ × ℕ)
unlinked_before g [] j = []
unlinked_before g (i ∷ earlier) j = if are_joined g.links i j then unlinked_before g earlier j else (i, j) ∷
    unlinked_before g earlier j

-- the unlinked pairs whose second node is in the list; the first node is in `earlier`, or before the second in the list
abbrev pub pairs_after : LinkGraph → List ℕ → List ℕ → List (ℕ × ℕ)
pairs_after g earlier [] = []
pairs_after g earlier (j ∷ rest) = unlinked_before g earlier j ++ pairs_after g (earlier ++ j ∷ []) rest

-- the unlinked pairs among the first k members, in order
abbrev pub expected_pairs : LinkGraph → List ℕ → ℕ → List (ℕ × ℕ)
expected_pairs g q k = pairs_after g [] (take k q)

-- the fault of the first pair, from a place on, that has no right entry at its place
abbrev pub pairs_fault : LinkGraph → ℕ → List PairPaths → ℕ → List (ℕ × ℕ) → Option CheckFault
pairs_fault g k entries place [] = None
pairs_fault g k entries place (p ∷ ps) = if is_pair_entry g k p (slice_get entries place) then pairs_fault g k entries
    (suc place) ps else Some (Pair p.0 p.1)

-- the fault of the first member, from a place on, that has no right fan at its place
abbrev pub fans_fault : LinkGraph → List ℕ → ℕ → List FanPaths → ℕ → List ℕ → Option CheckFault
fans_fault g q k entries place [] = None
fans_fault g q k entries place (j ∷ js) =
    if is_fan_entry g q k j (slice_get entries place) then fans_fault g q k entries (suc place) js else Some (Fan j)

-- whether the ids are a set of nodes, in ascending order
abbrev pub is_node_set : LinkGraph → List ℕ → Bool
is_node_set g ids = ascends_after None ids && list_all (λ x. has g.nodes x) ids

-- whether the ids are a group of the graph
abbrev pub is_group : LinkGraph → List ℕ → Bool
is_group g q = not (length q == 0) && is_node_set g q

-- whether x is in the list and not in the set
abbrev pub survives : List ℕ → List ℕ → ℕ → Bool
survives xs s x = has xs x && not (has s x)

-- whether each link of a ends in the side or in the cut
abbrev pub ends_within : LinkGraph → List ℕ → List ℕ → ℕ → Bool
ends_within g side cut a = list_all (λ b. has side b || has cut b) (neighbours_in g.links a g.nodes)

-- whether near and far are surviving members, and the side separates them
abbrev pub is_cut_off : LinkGraph → List ℕ → Split → Bool
is_cut_off g q c =
    survives q c.cut c.near && (survives q c.cut c.far && (is_node_set g c.side &&
    (list_all (λ a. not (has c.cut a)) c.side
    && (has c.side c.near && (not (has c.side c.far) && list_all (λ a. ends_within g c.side c.cut a) c.side)))))

-- whether every two nodes of the list are linked
abbrev pub all_linked : LinkGraph → List ℕ → Bool
all_linked g q = is_none (slice_get (pairs_after g [] q) 0)

-- the earlier of two faults, if there is one; the same of flaws
abbrev pub first : {X : Type 0} → Option X → Option X → Option X
first None later = later
first (Some e) later = Some e

-- the first fault of the certificate's body, for the group: first of k, then of the links or of the cut and its side
abbrev pub body_fault : LinkGraph → List ℕ → Cert → Option CheckFault
body_fault g q (cert.Linked k) = if length q == k + 1 then (if all_linked g q then None else Some NotLinked) else Some
    Count
body_fault g q (cert.Split c) =
    if length c.cut == c.k
    then (if is_node_set g c.cut then (if is_cut_off g q c then None else Some Side) else Some Cut)
    else Some Count

-- the first fault of the frame
abbrev pub frame_fault : LinkGraph → List ℕ → Cert → Option CheckFault
frame_fault g q c = if length g.nodes == 0 then Some NoNodes else
    (if is_group g q then body_fault g q c else Some BadGroup)

-- the result of a check of entries: the count if they have no fault, otherwise their first fault
abbrev pub IsCheckOf : ℕ → Option CheckFault → Result ℕ CheckFault → Type 0
IsCheckOf count fault result = MatchResult result (λ n. (n ≡ count) × (fault ≡ None)) (λ f. fault ≡ Some f)

-- whether the certificate has no entries beyond the expected ones
abbrev pub no_more : LinkGraph → List ℕ → Split → Bool
no_more g q c = not (nat_lt (length (expected_pairs g q c.k)) (length c.pairs)) && not
    (nat_lt (length (later_members q c.k)) (length c.fans))

-- the first fault of the entries: of the pairs, then of the fans, then superfluous entries
abbrev pub entries_fault : LinkGraph → List ℕ → Split → Option CheckFault
entries_fault g q c =
    first (pairs_fault g c.k c.pairs 0 (expected_pairs g q c.k))
    (first (fans_fault g q c.k c.fans 0 (later_members q c.k))
    (if no_more g q c then None else Some Extra))

-- the first fault after the frame
abbrev pub later_fault : LinkGraph → List ℕ → Cert → Option CheckFault
later_fault g q (cert.Linked k) = None
later_fault g q (cert.Split c) = entries_fault g q c

-- the first fault of a certificate; it is the one that `JudgedForGroup` allows
abbrev pub fault_of : LinkGraph → List ℕ → Cert → Option CheckFault
fault_of g q c = first (frame_fault g q c) (later_fault g q c)
