-- A certificate has no fault exactly if it is valid. The number of a valid certificate is the fewest crashes that split
-- its group.
use Rattle.std.proofs.Common.{◌≡◌, ◌∙◌, ℕ, zero, suc, ◌<◌, ◌≤◌, inl, inr, List, [], ◌∷◌, length, map, slice_get, Option}
use Rattle.std.proofs.Common.{Some, None, refl, sym, ap, ap₂, subst, arith}
use Rattle.std.specs.List.{AllByRecursion}
use Rattle.ov_ids.specs.Members.{Has}
use Rattle.ov_ids.proofs.Members.{all_member, all_from_members}
use Rattle.ov_graph.specs.Links.{LinkGraph, IsGraph, IsGroup}
use Rattle.ov_graph.specs.Joined.{NoFewerSplit, FewestForGroup}
use Rattle.ov_graph.specs.Paths.{ArePaths, IsFan}
use Rattle.ov_graph.specs.Even.{later_members, members_below, PassesEven}
use Rattle.ov_graph.proofs.EvenTest.Sufficing.{even_suffices, linked_joined, linked_whole}
use Rattle.ov_cert.specs.declared.cert.Cert.{Cert}
use Rattle.ov_cert.specs.declared.cert.Cert.TheVariants as cert
use Rattle.ov_cert.specs.declared.cert.Split.{Split}
use Rattle.ov_cert.specs.declared.cert.PairPaths.{PairPaths}
use Rattle.ov_cert.specs.declared.cert.FanPaths.{FanPaths}
use Rattle.ov_cert.specs.declared.fault.CheckFault.{CheckFault}
use Rattle.ov_cert.specs.Valid.{k_of, AreUnlinkedPairs, IsValidSplit, IsValidForGroup}
use Rattle.ov_cert.specs.Verdict.{PassesFrame, IsPairEntry, IsFanEntry, HoldsPair, HoldsFan, IsEntryFault, IsFirstFault}
use Rattle.ov_cert.specs.Verdict.{JudgedForGroup}
use Rattle.ov_cert.specs.Theorems.{ReachesNumber, ValidMeans, OneVerdict}
use Rattle.ov_cert.specs.Code.Tests.{expected_pairs, frame_fault, later_fault, fault_of, first}
use Rattle.ov_cert.proofs.Validity.Parting.{cut_splits, cut_parts, near_is_not_far}
use Rattle.ov_cert.proofs.EntryOrder.Columns.{expected, unlinked_pairs_one}
use Rattle.ov_cert.proofs.Validity.Verdicts.{FrameSays, EntriesSay, frame_judged, frame_found, entries_judged}
use Rattle.ov_cert.proofs.Validity.Verdicts.{entries_found}

-- if each place has its entry and there are no more entries, the entries name the items in order, and each entry is
-- right
matched : {X E : Type 0} (name : E → X) (Good : E → Type 0) (Is : X → Option E → Type 0) → ((x : X) → ¬ Is x None)
    → ((x : X) (e : E) → Is x (Some e) → (name e ≡ x) × Good e) → (entries : List E) (xs : List X)
    → ((p : ℕ) (x : X) → slice_get xs p ≡ Some x → Is x (slice_get entries p)) → length entries ≤ length xs
    → (map name entries ≡ xs) × AllByRecursion Good entries
matched name Good Is none good [] [] each few = (refl, tt)
matched name Good Is none good (e ∷ es) [] each few = absurd (omega arith)
matched name Good Is none good [] (x ∷ xs) each few = absurd (none x (each 0 x refl))
matched {X = X} name Good Is none good (e ∷ es) (x ∷ xs) each few =
    let h = good x e (each 0 x refl) in
    let r = matched name Good Is none good es xs (λ p y l. each (suc p) y l) (omega arith) in
    (ap₂ (λ (y : X) (ys : List X). y ∷ ys) h.0 r.0, (h.1, r.1))

-- the converse
at_place : {X E : Type 0} (name : E → X) (Good : E → Type 0) (Is : X → Option E → Type 0)
    → ((e : E) → Good e → Is (name e) (Some e))
    → (entries : List E) → AllByRecursion Good entries → (p : ℕ) (x : X) → slice_get (map name entries) p ≡ Some x
    → Is x (slice_get entries p)
at_place name Good Is good [] all p x h = absurd cc
at_place name Good Is good (e ∷ es) all zero x h =
    let s : Some (name e) ≡ Some x = h in
    let w : name e ≡ x = cc in
    subst (λ y. Is y (Some e)) w (good e all.0)
at_place name Good Is good (e ∷ es) all (suc p) x h = at_place name Good Is good es all.1 p x h

abbrev pair_name : PairPaths → ℕ × ℕ
pair_name e = (e.i, e.j)

abbrev fan_name : FanPaths → ℕ
fan_name e = e.j

good_pair : (g : LinkGraph) (k : ℕ) (p : ℕ × ℕ) (e : PairPaths) → IsPairEntry g k p (Some e) → (pair_name e ≡ p)
    × ArePaths g e.i e.j k e.paths
good_pair g k p e h = (
  ap₂ (λ (a b : ℕ). (a, b)) h.0 h.1,
  subst (λ (a : ℕ). ArePaths g a e.j k e.paths) (sym h.0) (subst (λ (b : ℕ). ArePaths g p.0 b k e.paths) (sym h.1) h.2),
)

good_fan : (g : LinkGraph) (q : List ℕ) (k j : ℕ) (e : FanPaths) → IsFanEntry g q k j (Some e) → (e.j ≡ j)
    × IsFan g e.j (members_below q e.j) k e.paths
good_fan g q k j e h = (h.0, subst (λ (a : ℕ). IsFan g a (members_below q a) k e.paths) (sym h.0) h.1)

length_names : {X E : Type 0} (name : E → X) (entries : List E) → length (map name entries) ≡ length entries
length_names name [] = refl
length_names name (e ∷ es) = ap suc (length_names name es)

-- entries without a fault are the entries of a valid certificate
pub valid_split : (g : LinkGraph) (q : List ℕ) (c : Split) (pairs : List (ℕ × ℕ)) → PassesFrame g q (cert.Split c)
    → AreUnlinkedPairs g q c.k pairs
    → EntriesSay g q c pairs None → IsValidForGroup g q (cert.Split c)
valid_split g q c pairs frame are h =
    let ps = matched pair_name (λ e. ArePaths g e.i e.j c.k e.paths) (IsPairEntry g c.k) (λ p n. n) (good_pair g c.k)
    c.pairs pairs h.0 h.2.0 in
    let fs = matched fan_name (λ e. IsFan g e.j (members_below q e.j) c.k e.paths) (IsFanEntry g q c.k) (λ j n. n)
    (good_fan g q c.k) c.fans (later_members q c.k) h.1 h.2.1 in (
      frame.1,
      record {
        count = frame.2;
        cut = frame.3;
        side = frame.4;
        pairs = record {
          names = subst (AreUnlinkedPairs g q c.k) (sym ps.0) are;
          paths = λ e m. all_member (λ e. ArePaths g e.i e.j c.k e.paths) c.pairs e ps.1 m;
        };
        fans = record {
          names = fs.0;
          fans = λ e m. all_member (λ e. IsFan g e.j (members_below q e.j) c.k e.paths)
              c.fans e fs.1 m;
        };
      },
    )

some_node : (g : LinkGraph) (q : List ℕ) → IsGroup g q → 0 < length g.nodes
some_node g q group = elim g.nodes as (λ ns. ((x : ℕ) → Has q x → Has ns x) → 0 < length ns) [
  | [] ↦ λ sub. nobody q sub group.some_member
  | n ∷ ns ↦ λ sub. omega arith
] group.nodes
  where
    nobody : (q : List ℕ) → ((x : ℕ) → Has q x → Has [] x) → 0 < length q → 0 < 0
    nobody [] sub l = l
    nobody (x ∷ q) sub l = absurd (sub x (inl refl))

-- the frame of a valid certificate passes
valid_frame : (g : LinkGraph) (q : List ℕ) (c : Cert) → IsValidForGroup g q c → PassesFrame g q c
valid_frame g q (cert.Linked k) v = (some_node g q v.0, v.0, v.1, v.2)
valid_frame g q (cert.Split c) v = (some_node g q v.0, v.0, v.1.count, v.1.cut, v.1.side)

-- the entries of a valid certificate have no fault
valid_entries : (g : LinkGraph) (q : List ℕ) (c : Split) → IsValidForGroup g q (cert.Split c)
    → EntriesSay g q c (expected_pairs g q c.k) None
valid_entries g q c v =
    let w = v.1 in
    let pairs = expected_pairs g q c.k in
    let same : map pair_name c.pairs ≡ pairs = unlinked_pairs_one g q c.k (map pair_name c.pairs) pairs w.pairs.names
    (expected g q c.k v.0.ascends) in (
      subst (λ (ps : List (ℕ × ℕ)). (p : ℕ) (x : ℕ × ℕ) → slice_get ps p ≡ Some x → HoldsPair g c p x) same
          (at_place pair_name (λ e. ArePaths g e.i e.j c.k e.paths) (IsPairEntry g c.k) (λ e h. (refl, refl, h)) c.pairs
          (all_from_members (λ e. ArePaths g e.i e.j c.k e.paths) c.pairs w.pairs.paths)),
      subst (λ (js : List ℕ). (p x : ℕ) → slice_get js p ≡ Some x → HoldsFan g q c p x) w.fans.names
          (at_place fan_name (λ e. IsFan g e.j (members_below q e.j) c.k e.paths) (IsFanEntry g q c.k)
          (λ e h. (refl, h)) c.fans
          (all_from_members (λ e. IsFan g e.j (members_below q e.j) c.k e.paths) c.fans w.fans.fans)),
      (
        (let n = length_names pair_name c.pairs in let m = ap length same in omega (arith, n, m)),
        (let n = length_names fan_name c.fans in let m = ap length w.fans.names in omega (arith, n, m)),
      ),
    )

first_none : (x y : Option CheckFault) → x ≡ None → first x y ≡ y
first_none x y e = rw e refl

first_some : (x y : Option CheckFault) (fault : CheckFault) → x ≡ Some fault → first x y ≡ Some fault
first_some x y fault e = rw e refl

-- a verdict equals the computed verdict
pub computed : (g : LinkGraph) (q : List ℕ) (c : Cert) → IsGraph g → (x : Option CheckFault) → JudgedForGroup g q c x
    → fault_of g q c ≡ x
computed g q (cert.Linked k) graph None v = first_none _ _ (frame_found g q (cert.Linked k) graph None
    (valid_frame g q (cert.Linked k) v))
computed g q (cert.Linked k) graph (Some fault) h = first_some _ _ fault
    (frame_found g q (cert.Linked k) graph (Some fault) h)
computed g q (cert.Split c) graph None v =
    first_none _ _ (frame_found g q (cert.Split c) graph None (valid_frame g q (cert.Split c) v))
    ∙ entries_found g q v.0 c None (valid_entries g q c v)
computed g q (cert.Split c) graph (Some fault) (inl h) = first_some _ _ fault
    (frame_found g q (cert.Split c) graph (Some fault) h)
computed g q (cert.Split c) graph (Some fault) (inr h) =
    let frame = h.0 in
    let are = h.1.1 in
    let pairs = expected_pairs g q c.k in
    let same = unlinked_pairs_one g q c.k h.1.0 pairs are (expected g q c.k frame.1.ascends) in
    first_none _ _ (frame_found g q (cert.Split c) graph None frame)
    ∙ entries_found g q frame.1 c (Some fault) (subst (λ (ps : List (ℕ × ℕ)). IsEntryFault g q c ps fault) same h.1.2)

-- a certificate has one verdict only
pub one_verdict : OneVerdict
one_verdict g q c graph x y a b = sym (computed g q c graph x a) ∙ computed g q c graph y b

behind_frame : (g : LinkGraph) (q : List ℕ) (c : Cert) → PassesFrame g q c → (x : Option CheckFault)
    → later_fault g q c ≡ x → JudgedForGroup g q c x
behind_frame g q (cert.Linked k) frame None e = (frame.1, frame.2, frame.3)
behind_frame g q (cert.Linked k) frame (Some fault) e = absurd cc
behind_frame g q (cert.Split c) frame None e =
    let pairs = expected_pairs g q c.k in
    valid_split g q c pairs frame (expected g q c.k frame.1.ascends)
    (subst (EntriesSay g q c pairs) e (entries_judged g q frame.1 c))
behind_frame g q (cert.Split c) frame (Some fault) e =
    let pairs = expected_pairs g q c.k in
    inr (
      frame,
      (
        pairs,
        expected g q c.k frame.1.ascends,
        subst (EntriesSay g q c pairs) e
            (entries_judged g q frame.1 c),
      ),
    )

frame_fails : (g : LinkGraph) (q : List ℕ) (c : Cert) (fault : CheckFault) → FrameSays g q c (Some fault)
    → IsFirstFault g q c fault
frame_fails g q (cert.Linked k) fault h = h
frame_fails g q (cert.Split c) fault h = inl h

-- the computed verdict is a verdict
pub judged : (g : LinkGraph) (q : List ℕ) (c : Cert) → IsGraph g → JudgedForGroup g q c (fault_of g q c)
judged g q c graph =
    elim (frame_fault g q c) as (λ o. FrameSays g q c o → JudgedForGroup g q c (first o (later_fault g q c))) [
      | None ↦ λ frame. behind_frame g q c frame (later_fault g q c) refl
      | Some fault ↦ λ h. frame_fails g q c fault h
    ] (frame_judged g q c graph)

-- the entry of a pair that the entries name
entry_named : (entries : List PairPaths) (p : ℕ × ℕ) → Has (map pair_name entries) p → (e : PairPaths) × Has entries e
    × (pair_name e ≡ p)
entry_named [] p h = absurd h
entry_named (e ∷ es) p h = elim h [
  | inl s ↦ (e, inl refl, s)
  | inr m ↦ let r = entry_named es p m in (r.0, inr r.1, r.2)
]

fan_named : (entries : List FanPaths) (j : ℕ) → Has (map fan_name entries) j → (e : FanPaths) × Has entries e
    × (e.j ≡ j)
fan_named [] j h = absurd h
fan_named (e ∷ es) j h = elim h [ inl s ↦ (e, inl refl, s) | inr m ↦ let r = fan_named es j m in (r.0, inr r.1, r.2) ]

passes_even : (g : LinkGraph) (q : List ℕ) (c : Split) → IsValidSplit g q c → PassesEven g q c.k
passes_even g q c w = record {
  pairs = λ i j u.
      let r = entry_named c.pairs (i, j) ((w.pairs.names.each (i, j)).1 u) in
      let a : ArePaths g r.0.i r.0.j c.k r.0.paths = w.pairs.paths r.0 r.1 in
      let b : ArePaths g i j c.k r.0.paths = subst (λ (p : ℕ × ℕ). ArePaths g p.0 p.1 c.k r.0.paths) r.2 a in
      (r.0.paths, b);
  fans = λ j h.
      let r = fan_named c.fans j (subst (λ (js : List ℕ). Has js j) (sym w.fans.names) h) in
      let a : IsFan g r.0.j (members_below q r.0.j) c.k r.0.paths = w.fans.fans r.0 r.1 in
      let b : IsFan g j (members_below q j) c.k r.0.paths = subst
      (λ (a : ℕ). IsFan g a (members_below q a) c.k r.0.paths) r.2 a in
      (r.0.paths, b);
}

no_fewer : (g : LinkGraph) (q : List ℕ) (c : Cert) → IsValidForGroup g q c → NoFewerSplit g q (k_of c)
no_fewer g q (cert.Linked k) v = λ s few. linked_joined g q v.0.nodes v.2 s
no_fewer g q (cert.Split c) v = λ s few. even_suffices g q c.k v.0 (passes_even g q c v.1) s few

reached : (g : LinkGraph) (q : List ℕ) (c : Cert) → IsValidForGroup g q c → ReachesNumber g q c
reached g q (cert.Linked k) v = (v.2, v.1)
reached g q (cert.Split c) v = record {
  nodes = v.1.cut;
  count = v.1.count;
  near_survives = v.1.side.near_survives;
  far_survives = v.1.side.far_survives;
  differ = near_is_not_far g q c v.1.side;
  parted = cut_parts g q c v.1.side;
}

-- the number of a valid certificate is the fewest
pub fewest : (g : LinkGraph) (q : List ℕ) (c : Cert) → IsValidForGroup g q c → FewestForGroup g q (k_of c)
fewest g q (cert.Linked k) v = record {
  group = v.0;
  reached = inr (v.2, v.1);
  least = λ s few. linked_whole g q v.0.nodes v.2 s;
}
fewest g q (cert.Split c) v = record {
  group = v.0;
  reached = inl (c.cut, v.1.count, cut_splits g q c v.1.cut v.1.side);
  least = λ s few d. d.parted (no_fewer g q (cert.Split c) v s few d.a d.b d.a_survives d.b_survives);
}

-- a valid certificate is true
pub valid_means : ValidMeans
valid_means g q c v = record {
  reached = reached g q c v;
  no_fewer = no_fewer g q c v;
  fewest = fewest g q c v;
}
