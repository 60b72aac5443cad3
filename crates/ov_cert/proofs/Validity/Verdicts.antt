-- The verdict by tests equals the verdict by relations, and a certificate has one verdict.
use Rattle.std.proofs.Common.{◌≡◌, ◌∙◌, ◌↔◌, ℕ, zero, suc, ◌+◌, ◌<◌, ◌≤◌, inl, inr, Bool, true, false, not, cond, eqb}
use Rattle.std.proofs.Common.{nat_lt, IsTrue, List, length, slice_get, Option, Some, None, refl, sym, ap, subst, arith}
use Rattle.std.proofs.lemmas.Bool.{ne_eqb, and_parts, and_from, ltb-false, le-ltb, eq-eqb, eqb-true, both_ways}
use Rattle.ov_ids.specs.Members.{Has}
use Rattle.ov_ids.proofs.Members.{has_from_take}
use Rattle.ov_graph.specs.Links.{LinkGraph, HasNode, IsGraph, IsGroup}
use Rattle.ov_graph.specs.Even.{IsUnlinkedPair, later_members}
use Rattle.ov_cert.specs.declared.cert.Cert.{Cert}
use Rattle.ov_cert.specs.declared.cert.Cert.TheVariants as cert
use Rattle.ov_cert.specs.declared.cert.Split.{Split}
use Rattle.ov_cert.specs.declared.fault.CheckFault.{CheckFault}
use Rattle.ov_cert.specs.declared.fault.CheckFault.TheVariants.{Count, Cut, Side, Pair, Fan, Extra, NotLinked, NoNodes}
use Rattle.ov_cert.specs.declared.fault.CheckFault.TheVariants.{BadGroup}
use Rattle.ov_cert.specs.Verdict.{AllHold, IsFirstAtFault, IsFrameFault, PassesFrame, HoldsPair, HoldsFan}
use Rattle.ov_cert.specs.Verdict.{IsEntryFault}
use Rattle.ov_cert.specs.Code.Tests.{is_group, is_node_set, is_cut_off, all_linked, is_pair_entry, is_fan_entry}
use Rattle.ov_cert.specs.Code.Tests.{expected_pairs, pairs_fault, fans_fault, no_more, body_fault, frame_fault}
use Rattle.ov_cert.specs.Code.Tests.{entries_fault}
use Rattle.ov_cert.proofs.EntryOrder.Finding.{not_yes, pairs_found, fans_found, found, none_when, some_when}
use Rattle.ov_cert.proofs.Validity.Parting.{node_set_tested, group_tested, cut_off_tested, all_linked_tested}
use Rattle.ov_cert.proofs.EntryOrder.Columns.{expected}
use Rattle.ov_cert.proofs.PathRules.PathTests.{pair_entry_tested, fan_entry_tested}
use Rattle.ov_cert.proofs.EntryOrder.Looping.{later_member}

-- a test is false exactly if its fact does not hold
no : {P : Type 0} (b : Bool) → (IsTrue b ↔ P) → b ≡ false → ¬ P
no b tested f p = both_ways b f (tested.1 p)

off : {P : Type 0} (b : Bool) → (IsTrue b ↔ P) → ¬ P → b ≡ false
off b tested n = not_yes b (λ t. n (tested.0 t))

count_tested : (n m : ℕ) → IsTrue (eqb n m) ↔ (n ≡ m)
count_tested n m = ((λ t. eqb-true n m t), (λ e. eq-eqb n m e))

none_tested : (n : ℕ) → IsTrue (eqb n 0) ↔ (¬ (0 < n))
none_tested zero = ((λ t l. omega (arith, l)), (λ m. refl))
none_tested (suc n) = (
  (λ t. absurd (both_ways (eqb (suc n) 0) (ne_eqb (suc n) 0 (omega arith)) t)),
  (λ m. absurd (m (omega arith))),
)

some : (n : ℕ) → eqb n 0 ≡ false → 0 < n
some zero f = let t : eqb 0 0 ≡ true = eq-eqb 0 0 refl in absurd (both_ways (eqb 0 0) f t)
some (suc n) f = omega arith

some_off : (n : ℕ) → 0 < n → eqb n 0 ≡ false
some_off n l = off (eqb n 0) (none_tested n) (λ m. m l)

at_most : (n m : ℕ) → IsTrue (not (nat_lt m n)) ↔ (n ≤ m)
at_most n m = ((λ t. ltb-false m n (flip (nat_lt m n) t)), (λ l. ap not (le-ltb m n l)))
  where
    flip : (b : Bool) → not b ≡ true → b ≡ false
    flip true h = absurd cc
    flip false h = refl

-- what a result means, given the value of the test
cond_says : (P : Option CheckFault → Type 0) (b : Bool) (x y : Option CheckFault) → (b ≡ true → P x) → (b ≡ false → P y)
    → P (cond b x y)
cond_says P true x y on off = on refl
cond_says P false x y on off = off refl

-- THE FRAME

-- None means that the frame passes; a fault is the first fault of the frame
abbrev pub FrameSays : LinkGraph → List ℕ → Cert → Option CheckFault → Type 0
FrameSays g q c None = PassesFrame g q c
FrameSays g q c (Some fault) = IsFrameFault g q c fault

claim_judged : (g : LinkGraph) (q : List ℕ) (c : Cert) → IsGraph g → HasNode g → IsGroup g q
    → FrameSays g q c (body_fault g q c)
claim_judged g q (cert.Linked k) graph node group =
    let counted = count_tested (length q) (k + 1) in
    let linked = all_linked_tested g q group.ascends in
    cond_says (FrameSays g q (cert.Linked k)) (eqb (length q) (k + 1)) (cond (all_linked g q) None (Some NotLinked))
    (Some Count)
    (λ t. cond_says (FrameSays g q (cert.Linked k)) (all_linked g q) None (Some NotLinked)
    (λ u. (node, group, counted.0 t, linked.0 u)) (λ f. (node, group, counted.0 t, no (all_linked g q) linked f)))
    (λ f. (node, group, no (eqb (length q) (k + 1)) counted f))
claim_judged g q (cert.Split c) graph node group =
    let counted = count_tested (length c.cut) c.k in
    let cut = node_set_tested g c.cut in
    let side = cut_off_tested g q c graph in
    cond_says (FrameSays g q (cert.Split c)) (eqb (length c.cut) c.k)
    (cond (is_node_set g c.cut) (cond (is_cut_off g q c) None (Some Side)) (Some Cut)) (Some Count)
    (λ t. cond_says (FrameSays g q (cert.Split c)) (is_node_set g c.cut) (cond (is_cut_off g q c) None (Some Side))
    (Some Cut)
    (λ u. cond_says (FrameSays g q (cert.Split c)) (is_cut_off g q c) None (Some Side)
    (λ v. (node, group, counted.0 t, cut.0 u, side.0 v)) (λ f.
    (node, group, counted.0 t, cut.0 u, no (is_cut_off g q c) side f)))
    (λ f. (node, group, counted.0 t, no (is_node_set g c.cut) cut f)))
    (λ f. (node, group, no (eqb (length c.cut) c.k) counted f))

group_judged : (g : LinkGraph) (q : List ℕ) (c : Cert) → HasNode g → ¬ IsGroup g q → FrameSays g q c (Some BadGroup)
group_judged g q c node n = (node, n)

pub frame_judged : (g : LinkGraph) (q : List ℕ) (c : Cert) → IsGraph g → FrameSays g q c (frame_fault g q c)
frame_judged g q c graph =
    cond_says (FrameSays g q c) (eqb (length g.nodes) 0) (Some NoNodes)
    (cond (is_group g q) (body_fault g q c) (Some BadGroup))
    (λ t. (none_tested (length g.nodes)).0 t)
    (λ f. cond_says (FrameSays g q c) (is_group g q) (body_fault g q c) (Some BadGroup)
    (λ t. claim_judged g q c graph (some (length g.nodes) f) ((group_tested g q).0 t))
    (λ n. group_judged g q c (some (length g.nodes) f) (no (is_group g q) (group_tested g q) n)))

body_at : (g : LinkGraph) (q : List ℕ) (c : Cert) → HasNode g → IsGroup g q → frame_fault g q c ≡ body_fault g q c
body_at g q c node group = rw (some_off (length g.nodes) node, (group_tested g q).1 group) refl

linked_fault_found : (g : LinkGraph) (q : List ℕ) (k : ℕ) (fault : CheckFault) → IsFrameFault g q (cert.Linked k) fault
    → frame_fault g q (cert.Linked k) ≡ Some fault
linked_fault_found g q k NoNodes p = rw ((none_tested (length g.nodes)).1 p) refl
linked_fault_found g q k BadGroup p = rw (some_off (length g.nodes) p.0, off (is_group g q) (group_tested g q) p.1) refl
linked_fault_found g q k Count p =
    body_at g q (cert.Linked k) p.0 p.1 ∙ rw (off (eqb (length q) (k + 1)) (count_tested (length q) (k + 1)) p.2) refl
linked_fault_found g q k NotLinked p =
    body_at g q (cert.Linked k) p.0 p.1
    ∙ rw ((count_tested (length q) (k + 1)).1 p.2, off (all_linked g q) (all_linked_tested g q p.1.ascends) p.3) refl
linked_fault_found g q k Cut p = absurd p
linked_fault_found g q k Side p = absurd p
linked_fault_found g q k (Pair i j) p = absurd p
linked_fault_found g q k (Fan j) p = absurd p
linked_fault_found g q k Extra p = absurd p

split_fault_found : (g : LinkGraph) (q : List ℕ) (c : Split) → IsGraph g → (fault : CheckFault)
    → IsFrameFault g q (cert.Split c) fault → frame_fault g q (cert.Split c) ≡ Some fault
split_fault_found g q c graph NoNodes p = rw ((none_tested (length g.nodes)).1 p) refl
split_fault_found g q c graph BadGroup p = rw (some_off (length g.nodes) p.0, off (is_group g q) (group_tested g q) p.1)
    refl
split_fault_found g q c graph Count p =
    body_at g q (cert.Split c) p.0 p.1 ∙ rw (off (eqb (length c.cut) c.k) (count_tested (length c.cut) c.k) p.2) refl
split_fault_found g q c graph Cut p =
    body_at g q (cert.Split c) p.0 p.1
    ∙ rw ((count_tested (length c.cut) c.k).1 p.2, off (is_node_set g c.cut) (node_set_tested g c.cut) p.3) refl
split_fault_found g q c graph Side p =
    body_at g q (cert.Split c) p.0 p.1
    ∙ rw (
      (count_tested (length c.cut) c.k).1 p.2,
      (node_set_tested g c.cut).1 p.3,
      off (is_cut_off g q c)
          (cut_off_tested g q c graph) p.4,
    ) refl
split_fault_found g q c graph NotLinked p = absurd p
split_fault_found g q c graph (Pair i j) p = absurd p
split_fault_found g q c graph (Fan j) p = absurd p
split_fault_found g q c graph Extra p = absurd p

pub frame_found : (g : LinkGraph) (q : List ℕ) (c : Cert) → IsGraph g → (x : Option CheckFault) → FrameSays g q c x
    → frame_fault g q c ≡ x
frame_found g q (cert.Linked k) graph None p =
    body_at g q (cert.Linked k) p.0 p.1 ∙ rw (
      (count_tested (length q) (k + 1)).1 p.2,
      (all_linked_tested g q p.1.ascends).1 p.3,
    ) refl
frame_found g q (cert.Linked k) graph (Some fault) p = linked_fault_found g q k fault p
frame_found g q (cert.Split c) graph None p =
    body_at g q (cert.Split c) p.0 p.1
    ∙ rw ((count_tested (length c.cut) c.k).1 p.2, (node_set_tested g c.cut).1 p.3, (cut_off_tested g q c graph).1 p.4)
    refl
frame_found g q (cert.Split c) graph (Some fault) p = split_fault_found g q c graph fault p

-- if the frame passes, the members are a group
pub frame_group : (g : LinkGraph) (q : List ℕ) (c : Cert) → PassesFrame g q c → IsGroup g q
frame_group g q (cert.Linked k) p = p.1
frame_group g q (cert.Split c) p = p.1

-- THE ENTRIES

-- there are no more entries than expected
abbrev pub HasNoMore : LinkGraph → List ℕ → Split → List (ℕ × ℕ) → Type 0
HasNoMore g q c pairs = (length c.pairs ≤ length pairs) × (length c.fans ≤ length (later_members q c.k))

-- None means that all entries are right and none is superfluous; a fault is the first fault of the entries
abbrev pub EntriesSay : LinkGraph → List ℕ → Split → List (ℕ × ℕ) → Option CheckFault → Type 0
EntriesSay g q c pairs None = AllHold (HoldsPair g c) pairs × AllHold (HoldsFan g q c) (later_members q c.k)
    × HasNoMore g q c pairs
EntriesSay g q c pairs (Some fault) = IsEntryFault g q c pairs fault

no_more_tested : (g : LinkGraph) (q : List ℕ) (c : Split) → IsTrue (no_more g q c) ↔ HasNoMore g q c
    (expected_pairs g q c.k)
no_more_tested g q c =
    let a = at_most (length c.pairs) (length (expected_pairs g q c.k)) in
    let b = at_most (length c.fans) (length (later_members q c.k)) in
    let s = not (nat_lt (length (expected_pairs g q c.k)) (length c.pairs)) in
    let t = not (nat_lt (length (later_members q c.k)) (length c.fans)) in (
      (λ h. let r = and_parts s t h in (a.0 r.0, b.0 r.1)),
      (λ h. and_from s t (a.1 h.0) (b.1 h.1)),
    )

module _ (g : LinkGraph) (q : List ℕ) (group : IsGroup g q) (c : Split) where
  pair_tested : (at : ℕ) (p : ℕ × ℕ) → Has (expected_pairs g q c.k) p
      → IsTrue (is_pair_entry g c.k p (slice_get c.pairs at)) ↔ HoldsPair g c at p
  pair_tested at p h =
      let u : IsUnlinkedPair g q c.k p = ((expected g q c.k group.ascends).each p).0 h in
      pair_entry_tested g c.k p (group.nodes p.0 (has_from_take q c.k p.0 u.0))
      (group.nodes p.1 (has_from_take q c.k p.1 u.1))
      (λ e. let l = u.2 in omega (arith, l, e)) (slice_get c.pairs at)

  fan_tested : (at : ℕ) (j : ℕ) → Has (later_members q c.k) j
      → IsTrue (is_fan_entry g q c.k j (slice_get c.fans at)) ↔ HoldsFan g q c at j
  fan_tested at j h = fan_entry_tested g q group.nodes c.k j (group.nodes j (later_member q c.k j h))
      (slice_get c.fans at)

  abbrev the_pairs : List (ℕ × ℕ)
  the_pairs = expected_pairs g q c.k

  abbrev the_fans : List ℕ
  the_fans = later_members q c.k

  pairs_pass : AllHold (HoldsPair g c) the_pairs → pairs_fault g c.k c.pairs 0 the_pairs ≡ None
  pairs_pass = none_when _ _ (pairs_fault g c.k c.pairs) (pairs_found g c.k c.pairs) (HoldsPair g c) the_pairs
      pair_tested

  pair_fails : (p : ℕ × ℕ) → IsFirstAtFault (HoldsPair g c) the_pairs p
      → pairs_fault g c.k c.pairs 0 the_pairs ≡ Some (Pair p.0 p.1)
  pair_fails = some_when _ _ (pairs_fault g c.k c.pairs) (pairs_found g c.k c.pairs) (HoldsPair g c) the_pairs
      pair_tested

  fans_pass : AllHold (HoldsFan g q c) the_fans → fans_fault g q c.k c.fans 0 the_fans ≡ None
  fans_pass = none_when _ _ (fans_fault g q c.k c.fans) (fans_found g q c.k c.fans) (HoldsFan g q c) the_fans fan_tested

  fan_fails : (j : ℕ) → IsFirstAtFault (HoldsFan g q c) the_fans j → fans_fault g q c.k c.fans 0 the_fans ≡ Some (Fan j)
  fan_fails = some_when _ _ (fans_fault g q c.k c.fans) (fans_found g q c.k c.fans) (HoldsFan g q c) the_fans fan_tested

  pub entries_found : (x : Option CheckFault) → EntriesSay g q c the_pairs x → entries_fault g q c ≡ x
  entries_found None h = rw (pairs_pass h.0, fans_pass h.1, (no_more_tested g q c).1 h.2) refl
  entries_found (Some (Pair i j)) h = rw (pair_fails (i, j) h) refl
  entries_found (Some (Fan j)) h = rw (pairs_pass h.0, fan_fails j h.1) refl
  entries_found (Some Extra) h = rw (pairs_pass h.0, fans_pass h.1, off (no_more g q c) (no_more_tested g q c) h.2) refl
  entries_found (Some NoNodes) h = absurd h
  entries_found (Some BadGroup) h = absurd h
  entries_found (Some Count) h = absurd h
  entries_found (Some NotLinked) h = absurd h
  entries_found (Some Cut) h = absurd h
  entries_found (Some Side) h = absurd h

  said : (x : Option CheckFault) → EntriesSay g q c the_pairs x → EntriesSay g q c the_pairs (entries_fault g q c)
  said x h = subst (EntriesSay g q c the_pairs) (sym (entries_found x h)) h

  pub entries_judged : EntriesSay g q c the_pairs (entries_fault g q c)
  entries_judged = elim (found _ _ (pairs_fault g c.k c.pairs) (pairs_found g c.k c.pairs) (HoldsPair g c) the_pairs
      pair_tested) [
        | inr f ↦ said (Some (Pair f.0.0 f.0.1)) f.1
        | inl ps ↦ elim (found _ _ (fans_fault g q c.k c.fans) (fans_found g q c.k c.fans) (HoldsFan g q c) the_fans
            fan_tested) [
              | inr f ↦ said (Some (Fan f.0)) (ps, f.1)
              | inl fs ↦
                  elim (no_more g q c) as (λ b. no_more g q c ≡ b → EntriesSay g q c the_pairs (entries_fault g q c)) [
                    | true ↦ λ t. said None (ps, fs, (no_more_tested g q c).0 t)
                    | false ↦ λ f. said (Some Extra) (ps, fs, no (no_more g q c) (no_more_tested g q c) f)
                  ] refl
            ]
      ]
