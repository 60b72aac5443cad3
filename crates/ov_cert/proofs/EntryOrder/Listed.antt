-- The expected entries: how they are collected one by one, and how one entry is checked.
use Rattle.std.proofs.Common.{◌≡◌, ◌≢◌, ◌∙◌, ◌↔◌, ℕ, suc, ◌+◌, ◌<◌, List, [], ◌∷◌, ◌++◌, length, take, drop, get_or}
use Rattle.std.proofs.Common.{slice_get, IsTrue, true, false, refl, sym, ap, subst, arith, append_assoc, length-append}
use Rattle.std.proofs.Common.{add-one, Bool, Option, Some, None, is_none, IsNone, IfSome}
use Rattle.std.proofs.Math.Seq.{drop-cons}
use Rattle.ov_ids.specs.Members.{Has}
use Rattle.ov_ids.proofs.Members.{has_from_take}
use Rattle.ov_graph.specs.Links.{LinkGraph}
use Rattle.ov_graph.specs.Joined.{IsNodeSet}
use Rattle.ov_graph.specs.Even.{IsUnlinkedPair}
use Rattle.ov_graph.specs.Code.Tests.{are_joined}
use Rattle.ov_cert.specs.declared.cert.Split.{Split}
use Rattle.ov_cert.specs.declared.expected_entry_with_place_and_fault.Expected.{Expected}
use Rattle.ov_cert.specs.declared.expected_entry_with_place_and_fault.Expected.TheVariants.{Pair, Fan}
use Rattle.ov_cert.specs.declared.path_and_entry_flaws.EntryFlaw.{EntryFlaw}
use Rattle.ov_cert.specs.Flaws.{HasEntryFlaw}
use Rattle.ov_cert.specs.Code.Flaws.{pair_entry_flaw, fan_entry_flaw}
use Rattle.ov_cert.proofs.PathRules.FlawRules.{pair_entry_rule, fan_entry_rule}
use Rattle.ov_cert.specs.Entries.{of_pairs, of_fans, IsExpected, HoldsEntry}
use Rattle.ov_cert.specs.Code.Tests.{is_pair_entry, is_fan_entry, unlinked_before, pairs_after}
use Rattle.ov_cert.proofs.EntryOrder.Columns.{pairs_after_at}
use Rattle.ov_cert.proofs.EntryOrder.Finding.{has_found}
use Rattle.ov_cert.proofs.EntryOrder.Looping.{later_member}
use Rattle.ov_cert.proofs.PathRules.PathTests.{pair_entry_tested, fan_entry_tested}

of_pairs_append : (n : ℕ) (xs ys : List (ℕ × ℕ)) → of_pairs n (xs ++ ys) ≡ of_pairs n xs ++ of_pairs (n + length xs) ys
of_pairs_append n [] ys = let e : n ≡ n + 0 = omega arith in ap (λ (m : ℕ). of_pairs m ys) e
of_pairs_append n (x ∷ xs) ys =
    let e : suc n + length xs ≡ n + suc (length xs) = omega arith in
    ap (λ t. Pair n x.0 x.1 ∷ t) (of_pairs_append (suc n) xs ys
    ∙ ap (λ (m : ℕ). of_pairs (suc n) xs ++ of_pairs m ys) e)

length_of_pairs : (n : ℕ) (xs : List (ℕ × ℕ)) → length (of_pairs n xs) ≡ length xs
length_of_pairs n [] = refl
length_of_pairs n (x ∷ xs) = ap suc (length_of_pairs (suc n) xs)

-- the entries so far, followed by the entries of these pairs from the next place on
abbrev pub with_pairs : List Expected → List (ℕ × ℕ) → List Expected
with_pairs entries pairs = entries ++ of_pairs (length entries) pairs

-- the entries of two lists of pairs put together
pub with_more : (entries : List Expected) (xs ys : List (ℕ × ℕ))
    → with_pairs (with_pairs entries xs) ys ≡ with_pairs entries (xs ++ ys)
with_more entries xs ys =
    let n = length entries in
    let e : length (with_pairs entries xs) ≡ n + length xs = length-append entries (of_pairs n xs)
    ∙ ap (λ (m : ℕ). n + m) (length_of_pairs n xs) in
    ap (λ (m : ℕ). with_pairs entries xs ++ of_pairs m ys) e
    ∙ append_assoc entries (of_pairs n xs) (of_pairs (n + length xs) ys)
    ∙ ap (λ t. entries ++ t) (sym (of_pairs_append n xs ys))

at_drop : (xs : List ℕ) (p x : ℕ) → p < length xs → x ≡ get_or xs p x → drop p xs ≡ x ∷ drop (p + 1) xs
at_drop xs p x l is = drop-cons xs p x l ∙ rw (← is, add-one p) refl

-- a linked earlier member adds no entry
pub pair_skipped : (g : LinkGraph) (entries : List Expected) (earlier : List ℕ) (p i j : ℕ) → p < length earlier
    → i ≡ get_or earlier p i → are_joined g.links i j ≡ true
    → with_pairs entries (unlinked_before g (drop (p + 1) earlier) j) ≡ with_pairs entries
    (unlinked_before g (drop p earlier) j)
pair_skipped g entries earlier p i j l is on =
    let e = at_drop earlier p i l is in
    sym (ap (λ (xs : List ℕ). with_pairs entries (unlinked_before g xs j)) e ∙ rw on refl)

-- an unlinked earlier member adds the entry of its pair
pub pair_added : (g : LinkGraph) (entries : List Expected) (earlier : List ℕ) (p i j : ℕ) → p < length earlier
    → i ≡ get_or earlier p i → are_joined g.links i j ≡ false
    → with_pairs (entries ++ Pair (length entries) i j ∷ []) (unlinked_before g (drop (p + 1) earlier) j) ≡ with_pairs
    entries (unlinked_before g (drop p earlier) j)
pair_added g entries earlier p i j l is off =
    let e = at_drop earlier p i l is in
    let rest = unlinked_before g (drop (p + 1) earlier) j in
    with_more entries ((i, j) ∷ []) rest ∙ sym (ap (λ (xs : List ℕ). with_pairs entries (unlinked_before g xs j)) e
    ∙ rw off refl)

-- the pairs of one more member
pub column_added : (g : LinkGraph) (entries : List Expected) (xs : List ℕ) (p j : ℕ) → p < length xs → j ≡ get_or xs p j
    → with_pairs (with_pairs entries (unlinked_before g (take p xs) j))
    (pairs_after g (take (p + 1) xs) (drop (p + 1) xs))
    ≡ with_pairs entries (pairs_after g (take p xs) (drop p xs))
column_added g entries xs p j l is =
    let before = unlinked_before g (take p xs) j in
    let rest = pairs_after g (take (p + 1) xs) (drop (p + 1) xs) in
    let e : pairs_after g (take p xs) (drop p xs) ≡ before ++ rest = pairs_after_at g xs p j l
    ∙ ap (λ (x : ℕ). unlinked_before g (take p xs) x ++ rest) (sym is) in
    with_more entries before rest ∙ ap (with_pairs entries) (sym e)

-- one more fan is added
pub fan_added : (entries : List Expected) (xs : List ℕ) (p j : ℕ) → p < length xs → j ≡ get_or xs p j
    → (entries ++ Fan p j ∷ []) ++ of_fans (p + 1) (drop (p + 1) xs) ≡ entries ++ of_fans p (drop p xs)
fan_added entries xs p j l is =
    let e = at_drop xs p j l is in
    append_assoc entries (Fan p j ∷ []) (of_fans (p + 1) (drop (p + 1) xs))
    ∙ ap (λ t. entries ++ t) (sym (ap (of_fans p) e ∙ ap (λ (m : ℕ). Fan p j ∷ of_fans m (drop (p + 1) xs))
    (sym (add-one p))))

-- an expected pair: what its two ends are, and the test and the flaw of its entry
pub record PairAt (g : LinkGraph) (q : List ℕ) (c : Split) (entry : Expected) (at i j : ℕ) : Type 0 where
  pub i_node : Has g.nodes i
  pub j_node : Has g.nodes j
  pub differ : i ≢ j
  pub tested : IsTrue (is_pair_entry g c.k (i, j) (slice_get c.pairs at)) ↔ HoldsEntry g q c entry
  pub flawed : (f : EntryFlaw) → pair_entry_flaw g c.k (i, j) (slice_get c.pairs at) ≡ Some f
      → HasEntryFlaw g q c entry f

pub pair_at : (g : LinkGraph) (q : List ℕ) (c : Split) (entry : Expected) (at i j : ℕ) → IsNodeSet g q
    → IsExpected g q c.k entry
    → entry ≡ Pair at i j → PairAt g q c entry at i j
pair_at g q c entry at i j group expected e = subst (λ (x : Expected). PairAt g q c x at i j) (sym e)
    (here (subst (IsExpected g q c.k) e expected))
  where
    here : IsExpected g q c.k (Pair at i j) → PairAt g q c (Pair at i j) at i j
    here h =
        let u : IsUnlinkedPair g q c.k (i, j) = (h.1.each (i, j)).0 (has_found h.0 at (i, j) h.2) in
        let ni = group.nodes i (has_from_take q c.k i u.0) in
        let nj = group.nodes j (has_from_take q c.k j u.1) in
        let ne : i ≢ j = λ s. let l = u.2 in omega (arith, l, s) in
        record {
          i_node = ni;
          j_node = nj;
          differ = ne;
          tested = pair_entry_tested g c.k (i, j) ni nj ne (slice_get c.pairs at);
          flawed = pair_entry_rule g c.k i j ni nj ne (slice_get c.pairs at);
        }

-- an expected fan: its member, and the test and the flaw of its entry
pub record FanAt (g : LinkGraph) (q : List ℕ) (c : Split) (entry : Expected) (at j : ℕ) : Type 0 where
  pub node : Has g.nodes j
  pub tested : IsTrue (is_fan_entry g q c.k j (slice_get c.fans at)) ↔ HoldsEntry g q c entry
  pub flawed : (f : EntryFlaw) → fan_entry_flaw g q c.k j (slice_get c.fans at) ≡ Some f → HasEntryFlaw g q c entry f

pub fan_at : (g : LinkGraph) (q : List ℕ) (c : Split) (entry : Expected) (at j : ℕ) → IsNodeSet g q
    → IsExpected g q c.k entry
    → entry ≡ Fan at j → FanAt g q c entry at j
fan_at g q c entry at j group expected e = subst (λ (x : Expected). FanAt g q c x at j) (sym e)
    (here (subst (IsExpected g q c.k) e expected))
  where
    here : IsExpected g q c.k (Fan at j) → FanAt g q c (Fan at j) at j
    here h =
        let n = group.nodes j (later_member q c.k j (has_found _ at j h)) in
        record {
          node = n;
          tested = fan_entry_tested g q group.nodes c.k j n (slice_get c.fans at);
          flawed = fan_entry_rule g q group.nodes c.k j n (slice_get c.fans at);
        }

-- from the flaw that is found, or none: the entry is right exactly if there is none
pub right_if_none : {X P : Type 0} (o : Option X) (b : Bool) → is_none o ≡ b → IsTrue b ↔ P → IsNone o ↔ P
right_if_none None b e tested = ((λ h. tested.0 (sym e)), (λ p. refl))
right_if_none (Some x) b e tested = ((λ h. absurd cc), (λ p. let t : false ≡ true = e ∙ tested.1 p in absurd cc))

pub flaw_found : {X : Type 0} {P : X → Type 0} (o found : Option X) → o ≡ found
    → ((x : X) → found ≡ Some x → P x) → IfSome o P
flaw_found None found e rule = tt
flaw_found (Some x) found e rule = rule x (sym e)
