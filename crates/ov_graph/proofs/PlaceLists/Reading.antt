-- What lists of places say of a graph.
use Rattle.std.proofs.Common.{◌≡◌, ◌∙◌, ◌↔◌, ℕ, ◌<◌, List, [], ◌∷◌, IsTrue, length, get_or, slice_index}
use Rattle.std.proofs.Common.{◌-◌, Option, Some, None, take, drop, eqb, ◌&&◌, eq-eqb, eqb-true, Result, Ok, Err, inl, inr, refl, sym, ap, ap₂, subst, arith}
use Rattle.std.specs.Result.{is_ok}
use Rattle.std.specs.Ordering.{nat_cmp}
use Rattle.std.specs.List.Sorted.{IsBinarySearchResult}
use Rattle.std.proofs.lemmas.Bool.{cases_lt, and_parts, and_from}
use Rattle.std.specs.Prelude.{slice_get}
use Rattle.std.proofs.lemmas.List.{get_or_default, take_all}
use Rattle.std.proofs.lemmas.List.Sorted.{searched}
use Rattle.ov_ids.specs.Members.{Has, Ascends}
use Rattle.ov_ids.proofs.Members.{has_place, place_of, ordered_at, all_from_members, all_member}
use Rattle.ov_graph.specs.Links.{LinkGraph, Linked, AreNeighbours}
use Rattle.ov_graph.specs.Code.Listed.{listed_at, nodes_at, AreListed, IsListed}
use Rattle.ov_graph.proofs.BitRows.Halving.{never_falls}
use Rattle.ov_graph.proofs.EvenTest.Filtered.{linked_node}

-- a search finds what is in the list
pub found_by_search : (xs : List ℕ) (x : ℕ) (r : Result ℕ ℕ) → Ascends xs
    → IsBinarySearchResult (λ y. nat_cmp y x) xs r → IsTrue (is_ok r) ↔ Has xs x
found_by_search xs x (Ok i) up found =
    let s = searched xs x (Ok i) found (never_falls xs up) in
    ((λ t. subst (Has xs) s.1 (has_place xs i 0 s.0)), (λ h. refl))
found_by_search xs x (Err i) up found =
    let s = searched xs x (Err i) found (never_falls xs up) in (
      (λ t. absurd (cc)),
      (λ h.
          let n = place_of xs x h in
          let at = n.2 in
          absurd (elim (cases_lt n.0 i) [
            | inl l ↦ let b = s.1 n.0 l in omega (arith, at, b)
            | inr ge ↦ let b = s.2 n.0 ge n.1 in omega (arith, at, b)
          ])),
    )

-- a list that is lent is the list at its place
pub list_lent : (lists : List (List ℕ)) (p : ℕ) (list : List ℕ) → p < length lists → list ≡ get_or lists p list
    → list ≡ listed_at lists p
list_lent lists p list l e = e ∙ get_or_default lists p list [] l

has_nodes_at : (nodes places : List ℕ) (b : ℕ) → Has (nodes_at nodes places) b
    → (p : ℕ) × Has places p × (slice_index nodes p ≡ b)
has_nodes_at nodes [] b h = absurd h
has_nodes_at nodes (p ∷ places) b h = elim h [
  | inl e ↦ (p, inl refl, e)
  | inr k ↦ let r = has_nodes_at nodes places b k in (r.0, inr r.1, r.2)
]

in_nodes_at : (nodes places : List ℕ) (p : ℕ) → Has places p → Has (nodes_at nodes places) (slice_index nodes p)
in_nodes_at nodes [] p h = absurd h
in_nodes_at nodes (q ∷ places) p h = elim h [
  | inl e ↦ inl (ap (λ (i : ℕ). slice_index nodes i) e)
  | inr k ↦ inr (in_nodes_at nodes places p k)
]

ascends_nodes_at : (nodes places : List ℕ) → Ascends nodes → Ascends places
    → ((p : ℕ) → Has places p → p < length nodes) → Ascends (nodes_at nodes places)
ascends_nodes_at nodes [] up rise within = tt
ascends_nodes_at nodes (p ∷ places) up rise within = (
  all_from_members (λ y. slice_index nodes p < y) (nodes_at nodes places) (λ y h.
      let r = has_nodes_at nodes places y h in
      let less : p < r.0 = all_member (λ q. p < q) places r.0 rise.0 r.1 in
      subst (λ (z : ℕ). slice_index nodes p < z) r.2
      (ordered_at (λ x y. x < y) nodes p r.0 0 up less (within r.0 (inr r.1)))),
  ascends_nodes_at nodes places up rise.1 (λ q h. within q (inr h)),
)

-- the places of a list are places of nodes
pub listed_within : (nodes : List ℕ) (links : List (ℕ × ℕ)) (lists : List (List ℕ)) (p : ℕ)
    → AreListed nodes links lists → (q : ℕ) → Has (listed_at lists p) q → q < length nodes
listed_within nodes links lists p listed q h = ((listed.places p q).0 h).1

-- the nodes at the places of a node's list are its neighbours
pub listed_neighbours : (nodes : List ℕ) (links : List (ℕ × ℕ)) (lists : List (List ℕ)) (a p : ℕ)
    → IsListed nodes links lists → p < length nodes → slice_index nodes p ≡ a
    → AreNeighbours (record { nodes = nodes; links = links }) a (nodes_at nodes (listed_at lists p))
listed_neighbours nodes links lists a p kept pl e =
    let g : LinkGraph = record { nodes = nodes; links = links } in
    let listed = kept.listed in
    let places = listed_at lists p in
    record {
      ascend = ascends_nodes_at nodes places kept.graph.nodes_ascend (listed.ascend p)
          (listed_within nodes links lists p listed);
      each = λ b. (
        (λ h.
            let r = has_nodes_at nodes places b h in
            let l : Linked g (slice_index nodes p) (slice_index nodes r.0) = ((listed.places p r.0).0 r.1).2 in
            subst (λ (x : ℕ). Linked g x b) e (subst (Linked g (slice_index nodes p)) r.2 l)),
        (λ l.
            let n = place_of nodes b (linked_node g a b kept.graph l) in
            let i = n.0 in
            let node : slice_index nodes i ≡ b = n.2 in
            let there : Linked g (slice_index nodes p) (slice_index nodes i) =
            subst (λ (x : ℕ). Linked g x (slice_index nodes i)) (sym e) (subst (Linked g a) (sym node) l) in
            subst (Has (nodes_at nodes places)) node
            (in_nodes_at nodes places i ((listed.places p i).1 (pl, n.1, there)))),
      );
    }

-- a list says whether the node at its place is linked to the node at another
pub listed_linked : (nodes : List ℕ) (links : List (ℕ × ℕ)) (lists : List (List ℕ)) (p q : ℕ)
    → IsListed nodes links lists → p < length nodes → q < length nodes
    → Has (listed_at lists p) q
    ↔ Linked (record { nodes = nodes; links = links }) (slice_index nodes p) (slice_index nodes q)
listed_linked nodes links lists p q kept pl ql =
    let b = kept.listed.places p q in ((λ h. (b.0 h).2), (λ l. b.1 (pl, ql, l)))

-- two pairs are equal where their parts are
pub pair_decides : (p q : ℕ × ℕ) → IsTrue (eqb p.0 q.0 && eqb p.1 q.1) ↔ (p ≡ q)
pair_decides p q = (
  (λ t. let r = and_parts (eqb p.0 q.0) (eqb p.1 q.1) t in
      ap₂ (λ (a b : ℕ). (a, b)) (eqb-true p.0 q.0 r.0) (eqb-true p.1 q.1 r.1)),
  (λ e. and_from (eqb p.0 q.0) (eqb p.1 q.1) (eq-eqb p.0 q.0 (ap (λ (m : ℕ × ℕ). m.0) e))
      (eq-eqb p.1 q.1 (ap (λ (m : ℕ × ℕ). m.1) e))),
)

given : Option ℕ → ℕ
given None = 0
given (Some x) = x

-- the first place of a list, and the others
pub one_taken : (places : List ℕ) (p : ℕ) → Some p ≡ slice_get places 0
    → places ≡ p ∷ take (length places - 1) (drop 1 places)
unfolding given
one_taken [] p e = absurd (cc)
one_taken (x ∷ rest) p e =
    let count : length (x ∷ rest) - 1 ≡ length rest = omega arith in
    ap₂ (λ (y : ℕ) (ys : List ℕ). y ∷ ys) (sym (ap given e))
    (sym (ap (λ (n : ℕ). take n rest) count ∙ take_all (length rest) rest (omega arith)))

-- the nodes at the places of a list: that at the first place, and the others
pub one_node_taken : (nodes places : List ℕ) (p d : ℕ) → Some p ≡ slice_get places 0 → p < length nodes
    → nodes_at nodes places ≡ get_or nodes p d ∷ nodes_at nodes (take (length places - 1) (drop 1 places))
one_node_taken nodes places p d e l =
    ap (nodes_at nodes) (one_taken places p e)
    ∙ ap (λ (x : ℕ). x ∷ nodes_at nodes (take (length places - 1) (drop 1 places))) (get_or_default nodes p 0 d l)

-- the first place is in the list, and so are the others
pub first_taken : (places : List ℕ) (p : ℕ) → Some p ≡ slice_get places 0 → Has places p
first_taken places p e = subst (λ (xs : List ℕ). Has xs p) (sym (one_taken places p e)) (inl refl)

pub rest_taken : (places : List ℕ) (p : ℕ) → Some p ≡ slice_get places 0 → (q : ℕ)
    → Has (take (length places - 1) (drop 1 places)) q → Has places q
rest_taken places p e q h = subst (λ (xs : List ℕ). Has xs q) (sym (one_taken places p e)) (inr h)
