-- What parts of a text mean, and the places that are marked for them.
use Rattle.std.proofs.Common.{◌≡◌, ◌≢◌, ◌∙◌, ◌↔◌, ◌⊎◌, ℕ, ◌+◌, ◌<◌, ◌≤◌, List, length, get_or, Some, None, inl, inr}
use Rattle.std.proofs.Common.{Bool, true, Option, IsTrue, is_some, replicate, refl, sym, ap, subst, arith}
use Rattle.std.proofs.lemmas.Bool.{cases_eq}
use Rattle.ov_ids.specs.Members.{Has}
use Rattle.ov_ids.proofs.Members.{has_place, place_of}
use Rattle.ov_graph.specs.Links.{LinkGraph, IsGraph}
use Rattle.ov_graph.specs.Paths.{node_at}
use Rattle.ov_graph.specs.Row.{HasBit, picked}
use Rattle.ov_graph.proofs.BitRows.Bits.{bit_moved, no_bits}
use Rattle.ov_graph.proofs.BitRows.Read.{has_picked, in_picked, ascends_picked, one_place}
use Rattle.ov_lines.specs.Lines.{words_of, one, short_bits}
use Rattle.ov_graphfile.specs.NamesState.{NamesState, IsNamed}
use Rattle.ov_graphfile.specs.Groups.{part_at, HasNumeralName, Means, MeansAt, IsShared, IsGroupNamed}
use Rattle.ov_graphfile.specs.Groups.{IsGroupFault}
use Rattle.ov_graphfile.specs.Code.Bearers.{IsBearerOf}
use Rattle.ov_graphfile.specs.Code.Owners.{IsNumeralAt, AreMarked}
use Rattle.ov_graphfile.specs.declared.group_names_fault.GroupFault.TheVariants.{NamedTwice}
use Rattle.ov_graphfile.specs.declared.nodes_by_name.Bearer.TheVariants.{One, Several}
use Rattle.ov_graphfile.proofs.Tables.{some_one}

-- ---- one part

-- no node has this name, if no place has it
pub none_named : (names : NamesState) (part : List ℕ)
    → ((p : ℕ) → p < length names.graph.nodes → ¬ (get_or names.told p None ≡ Some part))
    → (m : ℕ) → ¬ IsNamed names m part
none_named names part none m h = none h.0 h.1 h.3

-- the name of one node
pub one_named : (names : NamesState) (part : List ℕ) (p : ℕ)
    → IsBearerOf names.told (length names.graph.nodes) part (Some (One p)) → Means names part (node_at names.graph p)
one_named names part p b =
    inl ((p, b.0, refl, b.1), (λ m h. sym h.2 ∙ ap (node_at names.graph) (b.2 h.0 h.1 h.3)))

-- the name of two
pub two_named : (names : NamesState) (part : List ℕ) → IsGraph names.graph
    → IsBearerOf names.told (length names.graph.nodes) part (Some Several) → IsShared names part
two_named names part graph b =
    let p : ℕ = b.0 in
    let q : ℕ = b.1 in
    let less : p < q = b.2 in
    let below : q < length names.graph.nodes = b.3 in
    let within : p < length names.graph.nodes = omega (arith, less, below) in (
      node_at names.graph p,
      node_at names.graph q,
      (λ e.
          let same = one_place names.graph.nodes p q graph.nodes_ascend within below e in
          omega (arith, same, less)),
      (p, within, refl, b.4),
      (q, below, refl, b.5),
    )

-- the id of a node
pub spelled : (names : NamesState) (part : List ℕ) (g : LinkGraph) (place id : ℕ) → ¬ HasNumeralName names
    → ((p : ℕ) → p < length names.graph.nodes → ¬ (get_or names.told p None ≡ Some part))
    → Some id ≡ one short_bits (words_of part) → g ≡ names.graph → place < length g.nodes
    → node_at g place ≡ id → Means names part (node_at names.graph place)
spelled names part g place id words none spells graph below node =
    let e : node_at names.graph place ≡ id = ap (λ (h : LinkGraph). node_at h place) (sym graph) ∙ node in
    inr (
      none_named names part none,
      words,
      sym spells ∙ ap (λ (n : ℕ). Some n) (sym e),
      has_place names.graph.nodes place 0 (subst (λ (h : LinkGraph). place < length h.nodes) graph below),
    )

-- a part means one node at most
pub means_one : (names : NamesState) (part : List ℕ) (m n : ℕ) → Means names part m → Means names part n → m ≡ n
means_one names part m n (inl a) (inl b) = b.1 m a.0
means_one names part m n (inl a) (inr b) = absurd (b.0 m a.0)
means_one names part m n (inr a) (inl b) = absurd (a.0 n b.0)
means_one names part m n (inr a) (inr b) = let e : Some m ≡ Some n = sym a.2 ∙ b.2 in cc

means_node : (names : NamesState) (part : List ℕ) (n : ℕ) → Means names part n → Has names.graph.nodes n
means_node names part n (inl a) =
    subst (Has names.graph.nodes) a.0.2 (has_place names.graph.nodes a.0.0 0 a.0.1)
means_node names part n (inr b) = b.3

-- ---- names that are numerals

-- a name at a place is one exactly if it spells an id
pub numeral_tested : (names : NamesState) (p : ℕ) (name : List ℕ) (b : Bool) → get_or names.told p None ≡ Some name
    → b ≡ is_some (one short_bits (words_of name)) → IsTrue b ↔ IsNumeralAt names p
numeral_tested names p name b told is = (
  (λ t.
      let id = some_id (one short_bits (words_of name)) (sym is ∙ t) in
      (id.0, name, told, id.1)),
  (λ h.
      let e : Some h.1 ≡ Some name = sym h.2 ∙ told in
      let same : h.1 ≡ name = some_one h.1 name e in
      is ∙ ap (λ (t : List ℕ). is_some (one short_bits (words_of t))) (sym same) ∙ ap is_some h.3),
) where
  some_id : (o : Option ℕ) → is_some o ≡ true → (n : ℕ) × (o ≡ Some n)
  some_id None t = absurd (cc)
  some_id (Some n) t = (n, refl)

-- the name at a place is one
pub numeral_here : (names : NamesState) (p : ℕ) → p < length names.graph.nodes → IsNumeralAt names p
    → HasNumeralName names
numeral_here names p below h = (node_at names.graph p, h.0, h.1, (p, below, refl, h.2), h.3)

-- none is
pub no_numeral : (names : NamesState) (count : ℕ) → length names.graph.nodes ≤ count
    → ((q : ℕ) → q < count → ¬ IsNumeralAt names q) → ¬ HasNumeralName names
no_numeral names count all none h =
    let at = h.3 in
    let below = at.1 in
    none at.0 (omega (arith, below, all)) (h.1, h.2, at.3, h.4)

-- ---- the parts so far

pub none_marked : (names : NamesState) (parts : List (List ℕ)) (words : ℕ)
    → AreMarked names parts (replicate words 0) 0
none_marked names parts words = record {
  bits = λ p. ((λ h. absurd (no_bits words p h)), (λ h. let l = h.1.1 in absurd (omega (arith, l))));
  each = λ i l. absurd (omega (arith, l));
  once = λ i j n l m a b. absurd (omega (arith, l));
}

-- one part more, which means the node at a place that is not marked
pub marked_more : (names : NamesState) (parts : List (List ℕ)) (row after : List ℕ) (done place : ℕ)
    → IsGraph names.graph → AreMarked names parts row done → done < length parts
    → place < length names.graph.nodes → Means names (part_at parts done) (node_at names.graph place)
    → ¬ HasBit row place → ((q : ℕ) → HasBit after q ↔ ((q ≡ place) ⊎ HasBit row q))
    → AreMarked names parts after (done + 1)
marked_more names parts row after done place graph marked l below means fresh put =
    let node = node_at names.graph place in
    let last : MeansAt names parts done node = (l, means) in
    let other : (i n : ℕ) → i < done → MeansAt names parts i n → n ≢ node = λ i n k m e.
    fresh ((marked.bits place).1 (below, (i, k, subst (MeansAt names parts i) e m))) in
    record {
      bits = λ p. (
        (λ h. elim ((put p).0 h) [
          | inl e ↦ (
            subst (λ (q : ℕ). q < length names.graph.nodes) (sym e) below,
            (done, omega arith, subst (λ (q : ℕ). MeansAt names parts done (node_at names.graph q)) (sym e) last),
          )
          | inr old ↦
              let b = (marked.bits p).0 old in
              (b.0, (b.1.0, let k = b.1.1 in omega (arith, k), b.1.2))
        ]),
        (λ h. elim (cases_eq h.1.0 done) [
          | inl e ↦
              let m : Means names (part_at parts done) (node_at names.graph p) =
              subst (λ (i : ℕ). Means names (part_at parts i) (node_at names.graph p)) e h.1.2.1 in
              let same = means_one names (part_at parts done) (node_at names.graph p) node m means in
              (put p).1 (inl (one_place names.graph.nodes p place graph.nodes_ascend h.0 below same))
          | inr ne ↦ (put p).1 (inr ((marked.bits p).1 (h.0, (h.1.0, let k = h.1.1 in omega (arith, k, ne), h.1.2))))
        ]),
      );
      each = λ i k. elim (cases_eq i done) [
        | inl e ↦ (node, subst (λ (j : ℕ). MeansAt names parts j node) (sym e) last)
        | inr ne ↦ marked.each i (omega (arith, k, ne))
      ];
      once = λ i j n k m a b. elim (cases_eq i done) [
        | inl e ↦ elim (cases_eq j done) [
          | inl f ↦ e ∙ sym f
          | inr nf ↦
              let here = subst (λ (t : ℕ). Means names (part_at parts t) n) e a.1 in
              absurd (other j n (omega (arith, m, nf)) b (means_one names (part_at parts done) n node here means))
        ]
        | inr ne ↦ elim (cases_eq j done) [
          | inl f ↦
              let here = subst (λ (t : ℕ). Means names (part_at parts t) n) f b.1 in
              absurd (other i n (omega (arith, k, ne)) a (means_one names (part_at parts done) n node here means))
          | inr nf ↦ marked.once i j n (omega (arith, k, ne)) (omega (arith, m, nf)) a b
        ]
      ];
    }

-- one part more, which means a node that is marked already
pub named_twice : (names : NamesState) (parts : List (List ℕ)) (row : List ℕ) (done place : ℕ)
    → AreMarked names parts row done → done < length parts
    → Means names (part_at parts done) (node_at names.graph place) → HasBit row place
    → IsGroupFault names parts (NamedTwice (node_at names.graph place))
named_twice names parts row done place marked l means has =
    let b = (marked.bits place).0 has in
    (b.1.0, done, (λ e. let k = b.1.1 in omega (arith, k, e)), b.1.2, (l, means))

-- all parts
pub all_marked : (names : NamesState) (parts : List (List ℕ)) (row : List ℕ) (done : ℕ) → IsGraph names.graph
    → AreMarked names parts row done → length parts ≡ done
    → IsGroupNamed names parts (picked row 0 names.graph.nodes)
all_marked names parts row done graph marked all = record {
  ascends = ascends_picked row 0 names.graph.nodes graph.nodes_ascend;
  members = λ n. (
    (λ h.
        let k = has_picked row 0 names.graph.nodes n h in
        let b = (marked.bits k.place).0 (bit_moved row (0 + k.place) k.place (omega arith) k.bit) in
        (b.1.0, subst (MeansAt names parts b.1.0) k.node b.1.2)),
    (λ h.
        let at = place_of names.graph.nodes n (means_node names (part_at parts h.0) n h.1.1) in
        let q : ℕ = at.0 in
        let below : q < length names.graph.nodes = at.1 in
        let node : node_at names.graph q ≡ n = at.2 in
        let l = h.1.0 in
        let means = subst (MeansAt names parts h.0) (sym node) h.1 in
        let bit = (marked.bits q).1 (below, (h.0, omega (arith, l, all), means)) in
        subst (Has (picked row 0 names.graph.nodes)) node
        (in_picked row 0 names.graph.nodes q below (bit_moved row q (0 + q) (omega arith) bit))),
  );
  each = λ i l. marked.each i (omega (arith, l, all));
  once = λ i j n a b.
      let l = a.0 in
      let m = b.0 in
      marked.once i j n (omega (arith, l, all)) (omega (arith, m, all)) a b;
}
