-- Sets of nodes stored as rows of bits.
use Rattle.std.proofs.Common.{◌≡◌, ◌≢◌, ◌∙◌, ◌↔◌, ◌⊎◌, ℕ, ◌+◌, ◌<◌, Bool, true, false, ◌&&◌, not, cond, List, [], ◌∷◌}
use Rattle.std.proofs.Common.{◌++◌, replicate, length, get_or, IsTrue, refl, sym, ap, subst, arith, inl, inr}
use Rattle.std.proofs.lemmas.Bool.{le-ltb, lt-ltb, ne_eqb}
use Rattle.std.specs.List.{AllByRecursion}
use Rattle.ov_ids.specs.Members.{Has, Ascends}
use Rattle.ov_ids.specs.Sets.{has, adding}
use Rattle.ov_ids.proofs.Members.{has_tested, has_place, same_ascending}
use Rattle.ov_ids.proofs.Sets.{IsSet-adding}
use Rattle.ov_graph.specs.Links.{LinkGraph, IsGraph}
use Rattle.ov_graph.specs.Paths.{node_at}
use Rattle.ov_graph.specs.Row.{HasBit}
use Rattle.ov_graph.specs.Row.{picked}
use Rattle.ov_graph.proofs.BitRows.Bits.{bit_moved, no_bits}
use Rattle.ov_graph.proofs.BitRows.Read.{picked_at, has_picked, ascends_picked, none_picked}
use Rattle.ov_cert.specs.Code.Kept.{NodeSetState}
use Rattle.ov_cert.proofs.PathRules.Ends.{same_test}
use Rattle.ov_cert.proofs.PathRules.Fresh.{adding_new, adding_old, adding_cases}

-- setting the bit of a place adds its node
pub picked_put : (old new nodes : List ℕ) (p : ℕ) → Ascends nodes → p < length nodes
    → ((q : ℕ) → HasBit new q ↔ ((q ≡ p) ⊎ HasBit old q))
    → picked new 0 nodes ≡ adding (get_or nodes p 0) (picked old 0 nodes)
picked_put old new nodes p up l put =
    let id = get_or nodes p 0 in
    let was = ascends_picked old 0 nodes up in
    same_ascending (picked new 0 nodes) (adding id (picked old 0 nodes)) (ascends_picked new 0 nodes up)
    (IsSet-adding id (picked old 0 nodes) was)
    (λ x h.
    let k = has_picked new 0 nodes x h in
    let z : 0 + k.place ≡ k.place = omega arith in
    elim ((put k.place).0 (bit_moved new (0 + k.place) k.place z k.bit)) [
      | inl e ↦ subst (Has (adding id (picked old 0 nodes))) (ap (λ (i : ℕ). get_or nodes i 0) (sym e) ∙ k.node)
          (adding_new id (picked old 0 nodes))
      | inr b ↦ adding_old id (picked old 0 nodes) x (subst (Has (picked old 0 nodes)) k.node
          ((picked_at old nodes k.place up k.below).1 b))
    ])
    (λ x h. elim (adding_cases id (picked old 0 nodes) x h) [
      | inl e ↦ subst (Has (picked new 0 nodes)) (sym e) ((picked_at new nodes p up l).1 ((put p).1 (inl refl)))
      | inr m ↦
          let k = has_picked old 0 nodes x m in
          let z : 0 + k.place ≡ k.place = omega arith in
          subst (Has (picked new 0 nodes)) k.node ((picked_at new nodes k.place up k.below).1
          ((put k.place).1 (inr (bit_moved old (0 + k.place) k.place z k.bit))))
    ])

-- words without bits have no members
pub picked_empty : (words : ℕ) (nodes : List ℕ) → picked (replicate words 0) 0 nodes ≡ []
picked_empty words nodes = none_picked (replicate words 0) 0 nodes (λ q l. no_bits words q)

has_among : (row nodes : List ℕ) (x : ℕ) → Has (picked row 0 nodes) x → Has nodes x
has_among row nodes x h = let k = has_picked row 0 nodes x h in subst (Has nodes) k.node
    (has_place nodes k.place 0 k.below)

adding_above : (x y : ℕ) (xs : List ℕ) → x < y → adding y (x ∷ xs) ≡ x ∷ adding y xs
adding_above x y xs l = rw (le-ltb y x (omega arith), lt-ltb x y l) refl

is_false : (b : Bool) → ¬ (b ≡ true) → b ≡ false
is_false true h = absurd (h refl)
is_false false h = refl

-- an id that is no node is no member
pub stranger_out : (xs : List ℕ) (x : ℕ) → ¬ Has xs x → has xs x ≡ false
stranger_out xs x away = is_false (has xs x) (λ t. away ((has_tested xs x (has xs x) refl).0 t))

pub stranger_unmarked : (row nodes : List ℕ) (x : ℕ) → ¬ Has nodes x → has (picked row 0 nodes) x ≡ false
stranger_unmarked row nodes x away = stranger_out (picked row 0 nodes) x (λ h. away (has_among row nodes x h))

pub node_in : (xs : List ℕ) (p : ℕ) → p < length xs → has xs (get_or xs p 0) ≡ true
node_in xs p l = (has_tested xs (get_or xs p 0) (has xs (get_or xs p 0)) refl).1 (has_place xs p 0 l)

-- an id that is above all of the set is added at its end
pub adding_last : (used : List ℕ) (x : ℕ) → AllByRecursion (λ y. y < x) used → adding x used ≡ used ++ x ∷ []
adding_last [] x a = refl
adding_last (y ∷ used) x a = adding_above y x used a.0 ∙ ap (λ t. y ∷ t) (adding_last used x a.1)

pub not_above : (used : List ℕ) (x : ℕ) → AllByRecursion (λ y. y < x) used → has used x ≡ false
not_above [] x a = refl
not_above (y ∷ used) x a = rw (ne_eqb y x (let l = a.0 in omega (arith, l)), not_above used x a.1) refl

pub all_append : (P : ℕ → Type 0) (xs : List ℕ) (x : ℕ) → AllByRecursion P xs → P x → AllByRecursion P (xs ++ x ∷ [])
all_append P [] x a p = (p, tt)
all_append P (y ∷ xs) x a p = (a.0, all_append P xs x a.1 p)

-- a node and its place
pub record AtPlace (nodes row : List ℕ) (p id : ℕ) : Type 0 where
  pub node : has nodes id ≡ true
  pub member : (b : Bool) → IsTrue b ↔ HasBit row p → b ≡ has (picked row 0 nodes) id
  pub taken : (new : List ℕ) → ((q : ℕ) → HasBit new q ↔ ((q ≡ p) ⊎ HasBit row q))
      → picked new 0 nodes ≡ adding id (picked row 0 nodes)

pub at_place : (g : LinkGraph) (row : List ℕ) (p id : ℕ) → IsGraph g → p < length g.nodes → node_at g p ≡ id
    → AtPlace g.nodes row p id
at_place g row p id graph l e =
    let members = picked row 0 g.nodes in
    let bit : Has members id ↔ HasBit row p = subst (λ (x : ℕ). Has members x ↔ HasBit row p) e
    (picked_at row g.nodes p graph.nodes_ascend l) in
    let is = has_tested members id (has members id) refl in
    record {
      node = subst (λ (x : ℕ). has g.nodes x ≡ true) e (node_in g.nodes p l);
      member = λ b t. same_test b (has members id) t ((λ h. bit.0 (is.0 h)), (λ h. is.1 (bit.1 h)));
      taken = λ new put. subst (λ (x : ℕ). picked new 0 g.nodes ≡ adding x members) e
          (picked_put row new g.nodes p graph.nodes_ascend l put);
    }

pub fresh_not : (a b : Bool) → a ≡ true → b ≡ true → false ≡ (a && not b)
fresh_not a b p q = rw (p, q) refl

pub fresh_yes : (a b : Bool) → a ≡ true → b ≡ false → true ≡ (a && not b)
fresh_yes a b p q = rw (p, q) refl

pub fresh_stranger : (a b : Bool) → a ≡ false → false ≡ (a && not b)
fresh_stranger a b p = rw p refl

pub node_tested : (g : LinkGraph) (x : ℕ) → Has g.nodes x → has g.nodes x ≡ true
node_tested g x h = (has_tested g.nodes x (has g.nodes x) refl).1 h

-- a node is added to a set
taken : (u v : NodeSetState) (x : ℕ) (b : Bool) → has u.graph.nodes x ≡ true → has u.members x ≡ false
    → b ≡ (has u.graph.nodes x && not (has u.members x)) → v ≡ cond b (record u { members = adding x u.members }) u
    → v ≡ record u { members = adding x u.members }
taken u v x b node out f e =
    let t : b ≡ true = f ∙ sym (fresh_yes (has u.graph.nodes x) (has u.members x) node out) in
    e ∙ ap (λ (t : Bool). cond t (record u { members = adding x u.members }) u) t

pub one_entered : (g : LinkGraph) (x : ℕ) (u v : NodeSetState) (b : Bool) → has g.nodes x ≡ true
    → u ≡ record { graph = g; members = [] } → b ≡ (has u.graph.nodes x && not (has u.members x))
    → v ≡ cond b (record u { members = adding x u.members }) u → v ≡ record { graph = g; members = x ∷ [] }
one_entered g x u v b node e f h =
    taken u v x b (ap (λ (w : NodeSetState). has w.graph.nodes x) e ∙ node)
    (ap (λ (w : NodeSetState). has w.members x) e) f h
    ∙ ap (λ (w : NodeSetState). record w { members = adding x w.members }) e

pub two_entered : (g : LinkGraph) (i j : ℕ) (u v w : NodeSetState) (b d : Bool) → has g.nodes i ≡ true
    → has g.nodes j ≡ true → i ≢ j → u ≡ record { graph = g; members = [] } →
    b ≡ (has u.graph.nodes i && not (has u.members i)) → v ≡ cond b (record u { members = adding i u.members }) u →
    d ≡ (has v.graph.nodes j && not (has v.members j)) → w ≡ cond d (record v { members = adding j v.members }) v
    → w ≡ record { graph = g; members = adding j (i ∷ []) }
two_entered g i j u v w b d ni nj ne e f h k l =
    let first = one_entered g i u v b ni e f h in
    let out : has (i ∷ []) j ≡ false = rw (ne_eqb i j ne) refl in
    taken v w j d (ap (λ (t : NodeSetState). has t.graph.nodes j) first ∙ nj)
    (ap (λ (t : NodeSetState). has t.members j) first ∙ out) k l
    ∙ ap (λ (t : NodeSetState). record t { members = adding j t.members }) first
