-- Tables of names, by the places of nodes.
use Rattle.std.proofs.Common.{◌≡◌, ◌≢◌, ◌∙◌, ℕ, zero, suc, ◌<◌, List, [], ◌∷◌, ◌++◌, length, map, get_or, Option}
use Rattle.std.proofs.Common.{Bor, Some, None, IfNone, inl, inr, refl, sym, ap, subst, arith}
use Rattle.std.proofs.Common.{get_or-set_same, get_or-set_other}
use Rattle.std.proofs.Math.ListN.{set}
use Rattle.std.proofs.lemmas.Bool.{cases_eq}
use Rattle.ov_ids.specs.Members.{Has}
use Rattle.ov_ids.proofs.Members.{has_place}
use Rattle.ov_graph.specs.Links.{LinkGraph, IsGraph}
use Rattle.ov_graph.specs.Paths.{node_at}
use Rattle.ov_graph.proofs.BitRows.Read.{one_place}
use Rattle.ov_graphfile.specs.NamesState.{NamesState, IsNamed, names_of}
use Rattle.ov_graphfile.specs.Code.Table.{Keeps}

-- one place more without a name
pub none_more : {X : Type 0} (f : X → Option (List ℕ)) (xs : List X) (x : X) → f x ≡ None
    → ((p : ℕ) → get_or (map f xs) p None ≡ None) → (p : ℕ) → get_or (map f (xs ++ x ∷ [])) p None ≡ None
none_more f [] x e none zero = e
none_more f [] x e none (suc p) = refl
none_more f (y ∷ ys) x e none zero = none 0
none_more f (y ∷ ys) x e none (suc p) = none_more f ys x e (λ q. none (suc q)) p

-- what a list of references has at a place
pub copied_at : {X Y : Type 0} (f : X → Y) (d : Y) (xs : List X) (p : ℕ) (x : X) → p < length xs
    → x ≡ get_or xs p x → get_or (map f xs) p d ≡ f x
copied_at f d [] p x l e = absurd (omega arith)
copied_at f d (y ∷ ys) zero x l e = ap f (sym e)
copied_at f d (y ∷ ys) (suc p) x l e = copied_at f d ys p x (omega arith) e

pub some_one : (a b : List ℕ) → Some a ≡ Some b → a ≡ b
some_one a b e = cc

-- a node gets a name
pub keeps_put : (g : LinkGraph) (n : ℕ) (name : List ℕ) (old : List (Option (List ℕ))) (place : ℕ) → IsGraph g
    → place < length g.nodes → node_at g place ≡ n → length old ≡ length g.nodes
    → Keeps g n name old (set old place (Some name))
keeps_put g n name old place graph below node size =
    let within : place < length old = omega (arith, below, size) in
    let here : get_or (set old place (Some name)) place None ≡ Some name =
    get_or-set_same old place (Some name) None within in
    let there : (p : ℕ) → p ≢ place → get_or (set old place (Some name)) p None ≡ get_or old p None = λ p ne.
    get_or-set_other old place p (Some name) None ne in
    record {
      from = λ m s h. elim (cases_eq h.0 place) [
        | inl e ↦
            let at : get_or (set old place (Some name)) place None ≡ Some s =
            subst (λ (i : ℕ). get_or (set old place (Some name)) i None ≡ Some s) e h.3 in
            inr (sym h.2 ∙ ap (node_at g) e ∙ node, some_one s name (sym at ∙ here))
        | inr ne ↦ inl (h.0, h.1, h.2, sym (there h.0 ne) ∙ h.3)
      ];
      stay = λ m s h. elim (cases_eq h.0 place) [
        | inl e ↦ (name, (place, below, sym (ap (node_at g) e) ∙ h.2, here))
        | inr ne ↦ (s, (h.0, h.1, h.2, there h.0 ne ∙ h.3))
      ];
      gains = λ has. (name, (place, below, node, here));
    }

-- an id that is no node gets none
pub keeps_none : (g : LinkGraph) (n : ℕ) (name : List ℕ) (old : List (Option (List ℕ))) → ¬ Has g.nodes n
    → Keeps g n name old old
keeps_none g n name old none = record {
  from = λ m s h. inl h;
  stay = λ m s h. (s, h);
  gains = λ has. absurd (none has);
}

-- the name at the place of a node is the node's
pub named_at : (g : LinkGraph) (told : List (Option (List ℕ))) (n place : ℕ) (s : List ℕ) → IsGraph g
    → place < length g.nodes → node_at g place ≡ n → IsNamed (names_of g told) n s
    → get_or told place None ≡ Some s
named_at g told n place s graph below node h =
    let e = one_place g.nodes h.0 place graph.nodes_ascend h.1 below (h.2 ∙ sym node) in
    subst (λ (i : ℕ). get_or told i None ≡ Some s) e h.3

-- an id that is no node has no name
pub stranger : (names : NamesState) (n : ℕ) (s : List ℕ) → ¬ Has names.graph.nodes n → ¬ IsNamed names n s
stranger names n s none h = none (subst (Has names.graph.nodes) h.2 (has_place names.graph.nodes h.0 0 h.1))

-- a node whose place has no name has none
pub untold : {X : Type 0} (f : Option X → Option (List ℕ)) (g : LinkGraph) (told : List (Option (List ℕ)))
    (n place : ℕ) (o : Option X) → f None ≡ None → IsGraph g → place < length g.nodes → node_at g place ≡ n
    → get_or told place None ≡ f o → IfNone o ((s : List ℕ) → ¬ IsNamed (names_of g told) n s)
untold f g told n place None e graph below node at =
    λ s h. let is : None ≡ Some s = sym (at ∙ e) ∙ named_at g told n place s graph below node h in absurd (cc)
untold f g told n place (Some x) e graph below node at = tt

-- what a list of borrowed texts has at a place
pub now_read : (xs : List (Bor (List ℕ))) (p : ℕ) (d : Bor (List ℕ)) → p < length xs
    → get_or (map (λ x. x.now) xs) p [] ≡ (get_or xs p d).now
now_read [] p d l = absurd (omega arith)
now_read (x ∷ xs) zero d l = refl
now_read (x ∷ xs) (suc p) d l = now_read xs p d (omega arith)
