-- What is left of ids, of links and of a graph.
use Rattle.std.proofs.Common.{◌≡◌, ◌∙◌, ◌↔◌, ℕ, ◌<◌, ◌≤◌, List, [], ◌∷◌, length, get_or, Bool, true, false, not, ◌&&◌}
use Rattle.std.proofs.Common.{cond, filter, IsTrue, Result, Ok, Err, is_ok, MatchResult, inl, inr, refl, sym, ap, subst}
use Rattle.std.proofs.Common.{arith}
use Rattle.std.proofs.lemmas.Bool.{and_parts, cases_order}
use Rattle.std.proofs.lemmas.List.Elements.{filter_agree}
use Rattle.std.proofs.lemmas.List.{get_or_default}
use Rattle.std.specs.List.{Contains}
use Rattle.ov_ids.specs.Members.{Has}
use Rattle.ov_ids.specs.Sets.{has, without, without_all}
use Rattle.ov_ids.proofs.Members.{has_place, has_tested, place_of}
use Rattle.ov_graph.specs.Links.{LinkGraph, IsGraph}
use Rattle.ov_answers.specs.Code.Left.{ids_left, is_left, links_left}
use Rattle.ov_answers.specs.Fewer.{LosesNodes}

-- ---- tests

not_true : (b : Bool) → ¬ IsTrue b → b ≡ false
not_true true n = absurd (n refl)
not_true false n = refl

-- what binary search finds in ids that are in order
pub among_tested : (ids : List ℕ) (x : ℕ) (r : Result ℕ ℕ)
    → MatchResult r (λ i. (i < length ids) × (get_or ids i 0 ≡ x))
    (λ i. (i ≤ length ids) × ((k : ℕ) → k < i → get_or ids k 0 < x)
    × ((k : ℕ) → i ≤ k → k < length ids → x < get_or ids k 0))
    → is_ok r ≡ has ids x
among_tested ids x (Ok i) m =
    sym ((has_tested ids x (has ids x) refl).1 (subst (Has ids) m.1 (has_place ids i 0 m.0)))
among_tested ids x (Err i) m = sym (not_true (has ids x) (λ t. absent ((has_tested ids x (has ids x) refl).0 t)))
  where
    absent : ¬ Has ids x
    absent h =
        let at = place_of ids x h in
        let is = at.2 in
        elim (cases_order at.0 i) [
          | inl e ↦ let more = m.2 at.0 (omega (arith, e)) at.1 in omega (arith, is, more)
          | inr (inl l) ↦ let less = m.1 at.0 l in omega (arith, is, less)
          | inr (inr l) ↦ let more = m.2 at.0 (omega (arith, l)) at.1 in omega (arith, is, more)
        ]

same_test : (a b : Bool) → (IsTrue a → IsTrue b) → (IsTrue b → IsTrue a) → a ≡ b
same_test true true f g = refl
same_test true false f g = sym (f refl)
same_test false true f g = g refl
same_test false false f g = refl

-- an element is a member
pub contains_has : (xs : List ℕ) (x : ℕ) → Contains xs x → Has xs x
contains_has xs x at = subst (Has xs) at.2 (has_place xs at.0 x at.1)

pub has_contains : (xs : List ℕ) (x : ℕ) → Has xs x → Contains xs x
has_contains xs x h = let at = place_of xs x h in (at.0, at.1, get_or_default xs at.0 x 0 at.1 ∙ at.2)

-- lists with the same members
has_same : (s t : List ℕ) → ((x : ℕ) → Has s x ↔ Has t x) → (x : ℕ) → has s x ≡ has t x
has_same s t same x =
    let a = has_tested s x (has s x) refl in
    let b = has_tested t x (has t x) refl in
    same_test (has s x) (has t x) (λ h. b.1 ((same x).0 (a.0 h))) (λ h. a.1 ((same x).1 (b.0 h)))

-- ---- lists that are left

all_pass : (xs : List ℕ) → filter (λ x. true) xs ≡ xs
all_pass [] = refl
all_pass (x ∷ xs) = ap (λ ys. x ∷ ys) (all_pass xs)

-- one id is taken out, and then the others
one_and_others : (y : ℕ) (s xs : List ℕ) → ids_left s (without y xs) ≡ ids_left (y ∷ s) xs
one_and_others y s [] = refl
one_and_others y s (x ∷ xs) = grind (arith, one_and_others y s xs)

-- ids that are left are those without all that are gone
pub left_without : (s xs : List ℕ) → ids_left s xs ≡ without_all s xs
left_without [] xs = all_pass xs
left_without (y ∷ s) xs = sym (one_and_others y s xs) ∙ left_without s (without y xs)

-- what is left depends on the members of the list alone
pub same_left : (s t xs : List ℕ) → ((x : ℕ) → Has s x ↔ Has t x) → ids_left s xs ≡ without_all t xs
same_left s t xs same =
    filter_agree (λ x. not (has s x)) (λ x. not (has t x)) (λ x. ap not (has_same s t same x)) xs ∙ left_without t xs

-- ---- the graph

passed : {X : Type 0} (p : X → Bool) (xs : List X) (x : X) → Has xs x → p x ≡ true → Has (filter p xs) x
passed p [] x h e = h
passed p (y ∷ ys) x h e =
    elim (p y) as (λ b. p y ≡ b → Has (cond b (y ∷ filter p ys) (filter p ys)) x) [
      | true ↦ λ t. elim h [ inl s ↦ inl s | inr k ↦ inr (passed p ys x k e) ]
      | false ↦ λ f. elim h [
        | inl s ↦ let z : true ≡ false = sym e ∙ ap p (sym s) ∙ f in cc
        | inr k ↦ passed p ys x k e
      ]
    ] refl

was_there : {X : Type 0} (p : X → Bool) (xs : List X) (x : X) → Has (filter p xs) x → Has xs x × (p x ≡ true)
was_there p [] x h = absurd h
was_there {X} p (y ∷ ys) x h =
    elim (p y) as (λ b. p y ≡ b → Has (cond b (y ∷ filter p ys) (filter p ys)) x → Has (y ∷ ys) x × (p x ≡ true)) [
      | true ↦ λ t k. elim k [
        | inl s ↦ (inl s, subst (λ (z : X). p z ≡ true) s t)
        | inr m ↦ let r = was_there p ys x m in (inr r.0, r.1)
      ]
      | false ↦ λ t k. let r = was_there p ys x k in (inr r.0, r.1)
    ] refl h

-- a link is left exactly if neither end is gone
left_tested : (s : List ℕ) (l : ℕ × ℕ) → (is_left s l ≡ true) ↔ (¬ Has s l.0 × ¬ Has s l.1)
left_tested s l = (
  (λ t. let r = and_parts (not (has s l.0)) (not (has s l.1)) t in (out l.0 r.0, out l.1 r.1)),
  (λ o. both (has s l.0) (has s l.1) (within l.0 o.0) (within l.1 o.1)),
) where
  out : (x : ℕ) → not (has s x) ≡ true → ¬ Has s x
  out x n h = let t = (has_tested s x (has s x) refl).1 h in let z : not true ≡ true = ap not (sym t) ∙ n in cc

  within : (x : ℕ) → ¬ Has s x → has s x ≡ false
  within x n = not_true (has s x) (λ t. n ((has_tested s x (has s x) refl).0 t))

  both : (a b : Bool) → a ≡ false → b ≡ false → (not a && not b) ≡ true
  both a b e f = rw (e, f) refl

-- the graph of the nodes and the links that are left
pub loses : (g h : LinkGraph) (gone ordered nodes : List ℕ) (links : List (ℕ × ℕ))
    → ((x : ℕ) → Has ordered x ↔ Has gone x) → nodes ≡ ids_left ordered g.nodes → links ≡ links_left ordered g.links
    → h ≡ record { nodes = nodes; links = links } → IsGraph h → LosesNodes g gone h
loses g h gone ordered nodes links same nodes_are links_are made graph = record {
  graph = graph;
  nodes = ap (λ (k : LinkGraph). k.nodes) made ∙ nodes_are ∙ same_left ordered gone g.nodes same;
  links = λ l. (
    (λ has.
        let r = was_there (λ m. is_left ordered m) g.links l (subst (λ (ls : List (ℕ × ℕ)). Has ls l) all has) in
        let n = (left_tested ordered l).0 r.1 in
        (r.0, (λ i. n.0 ((same l.0).1 i)), (λ i. n.1 ((same l.1).1 i)))),
    (λ r. subst (λ (ls : List (ℕ × ℕ)). Has ls l) (sym all) (passed (λ m. is_left ordered m) g.links l r.0
        ((left_tested ordered l).1 ((λ i. r.1 ((same l.0).0 i)), (λ i. r.2 ((same l.1).0 i)))))),
  );
} where
  all : h.links ≡ links_left ordered g.links
  all = ap (λ (k : LinkGraph). k.links) made ∙ links_are
