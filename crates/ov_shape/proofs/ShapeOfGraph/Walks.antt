-- Walks of a number of links, and what they join.
use Rattle.std.proofs.Common.{◌≡◌, ℕ, zero, suc, List, [], ◌∷◌, ◌++◌, length, length-append, refl, ap}
use Rattle.std.proofs.Common.{subst, arith}
use Rattle.ov_ids.specs.Members.{Has}
use Rattle.ov_graph.specs.Links.{LinkGraph, IsGraph, Linked}
use Rattle.ov_graph.specs.Joined.{Leads, IsWalk, Survives, Joined}
use Rattle.ov_graph.proofs.EvenTest.Filtered.{linked_node}
use Rattle.ov_graph.proofs.EvenTest.Walks.{leads_push, linked_sym, joined_self, joined_step, joined_trans, joined_end}
use Rattle.ov_shape.specs.Distances.{WalksBy, IsDistance}

-- a walk without its last link
pub record IsLonger (g : LinkGraph) (m a b : ℕ) : Type 0 where
  pub before : ℕ
  pub walk : WalksBy g m a before
  pub link : Linked g before b

leads_last : (g : LinkGraph) (a b x : ℕ) (xs : List ℕ) → Leads (Linked g) a (x ∷ xs) b
    → (c : ℕ) × (ys : List ℕ) × Leads (Linked g) a ys c × (length ys ≡ length xs) × Linked g c b
leads_last g a b x [] w = (a, [], refl, refl, subst (λ (z : ℕ). Linked g a z) w.1 w.0)
leads_last g a b x (y ∷ ys) w =
    let r = leads_last g x b y ys w.1 in (r.0, x ∷ r.1, (w.0, r.2), ap suc r.3, r.4)

without_last : (g : LinkGraph) (m a b : ℕ) (walk : List ℕ) → IsWalk g a walk b → length walk ≡ suc (suc m)
    → IsLonger g m a b
without_last g m a b [] w e = absurd w
without_last g m a b (x ∷ []) w e = absurd (omega (arith, e))
without_last g m a b (x ∷ y ∷ ys) w e =
    let r = leads_last g a b y ys w.1 in
    let s = r.3 in
    let long : suc (length r.1) ≡ suc m = omega (arith, s, e) in
    record { before = r.0; walk = (x ∷ r.1, (w.0, r.2), long); link = r.4 }

pub walk_last : (g : LinkGraph) (m a b : ℕ) → WalksBy g (suc m) a b → IsLonger g m a b
walk_last g m a b w = without_last g m a b w.0 w.1 w.2

with_last : (g : LinkGraph) (m a b c : ℕ) (walk : List ℕ) → IsWalk g a walk b → length walk ≡ suc m → Linked g b c
    → WalksBy g (suc m) a c
with_last g m a b c [] w e l = absurd w
with_last g m a b c (x ∷ xs) w e l =
    let n = length-append xs (c ∷ []) in
    let long : suc (length (xs ++ c ∷ [])) ≡ suc (suc m) = omega (arith, n, e) in
    (x ∷ (xs ++ c ∷ []), (w.0, leads_push (Linked g) a b c xs w.1 l), long)

pub walk_more : (g : LinkGraph) (m a b c : ℕ) → WalksBy g m a b → Linked g b c → WalksBy g (suc m) a c
walk_more g m a b c w l = with_last g m a b c w.0 w.1 w.2 l

-- a walk without links stays
pub walk_none : (g : LinkGraph) (a : ℕ) → WalksBy g 0 a a
walk_none g a = (a ∷ [], (refl, refl), refl)

stays : (g : LinkGraph) (a b : ℕ) (walk : List ℕ) → IsWalk g a walk b → length walk ≡ 1 → a ≡ b
stays g a b [] w e = absurd w
stays g a b (x ∷ []) w e = w.1
stays g a b (x ∷ y ∷ ys) w e = absurd (omega (arith, e))

pub walk_stays : (g : LinkGraph) (a b : ℕ) → WalksBy g 0 a b → a ≡ b
walk_stays g a b w = stays g a b w.0 w.1 w.2

pub distance_self : (g : LinkGraph) (a : ℕ) → IsDistance g a a 0
distance_self g a = record { walk = walk_none g a; least = λ m w. omega arith }

-- what is joined has a walk of some links, and what has one is joined
counted : (g : LinkGraph) (a b : ℕ) (walk : List ℕ) → IsWalk g a walk b → (m : ℕ) × WalksBy g m a b
counted g a b [] w = absurd w
counted g a b (x ∷ xs) w = (length xs, (x ∷ xs, w, refl))

pub walk_of : (g : LinkGraph) (a b : ℕ) → Joined g [] a b → (m : ℕ) × WalksBy g m a b
walk_of g a b j = counted g a b j.0 j.1

survives : (g : LinkGraph) (a : ℕ) → Has g.nodes a → Survives g.nodes [] a
survives g a h = (h, λ n. n)

pub joined_node : (g : LinkGraph) (a : ℕ) → Has g.nodes a → Joined g [] a a
joined_node g a h = joined_self g [] a (survives g a h)

pub joined_by : (g : LinkGraph) (m a b : ℕ) → IsGraph g → Has g.nodes a → WalksBy g m a b → Joined g [] a b
joined_by g zero a b graph h w =
    subst (λ (z : ℕ). Joined g [] a z) (walk_stays g a b w) (joined_node g a h)
joined_by g (suc m) a b graph h w =
    let r = walk_last g m a b w in
    let j = joined_by g m a r.before graph h r.walk in
    joined_trans g [] a r.before b j
    (joined_step g [] r.before b b r.link (joined_end g [] a r.before j)
    (joined_node g b (linked_node g r.before b graph r.link)))

-- the node before the last link of a walk is a node
pub before_node : (g : LinkGraph) (b c : ℕ) → IsGraph g → Linked g b c → Has g.nodes b
before_node g b c graph l = linked_node g c b graph (linked_sym g b c l)

pub joined_is_node : (g : LinkGraph) (a b : ℕ) → Joined g [] a b → Has g.nodes b
joined_is_node g a b j = (joined_end g [] a b j).0
