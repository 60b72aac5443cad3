-- The first flaw of an entry, given by its parts. There is none exactly if the test of the entry passes.
use Rattle.std.proofs.Common.{◌≡◌, ◌∙◌, ℕ, suc, ◌≤◌, Bool, true, false, ◌&&◌, not, eqb, List, [], ◌∷◌, ◌++◌}
use Rattle.std.proofs.Common.{length, cond, nat_lt, slice_get, slice_index_or, Option, Some, None, is_none, refl, sym}
use Rattle.std.proofs.Common.{ap, ap₂}
use Rattle.std.proofs.Common.{arith}
use Rattle.std.proofs.lemmas.Bool.{ltb-true, ltb-false}
use Rattle.std.proofs.lemmas.Option.{slice_get_read, slice_get_past}
use Rattle.ov_ids.specs.Sets.{has, adding}
use Rattle.ov_graph.specs.Links.{LinkGraph}
use Rattle.ov_graph.specs.Code.Tests.{are_joined}
use Rattle.ov_cert.specs.declared.cert.PairPaths.{PairPaths}
use Rattle.ov_cert.specs.declared.cert.FanPaths.{FanPaths}
use Rattle.ov_cert.specs.declared.path_and_entry_flaws.PathFlaw.{PathFlaw}
use Rattle.ov_cert.specs.declared.path_and_entry_flaws.PathFlaw.TheVariants.{TooShort, EndsAt, NoLink, Taken}
use Rattle.ov_cert.specs.declared.path_and_entry_flaws.EntryFlaw.{EntryFlaw}
use Rattle.ov_cert.specs.declared.path_and_entry_flaws.EntryFlaw.TheVariants.{NamesOthers, Number}
use Rattle.ov_cert.specs.Code.Tests.{chained, fresh, entered, without_last, last_of, inner, steps, is_earlier}
use Rattle.ov_cert.specs.Code.Tests.{is_pair_path, are_pair_paths, is_fan_path, are_fan_paths, is_pair_entry}
use Rattle.ov_cert.specs.Code.Tests.{is_fan_entry}
use Rattle.ov_cert.specs.Code.Flaws.{chain_flaw, first_taken, steps_flaw, flaw_by_ends, pair_path_flaw, fan_path_flaw}
use Rattle.ov_cert.specs.Code.Flaws.{path_or_later, pair_paths_flaw, fan_paths_flaw, pair_entry_flaw, fan_entry_flaw}
use Rattle.ov_cert.proofs.PathRules.Ends.{front_last, last_of_last}

-- a path of one node is too short
pub short_pair : (g : LinkGraph) (used : List ℕ) (i j : ℕ) (path : List ℕ) → length path ≤ 1
    → pair_path_flaw g used i j path ≡ Some TooShort
short_pair g used i j [] l = refl
short_pair g used i j (a ∷ []) l = refl
short_pair g used i j (a ∷ b ∷ rest) l = absurd (omega arith)

pub short_fan : (g : LinkGraph) (q used : List ℕ) (j : ℕ) (path : List ℕ) → length path ≤ 1
    → fan_path_flaw g q used j path ≡ Some TooShort
short_fan g q used j [] l = refl
short_fan g q used j (a ∷ []) l = refl
short_fan g q used j (a ∷ b ∷ rest) l = absurd (omega arith)

-- the flaw of a path, given its ends and its inner nodes
pub pair_by_ends : (g : LinkGraph) (used : List ℕ) (i j a z : ℕ) (inside path : List ℕ)
    → path ≡ a ∷ (inside ++ z ∷ []) → pair_path_flaw g used i j path ≡ flaw_by_ends (eqb a i) (eqb z j) a z
    (steps_flaw (chain_flaw g path) (first_taken g used inside))
pair_by_ends g used i j a z [] path e = rw e refl
pair_by_ends g used i j a z (x ∷ inside) path e = rw (e, last_of_last x inside z, front_last (x ∷ inside) z) refl

-- the flaw of a path of a fan, given its first node and the nodes after it
pub fan_by_ends : (g : LinkGraph) (q used : List ℕ) (j a z : ℕ) (inside rest path : List ℕ) → path ≡ a ∷ rest
    → rest ≡ inside ++ z ∷ [] → fan_path_flaw g q used j path ≡ flaw_by_ends (eqb a j) (is_earlier q j z) a z
    (steps_flaw (chain_flaw g path) (first_taken g used rest))
fan_by_ends g q used j a z [] rest path e f = rw (e, f) refl
fan_by_ends g q used j a z (x ∷ inside) rest path e f = rw (e, f, last_of_last x inside z) refl

none_cond : {X : Type 0} (b : Bool) (o : Option X) (x : X) → is_none (cond b o (Some x)) ≡ (b && is_none o)
none_cond true o x = refl
none_cond false o x = refl

and_assoc : (a b c : Bool) → ((a && b) && c) ≡ (a && (b && c))
and_assoc true b c = refl
and_assoc false b c = refl

-- there is no flaw exactly if the test passes: of the steps, of the ids, of one path, of paths, and of an entry
chain_none : (g : LinkGraph) (path : List ℕ) → is_none (chain_flaw g path) ≡ chained g path
chain_none g [] = refl
chain_none g (a ∷ []) = refl
chain_none g (a ∷ b ∷ rest) =
    let joined = are_joined g.links a b in
    none_cond joined (chain_flaw g (b ∷ rest)) (NoLink a b) ∙ ap (λ t. joined && t) (chain_none g (b ∷ rest))

pub first_none : (g : LinkGraph) (used xs : List ℕ) → is_none (first_taken g used xs) ≡ fresh g used xs
first_none g used [] = refl
first_none g used (x ∷ xs) =
    let node = has g.nodes x in
    let free = not (has used x) in
    none_cond (node && free) (first_taken g (adding x used) xs) x
    ∙ and_assoc node free (is_none (first_taken g (adding x used) xs))
    ∙ ap (λ t. node && (free && t)) (first_none g (adding x used) xs)

steps_none : (chain : Option PathFlaw) (taken : Option ℕ)
    → is_none (steps_flaw chain taken) ≡ (is_none chain && is_none taken)
steps_none None None = refl
steps_none None (Some x) = refl
steps_none (Some f) taken = refl

ends_none : (p q : Bool) (a z : ℕ) (rest : Option PathFlaw) (r : Bool) → is_none rest ≡ r
    → is_none (flaw_by_ends p q a z rest) ≡ (p && (q && r))
ends_none true true a z rest r e = e
ends_none true false a z rest r e = refl
ends_none false q a z rest r e = refl

legs_none : (g : LinkGraph) (used path own : List ℕ)
    → is_none (steps_flaw (chain_flaw g path) (first_taken g used own)) ≡ (chained g path && fresh g used own)
legs_none g used path own = steps_none (chain_flaw g path) (first_taken g used own)
    ∙ ap₂ (λ s t. s && t) (chain_none g path) (first_none g used own)

pub pair_path_none : (g : LinkGraph) (used : List ℕ) (i j : ℕ) (p : List ℕ)
    → is_none (pair_path_flaw g used i j p) ≡ is_pair_path g used i j p
pair_path_none g used i j [] = refl
pair_path_none g used i j (a ∷ []) = refl
pair_path_none g used i j (a ∷ b ∷ rest) = ends_none (eqb a i) (eqb (last_of b rest) j) a (last_of b rest) _ _
    (legs_none g used (a ∷ b ∷ rest) (without_last (b ∷ rest)))

pub fan_path_none : (g : LinkGraph) (q used : List ℕ) (j : ℕ) (p : List ℕ)
    → is_none (fan_path_flaw g q used j p) ≡ is_fan_path g q used j p
fan_path_none g q used j [] = refl
fan_path_none g q used j (a ∷ []) = refl
fan_path_none g q used j (a ∷ b ∷ rest) = ends_none (eqb a j) (is_earlier q j (last_of b rest)) a (last_of b rest) _ _
    (legs_none g used (a ∷ b ∷ rest) (b ∷ rest))

later_none : (at : ℕ) (o : Option PathFlaw) (later : Option EntryFlaw) (p q : Bool) → is_none o ≡ p
    → is_none later ≡ q → is_none (path_or_later at o later) ≡ (p && q)
later_none at None later p q e f = rw (← e) f
later_none at (Some flaw) later p q e f = rw (← e) refl

pair_paths_none : (g : LinkGraph) (used : List ℕ) (i j at : ℕ) (ps : List (List ℕ))
    → is_none (pair_paths_flaw g used i j at ps) ≡ are_pair_paths g used i j ps
pair_paths_none g used i j at [] = refl
pair_paths_none g used i j at (p ∷ ps) = later_none at (pair_path_flaw g used i j p) _ _ _
    (pair_path_none g used i j p) (pair_paths_none g (entered used (inner p)) i j (suc at) ps)

fan_paths_none : (g : LinkGraph) (q used : List ℕ) (j at : ℕ) (ps : List (List ℕ))
    → is_none (fan_paths_flaw g q used j at ps) ≡ are_fan_paths g q used j ps
fan_paths_none g q used j at [] = refl
fan_paths_none g q used j at (p ∷ ps) = later_none at (fan_path_flaw g q used j p) _ _ _
    (fan_path_none g q used j p) (fan_paths_none g q (entered used (steps p)) j (suc at) ps)

pub pair_entry_none : (g : LinkGraph) (k : ℕ) (p : ℕ × ℕ) (o : Option PairPaths)
    → is_none (pair_entry_flaw g k p o) ≡ is_pair_entry g k p o
pair_entry_none g k p None = refl
pair_entry_none g k p (Some e) =
    let used = adding p.1 (p.0 ∷ []) in
    none_cond (eqb e.i p.0) _ NamesOthers ∙ ap (λ t. eqb e.i p.0 && t)
    (none_cond (eqb e.j p.1) _ NamesOthers ∙ ap (λ t. eqb e.j p.1 && t)
    (none_cond (eqb (length e.paths) k) _ Number ∙ ap (λ t. eqb (length e.paths) k && t)
    (pair_paths_none g used p.0 p.1 0 e.paths)))

pub fan_entry_none : (g : LinkGraph) (q : List ℕ) (k j : ℕ) (o : Option FanPaths)
    → is_none (fan_entry_flaw g q k j o) ≡ is_fan_entry g q k j o
fan_entry_none g q k j None = refl
fan_entry_none g q k j (Some e) =
    none_cond (eqb e.j j) _ NamesOthers ∙ ap (λ t. eqb e.j j && t)
    (none_cond (eqb (length e.paths) k) _ Number ∙ ap (λ t. eqb (length e.paths) k && t)
    (fan_paths_none g q (j ∷ []) j 0 e.paths))

-- a flaw of the end, of the steps, of an id, and no flaw, each put together to what is wrong with the path
pub wrong_end : (p q : Bool) (a z : ℕ) (rest : Option PathFlaw) → p ≡ true → q ≡ false
    → Some (EndsAt z) ≡ flaw_by_ends p q a z rest
wrong_end p q a z rest hp hq = rw (hp, hq) refl

pub after_ends : (p q : Bool) (a z : ℕ) (rest o : Option PathFlaw) → p ≡ true → q ≡ true → o ≡ rest
    → o ≡ flaw_by_ends p q a z rest
after_ends p q a z rest o hp hq e = rw (hp, hq) e

pub wrong_step : (chain : Option PathFlaw) (taken : Option ℕ) (f : PathFlaw) → Some f ≡ chain
    → Some f ≡ steps_flaw chain taken
wrong_step chain taken f e = rw (← e) refl

pub wrong_id : (chain : Option PathFlaw) (taken : Option ℕ) (x : ℕ) → None ≡ chain → Some x ≡ taken
    → Some (Taken x) ≡ steps_flaw chain taken
wrong_id chain taken x e f = rw (← e, ← f) refl

pub no_flaw : (chain : Option PathFlaw) (taken : Option ℕ) → None ≡ chain → None ≡ taken
    → None ≡ steps_flaw chain taken
no_flaw chain taken e f = rw (← e, ← f) refl

-- the entry at a place of a list, and none past its end
pub entry_there : {X : Type 0} (xs : List X) (place : ℕ) (x : X) → true ≡ nat_lt place (length xs)
    → x ≡ slice_index_or xs place x → slice_get xs place ≡ Some x
entry_there xs place x l is = slice_get_read xs (length xs) place x refl (ltb-true place (length xs) (sym l)) is

pub entry_missing : {X : Type 0} (xs : List X) (place : ℕ) → false ≡ nat_lt place (length xs)
    → slice_get xs place ≡ None
entry_missing xs place l = slice_get_past xs place (ltb-false place (length xs) (sym l))
