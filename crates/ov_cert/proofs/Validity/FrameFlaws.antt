-- What is wrong with the frame: the flaw that is found is one of the fault that is found, and one that the certificate
-- has.
use Rattle.std.proofs.Common.{◌≡◌, ◌≢◌, ◌∙◌, ◌↔◌, ◌⊎◌, ℕ, suc, ◌+◌, inl, inr, Bool, true, false, ◌&&◌, ◌||◌}
use Rattle.std.proofs.Common.{not, cond, eqb, List, [], ◌∷◌, length, slice_get, Option, Some, None, is_none, option_map}
use Rattle.std.proofs.Common.{IsNone, IfSome, refl, sym, ap, ap₂, subst, arith}
use Rattle.std.proofs.lemmas.Bool.{both_ways, eqb-true, eq-eqb, or_left, or_right}
use Rattle.std.proofs.lemmas.Option.{same_Some, none-some}
use Rattle.std.specs.List.{list_all}
use Rattle.ov_ids.specs.Members.{Has, Ascends}
use Rattle.ov_ids.specs.Sets.{has}
use Rattle.ov_ids.proofs.Members.{has_tested}
use Rattle.ov_graph.specs.Links.{LinkGraph, IsGraph}
use Rattle.ov_graph.specs.Joined.{IsNodeSet}
use Rattle.ov_graph.specs.Code.Tests.{neighbours_in}
use Rattle.ov_graph.proofs.EvenTest.Filtered.{are_neighbours}
use Rattle.ov_cert.specs.declared.cert.Cert.{Cert}
use Rattle.ov_cert.specs.declared.cert.Cert.TheVariants as cert
use Rattle.ov_cert.specs.declared.cert.Split.{Split}
use Rattle.ov_cert.specs.declared.fault.CheckFault.{CheckFault}
use Rattle.ov_cert.specs.declared.fault.CheckFault.TheVariants as fault
use Rattle.ov_cert.specs.declared.flaw_types_apart_from_paths.EndFlaw.{EndFlaw}
use Rattle.ov_cert.specs.declared.flaw_types_apart_from_paths.EndFlaw.TheVariants as end
use Rattle.ov_cert.specs.declared.flaw_types_apart_from_paths.SideFlaw.{SideFlaw}
use Rattle.ov_cert.specs.declared.flaw_types_apart_from_paths.SideFlaw.TheVariants.{Near, Far, NoSet, InCut, NearOff}
use Rattle.ov_cert.specs.declared.flaw_types_apart_from_paths.SideFlaw.TheVariants.{FarOn, WayOut}
use Rattle.ov_cert.specs.declared.flaw_types_apart_from_paths.FrameFlaw.{FrameFlaw}
use Rattle.ov_cert.specs.declared.flaw_types_apart_from_paths.FrameFlaw.TheVariants.{NoNodes, NoMember, Group, Count}
use Rattle.ov_cert.specs.declared.flaw_types_apart_from_paths.FrameFlaw.TheVariants.{Cut, Side}
use Rattle.ov_cert.specs.Verdict.{PassesFrame, IsFrameFault}
use Rattle.ov_cert.specs.FrameFlaws.{flaw_fault, HasEndFlaw, HasSideFlaw, HasFrameFlaw}
use Rattle.ov_cert.specs.Code.Tests.{survives, ends_within, is_cut_off, is_node_set, all_linked, pairs_after}
use Rattle.ov_cert.specs.Code.Tests.{first, body_fault, frame_fault}
use Rattle.ov_cert.specs.Code.FrameFlaws.{set_flaw, end_flaw, in_cut_flaw, way_out_of, way_out, parting_flaw, side_flaw}
use Rattle.ov_cert.specs.Code.FrameFlaws.{unlinked, body_flaw, frame_flaw}
use Rattle.ov_cert.proofs.EntryOrder.Finding.{has_found}
use Rattle.ov_cert.proofs.EntryOrder.Columns.{after_sound}
use Rattle.ov_cert.proofs.Validity.Parting.{node_set_tested}
use Rattle.ov_cert.proofs.Validity.SetFlaws.{first_cases, set_tested, set_rule}
use Rattle.ov_cert.proofs.Validity.Verdicts.{FrameSays, frame_judged, frame_found}

-- THE TESTS: there is no flaw exactly if the test passes

both : (a b c d : Bool) → a ≡ c → b ≡ d → (a && b) ≡ (c && d)
both a b c d e f = ap₂ (λ (x y : Bool). x && y) e f

first_none : {X : Type 0} (o later : Option X) → is_none (first o later) ≡ (is_none o && is_none later)
first_none (Some x) later = refl
first_none None later = refl

map_none : {X Y : Type 0} (f : X → Y) (o : Option X) → is_none (option_map f o) ≡ is_none o
map_none f (Some x) = refl
map_none f None = refl

end_none : (q cut : List ℕ) (x : ℕ) → is_none (end_flaw q cut x) ≡ survives q cut x
end_none q cut x = cases (has q x) (has cut x)
  where
    cases : (a b : Bool) → is_none (cond a (cond b (Some end.InCut) None) (Some end.NoMember)) ≡ (a && not b)
    cases true true = refl
    cases true false = refl
    cases false b = refl

in_cut_none : (cut : List ℕ) (at : ℕ) (xs : List ℕ)
    → is_none (in_cut_flaw cut at xs) ≡ list_all (λ a. not (has cut a)) xs
in_cut_none cut at [] = refl
in_cut_none cut at (x ∷ xs) =
    elim (has cut x) as (λ t. is_none (cond t (Some (InCut at x)) (in_cut_flaw cut (suc at) xs)) ≡
    (not t && list_all (λ a. not (has cut a)) xs)) [ true ↦ refl | false ↦ in_cut_none cut (suc at) xs ]

way_out_of_none : (side cut : List ℕ) (a : ℕ) (bs : List ℕ)
    → is_none (way_out_of side cut a bs) ≡ list_all (λ b. has side b || has cut b) bs
way_out_of_none side cut a [] = refl
way_out_of_none side cut a (b ∷ bs) =
    elim (has side b || has cut b) as (λ t. is_none (cond t (way_out_of side cut a bs) (Some (WayOut a b))) ≡
    (t && list_all (λ b. has side b || has cut b) bs)) [ true ↦ way_out_of_none side cut a bs | false ↦ refl ]

way_out_none : (g : LinkGraph) (side cut xs : List ℕ)
    → is_none (way_out g side cut xs) ≡ list_all (λ a. ends_within g side cut a) xs
way_out_none g side cut [] = refl
way_out_none g side cut (a ∷ xs) =
    first_none (way_out_of side cut a (neighbours_in g.links a g.nodes)) (way_out g side cut xs)
    ∙ both _ _ _ _ (way_out_of_none side cut a (neighbours_in g.links a g.nodes)) (way_out_none g side cut xs)

parting_none : (g : LinkGraph) (c : Split) → is_none (parting_flaw g c) ≡ (has c.side c.near &&
    (not (has c.side c.far) && list_all (λ a. ends_within g c.side c.cut a) c.side))
parting_none g c = cases (has c.side c.near) (has c.side c.far) (way_out g c.side c.cut c.side) _
    (way_out_none g c.side c.cut c.side)
  where
    cases : (a b : Bool) (o : Option SideFlaw) (t : Bool) → is_none o ≡ t
        → is_none (cond a (cond b (Some FarOn) o) (Some NearOff)) ≡ (a && (not b && t))
    cases true true o t e = refl
    cases true false o t e = e
    cases false b o t e = refl

pub side_tested : (g : LinkGraph) (q : List ℕ) (c : Split) → is_none (side_flaw g q c) ≡ is_cut_off g q c
side_tested g q c =
    let near = end_flaw q c.cut c.near in
    let far = end_flaw q c.cut c.far in
    let parting = parting_flaw g c in
    let outside = first (in_cut_flaw c.cut 0 c.side) parting in
    let set = first (option_map NoSet (set_flaw g c.side)) outside in
    let later = first (option_map Far far) set in
    first_none (option_map Near near) later
    ∙ both _ _ _ _ (map_none Near near ∙ end_none q c.cut c.near) (first_none (option_map Far far) set
    ∙ both _ _ _ _ (map_none Far far ∙ end_none q c.cut c.far)
    (first_none (option_map NoSet (set_flaw g c.side)) outside
    ∙ both _ _ _ _ (map_none NoSet (set_flaw g c.side) ∙ set_tested g c.side)
    (first_none (in_cut_flaw c.cut 0 c.side) parting
    ∙ both _ _ _ _ (in_cut_none c.cut 0 c.side) (parting_none g c))))

-- THE FAULT of the flaw is the fault that is found by the tests

map_cond : (b : Bool) (x y : Option FrameFlaw)
    → option_map flaw_fault (cond b x y) ≡ cond b (option_map flaw_fault x) (option_map flaw_fault y)
map_cond true x y = refl
map_cond false x y = refl

-- flaws that all have one fault, found before others
found_first : {X : Type 0} (wrap : X → FrameFlaw) (f : CheckFault) (o : Option X) (b : Bool) (later : Option FrameFlaw)
    (x : Option CheckFault) → ((y : X) → flaw_fault (wrap y) ≡ f) → is_none o ≡ b → option_map flaw_fault later ≡ x
    → option_map flaw_fault (first (option_map wrap o) later) ≡ cond b x (Some f)
found_first wrap f (Some y) b later x one e l = rw (← e) (ap Some (one y))
found_first wrap f None b later x one e l = rw (← e) l

found_last : {X : Type 0} (wrap : X → FrameFlaw) (f : CheckFault) (o : Option X) (b : Bool)
    → ((y : X) → flaw_fault (wrap y) ≡ f) → is_none o ≡ b
    → option_map flaw_fault (option_map wrap o) ≡ cond b None (Some f)
found_last wrap f (Some y) b one e = rw (← e) (ap Some (one y))
found_last wrap f None b one e = rw (← e) refl

body_fault_of : (g : LinkGraph) (q : List ℕ) (c : Cert) → option_map flaw_fault (body_flaw g q c) ≡ body_fault g q c
body_fault_of g q (cert.Linked k) =
    let pair = slice_get (pairs_after g [] q) 0 in
    map_cond (eqb (length q) (k + 1)) (option_map unlinked pair) (Some (Count (length q)))
    ∙ ap (λ o. cond (eqb (length q) (k + 1)) o (Some fault.Count))
    (found_last unlinked fault.NotLinked pair (all_linked g q) (λ p. refl) refl)
body_fault_of g q (cert.Split c) =
    let side = side_flaw g q c in
    let counted = eqb (length c.cut) c.k in
    map_cond counted (first (option_map Cut (set_flaw g c.cut)) (option_map Side side)) (Some (Count (length c.cut)))
    ∙ ap (λ o. cond counted o (Some fault.Count))
    (found_first Cut fault.Cut (set_flaw g c.cut) (is_node_set g c.cut) (option_map Side side) _ (λ f. refl)
    (set_tested g c.cut) (found_last Side fault.Side side (is_cut_off g q c) (λ f. refl) (side_tested g q c)))

pub fault_of_flaw : (g : LinkGraph) (q : List ℕ) (c : Cert)
    → option_map flaw_fault (frame_flaw g q c) ≡ frame_fault g q c
fault_of_flaw g q c =
    let body = body_flaw g q c in
    let set = first (option_map Group (set_flaw g q)) body in
    let nobody = eqb (length q) 0 in
    map_cond (eqb (length g.nodes) 0) (Some NoNodes) (cond nobody (Some NoMember) set)
    ∙ ap (cond (eqb (length g.nodes) 0) (Some fault.NoNodes))
    (elim nobody as (λ b. option_map flaw_fault (cond b (Some NoMember) set) ≡ cond (not b && is_node_set g q)
    (body_fault g q c) (Some fault.BadGroup)) [
      | true ↦ refl
      | false ↦ found_first Group fault.BadGroup (set_flaw g q) (is_node_set g q) body (body_fault g q c) (λ f. refl)
          (set_tested g q) (body_fault_of g q c)
    ])

-- THE RULES: the flaw that is found is one that the certificate has

map_cases : {X Y : Type 0} (f : X → Y) (o : Option X) (y : Y) → option_map f o ≡ Some y
    → (x : X) × (o ≡ Some x) × (f x ≡ y)
map_cases f (Some x) y e = (x, refl, same_Some (f x) y e)
map_cases f None y e = absurd (none-some y e)

cond_cases : {X : Type 0} (b : Bool) (x y z : X) → cond b x y ≡ z → ((b ≡ true) × (x ≡ z)) ⊎ ((b ≡ false) × (y ≡ z))
cond_cases true x y z e = inl (refl, e)
cond_cases false x y z e = inr (refl, e)

member : (xs : List ℕ) (x : ℕ) → has xs x ≡ true → Has xs x
member xs x t = (has_tested xs x (has xs x) refl).0 t

stranger : (xs : List ℕ) (x : ℕ) → has xs x ≡ false → ¬ Has xs x
stranger xs x off h = both_ways (has xs x) off ((has_tested xs x (has xs x) refl).1 h)

end_rule : (q cut : List ℕ) (x : ℕ) (f : EndFlaw) → end_flaw q cut x ≡ Some f → HasEndFlaw q cut x f
end_rule q cut x f e =
    elim (cond_cases (has q x) (cond (has cut x) (Some end.InCut) None) (Some end.NoMember) (Some f) e) [
      | inl h ↦ elim (cond_cases (has cut x) (Some end.InCut) None (Some f) h.1) [
        | inl k ↦ subst (HasEndFlaw q cut x) (same_Some end.InCut f k.1) (member cut x k.0)
        | inr k ↦ absurd (none-some f k.1)
      ]
      | inr h ↦ subst (HasEndFlaw q cut x) (same_Some end.NoMember f h.1) (stranger q x h.0)
    ]

-- an id of a list, counted from a place on, that is in the cut
record InCutAt (cut : List ℕ) (at : ℕ) (xs : List ℕ) (f : SideFlaw) : Type 0 where
  pub place : ℕ
  pub id : ℕ
  pub is : InCut (at + place) id ≡ f
  pub there : slice_get xs place ≡ Some id
  pub lost : Has cut id

in_cut_rule : (cut : List ℕ) (at : ℕ) (xs : List ℕ) (f : SideFlaw) → in_cut_flaw cut at xs ≡ Some f
    → InCutAt cut at xs f
in_cut_rule cut at [] f e = absurd (none-some f e)
in_cut_rule cut at (x ∷ xs) f e =
    elim (cond_cases (has cut x) (Some (InCut at x)) (in_cut_flaw cut (suc at) xs) (Some f) e) [
      | inl h ↦ let z : at + 0 ≡ at = omega arith in record {
        place = 0;
        id = x;
        is = ap (λ (n : ℕ). InCut n x) z ∙ same_Some (InCut at x) f h.1;
        there = refl;
        lost = member cut x h.0;
      }
      | inr h ↦
          let r = in_cut_rule cut (suc at) xs f h.1 in
          let z : at + suc r.place ≡ suc at + r.place = omega arith in
          record {
            place = suc r.place;
            id = r.id;
            is = ap (λ (n : ℕ). InCut n r.id) z ∙ r.is;
            there = r.there;
            lost = r.lost;
          }
    ]

-- a node that is neither on the side nor in the cut
record IsOut (side cut : List ℕ) (a : ℕ) (bs : List ℕ) (f : SideFlaw) : Type 0 where
  pub to : ℕ
  pub is : WayOut a to ≡ f
  pub there : Has bs to
  pub off : ¬ Has side to
  pub kept : ¬ Has cut to

way_out_of_rule : (side cut : List ℕ) (a : ℕ) (bs : List ℕ) (f : SideFlaw) → way_out_of side cut a bs ≡ Some f
    → IsOut side cut a bs f
way_out_of_rule side cut a [] f e = absurd (none-some f e)
way_out_of_rule side cut a (b ∷ bs) f e =
    elim (cond_cases (has side b || has cut b) (way_out_of side cut a bs) (Some (WayOut a b)) (Some f) e) [
      | inl h ↦ let r = way_out_of_rule side cut a bs f h.1 in record {
        to = r.to;
        is = r.is;
        there = inr r.there;
        off = r.off;
        kept = r.kept;
      }
      | inr h ↦ record {
        to = b;
        is = same_Some (WayOut a b) f h.1;
        there = inl refl;
        off = λ m. both_ways (has side b || has cut b) h.0
            (or_left (has side b) (has cut b) ((has_tested side b (has side b) refl).1 m));
        kept = λ m. both_ways (has side b || has cut b) h.0
            (or_right (has side b) (has cut b) ((has_tested cut b (has cut b) refl).1 m));
      }
    ]

-- a link that leads out of a side
record LeadsOut (g : LinkGraph) (side cut xs : List ℕ) (f : SideFlaw) : Type 0 where
  pub from : ℕ
  pub on : Has xs from
  pub out : IsOut side cut from (neighbours_in g.links from g.nodes) f

way_out_rule : (g : LinkGraph) (side cut xs : List ℕ) (f : SideFlaw) → way_out g side cut xs ≡ Some f
    → LeadsOut g side cut xs f
way_out_rule g side cut [] f e = absurd (none-some f e)
way_out_rule g side cut (a ∷ xs) f e =
    let ns = neighbours_in g.links a g.nodes in
    elim (first_cases (way_out_of side cut a ns) (way_out g side cut xs) f e) [
      | inl h ↦ record { from = a; on = inl refl; out = way_out_of_rule side cut a ns f h }
      | inr h ↦ let r = way_out_rule g side cut xs f h.1 in record { from = r.from; on = inr r.on; out = r.out }
    ]

parting_rule : (g : LinkGraph) (q : List ℕ) (c : Split) (f : SideFlaw) → IsGraph g → parting_flaw g c ≡ Some f
    → HasSideFlaw g q c f
parting_rule g q c f graph e =
    let out = way_out g c.side c.cut c.side in
    let P = HasSideFlaw g q c in
    elim (cond_cases (has c.side c.near) (cond (has c.side c.far) (Some FarOn) out) (Some NearOff) (Some f) e) [
      | inl h ↦ elim (cond_cases (has c.side c.far) (Some FarOn) out (Some f) h.1) [
        | inl k ↦ subst P (same_Some FarOn f k.1) (member c.side c.far k.0)
        | inr k ↦
            let r = way_out_rule g c.side c.cut c.side f k.1 in
            let linked = ((are_neighbours g r.from graph).each r.out.to).0 r.out.there in
            subst P r.out.is (r.on, linked, r.out.off, r.out.kept)
      ]
      | inr h ↦ subst P (same_Some NearOff f h.1) (stranger c.side c.near h.0)
    ]

side_rule : (g : LinkGraph) (q : List ℕ) (c : Split) (f : SideFlaw) → IsGraph g → side_flaw g q c ≡ Some f
    → HasSideFlaw g q c f
side_rule g q c f graph e =
    let P = HasSideFlaw g q c in
    elim (first_cases (option_map Near (end_flaw q c.cut c.near)) _ f e) [
      | inl h ↦ let r = map_cases Near (end_flaw q c.cut c.near) f h in subst P r.2
          (end_rule q c.cut c.near r.0 r.1)
      | inr h ↦ elim (first_cases (option_map Far (end_flaw q c.cut c.far)) _ f h.1) [
        | inl k ↦ let r = map_cases Far (end_flaw q c.cut c.far) f k in subst P r.2 (end_rule q c.cut c.far r.0 r.1)
        | inr k ↦ elim (first_cases (option_map NoSet (set_flaw g c.side)) _ f k.1) [
          | inl l ↦ let r = map_cases NoSet (set_flaw g c.side) f l in subst P r.2 (set_rule g c.side r.0 r.1)
          | inr l ↦ elim (first_cases (in_cut_flaw c.cut 0 c.side) (parting_flaw g c) f l.1) [
            | inl m ↦
                let r = in_cut_rule c.cut 0 c.side f m in
                let z : 0 + r.place ≡ r.place = omega arith in
                subst P (ap (λ (n : ℕ). InCut n r.id) (sym z) ∙ r.is) (r.there, r.lost)
            | inr m ↦ parting_rule g q c f graph m.1
          ]
        ]
      ]
    ]

unlinked_rule : (g : LinkGraph) (q : List ℕ) (k : ℕ) (f : FrameFlaw) → Ascends q
    → option_map unlinked (slice_get (pairs_after g [] q) 0) ≡ Some f → HasFrameFlaw g q (cert.Linked k) f
unlinked_rule g q k f up e =
    let pairs = pairs_after g [] q in
    let r = map_cases unlinked (slice_get pairs 0) f e in
    let p = r.0 in
    subst (HasFrameFlaw g q (cert.Linked k)) r.2 (after_sound g [] q p up (has_found pairs 0 p r.1))

differ : (n m : ℕ) → eqb n m ≡ false → n ≢ m
differ n m off e = both_ways (eqb n m) off (eq-eqb n m e)

body_rule : (g : LinkGraph) (q : List ℕ) (c : Cert) (f : FrameFlaw) → IsGraph g → Ascends q
    → body_flaw g q c ≡ Some f → HasFrameFlaw g q c f
body_rule g q (cert.Linked k) f graph up e =
    let n = length q in
    let pair = option_map unlinked (slice_get (pairs_after g [] q) 0) in
    elim (cond_cases (eqb n (k + 1)) pair (Some (Count n)) (Some f) e) [
      | inl h ↦ unlinked_rule g q k f up h.1
      | inr h ↦ subst (HasFrameFlaw g q (cert.Linked k)) (same_Some (Count n) f h.1) (refl, differ n (k + 1) h.0)
    ]
body_rule g q (cert.Split c) f graph up e =
    let n = length c.cut in
    let P = HasFrameFlaw g q (cert.Split c) in
    let side = option_map Side (side_flaw g q c) in
    let cut = option_map Cut (set_flaw g c.cut) in
    elim (cond_cases (eqb n c.k) (first cut side) (Some (Count n)) (Some f) e) [
      | inl h ↦ elim (first_cases cut side f h.1) [
        | inl k ↦ let r = map_cases Cut (set_flaw g c.cut) f k in subst P r.2 (set_rule g c.cut r.0 r.1)
        | inr k ↦ let r = map_cases Side (side_flaw g q c) f k.1 in subst P r.2 (side_rule g q c r.0 graph r.1)
      ]
      | inr h ↦ subst P (same_Some (Count n) f h.1) (refl, differ n c.k h.0)
    ]

nobody : (q : List ℕ) → eqb (length q) 0 ≡ true → q ≡ []
nobody [] t = refl
nobody (x ∷ q) t = let e : suc (length q) ≡ 0 = eqb-true (suc (length q)) 0 t in absurd (omega (arith, e))

-- ids without a flaw are a set of nodes
pub flawless_set : (g : LinkGraph) (ids : List ℕ) → set_flaw g ids ≡ None → IsNodeSet g ids
flawless_set g ids e = (node_set_tested g ids).0 (sym (set_tested g ids) ∙ ap is_none e)

map_nothing : {X Y : Type 0} (f : X → Y) (o : Option X) → option_map f o ≡ None → o ≡ None
map_nothing f (Some x) e = absurd cc
map_nothing f None e = refl

frame_rule : (g : LinkGraph) (q : List ℕ) (c : Cert) (f : FrameFlaw) → IsGraph g → frame_flaw g q c ≡ Some f
    → HasFrameFlaw g q c f
frame_rule g q c f graph e =
    let P = HasFrameFlaw g q c in
    let set = option_map Group (set_flaw g q) in
    let later = first set (body_flaw g q c) in
    elim (cond_cases (eqb (length g.nodes) 0) (Some NoNodes) (cond (eqb (length q) 0) (Some NoMember) later) (Some f)
    e) [
      | inl h ↦ subst P (same_Some NoNodes f h.1)
          (λ l. let z = eqb-true (length g.nodes) 0 h.0 in omega (arith, l, z))
      | inr h ↦ elim (cond_cases (eqb (length q) 0) (Some NoMember) later (Some f) h.1) [
        | inl k ↦ subst P (same_Some NoMember f k.1) (nobody q k.0)
        | inr k ↦ elim (first_cases set (body_flaw g q c) f k.1) [
          | inl l ↦ let r = map_cases Group (set_flaw g q) f l in subst P r.2 (set_rule g q r.0 r.1)
          | inr l ↦ body_rule g q c f graph (flawless_set g q (map_nothing Group (set_flaw g q) l.0)).ascends l.1
        ]
      ]
    ]

-- what is found says the verdict, and why
pub record JudgesFrame (g : LinkGraph) (q : List ℕ) (c : Cert) (o : Option FrameFlaw) : Type 0 where
  pub right : IsNone o ↔ PassesFrame g q c
  pub fault : IfSome o (λ f. IsFrameFault g q c (flaw_fault f))
  pub flaw : IfSome o (λ f. HasFrameFlaw g q c f)

pub frame_flaw_judged : (g : LinkGraph) (q : List ℕ) (c : Cert) → IsGraph g → (o : Option FrameFlaw)
    → o ≡ frame_flaw g q c → JudgesFrame g q c o
frame_flaw_judged g q c graph None e =
    let none : frame_fault g q c ≡ None = sym (fault_of_flaw g q c) ∙ sym (ap (option_map flaw_fault) e) in
    let passes : PassesFrame g q c = subst (FrameSays g q c) none (frame_judged g q c graph) in
    record { right = ((λ t. passes), (λ p. refl)); fault = tt; flaw = tt }
frame_flaw_judged g q c graph (Some f) e =
    let some : frame_fault g q c ≡ Some (flaw_fault f) = sym (fault_of_flaw g q c) ∙ sym
    (ap (option_map flaw_fault) e) in
    record {
      right = (
        (λ t. absurd cc),
        (λ p. let n : None ≡ Some (flaw_fault f) = sym (frame_found g q c graph None p) ∙ some in absurd cc),
      );
      fault = subst (FrameSays g q c) some (frame_judged g q c graph);
      flaw = frame_rule g q c f graph (sym e);
    }
