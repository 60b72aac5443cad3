-- The graph that nodes and rows keep, after a node is added or removed.
use Rattle.std.proofs.Common.{◌≡◌, ◌≢◌, ◌∙◌, ◌↔◌, ◌⊎◌, ℕ, ◌+◌, ◌-◌, ◌*◌, ◌<◌, ◌≤◌, List, [], length, slice_index}
use Rattle.std.proofs.Common.{get_or, Bool, cond, ltb, inl, inr, refl, sym, ap, subst, arith}
use Rattle.std.specs.Prelude.{insert, remove}
use Rattle.std.proofs.lemmas.Bool.{cases_eq, cases_lt, cases_order, lt-ltb, le-ltb, false_from_ne_true}
use Rattle.std.proofs.lemmas.List.Edits.{length-insert, get_or-insert_below, get_or-insert_at, get_or-insert_above}
use Rattle.std.proofs.lemmas.List.Edits.{length-remove, get_or-remove_below, get_or-remove_above}
use Rattle.ov_ids.specs.Members.{Has, Ascends}
use Rattle.ov_ids.specs.Sets.{has, adding, without, count_below}
use Rattle.ov_ids.proofs.Members.{has_tested, has_place, same_ordered}
use Rattle.ov_ids.proofs.Sets.{IsSet-adding, IsSet-without, adding_absent, without_absent, without_present}
use Rattle.ov_ids.proofs.Sets.{count_below-le-length}
use Rattle.ov_graph.specs.Links.{LinkGraph, IsGraph, Precedes, most_nodes}
use Rattle.ov_graph.specs.Changes.{GainsNode, LosesNode}
use Rattle.ov_graph.specs.Row.{HasBit}
use Rattle.ov_graph.specs.Code.Shifts.{HasOpened, HasClosed}
use Rattle.ov_graph.specs.declared.bit_rows.TheConstants.{EMPTY}
use Rattle.ov_graph.specs.Code.Kept.{row_at, links_read, graph_kept, IsKept}
use Rattle.ov_graph.proofs.BitRows.Bits.{bit_moved, empty_bit}
use Rattle.ov_graph.proofs.BitRows.Halving.{place_counted}
use Rattle.ov_graph.proofs.BitRows.Read.{IsPair, has_read, in_read, ordered_read, one_place}
use Rattle.ov_graph.proofs.BitRows.Marked.{no_round}

-- the new place of place o after a place is inserted at p
past : ℕ → ℕ → ℕ
past p o = cond (ltb o p) o (o + 1)

past_is : (p o : ℕ) → ((o < p) × (past p o ≡ o)) ⊎ ((p ≤ o) × (past p o ≡ o + 1))
unfolding past
past_is p o = elim (cases_lt o p) [
  | inl l ↦ inl (l, ap (λ (b : Bool). cond b o (o + 1)) (lt-ltb o p l))
  | inr ge ↦ inr (ge, ap (λ (b : Bool). cond b o (o + 1)) (le-ltb o p ge))
]

-- each place is the inserted one, or the new place of an old one
came_from : (p r : ℕ) → (r ≡ p) ⊎ ((o : ℕ) × (past p o ≡ r))
came_from p r = elim (cases_eq r p) [
  | inl e ↦ inl e
  | inr n ↦ elim (cases_lt r p) [
    | inl l ↦ inr (r, elim (past_is p r) [ inl k ↦ k.1 | inr k ↦ absurd (let m = k.0 in omega (arith, m, l)) ])
    | inr ge ↦ inr (
      r - 1,
      elim (past_is p (r - 1)) [
        | inl k ↦ absurd (let m = k.0 in omega (arith, m, ge, n))
        | inr k ↦ k.1 ∙ omega (arith, ge, n)
      ],
    )
  ]
]

past_below : (p o n : ℕ) → p ≤ n → o < n → past p o < n + 1
past_below p o n l m = elim (past_is p o) [
  | inl k ↦ let e = k.1 in omega (arith, e, m)
  | inr k ↦ let e = k.1 in omega (arith, e, m)
]

below_past : (p o n : ℕ) → p ≤ n → past p o < n + 1 → o < n
below_past p o n l m = elim (past_is p o) [
  | inl k ↦ let a = k.0 in omega (arith, a, l)
  | inr k ↦ let e = k.1 in omega (arith, e, m)
]

past_less : (p i j : ℕ) → i < j → past p i < past p j
past_less p i j l = elim (past_is p i) [
  | inl a ↦ elim (past_is p j) [
    | inl b ↦ let e = a.1 in let f = b.1 in omega (arith, e, f, l)
    | inr b ↦ let e = a.1 in let f = b.1 in omega (arith, e, f, l)
  ]
  | inr a ↦ elim (past_is p j) [
    | inl b ↦ absurd (let e = a.0 in let f = b.0 in omega (arith, e, f, l))
    | inr b ↦ let e = a.1 in let f = b.1 in omega (arith, e, f, l)
  ]
]

less_past : (p i j : ℕ) → past p i < past p j → i < j
less_past p i j l = elim (past_is p i) [
  | inl a ↦ elim (past_is p j) [
    | inl b ↦ let e = a.1 in let f = b.1 in omega (arith, e, f, l)
    | inr b ↦ let e = a.0 in let f = b.0 in omega (arith, e, f)
  ]
  | inr a ↦ elim (past_is p j) [
    | inl b ↦ absurd (let e = a.1 in let f = b.1 in let c = a.0 in let d = b.0 in omega (arith, e, f, c, d, l))
    | inr b ↦ let e = a.1 in let f = b.1 in omega (arith, e, f, l)
  ]
]

past_apart : (p o : ℕ) → past p o ≢ p
past_apart p o e = elim (past_is p o) [
  | inl a ↦ let l = a.0 in let f = a.1 in omega (arith, e, f, l)
  | inr a ↦ let l = a.0 in let f = a.1 in omega (arith, e, f, l)
]

-- the second nodes and rows are the first with a place inserted at p
record HasOneMore (p : ℕ) (nodes : List ℕ) (rows : List (List ℕ)) (nodes' : List ℕ) (rows' : List (List ℕ))
    : Type 0 where
  within : p ≤ length nodes
  longer : length nodes' ≡ length nodes + 1
  node : (o : ℕ) → slice_index nodes' (past p o) ≡ slice_index nodes o
  bit : (o s : ℕ) → HasBit (row_at rows' (past p o)) (past p s) ↔ HasBit (row_at rows o) s

moved_pair : (ls : List (ℕ × ℕ)) (a b x y : ℕ) → a ≡ x → b ≡ y → Has ls (a, b) → Has ls (x, y)
moved_pair ls a b x y e f h = subst (λ (z : ℕ). Has ls (z, y)) e (subst (λ (z : ℕ). Has ls (a, z)) f h)

-- what is linked without the inserted place is linked with it
links_up : (p : ℕ) (nodes nodes' : List ℕ) (rows rows' : List (List ℕ)) → HasOneMore p nodes rows nodes' rows'
    → (l : ℕ × ℕ) → Has (links_read 0 nodes rows) l → Has (links_read 0 nodes' rows') l
links_up p nodes nodes' rows rows' more l h =
    let r = has_read 0 nodes rows l.0 l.1 h in
    let i = past p r.lower in
    let j = past p r.higher in
    let longer = more.longer in
    let below : j < length nodes' = omega (arith, longer, past_below p r.higher (length nodes) more.within r.below) in
    let bit =
    (more.bit r.lower r.higher).1 (bit_moved (row_at rows r.lower) (0 + r.higher) r.higher (omega arith) r.bit) in
    let m = in_read 0 nodes' rows' i j (past_less p r.lower r.higher r.less) below
    (bit_moved (row_at rows' i) j (0 + j) (omega arith) bit) in
    moved_pair (links_read 0 nodes' rows') (slice_index nodes' i) (slice_index nodes' j) l.0 l.1
    (more.node r.lower ∙ r.first) (more.node r.higher ∙ r.second) m

-- what is linked with the inserted place is linked without it, except the node at this place
links_down : (p : ℕ) (nodes nodes' : List ℕ) (rows rows' : List (List ℕ)) → HasOneMore p nodes rows nodes' rows'
    → (l : ℕ × ℕ) (r : IsPair 0 nodes' rows' l.0 l.1) → r.lower ≢ p → r.higher ≢ p → Has (links_read 0 nodes rows) l
links_down p nodes nodes' rows rows' more l r lower_other higher_other =
    elim (came_from p r.lower) [
      | inl e ↦ absurd (lower_other e)
      | inr a ↦ elim (came_from p r.higher) [
        | inl e ↦ absurd (higher_other e)
        | inr b ↦
            let i = a.0 in
            let j = b.0 in
            let e : past p i ≡ r.lower = a.1 in
            let f : past p j ≡ r.higher = b.1 in
            let longer = more.longer in
            let less = r.less in
            let below = r.below in
            let j_below : j < length nodes = below_past p j (length nodes) more.within (omega (arith, f, below, longer))
            in
            let there : HasBit (row_at rows' (past p i)) (past p j) =
            subst (λ (k : ℕ). HasBit (row_at rows' k) (past p j)) (sym e)
            (bit_moved (row_at rows' r.lower) (0 + r.higher) (past p j) (omega (arith, f)) r.bit) in
            let bit = (more.bit i j).0 there in
            let m = in_read 0 nodes rows i j (less_past p i j (omega (arith, e, f, less))) j_below
            (bit_moved (row_at rows i) j (0 + j) (omega arith) bit) in
            moved_pair (links_read 0 nodes rows) (slice_index nodes i) (slice_index nodes j) l.0 l.1
            (sym (more.node i) ∙ ap (slice_index nodes') e ∙ r.first)
            (sym (more.node j) ∙ ap (slice_index nodes') f ∙ r.second) m
      ]
    ]

-- a row with a bit inserted, and a row with a bit removed
opened_past : (row : List ℕ) (p s : ℕ) → HasOpened row p (past p s) ↔ HasBit row s
opened_past row p s = elim (past_is p s) [
  | inl a ↦
      let l = a.0 in
      let e = a.1 in (
        (λ h. elim h [
          | inl k ↦ bit_moved row (past p s) s e k.1
          | inr k ↦ absurd (let m = k.0 in omega (arith, l, e, m))
        ]),
        (λ h. inl (omega (arith, l, e), bit_moved row s (past p s) (sym e) h)),
      )
  | inr a ↦
      let l = a.0 in
      let e = a.1 in
      let back : past p s - 1 ≡ s = omega (arith, e) in (
        (λ h. elim h [
          | inl k ↦ absurd (let m = k.0 in omega (arith, l, e, m))
          | inr k ↦ bit_moved row (past p s - 1) s back k.1
        ]),
        (λ h. inr (omega (arith, l, e), bit_moved row s (past p s - 1) (sym back) h)),
      )
]

closed_past : (row : List ℕ) (p s : ℕ) → HasClosed row p s ↔ HasBit row (past p s)
closed_past row p s = elim (past_is p s) [
  | inl a ↦
      let l = a.0 in
      let e = a.1 in (
        (λ h. elim h [
          | inl k ↦ bit_moved row s (past p s) (sym e) k.1
          | inr k ↦ absurd (let m = k.0 in omega (arith, l, m))
        ]),
        (λ h. inl (l, bit_moved row (past p s) s e h)),
      )
  | inr a ↦
      let l = a.0 in
      let e = a.1 in (
        (λ h. elim h [
          | inl k ↦ absurd (let m = k.0 in omega (arith, l, m))
          | inr k ↦ bit_moved row (s + 1) (past p s) (sym e) k.1
        ]),
        (λ h. inr (l, bit_moved row (past p s) (s + 1) e h)),
      )
]

-- an item of a list after one is inserted, or after one is removed
inserted_past : {X : Type 0} (xs : List X) (p o : ℕ) (x d : X) → p ≤ length xs
    → get_or (insert xs p x) (past p o) d ≡ get_or xs o d
inserted_past xs p o x d l = elim (past_is p o) [
  | inl a ↦ ap (λ (i : ℕ). get_or (insert xs p x) i d) a.1 ∙ get_or-insert_below xs p x d o a.0 l
  | inr a ↦ ap (λ (i : ℕ). get_or (insert xs p x) i d) a.1 ∙ get_or-insert_above xs p x d o a.0 l
]

removed_past : {X : Type 0} (xs : List X) (p o : ℕ) (d : X) → p < length xs
    → get_or xs (past p o) d ≡ get_or (remove xs p) o d
removed_past xs p o d l = elim (past_is p o) [
  | inl a ↦ ap (λ (i : ℕ). get_or xs i d) a.1 ∙ sym (get_or-remove_below xs p d o a.0 l)
  | inr a ↦ ap (λ (i : ℕ). get_or xs i d) a.1 ∙ sym (get_or-remove_above xs p d o a.0 l)
]

-- an empty row is inserted at p, and then a bit into each row
pub record IsPutIn (p words : ℕ) (rows rows' : List (List ℕ)) : Type 0 where
  pub each : length rows' ≡ length (insert rows p EMPTY)
  pub bits : (r q : ℕ) → HasBit (row_at rows' r) q ↔ ((q < 64 * words) × HasOpened (row_at (insert rows p EMPTY) r) p q)

one_more_in : (nodes : List ℕ) (rows rows' : List (List ℕ)) (id p words : ℕ) → IsKept nodes rows → p ≤ length nodes
    → length nodes + 1 ≤ 64 * words → IsPutIn p words rows rows' → HasOneMore p nodes rows (insert nodes p id) rows'
one_more_in nodes rows rows' id p words kept l enough put =
    let each = kept.each in
    let there : p ≤ length rows = omega (arith, each, l) in
    let row = λ (o : ℕ). inserted_past rows p o EMPTY [] there in
    record {
      within = l;
      longer = length-insert nodes p id l;
      node = λ o. inserted_past nodes p o id 0 l;
      bit = λ o s. (
        (λ h.
            let m = ((put.bits (past p o) (past p s)).0 h).1 in
            (opened_past (row_at rows o) p s).0 (subst (λ (t : List ℕ). HasOpened t p (past p s)) (row o) m)),
        (λ h.
            let m = past_below p s (length nodes) l (kept.within o s h) in
            let k = (opened_past (row_at rows o) p s).1 h in
            (put.bits (past p o) (past p s)).1
            (omega (arith, m, enough), subst (λ (t : List ℕ). HasOpened t p (past p s)) (sym (row o)) k)),
      );
    }

no_bit_here : (row : List ℕ) (p : ℕ) → ¬ HasOpened row p p
no_bit_here row p h = elim h [ inl k ↦ let l = k.0 in omega (arith, l) | inr k ↦ let l = k.0 in omega (arith, l) ]

new_row : (rows rows' : List (List ℕ)) (p words s : ℕ) → p ≤ length rows → IsPutIn p words rows rows'
    → ¬ HasBit (row_at rows' p) s
new_row rows rows' p words s l put h =
    let m = subst (λ (t : List ℕ). HasOpened t p s) (get_or-insert_at rows p EMPTY [] l) ((put.bits p s).0 h).1 in
    elim m [ inl k ↦ empty_bit s k.1 | inr k ↦ empty_bit (s - 1) k.1 ]

-- a bit that is not at the new place was there before
was_there : (nodes nodes' : List ℕ) (rows rows' : List (List ℕ)) (p r s : ℕ) (P : ℕ → ℕ → Type 0)
    → HasOneMore p nodes rows nodes' rows'
    → ((t : ℕ) → ¬ HasBit (row_at rows' p) t) → ((t : ℕ) → ¬ HasBit (row_at rows' t) p)
    → ((o t : ℕ) → HasBit (row_at rows o) t → P (past p o) (past p t)) → HasBit (row_at rows' r) s → P r s
was_there nodes nodes' rows rows' p r s P more no_row no_bit each h = elim (came_from p r) [
  | inl e ↦ absurd (no_row s (subst (λ (i : ℕ). HasBit (row_at rows' i) s) e h))
  | inr a ↦ elim (came_from p s) [
    | inl e ↦ absurd (no_bit r (bit_moved (row_at rows' r) s p e h))
    | inr b ↦
        let o = a.0 in
        let t = b.0 in
        let e : past p o ≡ r = a.1 in
        let f : past p t ≡ s = b.1 in
        let k : HasBit (row_at rows' (past p o)) (past p t) =
        subst (λ (i : ℕ). HasBit (row_at rows' i) (past p t)) (sym e)
        (bit_moved (row_at rows' r) s (past p t) (sym f) h) in
        subst (λ (i : ℕ). P i s) e (subst (P (past p o)) f (each o t ((more.bit o t).0 k)))
  ]
]

-- nodes and rows keep the graph with the new node, which has no links
pub gains_node : (nodes : List ℕ) (rows rows' : List (List ℕ)) (id p words : ℕ) → IsKept nodes rows → ¬ Has nodes id
    → length nodes < most_nodes → p ≡ count_below id nodes → length nodes + 1 ≤ 64 * words → IsPutIn p words rows rows'
    → IsKept (insert nodes p id) rows' × GainsNode (graph_kept nodes rows) id (graph_kept (insert nodes p id) rows')
gains_node nodes rows rows' id p words kept out few at enough put =
    let new = insert nodes p id in
    let each = kept.each in
    let wide = put.each in
    let l : p ≤ length nodes = omega (arith, at, count_below-le-length id nodes) in
    let there : p ≤ length rows = omega (arith, each, l) in
    let more = one_more_in nodes rows rows' id p words kept l enough put in
    let longer = more.longer in
    let no_row = λ (s : ℕ). new_row rows rows' p words s there put in
    let no_bit = λ (r : ℕ) (h : HasBit (row_at rows' r) p).
    no_bit_here (row_at (insert rows p EMPTY) r) p ((put.bits r p).0 h).1 in
    let unknown = false_from_ne_true (has nodes id) (λ t. out ((has_tested nodes id (has nodes id) refl).0 t)) in
    let adds : new ≡ adding id nodes = ap (λ (i : ℕ). insert nodes i id) at ∙ sym (adding_absent id nodes unknown) in
    let up : Ascends new = subst Ascends (sym adds) (IsSet-adding id nodes kept.ascend) in
    let pair = λ (l : ℕ × ℕ) (h : Has (links_read 0 new rows') l).
    let r = has_read 0 new rows' l.0 l.1 h in
    links_down p nodes new rows rows' more l r
    (λ e. no_row (0 + r.higher) (subst (λ (i : ℕ). HasBit (row_at rows' i) (0 + r.higher)) e r.bit))
    (λ e. no_bit r.lower (bit_moved (row_at rows' r.lower) (0 + r.higher) p (omega (arith, e)) r.bit)) in (
      record {
        few = omega (arith, longer, few);
        ascend = up;
        each = wide ∙ length-insert rows p EMPTY there ∙ ap (λ (n : ℕ). n + 1) each ∙ sym longer;
        within = λ r s h. was_there nodes new rows rows' p r s (λ i j. j < length new) more no_row no_bit
            (λ o t k. omega (arith, longer, past_below p t (length nodes) l (kept.within o t k))) h;
        both = λ r s h. was_there nodes new rows rows' p r s (λ i j. HasBit (row_at rows' j) i) more no_row no_bit
            (λ o t k. (more.bit t o).1 (kept.both o t k)) h;
        apart = λ r h. was_there nodes new rows rows' p r r (λ i j. i ≡ j → ⊥) more no_row no_bit
            (λ o t k e. elim (cases_order o t) [
              | inl f ↦ kept.apart o (bit_moved (row_at rows o) t o (sym f) k)
              | inr (inl less) ↦ let m = past_less p o t less in omega (arith, m, e)
              | inr (inr less) ↦ let m = past_less p t o less in omega (arith, m, e)
            ]) h refl;
      },
      record {
        nodes = adds;
        links = same_ordered Precedes no_round (links_read 0 new rows') (links_read 0 nodes rows)
            (ordered_read 0 new rows' up)
            (ordered_read 0 nodes rows kept.ascend) pair (links_up p nodes new rows rows' more);
      },
    )

-- the row at p is removed, and then a bit from each row
pub record IsTakenOut (p words : ℕ) (rows rows' : List (List ℕ)) : Type 0 where
  pub each : length rows' ≡ length (remove rows p)
  pub bits : (r q : ℕ) → HasBit (row_at rows' r) q ↔ ((q < 64 * words) × HasClosed (row_at (remove rows p) r) p q)

one_more_before : (nodes : List ℕ) (rows rows' : List (List ℕ)) (p words : ℕ) → IsKept nodes rows → p < length nodes
    → length nodes ≤ 64 * words → IsTakenOut p words rows rows' → HasOneMore p (remove nodes p) rows' nodes rows
one_more_before nodes rows rows' p words kept l enough taken =
    let each = kept.each in
    let there : p < length rows = omega (arith, each, l) in
    let shorter = length-remove nodes p l in
    let row = λ (o : ℕ). removed_past rows p o [] there in
    record {
      within = omega (arith, shorter, l);
      longer = sym shorter;
      node = λ o. removed_past nodes p o 0 l;
      bit = λ o s. (
        (λ h.
            let m = kept.within (past p o) (past p s) h in
            let less : s ≤ past p s = elim (past_is p s) [
              | inl a ↦ let e = a.1 in omega (arith, e)
              | inr a ↦ let e = a.1 in omega (arith, e)
            ] in
            let k = (closed_past (row_at (remove rows p) o) p s).1
            (subst (λ (t : List ℕ). HasBit t (past p s)) (row o) h) in
            (taken.bits o s).1 (omega (arith, m, less, enough), k)),
        (λ h.
            let k = (closed_past (row_at (remove rows p) o) p s).0 ((taken.bits o s).0 h).1 in
            subst (λ (t : List ℕ). HasBit t (past p s)) (sym (row o)) k),
      );
    }

-- nodes and rows keep the graph without the node and its links
pub loses_node : (nodes : List ℕ) (rows rows' : List (List ℕ)) (id p words : ℕ) → IsKept nodes rows → p < length nodes
    → slice_index nodes p ≡ id → length nodes ≤ 64 * words → IsTakenOut p words rows rows'
    → IsKept (remove nodes p) rows' × LosesNode (graph_kept nodes rows) id (graph_kept (remove nodes p) rows')
loses_node nodes rows rows' id p words kept l at enough taken =
    let left = remove nodes p in
    let each = kept.each in
    let few = kept.few in
    let wide = taken.each in
    let more = one_more_before nodes rows rows' p words kept l enough taken in
    let longer = more.longer in
    let shorter = length-remove rows p (omega (arith, each, l)) in
    let known = (has_tested nodes id (has nodes id) refl).1 (subst (Has nodes) at (has_place nodes p 0 l)) in
    let goes : left ≡ without id nodes = ap (remove nodes) (place_counted nodes id p kept.ascend l at)
    ∙ sym (without_present id nodes kept.ascend known) in
    let up : Ascends left = subst Ascends (sym goes) (IsSet-without id nodes kept.ascend) in
    let stays = λ (o : ℕ) (o_below : o < length left) (e : slice_index left o ≡ id).
    past_apart p o
    (one_place nodes (past p o) p kept.ascend
    (omega (arith, longer, past_below p o (length left) more.within o_below)) l (more.node o ∙ e ∙ sym at)) in
    let there = λ (i : ℕ) (x : ℕ) (first : slice_index nodes i ≡ x) (ne : x ≢ id) (e : i ≡ p).
    ne (sym first ∙ ap (slice_index nodes) e ∙ at) in (
      record {
        few = omega (arith, longer, few);
        ascend = up;
        each = omega (arith, wide, shorter, longer, each);
        within = λ r s h. below_past p s (length left) more.within
            (let m = kept.within (past p r) (past p s) ((more.bit r s).1 h) in omega (arith, longer, m));
        both = λ r s h. (more.bit s r).0 (kept.both (past p r) (past p s) ((more.bit r s).1 h));
        apart = λ r h. kept.apart (past p r) ((more.bit r r).1 h);
      },
      record {
        nodes = goes;
        links = λ l. (
          (λ h.
              let r = has_read 0 left rows' l.0 l.1 h in
              let less = r.less in
              let below = r.below in (
                links_up p left nodes rows' rows more l h,
                (λ e. stays r.lower (omega (arith, less, below)) (r.first ∙ e)),
                (λ e. stays r.higher below (r.second ∙ e)),
              )),
          (λ h.
              let r = has_read 0 nodes rows l.0 l.1 h.0 in
              links_down p left nodes rows' rows more l r (there r.lower l.0 r.first h.1)
              (there r.higher l.1 r.second h.2)),
        );
      },
    )

-- without an id that is no node the graph is the same
pub loses_none : (g : LinkGraph) (id : ℕ) → IsGraph g → ¬ Has g.nodes id → LosesNode g id g
loses_none g id graph out =
    let unknown = false_from_ne_true (has g.nodes id)
    (λ t. out ((has_tested g.nodes id (has g.nodes id) refl).0 t)) in
    record {
      nodes = sym (without_absent id g.nodes unknown);
      links = λ l. (
        (λ h.
            let joins = graph.joins l h in
            (h, (λ e. out (subst (Has g.nodes) e joins.1)), (λ e. out (subst (Has g.nodes) e joins.2)))),
        (λ h. h.0),
      );
    }
