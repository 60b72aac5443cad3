-- Places in a list from one place on, and the first of them for which something holds.
use Rattle.std.proofs.Common.{◌≡◌, ◌↔◌, ◌⊎◌, ℕ, zero, suc, ◌+◌, ◌<◌, ◌≤◌, List, [], ◌∷◌, Bool, cond, length}
use Rattle.std.proofs.Common.{drop, take, get_or, Option, Some, None, IfSome, IfNone}
use Rattle.std.proofs.Common.{inl, inr, sym, subst, arith}
use Rattle.std.proofs.lemmas.Bool.{cases_lt, le-ltb, lt-ltb}
use Rattle.std.proofs.lemmas.List.{take_more}
use Rattle.ov_ids.specs.Members.{Has, Ascends}
use Rattle.ov_ids.specs.Sets.{count_below}
use Rattle.ov_ids.proofs.Members.{has_append_cases, has_append_left, has_append_right, has_place, all_member}
use Rattle.ov_graph.specs.Links.{LinkGraph}
use Rattle.ov_graph.specs.Neighbours.{IsFirst, HoldsNoMore, AreLinkedAt}
use Rattle.ov_graph.specs.Row.{HasBit}
use Rattle.ov_graph.specs.Code.Listed.{IsListed, AreFrom, IsFirstOf}
use Rattle.ov_graph.proofs.PlaceLists.Reading.{list_lent}

ascends_drop : (n : ℕ) (xs : List ℕ) → Ascends xs → Ascends (drop n xs)
ascends_drop zero xs up = up
ascends_drop (suc n) [] up = tt
ascends_drop (suc n) (x ∷ xs) up = ascends_drop n xs up.1

has_from : (xs : List ℕ) (x q : ℕ) → Ascends xs → Has (drop (count_below x xs) xs) q ↔ ((x ≤ q) × Has xs q)
has_from [] x q up = ((λ h. absurd h), (λ h. absurd h.1))
has_from (y ∷ ys) x q up = elim (cases_lt y x) [
  | inl l ↦
      let r = has_from ys x q up.1 in
      subst (λ (b : Bool). Has (drop (cond b (suc (count_below x ys)) 0) (y ∷ ys)) q ↔ ((x ≤ q) × Has (y ∷ ys) q))
      (sym (lt-ltb y x l)) (
        (λ h. let m = r.0 h in (m.0, inr m.1)),
        (λ h. r.1 (h.0, elim h.1 [ inl e ↦ (let k = h.0 in absurd (omega (arith, l, e, k))) | inr m ↦ m ])),
      )
  | inr ge ↦
      subst (λ (b : Bool). Has (drop (cond b (suc (count_below x ys)) 0) (y ∷ ys)) q ↔ ((x ≤ q) × Has (y ∷ ys) q))
      (sym (le-ltb y x ge)) (
        (λ h. (
          elim h [
            | inl e ↦ omega (arith, ge, e)
            | inr m ↦ let k : y < q = all_member (λ z. y < z) ys q up.0 m in omega (arith, ge, k)
          ],
          h,
        )),
        (λ h. h.1),
      )
]

-- what is left from the place that a search returns
pub from_place : (xs : List ℕ) (x i : ℕ) → Ascends xs → i ≡ count_below x xs → AreFrom xs x (drop i xs)
from_place xs x i up e = record {
  ascend = ascends_drop i xs up;
  each = λ q. subst (λ (n : ℕ). Has (drop n xs) q ↔ ((x ≤ q) × Has xs q)) (sym e) (has_from xs x q up);
}

-- where the first place is reached, all are
pub from_all : (x first : ℕ) (rest : List ℕ) → Ascends (first ∷ rest) → x ≤ first
    → AreFrom (first ∷ rest) x (first ∷ rest)
from_all x first rest up ge = record {
  ascend = up;
  each = λ q. (
    (λ h. (
      elim h [
        | inl e ↦ omega (arith, ge, e)
        | inr m ↦ let k : first < q = all_member (λ z. first < z) rest q up.0 m in omega (arith, ge, k)
      ],
      h,
    )),
    (λ h. h.1),
  );
}

-- a place below is passed over
pub from_later : (x first : ℕ) (rest kept : List ℕ) → first < x → AreFrom rest x kept → AreFrom (first ∷ rest) x kept
from_later x first rest kept l f = record {
  ascend = f.ascend;
  each = λ q. (
    (λ h. let m = (f.each q).0 h in (m.0, inr m.1)),
    (λ h. (f.each q).1
        (h.0, elim h.1 [ inl e ↦ (let k = h.0 in absurd (omega (arith, l, e, k))) | inr m ↦ m ])),
  );
}

-- past all places of a list there is none
pub from_past : (xs : List ℕ) (x : ℕ) → ((q : ℕ) → Has xs q → q < x) → AreFrom xs x []
from_past xs x below = record {
  ascend = tt;
  each = λ q. ((λ h. absurd h), (λ h. let l = below q h.1 in let k = h.0 in absurd (omega (arith, l, k))));
}

-- the items of an ascending list below the one at a place stand before it
pub before_place : (xs : List ℕ) (i q d : ℕ) → Ascends xs → i < length xs → Has xs q → q < get_or xs i d
    → Has (take i xs) q
before_place [] i q d up l h m = absurd h
before_place (x ∷ xs) zero q d up l h m = absurd (elim h [
  | inl e ↦ omega (arith, m, e)
  | inr k ↦ let s : x < q = all_member (λ y. x < y) xs q up.0 k in omega (arith, m, s)
])
before_place (x ∷ xs) (suc i) q d up l h m = elim h [
  | inl e ↦ inl e
  | inr k ↦ inr (before_place xs i q d up.1 (omega (arith, l)) k m)
]

-- the item at a place is the first for which P holds, if it holds for none before it
pub first_at : (P : ℕ → Type 0) (xs : List ℕ) (i : ℕ) → Ascends xs → i < length xs
    → ((q : ℕ) → Has (take i xs) q → ¬ P q) → P (get_or xs i 0) → IsFirstOf P xs (get_or xs i 0)
first_at P xs i up l none h = record {
  among = has_place xs i 0 l;
  holds = h;
  first = λ q k m. none q (before_place xs i q 0 up l k m);
}

-- what holds for the items before a place, and for the item there
pub one_more : (P : ℕ → Type 0) (xs : List ℕ) (i : ℕ) → i < length xs → ((q : ℕ) → Has (take i xs) q → P q)
    → P (get_or xs i 0) → (q : ℕ) → Has (take (i + 1) xs) q → P q
one_more P xs i l before h q k =
    elim (has_append_cases (take i xs) (get_or xs i 0 ∷ []) q (subst (λ (ys : List ℕ). Has ys q)
    (take_more xs i 0 l) k)) [
      | inl m ↦ before q m
      | inr m ↦ elim m [ inl s ↦ subst P s h | inr n ↦ absurd n ]
    ]

-- the bits of the items before a place, and of the item there
pub one_put : (xs : List ℕ) (i : ℕ) (old new : List ℕ) → i < length xs
    → ((q : ℕ) → HasBit old q ↔ Has (take i xs) q)
    → ((q : ℕ) → HasBit new q ↔ ((q ≡ get_or xs i 0) ⊎ HasBit old q))
    → (q : ℕ) → HasBit new q ↔ Has (take (i + 1) xs) q
one_put xs i old new l before put q =
    let all = take_more xs i 0 l in (
      (λ h. subst (λ (ys : List ℕ). Has ys q) (sym all) (elim ((put q).0 h) [
        | inl s ↦ has_append_right (take i xs) (get_or xs i 0 ∷ []) q (inl (sym s))
        | inr k ↦ has_append_left (take i xs) (get_or xs i 0 ∷ []) q ((before q).0 k)
      ])),
      (λ h. elim (has_append_cases (take i xs) (get_or xs i 0 ∷ []) q (subst (λ (ys : List ℕ). Has ys q) all h)) [
        | inl k ↦ (put q).1 (inr ((before q).1 k))
        | inr k ↦ elim k [ inl s ↦ (put q).1 (inl (sym s)) | inr n ↦ absurd n ]
      ]),
    )

-- a list that is lent of a graph's lists: its places are those of the neighbours
pub lent_there : (nodes : List ℕ) (links : List (ℕ × ℕ)) (lists : List (List ℕ)) (p : ℕ) (list : List ℕ)
    → IsListed nodes links lists → p < length nodes → list ≡ get_or lists p list
    → (q : ℕ) → Has list q ↔ AreLinkedAt (record { nodes = nodes; links = links }) p q
lent_there nodes links lists p list kept pl lent q =
    let each = kept.listed.each in
    let at = list_lent lists p list (omega (arith, each, pl)) lent in
    let b = kept.listed.places p q in
    subst (λ (xs : List ℕ). Has xs q ↔ AreLinkedAt (record { nodes = nodes; links = links }) p q) (sym at)
    ((λ h. let m = b.0 h in (m.1, m.2)), (λ h. b.1 (pl, h.0, h.1)))

pub lent_ascends : (nodes : List ℕ) (links : List (ℕ × ℕ)) (lists : List (List ℕ)) (p : ℕ) (list : List ℕ)
    → IsListed nodes links lists → p < length nodes → list ≡ get_or lists p list → Ascends list
lent_ascends nodes links lists p list kept pl lent =
    let each = kept.listed.each in
    subst Ascends (sym (list_lent lists p list (omega (arith, each, pl)) lent)) (kept.listed.ascend p)

-- what follows of nothing that was found
pub if_none : (o : Option ℕ) (A B : Type 0) → (A → B) → IfNone o A → IfNone o B
if_none None A B f h = f h
if_none (Some x) A B f h = tt

-- the first place of what is left is the first place of a neighbour from there on
pub some_found : (P : ℕ → Type 0) (g : LinkGraph) (p after : ℕ) (xs rest : List ℕ) (o : Option ℕ)
    → ((q : ℕ) → Has xs q ↔ AreLinkedAt g p q) → AreFrom xs after rest → IfSome o (IsFirstOf P rest)
    → IfSome o (IsFirst (λ q. AreLinkedAt g p q × P q) after)
some_found P g p after xs rest None there from f = tt
some_found P g p after xs rest (Some q) there from f =
    let at = (from.each q).0 f.among in
    record {
      reached = at.0;
      holds = ((there q).0 at.1, f.holds);
      first = λ r a l h. f.first r ((from.each r).1 (a, (there r).1 h.0)) l h.1;
    }

pub none_found : (P : ℕ → Type 0) (g : LinkGraph) (p after : ℕ) (xs rest : List ℕ) (o : Option ℕ)
    → ((q : ℕ) → Has xs q ↔ AreLinkedAt g p q) → AreFrom xs after rest
    → IfNone o ((q : ℕ) → Has rest q → ¬ P q) → IfNone o (HoldsNoMore (λ q. AreLinkedAt g p q × P q) after)
none_found P g p after xs rest (Some q) there from f = tt
none_found P g p after xs rest None there from f = λ r a h. f r ((from.each r).1 (a, (there r).1 h.0)) h.1
