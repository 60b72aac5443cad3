-- The first settled piece with a cut, after one more piece was examined.
use Rattle.std.proofs.Common.{◌≡◌, ◌⊎◌, inl, inr, ℕ, List, [], ◌∷◌, ◌++◌, Option, Some, None, refl, sym, subst, ap}
use Rattle.std.proofs.Common.{take}
use Rattle.std.proofs.Common.{length, get_or, ◌<◌, ◌+◌, ◌∙◌, append_assoc, append-nil}
use Rattle.std.proofs.lemmas.List.{take_more}
use Rattle.ov_ids.specs.Members.{Has}
use Rattle.ov_ids.proofs.Members.{has_append_left, has_append_right, has_append_cases}
use Rattle.ov_fans.specs.Theorems.{IsNoCut}
use Rattle.ov_fans.specs.declared.piece_result.Found.{Found}
use Rattle.ov_fans.specs.declared.piece_result.Found.TheVariants.{Linked, Paths, Cut}
use Rattle.ov_fans.specs.declared.piece_result.Settled.{Settled}
use Rattle.ov_even.specs.Order.{ComesBefore}
use Rattle.ov_even.specs.Hauls.{IsInHauls}
use Rattle.ov_even.specs.declared.worker_haul.Haul.{Haul}
use Rattle.ov_even.specs.Code.Cuts.{IsFirstCut, IsEarlierCut, all_settled}
use Rattle.ov_even.proofs.PieceOrder.Comparing.{before_trans, before_once}

-- a result is a cut or is not
pub cut_or_not : (found : Found) → IsNoCut found ⊎ (¬ IsNoCut found)
cut_or_not Linked = inl tt
cut_or_not (Paths paths) = inl tt
cut_or_not (Cut parting) = inr (λ h. h)

pub not_cut : (found : Found) → ¬ (¬ IsNoCut found) → IsNoCut found
not_cut found n = elim (cut_or_not found) [ inl h ↦ h | inr h ↦ absurd (n h) ]

pub cut_earlier : (seen : List Settled) (known : Option Settled) (t : Settled) → IsFirstCut seen known
    → IsEarlierCut t known → IsFirstCut (seen ++ t ∷ []) (Some t)
cut_earlier seen None t first e = record {
  there = has_append_right seen (t ∷ []) t (inl refl);
  cut = e;
  lowest = λ u h cut before. elim (has_append_cases seen (t ∷ []) u h) [
    | inl k ↦ cut (first u k)
    | inr k ↦ elim k [
      | inl d ↦ before_once t.piece (subst (λ (v : Settled). ComesBefore v.piece t.piece) (sym d) before)
      | inr k ↦ k
    ]
  ];
}
cut_earlier seen (Some s) t first e = record {
  there = has_append_right seen (t ∷ []) t (inl refl);
  cut = e.0;
  lowest = λ u h cut before. elim (has_append_cases seen (t ∷ []) u h) [
    | inl k ↦ first.lowest u k cut (before_trans u.piece t.piece s.piece before e.1)
    | inr k ↦ elim k [
      | inl d ↦ before_once t.piece (subst (λ (v : Settled). ComesBefore v.piece t.piece) (sym d) before)
      | inr k ↦ k
    ]
  ];
}

pub cut_stays : (seen : List Settled) (known : Option Settled) (t : Settled) → IsFirstCut seen known
    → ¬ IsEarlierCut t known → IsFirstCut (seen ++ t ∷ []) known
cut_stays seen None t first n = λ u h. elim (has_append_cases seen (t ∷ []) u h) [
  | inl k ↦ first u k
  | inr k ↦ elim k [ inl d ↦ subst (λ (v : Settled). IsNoCut v.found) d (not_cut t.found n) | inr k ↦ absurd k ]
]
cut_stays seen (Some s) t first n = record {
  there = has_append_left seen (t ∷ []) s first.there;
  cut = first.cut;
  lowest = λ u h cut before. elim (has_append_cases seen (t ∷ []) u h) [
    | inl k ↦ first.lowest u k cut before
    | inr k ↦ elim k [
      | inl d ↦ n (subst (λ (v : Settled). IsEarlierCut v (Some s)) (sym d) (cut, before))
      | inr k ↦ k
    ]
  ];
}

all_push : (hauls : List Haul) (haul : Haul) → all_settled (hauls ++ haul ∷ []) ≡ all_settled hauls ++ haul.pieces.items
all_push [] haul = append-nil haul.pieces.items
all_push (h ∷ hauls) haul = ap (λ l. h.pieces.items ++ l) (all_push hauls haul)
    ∙ sym (append_assoc h.pieces.items (all_settled hauls) haul.pieces.items)

-- one more haul
pub all_more : (hauls : List Haul) (i : ℕ) (d : Haul) → i < length hauls
    → all_settled (take (i + 1) hauls) ≡ all_settled (take i hauls) ++ (get_or hauls i d).pieces.items
all_more hauls i d l = ap all_settled (take_more hauls i d l) ∙ all_push (take i hauls) (get_or hauls i d)

-- a piece in the hauls is in the list of all settled pieces
pub among_all : (hauls : List Haul) (s : Settled) → IsInHauls hauls s → Has (all_settled hauls) s
among_all [] s h = absurd h.1
among_all (haul ∷ hauls) s h = elim h.1 [
  | inl e ↦ has_append_left haul.pieces.items (all_settled hauls) s
      (subst (λ (x : Haul). Has x.pieces.items s) (sym e) h.2)
  | inr k ↦ has_append_right haul.pieces.items (all_settled hauls) s (among_all hauls s (h.0, k, h.2))
]

pub in_hauls : (hauls : List Haul) (s : Settled) → Has (all_settled hauls) s → IsInHauls hauls s
in_hauls [] s h = absurd h
in_hauls (haul ∷ hauls) s h = elim (has_append_cases haul.pieces.items (all_settled hauls) s h) [
  | inl k ↦ (haul, inl refl, k)
  | inr k ↦ let r = in_hauls hauls s k in (r.0, inr r.1, r.2)
]

-- the first items of a list and one more
pub one_more : {X : Type 0} (seen xs : List X) (i : ℕ) (t : X) → i < length xs → t ≡ get_or xs i t
    → seen ++ take (i + 1) xs ≡ (seen ++ take i xs) ++ t ∷ []
one_more seen xs i t l e =
    ap (λ ys. seen ++ ys) (take_more xs i t l ∙ ap (λ x. take i xs ++ x ∷ []) (sym e))
    ∙ sym (append_assoc seen (take i xs) (t ∷ []))
