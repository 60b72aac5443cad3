-- Which reports come next while the overlay heals.
use Rattle.std.proofs.Common.{◌≡◌, ◌<◌, ◌≤◌, ◌+◌, ℕ, zero, suc, List, [], ◌∷◌, length, take, get_or, refl, sym, subst}
use Rattle.std.proofs.Common.{◌∙◌, inl, inr, arith}
use Rattle.ov_ids.specs.Members.{Ascends, Has}
use Rattle.ov_ids.proofs.Members.{all_member}
use Rattle.ov_grow.specs.Growth.{Growth, AreLive}
use Rattle.ov_grow.specs.Phases.{AreFirst, HasNone, IsCrashedNeighbour}
use Rattle.ov_grow.specs.Growth.{IsFirstOf}
use Rattle.ov_grow.specs.Code.Standing.{HaveNone}

-- what is read within a list does not hang on the default
get_or-default : (ids : List ℕ) (i d e : ℕ) → i < length ids → get_or ids i d ≡ get_or ids i e
get_or-default [] i d e within = absurd (omega (arith, within))
get_or-default (y ∷ ids) zero d e within = refl
get_or-default (y ∷ ids) (suc i) d e within = get_or-default ids i d e (omega (arith, within))

-- the next one has the property no more than those before it
none_more : (P : ℕ → Type 0) (ids : List ℕ) (i x : ℕ) → i < length ids → x ≡ get_or ids i 0
    → HaveNone P (take i ids) → ¬ P x → HaveNone P (take (suc i) ids)
none_more P [] i x within is none not a has = absurd (omega (arith, within))
none_more P (y ∷ ids) zero x within is none not a (inl same) = λ p. not (subst P (sym (is ∙ same)) p)
none_more P (y ∷ ids) zero x within is none not a (inr more) = absurd more
none_more P (y ∷ ids) (suc i) x within is none not a (inl same) = none a (inl same)
none_more P (y ∷ ids) (suc i) x within is none not a (inr more) =
    none_more P ids i x (omega (arith, within)) is (λ b h. none b (inr h)) not a more

-- the same, of one place more
pub none_next : (P : ℕ → Type 0) (ids : List ℕ) (i x : ℕ) → i < length ids → x ≡ get_or ids i 0
    → HaveNone P (take i ids) → ¬ P x → HaveNone P (take (i + 1) ids)
none_next P ids i x within is none not =
    let after : suc i ≡ i + 1 = omega arith in
    subst (λ k. HaveNone P (take k ids)) after (none_more P ids i x within is none not)

has_item : (ids : List ℕ) (i : ℕ) → i < length ids → Has ids (get_or ids i 0)
has_item [] i within = absurd (omega (arith, within))
has_item (y ∷ ids) zero within = inl refl
has_item (y ∷ ids) (suc i) within = inr (has_item ids i (omega (arith, within)))

-- what has the property is no lower than the first that may have it
pub least_item : (P : ℕ → Type 0) (ids : List ℕ) (i : ℕ) → i < length ids → Ascends ids → HaveNone P (take i ids)
    → (a : ℕ) → Has ids a → P a → get_or ids i 0 ≤ a
least_item P [] i within ascend none a has p = absurd has
least_item P (y ∷ ids) zero within ascend none a (inl same) p = omega (arith, same)
least_item P (y ∷ ids) zero within ascend none a (inr more) p =
    let above : y < a = all_member (λ x. y < x) ids a ascend.0 more in omega (arith, above)
least_item P (y ∷ ids) (suc i) within ascend none a (inl same) p = absurd (none a (inl same) p)
least_item P (y ∷ ids) (suc i) within ascend none a (inr more) p =
    least_item P ids i (omega (arith, within)) ascend.1 (λ b h. none b (inr h)) a more p

-- the first that has the property
pub first_found : (P : ℕ → Type 0) (ids : List ℕ) (i x : ℕ) → i < length ids → x ≡ get_or ids i 0 → Ascends ids
    → HaveNone P (take i ids) → P x → IsFirstOf P ids x
first_found P ids i x within is ascend none p = record {
  has = subst (λ a. Has ids a) (sym is) (has_item ids i within);
  holds = p;
  least = λ a has q. subst (λ b. b ≤ a) (sym is) (least_item P ids i within ascend none a has q);
}

-- the item of a slice at a place
pub is_item : (ids : List ℕ) (i x : ℕ) → i < length ids → x ≡ get_or ids i x → x ≡ get_or ids i 0
is_item ids i x within is = is ∙ get_or-default ids i x 0 within

more_none : (P : ℕ → Type 0) (y : ℕ) (ids : List ℕ) → ¬ P y → HaveNone P ids → HaveNone P (y ∷ ids)
more_none P y ids not none a (inl same) = λ p. not (subst P (sym same) p)
more_none P y ids not none a (inr more) = none a more

-- all of a list that ends before a place
pub none_all : (P : ℕ → Type 0) (ids : List ℕ) (i : ℕ) → length ids ≤ i → HaveNone P (take i ids) → HaveNone P ids
none_all P [] i past none = λ a has. absurd has
none_all P (y ∷ ids) zero past none = absurd (omega (arith, past))
none_all P (y ∷ ids) (suc i) past none = more_none P y ids (none y (inl refl))
    (none_all P ids i (omega (arith, past)) (λ b h. none b (inr h)))

-- a live node that has a crashed one is among the live nodes
with_crashed : (s : Growth) (ids : List ℕ) (a b : ℕ) → AreLive s ids → IsCrashedNeighbour s a b → Has ids a
with_crashed s ids a b live (p, lives, has, gone) = live.each a (p, lives)

-- the first live node that has a crashed one, with the first such
pub first_pair : (s : Growth) (ids : List ℕ) (i node crashed : ℕ) → AreLive s ids → i < length ids
    → node ≡ get_or ids i 0 → HaveNone (λ a. (b : ℕ) × IsCrashedNeighbour s a b) (take i ids)
    → IsCrashedNeighbour s node crashed → ((b : ℕ) → IsCrashedNeighbour s node b → crashed ≤ b)
    → AreFirst s node crashed
first_pair s ids i node crashed live within is none has least = record {
  has = has;
  first_node = λ a b other. subst (λ n. n ≤ a) (sym is)
      (least_item (λ x. (c : ℕ) × IsCrashedNeighbour s x c) ids i within live.ascend none a
      (with_crashed s ids a b live other) (b, other));
  first_crashed = least;
}

-- no live node has a crashed one
pub no_pair : (s : Growth) (ids : List ℕ) (i : ℕ) → AreLive s ids → length ids ≤ i
    → HaveNone (λ a. (b : ℕ) × IsCrashedNeighbour s a b) (take i ids) → HasNone s
no_pair s ids i live past none a b other =
    none_all (λ x. (c : ℕ) × IsCrashedNeighbour s x c) ids i past none a (with_crashed s ids a b live other) (b, other)
