-- A sample while it is drawn.
use Rattle.std.proofs.Common.{◌≡◌, ℕ, ◌+◌, List, [], ◌∷◌, ◌++◌, length, refl, ap, ◌∙◌, subst, arith}
use Rattle.std.proofs.lemmas.List.{length-append}
use Rattle.ov_ids.specs.Sets.{IsSet, IsIn, without, without_all}
use Rattle.ov_ids.proofs.Sets.{IsSet-without, length-without_less, length-without_set}
use Rattle.ov_words.specs.Pick.{Choice, AreDrawn}
use Rattle.ov_words.proofs.PickLemmas.{AreDrawn-append, picked_member, picked_word}
use Rattle.ov_views.specs.Sampling.{AreChosen}

-- so many ids are chosen from the set, by the words from `before` to `now`, and this is the rest of the set
pub record Sampling (set : List ℕ) (before now picked rest : List ℕ) : Type 0 where
  pub choices : List Choice
  pub drawn : AreDrawn choices before now
  pub chosen : AreChosen set picked choices
  pub remaining : rest ≡ without_all picked set
  pub ascends : IsSet rest
  pub words : length before ≡ length now + length picked
  pub counted : length set ≡ length rest + length picked

pub begun : (set before : List ℕ) → IsSet set → Sampling set before before [] set
begun set before up = record {
  choices = [];
  drawn = refl;
  chosen = refl;
  remaining = refl;
  ascends = up;
  words = omega arith;
  counted = omega arith;
}

chosen_more : (ids : List ℕ) (set : List ℕ) (x : ℕ) (choices : List Choice) → AreChosen set ids choices →
    IsIn (without_all ids set) x →
    AreChosen set (ids ++ x ∷ []) (choices ++ record { from = without_all ids set; member = x } ∷ [])
chosen_more [] set x choices none h =
    let one : Choice = record { from = set; member = x } in
    ([], (h, ap (λ (l : List Choice). l ++ one ∷ []) none), refl)
chosen_more (y ∷ ids) set x choices chosen h =
    let one : Choice = record { from = without_all ids (without y set); member = x } in (
      chosen.0 ++ one ∷ [],
      (chosen.1.0, ap (λ (l : List Choice). l ++ one ∷ []) chosen.1.1),
      chosen_more ids
          (without y set) x chosen.0 chosen.2 h,
    )

rest_more : (ids : List ℕ) (set : List ℕ) (x : ℕ) → without x (without_all ids set) ≡ without_all (ids ++ x ∷ []) set
rest_more [] set x = refl
rest_more (y ∷ ids) set x = rest_more ids (without y set) x

-- one id more, picked by the next word
pub sampled_more : (set before now later picked rest : List ℕ) (x : ℕ) → Sampling set before now picked rest →
    AreDrawn (record { from = rest; member = x } ∷ []) now later →
    Sampling set before later (picked ++ x ∷ []) (without x rest)
sampled_more set before now later picked rest x s drawn =
    let h : IsIn rest x = picked_member rest x now later drawn in
    let word : length later + 1 ≡ length now = picked_word rest x now later drawn in
    let P : List ℕ → Type 0 = λ r. AreDrawn (record { from = r; member = x } ∷ []) now later in
    let one : List Choice = record { from = without_all picked set; member = x } ∷ [] in
    let more : length (picked ++ x ∷ []) ≡ length picked + length (x ∷ []) = length-append picked (x ∷ []) in record {
      choices = s.choices ++ one;
      drawn = AreDrawn-append s.choices one before now later s.drawn (subst P s.remaining drawn);
      chosen = chosen_more picked set x s.choices s.chosen (subst (λ (r : List ℕ). IsIn r x) s.remaining h);
      remaining = ap (without x) s.remaining ∙ rest_more picked set x;
      ascends = IsSet-without x rest s.ascends;
      words = omega (arith, s.words);
      counted = omega (
        arith,
        s.counted,
        length-without_set x rest s.ascends,
        length-without_less x rest h,
        more,
      );
    }
