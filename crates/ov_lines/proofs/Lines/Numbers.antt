-- Numbers, one after the other, by what stands first and what is left.
use Rattle.std.proofs.Common.{◌≡◌, ◌==◌, ℕ, List, [], ◌∷◌, length, drop, Option, Some, None, IfSome, IfNone}
use Rattle.std.proofs.Common.{if◌then◌else◌, refl, ap, sym, arith}
use Rattle.std.proofs.lemmas.Grind.{common_steps}
use Rattle.ov_ids.specs.Options.{◌>>=◌}
use Rattle.ov_ids.specs.Workers.{MayWork}
use Rattle.ov_lines.specs.Lines.{number_within, one, two, three, ids_of, one_list, as_workers}
use Rattle.ov_lines.specs.Code.Spaced.{first_number, first_list}
use Rattle.ov_lines.proofs.Lines.Parted.{not_empty}

pub one_number : (bits : ℕ) (words : List (List ℕ))
    → one bits words ≡ (if length (drop 1 words) == 0 then first_number bits words else None)
one_number bits [] = refl
one_number bits (v ∷ []) = refl
one_number bits (v ∷ w ∷ more) = sym (ap (λ t. if t then number_within bits v else None) (not_empty (length more)))

pub list_of_ids : (words : List (List ℕ))
    → one_list words ≡ (if length (drop 1 words) == 0 then first_list words else None)
list_of_ids [] = refl
list_of_ids (v ∷ []) = refl
list_of_ids (v ∷ w ∷ more) = sym (ap (λ t. if t then ids_of v else None) (not_empty (length more)))

pub two_numbers : (words : List (List ℕ))
    → two words ≡ (first_number 32 words >>= λ a. one 32 (drop 1 words) >>= λ b. Some (a, b))
two_numbers [] = refl
two_numbers (v ∷ more) = refl

pub three_numbers : (words : List (List ℕ))
    → three words ≡ (first_number 32 words >>= λ a. two (drop 1 words) >>= λ b. Some (a, b))
three_numbers [] = refl
three_numbers (v ∷ more) = refl

-- whether there may be so many workers
pub workers_judged : (n : ℕ) (told : Option ℕ) → IfSome told (λ w. (w ≡ n) × MayWork n) → IfNone told (¬ MayWork n)
    → told ≡ as_workers n
workers_judged n (Some w) (same, may) none = grind (arith, common_steps)
workers_judged n None some not = grind (arith, common_steps)
