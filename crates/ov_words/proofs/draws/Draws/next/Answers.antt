-- If no listed word is left, the next one is made.
use Rattle.std.proofs.Common.{◌≡◌, ◌∙◌, ◌<◌, ◌-◌, ◌++◌, ◌∷◌, [], ℕ, List, length, ap, subst, sym, arith}
use Rattle.std.proofs.lemmas.Grind.{common_steps}
use Rattle.rand_core.specs.Steps.{first_words}
use Rattle.rand_pcg.specs.Pcg.{pcg64}
use Rattle.ov_words.proofs.Made.{length_left, next_made}
use Rattle.ov_words.proofs.draws.Draws.next.Goals as goal

pub overflow_sub-self : goal.overflow_sub-self
overflow_sub-self c =
    let d = c.self.inside in
    let none : d.listed.now ≡ [] = grind (arith, common_steps) in
    let some : 0 < length (d.listed.now ++ first_words pcg64 d.more d.generator) =
    subst (λ (l : List ℕ). 0 < length l) (sym c.self.view_is) c.requires in
    let left = length_left d.listed.now d.more d.generator in
    let empty = ap length none in
    omega (arith, some, left, empty)

pub returns-in-None : goal.returns-in-None
returns-in-None c =
    let d = c.self.inside in
    let none : d.listed.now ≡ [] = grind (arith, common_steps) in
    let some : 0 < length (d.listed.now ++ first_words pcg64 d.more d.generator) =
    subst (λ (l : List ℕ). 0 < length l) (sym c.self.view_is) c.requires in
    let left = length_left d.listed.now d.more d.generator in
    let empty = ap length none in
    let more : 0 < d.more = omega (arith, some, left, empty) in
    let made = next_made d.more d.generator c.next_word.new.self c.next_word.result more
    c.next_word.ensures in
    sym c.self.view_is
    ∙ ap (λ (l : List ℕ). l ++ first_words pcg64 d.more d.generator) none
    ∙ made
    ∙ ap (λ (l : List ℕ). c.next_word.result ∷ (l ++ first_words pcg64 (d.more - 1) c.next_word.new.self)) (sym none)
