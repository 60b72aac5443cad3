-- A list of ids while it is taken in.
use Rattle.std.proofs.Common.{ℕ, List, [], ◌∷◌, ◌++◌, refl, append_assoc, append-nil}
use Rattle.ov_words.specs.Pick.{Choice, AreDrawn, Drawn}
use Rattle.ov_words.proofs.PickLemmas.{AreDrawn-append}
use Rattle.ov_views.specs.ViewsState.{ViewsState}
use Rattle.ov_views.specs.Sampling.{TakesIn, Integrates}

-- the ids that are not in `rest` any more are taken in, by the words from `before` to `now`: who takes the rest in
-- after them has taken all in
pub record Integrating (v : ViewsState) (ids sent before : List ℕ) (u : ViewsState) (rest left now : List ℕ)
    : Type 0 where
  pub choices : List Choice
  pub drawn : AreDrawn choices before now
  pub later : (more : List Choice) (w : ViewsState) → Integrates u rest left more w →
      Integrates v ids sent (choices ++ more) w

pub begun : (v : ViewsState) (ids sent before : List ℕ) → Integrating v ids sent before v ids sent before
begun v ids sent before = record { choices = []; drawn = refl; later = λ more w h. h }

pub integrated_more : (v : ViewsState) (ids sent before : List ℕ) (u : ViewsState) (x : ℕ) (rest left now : List ℕ)
    (t : ViewsState) (after then : List ℕ) →
    Integrating v ids sent before u (x ∷ rest) left now → Drawn now then (λ choices. TakesIn u x left choices t after) →
    Integrating v ids sent before t rest after then
integrated_more v ids sent before u x rest left now t after then s taken = record {
  choices = s.choices ++ taken.0;
  drawn = AreDrawn-append s.choices taken.0 before now then s.drawn taken.1;
  later = λ more w h. rw append_assoc (s.later (taken.0 ++ more) w (t, after, taken.0, more, taken.2, h, refl));
}

-- all ids are taken in
pub integrated_all : (v : ViewsState) (ids sent before : List ℕ) (u : ViewsState) (left now : List ℕ) →
    Integrating v ids sent before u [] left now → Drawn before now (λ choices. Integrates v ids sent choices u)
integrated_all v ids sent before u left now s = (s.choices ++ [], rw append-nil s.drawn, s.later [] u (refl, refl))
