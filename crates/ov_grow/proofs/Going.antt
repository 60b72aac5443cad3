-- Growing goes on: steps put together, and what single calls give.
use Rattle.std.proofs.Common.{◌≡◌, ℕ, Bool, [], ◌++◌, refl, sym, ap, subst, append_assoc}
use Rattle.std.proofs.Common.{append-nil, ◌∙◌, inl, inr}
use Rattle.std.specs.Prelude.{Result, IfErr, IsErrAnd}
use Rattle.std.proofs.lemmas.Result.{err_from_is_err_and}
use Rattle.rand_pcg.specs.Lcg.{Lcg}
use Rattle.ov_snap.specs.CoreState.{CoreState, KeepsReports}
use Rattle.ov_grow.specs.Choices.{one_of, comes_true, after_chance, later}
use Rattle.ov_grow.specs.Growth.{Growth, Chooses, Tries}
use Rattle.ov_grow.specs.Code.Standing.{Goes, IsNoWay, growth_of}
use Rattle.ov_grow.specs.declared.fault.GrowFault.{GrowFault}
use Rattle.ov_grow.specs.declared.growth_in_progress.Growing.{Growing}

-- the same reports are kept
pub kept_same : (b u : CoreState) → u.reports ≡ b.reports → KeepsReports b u
kept_same b u same = ([], same ∙ sym (append-nil b.reports))

-- reports that are kept, and then kept again
pub kept_trans : (b t u : CoreState) → KeepsReports b t → KeepsReports t u → KeepsReports b u
kept_trans b t u (first, one) (second, two) =
    (first ++ second, two ∙ (ap (λ r. r ++ second) one ∙ append_assoc b.reports first second))

-- the same way, under another name
pub goes_as : (P Q : Growth → Growth → Type 0) (b u : Growing) → (P (growth_of b) (growth_of u) → Q (growth_of b)
    (growth_of u))
    → Goes P b u → Goes Q b u
goes_as P Q b u put gone = record { way = put gone.way; kept = gone.kept }

-- only choices were drawn
pub goes_by_choice : (P : Growth → Growth → Type 0) (b : Growing) (left : Lcg)
    → P (growth_of b) (record (growth_of b) { choices = left }) → Goes P b (record b { choices = left })
goes_by_choice P b left way = record { way = way; kept = kept_same b.recording.core b.recording.core refl }

-- a chance was tried
pub tried : (b : Growing) (p n : ℕ) (comes : Bool) (left : Lcg)
    → n ≡ p → comes ≡ comes_true n b.choices → left ≡ after_chance n b.choices
    → Goes (λ s u. Tries p s comes u) b (record b { choices = left })
tried b p n comes left same value rest = goes_by_choice (λ s u. Tries p s comes u) b left (
  value ∙ ap (λ m. comes_true m b.choices) same,
  ap (λ l. record (growth_of b) { choices = l }) (rest ∙ ap (λ m. after_chance m b.choices) same),
)

-- one of n was chosen
pub chosen : (b : Growing) (n m place : ℕ) (left : Lcg)
    → m ≡ n → place ≡ one_of m b.choices → left ≡ later b.choices
    → Chooses n (growth_of b) place (growth_of (record b { choices = left }))
chosen b n m place left same value rest = (
  value ∙ ap (λ m. one_of m b.choices) same,
  ap (λ l. record (growth_of b) { choices = l }) rest,
)

-- the same place, seen as a way
pub goes_still : (P : Growth → Growth → Type 0) (b : Growing) → P (growth_of b) (growth_of b) → Goes P b b
goes_still P b way = record { way = way; kept = kept_same b.recording.core b.recording.core refl }

-- one way and then another, of these very places
pub goes_on : (P Q R : Growth → Growth → Type 0) (b t u : Growing)
    → (P (growth_of b) (growth_of t) → Q (growth_of t) (growth_of u) → R (growth_of b) (growth_of u))
    → Goes P b t → Goes Q t u → Goes R b u
goes_on P Q R b t u put first second = record {
  way = put first.way second.way;
  kept = kept_trans b.recording.core t.recording.core u.recording.core first.kept second.kept;
}

-- a fault is passed on as it is
pub passes_on : {X : Type 0} (Q : GrowFault → Type 0) (result : Result X GrowFault) (fault : GrowFault)
    → IsErrAnd result (λ e. e ≡ fault) → Q fault → IfErr result Q
passes_on Q result fault err holds =
    let p = err_from_is_err_and result err in
    subst (λ r. IfErr r Q) (sym p.1) (subst Q (sym p.2) holds)

-- a way leads nowhere if a part of it leads nowhere
pub no_way_by : (Part Way : Growth → Growth → Type 0) (t b : Growing) (fault : GrowFault)
    → ((u : Growth) → Way (growth_of b) u → (v : Growth) × Part (growth_of t) v)
    → IsNoWay Part t fault → IsNoWay Way b fault
no_way_by Part Way t b fault part (inl memory) = inl memory
no_way_by Part Way t b fault part (inr none) = inr (λ u way. let found = part u way in none found.0 found.1)

-- growing has come from b to t on this way, and what is left of the way is known: who goes the rest has gone the whole
-- way, and wherever the whole way leads, the rest leads
pub record IsOn (Way Left : Growth → Growth → Type 0) (b t : Growing) : Type 0 where
  pub goes : (u : Growing) → Goes Left t u → Goes Way b u
  pub leads : (u : Growth) → Way (growth_of b) u → Left (growth_of t) u

-- nothing was done of the way
pub on_begun : (Way : Growth → Growth → Type 0) (b : Growing) → IsOn Way Way b b
on_begun Way b = record { goes = λ u gone. gone; leads = λ u way. way }

-- a step more on the way
pub on_more : (Way Left Step Rest : Growth → Growth → Type 0) (b t v : Growing) → IsOn Way Left b t
    → ((u : Growth) → Step (growth_of t) (growth_of v) → Rest (growth_of v) u → Left (growth_of t) u)
    → ((u : Growth) → Step (growth_of t) (growth_of v) → Left (growth_of t) u → Rest (growth_of v) u)
    → Goes Step t v → IsOn Way Rest b v
on_more Way Left Step Rest b t v so put rest did = record {
  goes = λ u gone. so.goes u (goes_on Step Rest Left t v u (λ step left. put (growth_of u) step left) did gone);
  leads = λ u way. rest u did.way (so.leads u way);
}

-- nothing is left of the way
pub on_all : (Way Left : Growth → Growth → Type 0) (b t : Growing) → IsOn Way Left b t
    → Left (growth_of t) (growth_of t) → Goes Way b t
on_all Way Left b t so end = so.goes t (goes_still Left t end)

-- what is left of the way leads nowhere
pub on_nowhere : (Way Left Part : Growth → Growth → Type 0) (b t : Growing) (fault : GrowFault) → IsOn Way Left b t
    → ((u : Growth) → Left (growth_of t) u → (v : Growth) × Part (growth_of t) v)
    → IsNoWay Part t fault → IsNoWay Way b fault
on_nowhere Way Left Part b t fault so part none =
    no_way_by Part Way t b fault (λ u way. part u (so.leads u way)) none
