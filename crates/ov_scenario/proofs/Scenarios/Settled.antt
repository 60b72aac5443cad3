-- What lines without a fault give for the whole run.
use Rattle.std.proofs.Common.{◌≡◌, ◌∙◌, inl, inr, ℕ, List, [], ◌∷◌, ◌++◌, Option, Some, None, refl, ap, sym, subst}
use Rattle.std.specs.Option.{option_or}
use Rattle.ov_ids.specs.Members.{Has}
use Rattle.ov_ids.specs.ParamsState.{AreWithinLimits, ParamsState}
use Rattle.ov_ids.specs.declared.refill_rule.Refill.{Refill}
use Rattle.ov_ids.specs.declared.world_scale.Scale.{Scale}
use Rattle.ov_scenario.specs.Code.Judging.{params_in, refill_in, scale_in, seed_in, first_in}
use Rattle.ov_scenario.specs.Scenarios.{AreParams, AreWithin, AreFaulty, AreFaultless, AreParamsOf, HasKind, IsSetBy}
use Rattle.ov_scenario.specs.Scenarios.{IsWrong, before_of, default_params}
use Rattle.ov_scenario.specs.Statements.{Stated}
use Rattle.ov_scenario.specs.declared.scenario_fault.LineFault.{LineFault}
use Rattle.ov_scenario.specs.declared.statement.Statement.{Statement}
use Rattle.ov_scenario.specs.declared.statement.Statement.TheVariants as says
use Rattle.ov_scenario.proofs.Scenarios.Judged.{one_is_wrong}

-- ---- what is given

-- what is found first is given by a line
found :
    {A : Type 0} (given : Option Statement → Option A) (lines : List Stated) (x : A)
    → first_in given lines ≡ Some x → (line : Stated) × Has lines line × (given line.says ≡ Some x)
found given [] x is = absurd cc
found {A} given (line ∷ more) x is = by (given line.says) refl (found given more x) is where
  by :
      (own : Option A) → given line.says ≡ own
      → (first_in given more ≡ Some x → (other : Stated) × Has more other × (given other.says ≡ Some x))
      → option_or own (first_in given more) ≡ Some x
      → (other : Stated) × Has (line ∷ more) other × (given other.says ≡ Some x)
  by (Some y) e later same = (line, inl refl, e ∙ same)
  by None e later same = let (other, has, its) = later same in (other, inr has, its)

-- where nothing is found no line gives anything
missing :
    {A : Type 0} (given : Option Statement → Option A) (lines : List Stated) → first_in given lines ≡ None
    → (line : Stated) → Has lines line → given line.says ≡ None
missing given [] is line has = absurd has
missing {A} given (first ∷ more) is line has = by (given first.says) refl (missing given more) is has where
  by :
      (own : Option A) → given first.says ≡ own
      → (first_in given more ≡ None → (line : Stated) → Has more line → given line.says ≡ None)
      → option_or own (first_in given more) ≡ None
      → Has (first ∷ more) line → given line.says ≡ None
  by (Some y) e later none there = absurd cc
  by None e later none (inl same) = ap (λ (l : Stated). given l.says) (sym same) ∙ e
  by None e later none (inr there) = later none line there

-- ---- which lines give something

-- a line of this kind gives what it says, and no other line gives anything
pub record Gives {A : Type 0} (kind : A → Statement) (given : Option Statement → Option A) : Type 0 where
  pub gives : (x : A) → given (Some (kind x)) ≡ Some x
  pub says : (said : Option Statement) (x : A) → given said ≡ Some x → said ≡ Some (kind x)

pub gives_params : Gives says.Params params_in
gives_params = record { gives = λ x. refl; says = by } where
  by : (said : Option Statement) (x : List ℕ) → params_in said ≡ Some x → said ≡ Some (says.Params x)
  by (Some (says.Params own)) x is = cc
  by other x is = absurd cc

pub gives_seed : Gives says.Seed seed_in
gives_seed = record { gives = λ x. refl; says = by } where
  by : (said : Option Statement) (x : ℕ) → seed_in said ≡ Some x → said ≡ Some (says.Seed x)
  by (Some (says.Seed own)) x is = cc
  by other x is = absurd cc

pub gives_refill : Gives says.Refill refill_in
gives_refill = record { gives = λ x. refl; says = by } where
  by : (said : Option Statement) (x : Refill) → refill_in said ≡ Some x → said ≡ Some (says.Refill x)
  by (Some (says.Refill own)) x is = cc
  by other x is = absurd cc

pub gives_scale : Gives says.Scale scale_in
gives_scale = record { gives = λ x. refl; says = by } where
  by : (said : Option Statement) (x : Scale) → scale_in said ≡ Some x → said ≡ Some (says.Scale x)
  by (Some (says.Scale own)) x is = cc
  by other x is = absurd cc

-- lines that give nothing have none of the kind
none_given :
    {A : Type 0} (kind : A → Statement) (given : Option Statement → Option A) → Gives kind given
    → (lines : List Stated) → first_in given lines ≡ None → ¬ HasKind kind lines
none_given kind given g lines is (line, x, has, its) =
    absurd (cc (sym (missing given lines is line has) ∙ ap given its ∙ g.gives x))

-- what lines set, by what they give
pub set_given :
    {A : Type 0} (kind : A → Statement) (given : Option Statement → Option A) (usual : A) → Gives kind given
    → (lines : List Stated) (x : A) → first_in given lines ≡ Some x → IsSetBy kind usual lines x
unfolding IsSetBy
set_given kind given usual g lines x is =
    let (line, has, its) = found given lines x is in inl (line, has, g.says line.says x its)

pub none_set :
    {A : Type 0} (kind : A → Statement) (given : Option Statement → Option A) (usual : A) → Gives kind given
    → (lines : List Stated) → first_in given lines ≡ None → IsSetBy kind usual lines usual
unfolding IsSetBy
none_set kind given usual g lines is = inr (none_given kind given g lines is, refl)

-- ---- parameters

-- the parameters that are given, within their limits
pub params_given :
    (lines : List Stated) (numbers : List ℕ) (p : ParamsState) → first_in params_in lines ≡ Some numbers
    → AreParams numbers p
    → AreParamsOf lines p
unfolding AreParamsOf
params_given lines numbers p is are =
    let (line, has, its) = found params_in lines numbers is in
    inl (line, numbers, has, gives_params.says line.says numbers its, are)

-- the parameters of lines without a fault are within their limits
within :
    (passed lines : List Stated) (line : Stated) (numbers : List ℕ) → AreFaulty passed lines [] → Has lines line
    → line.says ≡ Some (says.Params numbers)
    → ¬ (¬ AreWithin numbers)
unfolding AreFaulty
within passed [] line numbers right has is beyond = absurd has
within passed (first ∷ more) line numbers (inr (f, later, wrong, is_none, rest)) has is beyond = absurd cc
within passed (first ∷ more) line numbers (inl (right, rest)) (inl same) is beyond =
    let says = ap (λ (l : Stated). l.says) same ∙ is in
    one_is_wrong (before_of passed) numbers more beyond
    (subst (λ s. (f : LineFault) → ¬ IsWrong (before_of passed) s more f) says right)
within passed (first ∷ more) line numbers (inl (right, rest)) (inr has) is beyond =
    within (passed ++ first ∷ []) more line numbers rest has is beyond

-- so there are no parameters out of their limits
pub params_beyond :
    (lines : List Stated) (numbers : List ℕ) (p : ParamsState) → AreFaultless lines
    → first_in params_in lines ≡ Some numbers
    → (¬ AreWithin numbers) → AreParamsOf lines p
params_beyond lines numbers p right is beyond =
    let (line, has, its) = found params_in lines numbers is in
    absurd (within [] lines line numbers right has (gives_params.says line.says numbers its) beyond)

pub no_params : (lines : List Stated) → first_in params_in lines ≡ None → AreParamsOf lines default_params
unfolding AreParamsOf
no_params lines is = inr (none_given says.Params params_in gives_params lines is, refl)

-- ---- the rule at DISCONNECT and the scale

-- the limits leave the rule and the scale open
pub any_settings :
    (p : ParamsState) (rule : Refill) (scale : Scale) → AreWithinLimits p
    → AreWithinLimits (record p { refill = rule; scale = scale })
any_settings p rule scale are = record {
  active_low = are.active_low;
  active_high = are.active_high;
  passive_low = are.passive_low;
  passive_high = are.passive_high;
  arwl_high = are.arwl_high;
  prwl_high = are.prwl_high;
  ka_high = are.ka_high;
  kp_high = are.kp_high;
  shuffle_ttl_low = are.shuffle_ttl_low;
  shuffle_ttl_high = are.shuffle_ttl_high;
}

-- and so do the parameters of lines
pub with_settings :
    (lines : List Stated) (p : ParamsState) (rule : Refill) (scale : Scale) → AreParamsOf lines p
    → AreParamsOf lines (record p { refill = rule; scale = scale })
unfolding AreParamsOf
with_settings lines p rule scale (inl (line, numbers, has, its, are)) =
    inl (line, numbers, has, its, (are.0, any_settings p rule scale are.1))
with_settings lines p rule scale (inr (none, are)) =
    inr (none, ap (λ (q : ParamsState). record q { refill = rule; scale = scale }) are)

-- ---- line by line

-- what the lines so far give, or else those that are left, is what all lines give
abbrev pub GivesSoFar : {A : Type 0} → (Option Statement → Option A) → List Stated → Option A → List Stated → Type 0
GivesSoFar given all so_far left = option_or so_far (first_in given left) ≡ first_in given all

-- one line more
pub gives_more :
    {A : Type 0} (given : Option Statement → Option A) (all : List Stated) (so_far then : Option A)
    (now later : List Stated) (line : Stated)
    → GivesSoFar given all so_far now → now ≡ line ∷ later → then ≡ option_or so_far (given line.says)
    → GivesSoFar given all then later
gives_more {A} given all so_far then now later line before split is =
    ap (λ o. option_or o (first_in given later)) is
    ∙ assoc so_far (given line.says) (first_in given later)
    ∙ ap (λ ls. option_or so_far (first_in given ls)) (sym split)
    ∙ before where
      assoc : (a b c : Option A) → option_or (option_or a b) c ≡ option_or a (option_or b c)
      assoc None b c = refl
      assoc (Some x) b c = refl

-- no line is left
pub all_give :
    {A : Type 0} (given : Option Statement → Option A) (all : List Stated) (so_far : Option A) (left : List Stated)
    → GivesSoFar given all so_far left → left ≡ []
    → so_far ≡ first_in given all
all_give {A} given all so_far left before none =
    sym (nothing so_far) ∙ ap (λ ls. option_or so_far (first_in given ls)) (sym none) ∙ before where
      nothing : (a : Option A) → option_or a None ≡ a
      nothing None = refl
      nothing (Some x) = refl
