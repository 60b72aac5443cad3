-- Lines that are judged one after the other, by what those before them tell.
use Rattle.std.proofs.Common.{◌≡◌, ◌∙◌, inl, inr, ℕ, Bool, true, false, if◌then◌else◌, List, [], ◌∷◌, ◌++◌}
use Rattle.std.proofs.Common.{append_assoc, append-nil, Option, Some, None, refl, ap, sym, subst}
use Rattle.std.specs.Option.{option_or}
use Rattle.std.specs.Prelude.{option_map, option_to_list}
use Rattle.ov_scenario.specs.Code.Judging.{or_next, with_next, Judges, Tells, faulty_of}
use Rattle.ov_scenario.specs.Scenarios.{first_of, is_event, is_params, is_refill, is_scale, is_seed, before_of}
use Rattle.ov_scenario.specs.Scenarios.{AreWithin, IsTooLate, IsWrong, IsWrongIn, IsWrongOutside}
use Rattle.ov_scenario.specs.Scenarios.{AreFaulty, IsFirstAfter, IsFirstFaulty}
use Rattle.ov_scenario.specs.Sections.{open_from, open_next}
use Rattle.ov_scenario.specs.Statements.{Stated}
use Rattle.ov_scenario.specs.declared.judged_line_iterator.Judged.{Judged}
use Rattle.ov_scenario.specs.declared.judged_line_iterator.Judging.{Judging}
use Rattle.ov_scenario.specs.declared.line_judging.Before.{Before}
use Rattle.ov_scenario.specs.declared.open_block.OpenBlock.{OpenBlock}
use Rattle.ov_scenario.specs.declared.scenario_fault.FaultyLine.{FaultyLine}
use Rattle.ov_scenario.specs.declared.scenario_fault.LineFault.{LineFault}
use Rattle.ov_scenario.specs.declared.scenario_fault.LineFault.TheVariants as fault
use Rattle.ov_scenario.specs.declared.scenario_fault.Setting.{Setting}
use Rattle.ov_scenario.specs.declared.scenario_fault.Setting.TheVariants as sets
use Rattle.ov_scenario.specs.declared.statement.Statement.{Statement}
use Rattle.ov_scenario.specs.declared.statement.Statement.TheVariants as says

-- ---- one line

-- a setting that does not come too late stands after no event, and after none of its kind
pub in_time :
    (s : Setting) (event same : Option ℕ) → ((f : LineFault) → ¬ IsTooLate s event same f)
    → (event ≡ None) × (same ≡ None)
in_time s (Some n) same none = absurd (none (fault.BehindEvent s n) refl)
in_time s None (Some n) none = absurd (none (fault.SetBefore s n) refl)
in_time s None None none = (refl, refl)

-- parameters that come in time, and are out of their limits
pub params_beyond :
    (before : Before) (numbers : List ℕ) → ((f : LineFault) → ¬ IsTooLate sets.Params before.event before.params f)
    → (¬ AreWithin numbers)
    → IsWrongOutside before (says.Params numbers) [] (fault.OutOfLimits numbers)
params_beyond before numbers none beyond =
    let free = in_time sets.Params before.event before.params none in
    inr (free.0, free.1, beyond, refl)

-- parameters out of their limits are at fault, whichever their fault
pub one_is_wrong :
    (before : Before) (numbers : List ℕ) (after : List Stated) → (¬ AreWithin numbers)
    → ¬ ((f : LineFault) → ¬ IsWrong before (Some (says.Params numbers)) after f)
one_is_wrong before numbers after beyond right = by before.block right where
  by : (block : Option OpenBlock) → ((f : LineFault) → ¬ IsWrongIn block before (says.Params numbers) after f) → ⊥
  by (Some block) right = right (fault.NotHeld block.together) refl
  by None right =
      let free = in_time sets.Params before.event before.params (λ f late. right f (inl late)) in
      right (fault.OutOfLimits numbers) (inr (free.0, free.1, beyond, refl))

-- the first line of a kind, with one line more
pub first_next :
    (is_kind : Option Statement → Bool) (lines : List Stated) (line : Stated)
    → or_next is_kind (first_of is_kind lines) line ≡ first_of is_kind (lines ++ line ∷ [])
first_next is_kind [] line = refl
first_next is_kind (other ∷ lines) line =
    by (is_kind other.says) (is_kind line.says) (first_next is_kind lines line) where
      by :
          (own last : Bool)
          → (if last then option_or (first_of is_kind lines) (Some line.number) else first_of is_kind lines)
          ≡ first_of is_kind (lines ++ line ∷ [])
          → (if last then option_or (if own then Some other.number else first_of is_kind lines) (Some line.number)
          else (if own then Some other.number else first_of is_kind lines))
          ≡ (if own then Some other.number else first_of is_kind (lines ++ line ∷ []))
      by true true same = refl
      by true false same = refl
      by false last same = same

-- the block that is open, with one line more
pub open_more :
    (open_before : Option OpenBlock) (lines : List Stated) (line : Stated)
    → open_next (open_from open_before lines) line.number line.says ≡ open_from open_before (lines ++ line ∷ [])
unfolding open_from
open_more open_before [] line = refl
open_more open_before (other ∷ lines) line = open_more (open_next open_before other.number other.says) lines line

-- what is known of lines, by its parts
known_by : (event params seed refill scale : Option ℕ) → Option OpenBlock → Before
known_by event params seed refill scale block = record {
  event = event;
  params = params;
  seed = seed;
  refill = refill;
  scale = scale;
  block = block;
}

before_next : (lines : List Stated) (line : Stated) → with_next (before_of lines) line ≡ before_of (lines ++ line ∷ [])
unfolding known_by
before_next lines line =
    let old = with_next (before_of lines) line in
    let new = before_of (lines ++ line ∷ []) in
    ap (λ e. known_by e old.params old.seed old.refill old.scale old.block) (first_next is_event lines line)
    ∙ ap (λ p. known_by new.event p old.seed old.refill old.scale old.block) (first_next is_params lines line)
    ∙ ap (λ s. known_by new.event new.params s old.refill old.scale old.block) (first_next is_seed lines line)
    ∙ ap (λ r. known_by new.event new.params new.seed r old.scale old.block) (first_next is_refill lines line)
    ∙ ap (λ s. known_by new.event new.params new.seed new.refill s old.block) (first_next is_scale lines line)
    ∙ ap (λ o. known_by new.event new.params new.seed new.refill new.scale o) (open_more None lines line)

-- ---- all lines

-- with the lines at fault of those that are left, these are the lines at fault of all lines. Of the lines before those
-- that are left this is known
pub record JudgedSoFar (all left : List Stated) (before : Before) (faulty : List FaultyLine) : Type 0 where
  pub passed : List Stated
  pub known : before ≡ before_of passed
  pub whole : (later : List FaultyLine) → AreFaulty passed left later → AreFaulty [] all (faulty ++ later)

pub begun :
    (all left : List Stated) (before : Before) (faulty : List FaultyLine) → left ≡ all → before ≡ before_of []
    → faulty ≡ []
    → JudgedSoFar all left before faulty
begun all left before faulty same known none = record {
  passed = [];
  known = known;
  whole = λ later is.
      subst (λ fs. AreFaulty [] all (fs ++ later)) (sym none)
      (subst (λ (ls : List Stated). AreFaulty [] ls later) same is);
}

pub fault_more :
    (all left after : List Stated) (line : Stated) (f : LineFault) (before next : Before)
    (faulty gained : List FaultyLine)
    → JudgedSoFar all left before faulty → left ≡ line ∷ after → IsWrong before line.says after f
    → next ≡ with_next before line → gained ≡ faulty ++ record { line = line.number; fault = f } ∷ []
    → JudgedSoFar all after next gained
unfolding AreFaulty
fault_more all left after line f before next faulty gained so_far split wrong steps gains = record {
  passed = so_far.passed ++ line ∷ [];
  known = steps ∙ ap (λ (b : Before). with_next b line) so_far.known ∙ before_next so_far.passed line;
  whole = λ later is.
      let wrong_there = subst (λ (b : Before). IsWrong b line.says after f) so_far.known wrong in
      let own : AreFaulty so_far.passed (line ∷ after) (record { line = line.number; fault = f } ∷ later) =
      inr (f, later, wrong_there, refl, is) in
      let joined = so_far.whole (record { line = line.number; fault = f } ∷ later)
      (subst (λ (ls : List Stated). AreFaulty so_far.passed ls (record { line = line.number; fault = f } ∷ later))
      (sym split) own) in
      subst (λ fs. AreFaulty [] all fs)
      (sym (append_assoc faulty (record { line = line.number; fault = f } ∷ []) later)
      ∙ ap (λ fs. fs ++ later) (sym gains))
      joined;
}

pub faultless_more :
    (all left after : List Stated) (line : Stated) (before next : Before) (faulty : List FaultyLine)
    → JudgedSoFar all left before faulty → left ≡ line ∷ after
    → ((f : LineFault) → ¬ IsWrong before line.says after f) → next ≡ with_next before line
    → JudgedSoFar all after next faulty
unfolding AreFaulty
faultless_more all left after line before next faulty so_far split right steps = record {
  passed = so_far.passed ++ line ∷ [];
  known = steps ∙ ap (λ (b : Before). with_next b line) so_far.known ∙ before_next so_far.passed line;
  whole = λ later is.
      let right_there = subst (λ (b : Before). (f : LineFault) → ¬ IsWrong b line.says after f) so_far.known right in
      let own : AreFaulty so_far.passed (line ∷ after) later = inl (right_there, is) in
      so_far.whole later (subst (λ (ls : List Stated). AreFaulty so_far.passed ls later) (sym split) own);
}

-- a line that was judged, with this fault
abbrev the_line : Judged → LineFault → FaultyLine
the_line judged f = record { line = judged.line.number; fault = f }

-- one line more, which is at fault or not
pub judged_more :
    (all : List Stated) (old new : Judging) (judged : Judged) (faulty : List FaultyLine)
    → JudgedSoFar all old.ahead old.before faulty → Judges old (Some judged) new
    → JudgedSoFar all new.ahead new.before (faulty ++ option_to_list (faulty_of judged))
judged_more all old new judged faulty so_far (split, steps, told) = by judged.fault refl told where
  by :
      (own : Option LineFault) → judged.fault ≡ own
      → Tells own (λ f. IsWrong old.before judged.line.says new.ahead f)
      → JudgedSoFar all new.ahead new.before (faulty ++ option_to_list (faulty_of judged))
  by (Some f) is wrong =
      fault_more all old.ahead new.ahead judged.line f old.before new.before faulty
      (faulty ++ option_to_list (faulty_of judged)) so_far split wrong steps
      (ap (λ o. faulty ++ option_to_list (option_map (λ (g : LineFault).
      record { line = judged.line.number; fault = g }) o)) is)
  by None is right =
      subst (λ fs. JudgedSoFar all new.ahead new.before fs)
      (sym (append-nil faulty) ∙ ap (λ o. faulty ++ option_to_list (option_map (λ (g : LineFault).
      record { line = judged.line.number; fault = g }) o)) (sym is))
      (faultless_more all old.ahead new.ahead judged.line old.before new.before faulty so_far split
      right steps)

none_left : (passed : List Stated) → AreFaulty passed [] []
unfolding AreFaulty
none_left passed = refl

pub all_judged :
    (all left : List Stated) (before : Before) (faulty : List FaultyLine) → JudgedSoFar all left before faulty
    → left ≡ []
    → AreFaulty [] all faulty
all_judged all left before faulty so_far none =
    subst (λ fs. AreFaulty [] all fs) (append-nil faulty)
    (so_far.whole [] (subst (λ (ls : List Stated). AreFaulty so_far.passed ls []) (sym none) (none_left so_far.passed)))

-- ---- the first line at fault

-- no line so far is at fault: if none that is left is, none is at all, and the first of those that are left that is at
-- fault is the first of all. Of the lines before those that are left this is known
pub record FaultlessSoFar (all left : List Stated) (before : Before) : Type 0 where
  pub passed : List Stated
  pub known : before ≡ before_of passed
  pub none : AreFaulty passed left [] → AreFaulty [] all []
  pub first : (f : FaultyLine) → IsFirstAfter passed left f → IsFirstAfter [] all f

pub faultless_begun :
    (all left : List Stated) (before : Before) → left ≡ all → before ≡ before_of []
    → FaultlessSoFar all left before
faultless_begun all left before same known = record {
  passed = [];
  known = known;
  none = λ is. subst (λ (ls : List Stated). AreFaulty [] ls []) same is;
  first = λ f is. subst (λ (ls : List Stated). IsFirstAfter [] ls f) same is;
}

-- one line more, which is not at fault
pub faultless_next :
    (all : List Stated) (old new : Judging) (judged : Judged) → FaultlessSoFar all old.ahead old.before
    → Judges old (Some judged) new → faulty_of judged ≡ None
    → FaultlessSoFar all new.ahead new.before
unfolding AreFaulty IsFirstAfter
faultless_next all old new judged so_far (split, steps, told) none = record {
  passed = so_far.passed ++ judged.line ∷ [];
  known = steps ∙ ap (λ (b : Before). with_next b judged.line) so_far.known ∙ before_next so_far.passed judged.line;
  none = λ is. so_far.none
      (subst (λ (ls : List Stated). AreFaulty so_far.passed ls []) (sym split) (inl (right, is)));
  first = λ f is. so_far.first f
      (subst (λ (ls : List Stated). IsFirstAfter so_far.passed ls f) (sym split) (inr (right, is)));
} where
  unfaulty : (own : Option LineFault) → option_map (λ (f : LineFault).
      the_line judged f) own ≡ None → own ≡ None
  unfaulty None is = refl
  unfaulty (Some f) is = absurd cc

  right : (f : LineFault) → ¬ IsWrong (before_of so_far.passed) judged.line.says new.ahead f
  right = subst (λ (b : Before). (f : LineFault) → ¬ IsWrong b judged.line.says new.ahead f) so_far.known
      (subst (λ o. Tells o (λ f. IsWrong old.before judged.line.says new.ahead f)) (unfaulty judged.fault none) told)

-- one line more, which is at fault
pub first_found :
    (all : List Stated) (old new : Judging) (judged : Judged) (first : FaultyLine)
    → FaultlessSoFar all old.ahead old.before → Judges old (Some judged) new → faulty_of judged ≡ Some first
    → IsFirstFaulty all first
unfolding IsFirstAfter
first_found all old new judged first so_far (split, steps, told) is =
    by judged.fault is told where
      by : (own : Option LineFault) → option_map (λ (f : LineFault). the_line judged f) own ≡ Some first
          → Tells own (λ f. IsWrong old.before judged.line.says new.ahead f)
          → IsFirstFaulty all first
      by None same wrong = absurd cc
      by (Some f) same wrong =
          let made : the_line judged f ≡ first = cc in
          let there : IsWrong (before_of so_far.passed) judged.line.says new.ahead first.fault =
          subst (λ (b : Before). IsWrong b judged.line.says new.ahead first.fault) so_far.known
          (subst (λ (g : FaultyLine). IsWrong old.before judged.line.says new.ahead g.fault) made wrong) in
          so_far.first first
          (subst (λ (ls : List Stated). IsFirstAfter so_far.passed ls first) (sym split)
          (inl (there, ap (λ (g : FaultyLine). g.line) made)))

-- no line is left, and none was at fault
pub none_at_fault :
    (all left : List Stated) (before : Before) → FaultlessSoFar all left before → left ≡ [] → AreFaulty [] all []
none_at_fault all left before so_far none =
    so_far.none (subst (λ (ls : List Stated). AreFaulty so_far.passed ls []) (sym none) (none_left so_far.passed))
