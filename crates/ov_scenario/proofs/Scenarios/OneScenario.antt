-- A file says one scenario.
use Rattle.std.proofs.Common.{◌≡◌, ◌∙◌, inl, inr, ℕ, Bool, true, false, if◌then◌else◌, List, [], ◌∷◌, ◌++◌, length}
use Rattle.std.proofs.Common.{Option, Some, None, refl, ap, sym, subst, arith}
use Rattle.std.specs.Option.{option_or}
use Rattle.rand_core.specs.Stream.{Stream, next_u64}
use Rattle.ov_ids.specs.Members.{Has}
use Rattle.ov_ids.specs.ParamsState.{ParamsState}
use Rattle.ov_ids.specs.declared.refill_rule.Refill.{Refill}
use Rattle.ov_ids.specs.declared.refill_rule.Refill.TheVariants.{Never}
use Rattle.ov_ids.specs.declared.world_scale.Scale.{Scale}
use Rattle.ov_ids.specs.declared.world_scale.Scale.TheVariants.{Profile}
use Rattle.ov_lines.specs.Lines.{kept_lines}
use Rattle.ov_words.specs.Stream.{AreOutputs}
use Rattle.ov_scenario.specs.Code.Judging.{params_in, refill_in, scale_in, seed_in, first_in}
use Rattle.ov_scenario.specs.Draws.{AreDraws, seeded}
use Rattle.ov_scenario.specs.Scenarios.{stated_lines, first_of, is_params, is_refill, is_scale, is_seed, before_of}
use Rattle.ov_scenario.specs.Scenarios.{AreParams, AreParamsOf, IsSetBy, IsWrong, IsWrongIn, AreFaulty}
use Rattle.ov_scenario.specs.Scenarios.{AreFaultless, AreToRun, BlockRunsAs, RunAs, default_params}
use Rattle.ov_scenario.specs.Scenarios.{IsScenario}
use Rattle.ov_scenario.specs.Sections.{SectionLine, open_after, section_line}
use Rattle.ov_scenario.specs.Statements.{Stated, ToldLine, told, workers_or_one}
use Rattle.ov_scenario.specs.declared.line_judging.Before.{Before}
use Rattle.ov_scenario.specs.declared.open_block.OpenBlock.{OpenBlock}
use Rattle.ov_scenario.specs.declared.scenario.Line.{Line}
use Rattle.ov_scenario.specs.declared.scenario.Line.TheVariants as line
use Rattle.ov_scenario.specs.declared.scenario.Scenario.{Scenario}
use Rattle.ov_scenario.specs.declared.scenario_fault.LineFault.{LineFault}
use Rattle.ov_scenario.specs.declared.scenario_fault.LineFault.TheVariants as fault
use Rattle.ov_scenario.specs.declared.scenario_fault.Setting.TheVariants as sets
use Rattle.ov_scenario.specs.declared.line_of_section.Deed.TheVariants as deed
use Rattle.ov_scenario.specs.declared.statement.Statement.{Statement}
use Rattle.ov_scenario.specs.declared.statement.Statement.TheVariants as says
use Rattle.ov_scenario.proofs.Scenarios.Judged.{in_time, first_next}
use Rattle.ov_scenario.proofs.Scenarios.Settled.{Gives, gives_params, gives_refill, gives_scale, gives_seed}

-- ---- a line without a fault that sets something is the first that sets it

-- what a kind of lines gives, and that a line of this kind without a fault stands behind none
record SetsOnce {A : Type 0} (kind : A → Statement) (given : Option Statement → Option A)
    (is_kind : Option Statement → Bool) : Type 0 where
  own : Gives kind given
  is : (x : A) → is_kind (Some (kind x)) ≡ true
  behind_none : (before behind : List Stated) (x : A)
      → ((f : LineFault) → ¬ IsWrong (before_of before) (Some (kind x)) behind f)
      → first_of is_kind before ≡ None

-- a line of another kind gives nothing
other_gives :
    {A : Type 0} (kind : A → Statement) (given : Option Statement → Option A) (is_kind : Option Statement → Bool)
    → SetsOnce kind given is_kind
    → (said : Option Statement) → is_kind said ≡ false → given said ≡ None
other_gives {A} kind given is_kind s said other = by (given said) refl where
  by : (o : Option A) → given said ≡ o → given said ≡ None
  by None none = none
  by (Some x) some = absurd (cc (sym other ∙ ap is_kind (s.own.says said x some) ∙ s.is x))

before_params :
    (block : Option OpenBlock) (before : Before) (numbers : List ℕ) (behind : List Stated)
    → ((f : LineFault) → ¬ IsWrongIn block before (says.Params numbers) behind f) → before.params ≡ None
before_params (Some block) before numbers behind right = absurd (right (fault.NotHeld block.together) refl)
before_params None before numbers behind right =
    (in_time sets.Params before.event before.params (λ f late. right f (inl late))).1

sets_params : SetsOnce says.Params params_in is_params
sets_params = record {
  own = gives_params;
  is = λ x. refl;
  behind_none = λ before behind x right. before_params (open_after before) (before_of before) x behind right;
}

before_seed :
    (block : Option OpenBlock) (before : Before) (seed : ℕ) (behind : List Stated)
    → ((f : LineFault) → ¬ IsWrongIn block before (says.Seed seed) behind f) → before.seed ≡ None
before_seed (Some block) before seed behind right = absurd (right (fault.NotHeld block.together) refl)
before_seed None before seed behind right = (in_time sets.Seed before.event before.seed right).1

sets_seed : SetsOnce says.Seed seed_in is_seed
sets_seed = record {
  own = gives_seed;
  is = λ x. refl;
  behind_none = λ before behind x right. before_seed (open_after before) (before_of before) x behind right;
}

before_refill :
    (block : Option OpenBlock) (before : Before) (rule : Refill) (behind : List Stated)
    → ((f : LineFault) → ¬ IsWrongIn block before (says.Refill rule) behind f) → before.refill ≡ None
before_refill (Some block) before rule behind right = absurd (right (fault.NotHeld block.together) refl)
before_refill None before rule behind right = (in_time sets.Refill before.event before.refill right).1

sets_refill : SetsOnce says.Refill refill_in is_refill
sets_refill = record {
  own = gives_refill;
  is = λ x. refl;
  behind_none = λ before behind x right. before_refill (open_after before) (before_of before) x behind right;
}

before_scale :
    (block : Option OpenBlock) (before : Before) (scale : Scale) (behind : List Stated)
    → ((f : LineFault) → ¬ IsWrongIn block before (says.Scale scale) behind f) → before.scale ≡ None
before_scale (Some block) before scale behind right = absurd (right (fault.NotHeld block.together) refl)
before_scale None before scale behind right = (in_time sets.Scale before.event before.scale right).1

sets_scale : SetsOnce says.Scale scale_in is_scale
sets_scale = record {
  own = gives_scale;
  is = λ x. refl;
  behind_none = λ before behind x right. before_scale (open_after before) (before_of before) x behind right;
}

-- where no line up to one is of the kind, that one is not, and none before it
none_up_to :
    (is_kind : Option Statement → Bool) (before : List Stated) (line : Stated)
    → first_of is_kind (before ++ line ∷ []) ≡ None
    → (is_kind line.says ≡ false) × (first_of is_kind before ≡ None)
none_up_to is_kind before line none =
    by (is_kind line.says) refl (first_of is_kind before) refl (first_next is_kind before line ∙ none) where
      by :
          (t : Bool) → is_kind line.says ≡ t → (o : Option ℕ) → first_of is_kind before ≡ o
          → (if t then option_or o (Some line.number) else o) ≡ None
          → (is_kind line.says ≡ false) × (first_of is_kind before ≡ None)
      by true e None same is = absurd cc
      by true e (Some n) same is = absurd cc
      by false e o same is = (e, same ∙ is)

only_first :
    {A : Type 0} (kind : A → Statement) (given : Option Statement → Option A) (is_kind : Option Statement → Bool)
    → SetsOnce kind given is_kind
    → (passed lines : List Stated) (line : Stated) (x : A) → AreFaulty passed lines [] → Has lines line
    → line.says ≡ Some (kind x)
    → (first_of is_kind passed ≡ None) × (first_in given lines ≡ Some x)
unfolding AreFaulty
only_first kind given is_kind s passed [] line x right has is = absurd has
only_first kind given is_kind s passed (first ∷ more) line x (inr (f, later, wrong, none, rest)) has is = absurd cc
only_first kind given is_kind s passed (first ∷ more) line x (inl (right, rest)) (inl same) is =
    let said = ap (λ (l : Stated). l.says) same ∙ is in (
      s.behind_none passed more x
          (subst (λ t. (f : LineFault) → ¬ IsWrong (before_of passed) t more f) said right),
      ap (λ t. option_or (given t) (first_in given more)) said
          ∙ ap (λ o. option_or o (first_in given more)) (s.own.gives x),
    )
only_first kind given is_kind s passed (first ∷ more) line x (inl (right, rest)) (inr has) is =
    let later = only_first kind given is_kind s (passed ++ first ∷ []) more line x rest has is in
    let none = none_up_to is_kind passed first later.0 in (
      none.1,
      ap (λ o. option_or o (first_in given more)) (other_gives kind given is_kind s first.says none.0) ∙ later.1,
    )

-- ---- parameters, seed, rule and scale

-- the parameters with these numbers, this rule at DISCONNECT and this scale, whatever they are
abbrev limits_of : Refill → Scale → List ℕ → ParamsState
limits_of rule scale (a ∷ p ∷ w ∷ r ∷ ka ∷ kp ∷ t ∷ []) = record {
  active = a;
  passive = p;
  arwl = w;
  prwl = r;
  ka = ka;
  kp = kp;
  shuffle_ttl = t;
  refill = rule;
  scale = scale;
}
limits_of rule scale other = default_params

-- the parameters with the same numbers, the same rule and the same scale are the same
one_params :
    (numbers others : List ℕ) (p q : ParamsState) → AreParams numbers p → AreParams others q → numbers ≡ others
    → p.refill ≡ q.refill → p.scale ≡ q.scale
    → p ≡ q
one_params numbers others p q are also same rule scale =
    let last = q.active ∷ q.passive ∷ q.arwl ∷ q.prwl ∷ q.ka ∷ q.kp ∷ q.shuffle_ttl ∷ [] in
    ap (limits_of p.refill p.scale) (sym are.0 ∙ same ∙ also.0)
    ∙ ap (λ r. limits_of r p.scale last) rule
    ∙ ap (λ s. limits_of q.refill s last) scale

one_params_of :
    (all : List Stated) (p q : ParamsState) → AreFaultless all → AreParamsOf all p → AreParamsOf all q
    → p.refill ≡ q.refill → p.scale ≡ q.scale
    → p ≡ q
unfolding AreParamsOf
one_params_of all p q right (inl (own, numbers, has, its, are)) (inl (line, others, also, also_its, also_are)) rule
    scale =
    let first = only_first says.Params params_in is_params sets_params [] all own numbers right has its in
    let other = only_first says.Params params_in is_params sets_params [] all line others right also also_its in
    let same = sym first.1 ∙ other.1 in
    one_params numbers others p q are also_are (cc) rule scale
one_params_of all p q right (inl (own, numbers, has, its, are)) (inr none) rule scale =
    absurd (none.0 (own, numbers, has, its))
one_params_of all p q right (inr none) (inl (line, others, also, also_its, also_are)) rule scale =
    absurd (none.0 (line, others, also, also_its))
one_params_of all p q right (inr none) (inr other) rule scale =
    none.1
    ∙ ap (λ r. record default_params { refill = r; scale = p.scale }) rule
    ∙ ap (λ s. record default_params { refill = q.refill; scale = s }) scale
    ∙ sym other.1

-- what lines without a fault set is one
one_set_by :
    {A : Type 0} (kind : A → Statement) (given : Option Statement → Option A) (is_kind : Option Statement → Bool)
    (usual : A) → SetsOnce kind given is_kind
    → (all : List Stated) (x y : A) → AreFaultless all → IsSetBy kind usual all x → IsSetBy kind usual all y
    → x ≡ y
unfolding IsSetBy
one_set_by kind given is_kind usual s all x y right (inl (own, has, its)) (inl (line, also, also_its)) =
    let first = only_first kind given is_kind s [] all own x right has its in
    let other = only_first kind given is_kind s [] all line y right also also_its in
    let same = sym first.1 ∙ other.1 in cc
one_set_by kind given is_kind usual s all x y right (inl (own, has, its)) (inr none) =
    absurd (none.0 (own, x, has, its))
one_set_by kind given is_kind usual s all x y right (inr none) (inl (line, also, also_its)) =
    absurd (none.0 (line, y, also, also_its))
one_set_by kind given is_kind usual s all x y right (inr none) (inr other) = none.1 ∙ sym other.1

-- ---- lines to run

-- of two lists of words of one length that a generator answers both are the same, and so is its stream afterwards
one_output :
    (stream : Stream) (v w : List ℕ) (a b : Stream) → length v ≡ length w → AreOutputs stream v a
    → AreOutputs stream w b → (v ≡ w) × (a ≡ b)
one_output stream [] [] a b long one also = (refl, one ∙ sym also)
one_output stream [] (y ∷ w) a b long one also = absurd (omega (arith, long))
one_output stream (x ∷ v) [] a b long one also = absurd (omega (arith, long))
one_output stream (x ∷ v) (y ∷ w) a b long one also =
    let later = one_output (next_u64 stream).1 v w a b (omega (arith, long)) one.1 also.1 in
    let first : x ≡ y = sym one.0 ∙ also.0 in
    (ap (λ z. z ∷ v) first ∙ ap (λ zs. y ∷ zs) later.0, later.1)

-- the words of the next event are one list, and so are those of the later ones
one_draw :
    (stream : Stream) (drawn others : List (List ℕ)) (words also : List ℕ) (now now_also : List (List ℕ))
    (left rest : Stream)
    → AreDraws stream drawn left → AreDraws stream others rest → drawn ≡ words ∷ now → others ≡ also ∷ now_also
    → (later : Stream) × (words ≡ also) × AreDraws later now left × AreDraws later now_also rest
one_draw stream drawn others words also now now_also left rest draws again split split_also =
    let one : AreDraws stream (words ∷ now) left = subst (λ ds. AreDraws stream ds left) split draws in
    let other : AreDraws stream (also ∷ now_also) rest = subst (λ ds. AreDraws stream ds rest) split_also again in
    let same = one_output stream words also one.1.0 other.1.0 (one.0 ∙ sym other.0) one.1.1 other.1.1 in
    (one.1.0, same.0, one.1.2, subst (λ s. AreDraws s now_also rest) (sym same.1) other.1.2)

mutual
  unfolding RunAs

  -- what one list of lines asks for, with words that are drawn from one stream, is one list of lines
  one_run :
      (said : List ToldLine) (stream : Stream) (drawn others : List (List ℕ))
      (left rest : Stream) (lines also : List Line)
      → AreDraws stream drawn left → AreDraws stream others rest → RunAs said drawn lines → RunAs said others also
      → lines ≡ also
  one_run [] stream drawn others left rest lines also draws again (none, one) (none_also, other) = one ∙ sym other
  one_run ((before, Some (says.Words words)) ∷ (own, Some (says.Event e)) ∷ more) stream drawn others left rest lines
      also draws again (later, is, asks) (later_also, is_also, asks_also) =
      is
      ∙ ap (λ ls. line.Event e words ∷ ls)
      (one_run more stream drawn others left rest later later_also draws again asks asks_also) ∙ sym is_also
  one_run ((own, Some (says.Event e)) ∷ more) stream drawn others left rest lines also draws again
      (words, now, later, split, is, asks) (words_also, now_also, later_also, split_also, is_also, asks_also) =
      let same = one_draw stream drawn others words words_also now now_also left rest draws again split split_also in
      is
      ∙ ap (λ ls. line.Event e words ∷ ls)
      (one_run more same.0 now now_also left rest later later_also same.2 same.3 asks asks_also)
      ∙ ap (λ ws. line.Event e ws ∷ later_also) same.1 ∙ sym is_also
  one_run ((own, Some (says.Look look)) ∷ more) stream drawn others left rest lines also draws again (later, is, asks)
      (later_also, is_also, asks_also) =
      is
      ∙ ap (λ ls. line.Look look ∷ ls)
      (one_run more stream drawn others left rest later later_also draws again asks asks_also) ∙ sym is_also
  one_run ((own, Some (says.Analyse subject workers)) ∷ more) stream drawn others left rest lines also draws again
      (later, is, asks)
      (later_also, is_also, asks_also) =
      is
      ∙ ap (λ ls. line.Analyse subject (workers_or_one workers) ∷ ls)
      (one_run more stream drawn others left rest later later_also draws again asks asks_also) ∙ sym is_also
  one_run ((own, Some says.Together) ∷ more) stream drawn others left rest lines also draws again asks asks_also =
      one_block [] [] more stream drawn others left rest lines also draws again asks asks_also
  one_run (other ∷ more) stream drawn others left rest lines also draws again asks asks_also =
      one_run more stream drawn others left rest lines also draws again asks asks_also

  -- the same of lines in a block
  one_block :
      (sections : List (List SectionLine)) (held : List SectionLine)
      (said : List ToldLine) (stream : Stream) (drawn others : List (List ℕ))
      (left rest : Stream) (lines also : List Line)
      → AreDraws stream drawn left → AreDraws stream others rest → BlockRunsAs sections held said drawn lines
      → BlockRunsAs sections held said others also
      → lines ≡ also
  one_block sections held [] stream drawn others left rest lines also draws again (none, one) (none_also, other) =
      one ∙ sym other
  one_block sections held ((own, Some says.End) ∷ more) stream drawn others left rest lines also draws again
      (later, is, asks) (later_also, is_also, asks_also) =
      is
      ∙ ap (λ ls. line.Together (sections ++ held ∷ []) ∷ ls)
      (one_run more stream drawn others left rest later later_also draws again asks asks_also) ∙ sym is_also
  one_block sections held ((own, Some says.Also) ∷ more) stream drawn others left rest lines also draws again asks
      asks_also =
      one_block (sections ++ held ∷ []) [] more stream drawn others left rest lines also draws again asks asks_also
  one_block sections held ((before, Some (says.Words words)) ∷ (own, Some (says.Event e)) ∷ more) stream drawn others
      left rest lines also draws again asks asks_also =
      one_block sections (held ++ section_line own (deed.Event e words) ∷ []) more stream drawn others left rest lines
      also draws again asks asks_also
  one_block sections held ((own, Some (says.Event e)) ∷ more) stream drawn others left rest lines also draws again
      (words, now, split, asks) (words_also, now_also, split_also, asks_also) =
      let same = one_draw stream drawn others words words_also now now_also left rest draws again split split_also in
      one_block sections (held ++ section_line own (deed.Event e words) ∷ []) more same.0 now now_also left rest lines
      also same.2 same.3 asks
      (subst (λ ws. BlockRunsAs sections (held ++ section_line own (deed.Event e ws) ∷ []) more now_also also)
      (sym same.1) asks_also)
  one_block sections held ((own, Some (says.Analyse subject workers)) ∷ more) stream drawn others left rest lines also
      draws again asks asks_also =
      one_block sections (held ++ section_line own (deed.Analyse subject.moment) ∷ []) more stream drawn others left
      rest lines also draws again asks asks_also
  one_block sections held (other ∷ more) stream drawn others left rest lines also draws again asks asks_also =
      one_block sections held more stream drawn others left rest lines also draws again asks asks_also

one_to_run : (all : List (ℕ × List ℕ)) (x y : ℕ) (lines also : List Line) → x ≡ y → AreToRun all x lines
    → AreToRun all y also
    → lines ≡ also
one_to_run all x y lines also same (drawn, left, draws, asks) (others, rest, again, asks_also) =
    one_run (told all) (seeded x) drawn others left rest lines also draws
    (subst (λ z. AreDraws (seeded z) others rest) (sym same) again) asks asks_also

-- a file says one scenario
pub one_scenario :
    (bytes : List ℕ) (s t : Scenario) → IsScenario bytes s → IsScenario bytes t
    → (s.params ≡ t.params) × (s.seed ≡ t.seed) × (s.lines.items ≡ t.lines.items)
one_scenario bytes s t read also =
    let all = stated_lines bytes in
    let right = read.faultless in
    let seed = one_set_by says.Seed seed_in is_seed 0 sets_seed all s.seed t.seed right read.seed also.seed in (
      one_params_of all s.params t.params right read.params also.params
          (one_set_by says.Refill refill_in is_refill Never sets_refill all s.params.refill t.params.refill right
          read.refill also.refill)
          (one_set_by says.Scale scale_in is_scale Profile sets_scale all s.params.scale t.params.scale right
          read.scale also.scale),
      seed,
      one_to_run (kept_lines bytes) s.seed t.seed s.lines.items t.lines.items seed read.lines also.lines,
    )
