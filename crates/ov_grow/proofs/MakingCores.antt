-- A core stays the one that the lines of its script make, when one more is accepted.
use Rattle.std.proofs.Common.{◌≡◌, List, [], ◌∷◌, ◌++◌, refl, sym, ap, subst}
use Rattle.ov_ids.specs.ParamsState.{ParamsState}
use Rattle.ov_snap.specs.CoreState.{CoreState, opening_core}
use Rattle.ov_scenario.specs.declared.scenario.Line.{Line}
use Rattle.ov_script.specs.Scripts.{ScriptState}
use Rattle.ov_grow.specs.Code.KeptRecording.{MadeBy}
use Rattle.ov_grow.specs.Replay.{AcceptsAll, AcceptsLine}

-- lines are accepted, and then one more
accepts_more : (b : CoreState) (lines : List Line) (c : CoreState) (l : Line) (d : CoreState) → AcceptsAll b lines c
    → AcceptsLine c l d → AcceptsAll b (lines ++ l ∷ []) d
accepts_more b [] c l d all more = (d, subst (λ x. AcceptsLine x l d) all more, refl)
accepts_more b (m ∷ lines) c l d (next, first, rest) more =
    (next, first, accepts_more next lines c l d rest more)

-- scripts with the same parameters and the same lines make the same core
made_same : (s t : ScriptState) (c : CoreState) → t.params ≡ s.params → AcceptsAll (opening_core s.params) t.lines c
    → MadeBy t c
made_same s t c params all =
    record { accepted = subst (λ (p : ParamsState). AcceptsAll (opening_core p) t.lines c) (sym params) all }

-- room is nothing to the core
pub made_room : (s t : ScriptState) (c : CoreState) → t ≡ record s { room = t.room } → MadeBy s c → MadeBy t c
made_room s t c same made =
    made_same s t c (ap (λ (x : ScriptState). x.params) same)
    (subst (λ ls. AcceptsAll (opening_core s.params) ls c) (sym (ap (λ (x : ScriptState). x.lines) same)) made.accepted)

-- one more line was written, and it was accepted
pub made_more : (s t : ScriptState) (b c : CoreState) (l : Line) → MadeBy s b → t.lines ≡ s.lines ++ l ∷ []
    → t.params ≡ s.params → AcceptsLine b l c → MadeBy t c
made_more s t b c l made lines params more =
    made_same s t c params
    (subst (λ ls. AcceptsAll (opening_core s.params) ls c) (sym lines)
    (accepts_more (opening_core s.params) s.lines b l c made.accepted more))
