-- Codes of what Plumtree keeps, so that contracts can see it as a value. They say nothing about it.
use Rattle.std.specs.Prelude.{ℕ, List, refl}
use Rattle.std.specs.Coded.{Coded, code_by, coded×, coded_ℕ, coded_list}
use Rattle.std.specs.FinMap as map
use Rattle.std.specs.FinSet as set
use Rattle.ov_ids.specs.declared.id.MsgId.{MsgId}
use Rattle.ov_plum.specs.Ids.{id_cmp}
use Rattle.ov_plum.specs.Notes.{Note}
use Rattle.ov_plum.specs.PlumState.{BranchesState, HeldState, PlumState}
use Rattle.ov_plum.specs.Code.Waiting.{WaitingState}

-- an id as two numbers
abbrev pub id_code : Coded MsgId
id_code =
    code_by (ℕ × ℕ) (coded× coded_ℕ coded_ℕ) (λ a. (a.origin, a.seq)) (λ p. record { origin = p.0; seq = p.1 })
    (λ _. refl)

-- a held message as its parts
abbrev pub held_code : Coded HeldState
held_code =
    code_by (ℕ × List ℕ) (coded× coded_ℕ (coded_list coded_ℕ)) (λ k. (k.round, k.payload))
    (λ p. record { round = p.0; payload = p.1 }) (λ _. refl)

-- branches as two lists
abbrev pub branches_code : Coded BranchesState
branches_code =
    code_by (List ℕ × List ℕ) (coded× (coded_list coded_ℕ) (coded_list coded_ℕ)) (λ b. (b.eager, b.lazy))
    (λ p. record { eager = p.0; lazy = p.1 }) (λ _. refl)

-- notes and timers as a list and a set
abbrev pub waiting_code : Coded WaitingState
waiting_code =
    code_by (List Note × set.FinSet id_cmp) (coded× (coded_list (coded× id_code coded_ℕ)) (set.code id_code))
    (λ w. (w.notes, w.running)) (λ p. record { notes = p.0; running = p.1 }) (λ _. refl)

-- what a node keeps as its parts
abbrev pub plum_code : Coded PlumState
plum_code =
    code_by (ℕ × (BranchesState × (map.FinMap id_cmp HeldState × (WaitingState × ℕ))))
    (coded× coded_ℕ (coded× branches_code (coded× (map.code id_code held_code) (coded× waiting_code coded_ℕ))))
    (λ t. (t.me, (t.branches, (t.held, (record { notes = t.notes; running = t.running }, t.made)))))
    (λ p. record {
      me = p.0;
      branches = p.1.0;
      held = p.1.1.0;
      notes = p.1.1.1.0.notes;
      running =
          p.1.1.1.0.running;
      made = p.1.1.1.1;
    })
    (λ _. refl)
