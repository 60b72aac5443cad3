-- Which lines end a block, by their words.
use Rattle.std.proofs.Common.{◌≡◌, ◌∙◌, ◌==◌, ℕ, Bool, true, false, ◌&&◌, List, [], ◌∷◌, length, codes}
use Rattle.std.proofs.Common.{Option, Some, None, if◌then◌else◌, refl, ap, sym}
use Rattle.std.specs.Prelude.{option_map}
use Rattle.std.proofs.lemmas.Slice.Eq.{bytes_eq-Decides}
use Rattle.ov_ids.specs.Options.{◌>>=◌}
use Rattle.ov_lines.specs.Lines.{behind_word, number_within, row, same, short_bits}
use Rattle.ov_net.specs.declared.event.Event.TheVariants as event
use Rattle.ov_scenario.specs.Sections.{is_end}
use Rattle.ov_scenario.specs.Statements.{analysis_of, crash_report_of, line_rows, stated, subject_at, timer_of}
use Rattle.ov_scenario.specs.Statements.{workers_named}
use Rattle.ov_scenario.specs.declared.scenario.Look.TheVariants as look
use Rattle.ov_scenario.specs.declared.statement.Statement.{Statement}
use Rattle.ov_scenario.specs.declared.statement.Statement.TheVariants as says

-- a line with these words ends a block
abbrev pub ends : List (List ℕ) → Bool
ends [] = false
ends (name ∷ words) = same name (codes "end") && (length words == 0)

-- ---- what ends no block

made : {A : Type 0} (kind : A → Statement) (o : Option A) → ((x : A) → is_end (Some (kind x)) ≡ false)
    → is_end (option_map kind o) ≡ false
made kind None none = refl
made kind (Some x) none = none x

bound : {A : Type 0} (o : Option A) (k : A → Option Statement) → ((x : A) → is_end (k x) ≡ false)
    → is_end (o >>= k) ≡ false
bound None k none = refl
bound (Some x) k none = none x

stands_alone : (x : Statement) (t : Bool) → is_end (Some x) ≡ false → is_end (if t then Some x else None) ≡ false
stands_alone x true none = none
stands_alone x false none = refl

analyses : (words : List (List ℕ)) → is_end (analysis_of words) ≡ false
analyses [] = refl
analyses (m ∷ more) =
    bound (number_within short_bits m)
    (λ a. workers_named more >>= λ p. option_map (λ s. says.Analyse s p.0) (subject_at a p.1))
    (λ a. bound (workers_named more) (λ p. option_map (λ s. says.Analyse s p.0) (subject_at a p.1))
    (λ p. made (λ s. says.Analyse s p.0) (subject_at a p.1) (λ s. refl)))

-- ---- row by row

past : (t b : Bool) (own rest : Option Statement) → is_end own ≡ false → (t ≡ true → b ≡ false) → is_end rest ≡ b
    → is_end (if t then own else rest) ≡ b
past true b own rest none other is = none ∙ sym (other refl)
past false b own rest none other is = is

last : (t l : Bool) → is_end (if t then (if l then Some says.End else None) else None) ≡ (t && l)
last true true = refl
last true false = refl
last false l = refl

-- a word that is another name is not `end`
other : (name word : List ℕ) (l : Bool) → same word (codes "end") ≡ false → same name word ≡ true
    → (same name (codes "end") && l) ≡ false
other name word l none is = ap (λ t. t && l) (ap (λ n. same n (codes "end")) ((bytes_eq-Decides name word).0 is) ∙ none)

ends_named :
    (text name : List ℕ) (words : List (List ℕ))
    → is_end (row name (line_rows text words) None) ≡ (same name (codes "end") && (length words == 0))
ends_named text name words =
    let l = (length words == 0) in
    past _ _ _ _ (made says.Params _ (λ x. refl)) (other name (codes "params") l refl)
    (past _ _ _ _ (made says.Seed _ (λ x. refl)) (other name (codes "seed") l refl)
    (past _ _ _ _ (made says.Refill _ (λ x. refl)) (other name (codes "refill") l refl)
    (past _ _ _ _ (made says.Scale _ (λ x. refl)) (other name (codes "scale") l refl)
    (past _ _ _ _ (made says.Words _ (λ x. refl)) (other name (codes "words") l refl)
    (past _ _ _ _ (made says.Event _ (λ x. refl)) (other name (codes "boot") l refl)
    (past _ _ _ _ (made (λ n. says.Event (event.Deliver n)) _ (λ x. refl)) (other name (codes "deliver") l refl)
    (past _ _ _ _ (made (λ n. says.Event (event.Lose n)) _ (λ x. refl)) (other name (codes "lose") l refl)
    (past _ _ _ _ (made (λ n. says.Event (event.Repeat n)) _ (λ x. refl)) (other name (codes "repeat") l refl)
    (past _ _ _ _ (made (λ n. says.Event (event.Crash n)) _ (λ x. refl)) (other name (codes "crash") l refl)
    (past _ _ _ _ (made (λ p. says.Event (crash_report_of p)) _ (λ x. refl)) (other name (codes "report") l refl)
    (past _ _ _ _ (made (λ n. says.Event (event.Shuffle n)) _ (λ x. refl)) (other name (codes "shuffle") l refl)
    (past _ _ _ _ (made says.Event _ (λ x. refl)) (other name (codes "broadcast") l refl)
    (past _ _ _ _ (made (λ p. says.Event (timer_of p)) _ (λ x. refl)) (other name (codes "timer") l refl)
    (past _ _ _ _ (stands_alone (says.Event event.Snapshot) l refl) (other name (codes "snapshot") l refl)
    (past _ _ _ _ (analyses words) (other name (codes "analyse") l refl)
    (past _ _ _ _ (made (λ s. says.Look (look.Certificate s)) _ (λ x. refl)) (other name (codes "certificate") l refl)
    (past _ _ _ _ (made (λ n. says.Look (look.Show n)) _ (λ x. refl)) (other name (codes "show") l refl)
    (past _ _ _ _ (stands_alone (says.Look look.Packets) l refl) (other name (codes "packets") l refl)
    (past _ _ _ _ (stands_alone says.Together l refl) (other name (codes "together") l refl)
    (past _ _ _ _ (stands_alone says.Also l refl) (other name (codes "also") l refl)
    (last (same name (codes "end")) l)))))))))))))))))))))

-- a line ends a block exactly if its words say so
pub ends_tested : (line : List ℕ) (words : List (List ℕ)) → is_end (stated line words) ≡ ends words
ends_tested line [] = refl
ends_tested line (name ∷ words) = ends_named (behind_word line) name words
