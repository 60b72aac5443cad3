-- The bytes of a file have one outcome.
use Rattle.std.proofs.Common.{◌≡◌, ◌≢◌, ◌∙◌, List, ℕ, Option, Some, None, Result, Ok, Err}
use Rattle.std.proofs.Common.{IfOk, IfSome, IfNone, sym, subst, inl, inr}
use Rattle.ov_graph.specs.Links.{IsGraph}
use Rattle.ov_graph.proofs.EvenTest.Tested.{sound}
use Rattle.ov_cert.specs.declared.fault.CheckFault.{CheckFault}
use Rattle.ov_cert.specs.Verdict.{JudgedForGroup}
use Rattle.ov_cert.proofs.Validity.Exact.{one_verdict}
use Rattle.ov_certfile.specs.declared.reading.Filed.{Filed}
use Rattle.ov_certfile.specs.declared.reading.RefusedFile.{RefusedFile}
use Rattle.ov_certfile.specs.declared.fault.FileFault.{FileFault}
use Rattle.ov_certfile.specs.declared.fault.FileFault.TheVariants.{OutOfMemory}
use Rattle.ov_certfile.specs.FaultKinds.{Kind, NotJson, kind_of, kind_in}
use Rattle.ov_certfile.specs.Kinds.{most_nodes_of}
use Rattle.ov_certfile.specs.Says as file
use Rattle.ov_certfile.specs.Says.{SaysFile}
use Rattle.ov_certfile.specs.declared.version.Version.{Version}
use Rattle.ov_certfile.proofs.OneAnswer.{text_one}
use Rattle.ov_check.specs.Outcome.{BytesSay, IsRefused, IsOutcome, AreAlike}
use Rattle.ov_check.specs.declared.outcome_of_file_bytes.Outcome.{Outcome}
use Rattle.ov_check.specs.declared.outcome_of_file_bytes.Outcome.TheVariants.{Holds, Fails, Refused}

-- bytes say one thing alone
says_one : (newest : Version) (bytes : List ℕ) (a b : Result Filed FileFault) → BytesSay newest bytes a
    → BytesSay newest bytes b
    → kind_in a ≡ kind_in b
says_one newest bytes a b (inl p) (inl q) = text_one newest bytes a b p.1 q.1
says_one newest bytes a b (inl p) (inr q) = absurd (q.0 p.0)
says_one newest bytes a b (inr p) (inl q) = absurd (p.0 q.0)
says_one newest bytes a b (inr p) (inr q) = p.1 ∙ sym q.1

same_file : (newest : Version) (bytes : List ℕ) (f h : Filed) → BytesSay newest bytes (Ok f)
    → BytesSay newest bytes (Ok h) → f ≡ h
same_file newest bytes f h p q = let e : ◌≡◌ {A = Result Filed Kind} (Ok f) (Ok h) = says_one newest bytes (Ok f) (Ok h)
    p q in cc

-- what is said of a graph is said of one
value_graph : (newest : Version) (d : _) (f : Filed) → file.Says newest d f → IsGraph f.graph
value_graph newest d f s = (sound (most_nodes_of s.version) f.graph.nodes f.graph.links s.judged).0

read_graph : (newest : Version) (o : Option _) (f : Filed) → IfSome o (λ d. SaysFile newest d (Ok f))
    → IfNone o (◌≡◌ {A = Result Filed Kind} (Ok f) (Err NotJson)) → IsGraph f.graph
read_graph newest (Some d) f s n = value_graph newest d f s
read_graph newest None f s n = absurd cc

said_graph : (newest : Version) (bytes : List ℕ) (f : Filed) → BytesSay newest bytes (Ok f) → IsGraph f.graph
said_graph newest bytes f (inl p) = read_graph newest _ f p.1.json p.1.no_json
said_graph newest bytes f (inr p) = let e : ◌≡◌ {A = Result Filed Kind} (Ok f) (Err NotJson) = p.1 in absurd cc

-- a file has one verdict
verdict_one : (newest : Version) (bytes : List ℕ) (f h : Filed) (x y : Option CheckFault)
    → BytesSay newest bytes (Ok f) → BytesSay newest bytes (Ok h)
    → JudgedForGroup f.graph f.group f.cert x → JudgedForGroup h.graph h.group h.cert y → x ≡ y
verdict_one newest bytes f h x y p q a b =
    let P : Filed → Type 0 = λ f. JudgedForGroup f.graph f.group f.cert x in
    one_verdict h.graph h.group h.cert (said_graph newest bytes h q) x y (subst P (same_file newest bytes f h p q) a) b

said_or_refused : (newest : Version) (bytes : List ℕ) (f : Filed) (fault : FileFault) → BytesSay newest bytes (Ok f)
    → BytesSay newest bytes (Err fault) → ⊥
said_or_refused newest bytes f fault p q =
    let e : ◌≡◌ {A = Result Filed Kind} (Ok f) (Err (kind_of fault)) = says_one newest bytes (Ok f) (Err fault) p q in
    cc

holds_or_fails : (newest : Version) (bytes : List ℕ) (f h : Filed) (fault : CheckFault)
    → IsOutcome newest bytes (Holds f)
    → IsOutcome newest bytes (Fails h fault) → ⊥
holds_or_fails newest bytes f h fault p q =
    let e : None ≡ Some fault = verdict_one newest bytes f h None (Some fault) p.0 q.0 p.1 q.1 in cc

pub one_outcome : (newest : Version) (bytes : List ℕ) (o u : Outcome) → IsOutcome newest bytes o
    → IsOutcome newest bytes u → AreAlike o u
one_outcome newest bytes (Holds f) (Holds h) p q = same_file newest bytes f h p.0 q.0
one_outcome newest bytes (Holds f) (Fails h fault) p q = absurd (holds_or_fails newest bytes f h fault p q)
one_outcome newest bytes (Holds f) (Refused r) p q = absurd (said_or_refused newest bytes f r.fault p.0 q.says)
one_outcome newest bytes (Fails h fault) (Holds f) p q = absurd (holds_or_fails newest bytes f h fault q p)
one_outcome newest bytes (Fails f e) (Fails h d) p q =
    let same : Some e ≡ Some d = verdict_one newest bytes f h (Some e) (Some d) p.0 q.0 p.1 q.1 in
    let fault : e ≡ d = cc in
    (same_file newest bytes f h p.0 q.0, fault)
one_outcome newest bytes (Fails f fault) (Refused r) p q = absurd (said_or_refused newest bytes f r.fault p.0 q.says)
one_outcome newest bytes (Refused r) (Holds f) p q = absurd (said_or_refused newest bytes f r.fault q.0 p.says)
one_outcome newest bytes (Refused r) (Fails f other) p q = absurd (said_or_refused newest bytes f r.fault q.0 p.says)
one_outcome newest bytes (Refused r) (Refused s) p q =
    let same : ◌≡◌ {A = Result Filed Kind} (Err (kind_of r.fault)) (Err (kind_of s.fault)) =
    says_one newest bytes (Err r.fault) (Err s.fault) p.says q.says in cc

-- bytes that are refused have outcomes alike
pub refused_alike : {E : Type 0} (newest : Version) (bytes : List ℕ) (r : RefusedFile) (result : Result Outcome E)
    → (r.fault ≢ OutOfMemory → IsRefused newest bytes r)
    → IfOk result (λ o. (o ≡ Refused r) × (r.fault ≢ OutOfMemory))
    → IfOk result (λ o. (u : Outcome) → IsOutcome newest bytes u → AreAlike u o)
refused_alike newest bytes r (Err e) said made = tt
refused_alike newest bytes r (Ok o) said made = λ u is.
    subst (AreAlike u) (sym made.0) (one_outcome newest bytes u (Refused r) is (said made.1))

-- bytes have no other outcome than this one
pub others_alike : {E : Type 0} (newest : Version) (bytes : List ℕ) (result : Result Outcome E)
    → IfOk result (λ o. IsOutcome newest bytes o)
    → IfOk result (λ o. (u : Outcome) → IsOutcome newest bytes u → AreAlike u o)
others_alike newest bytes (Err e) is = tt
others_alike newest bytes (Ok o) is = λ u other. one_outcome newest bytes u o other is

pub refused_outcome : {E : Type 0} (newest : Version) (bytes : List ℕ) (r : RefusedFile) (result : Result Outcome E)
    → (r.fault ≢ OutOfMemory → IsRefused newest bytes r)
    → IfOk result (λ o. (o ≡ Refused r) × (r.fault ≢ OutOfMemory))
    → IfOk result (λ o. IsOutcome newest bytes o)
refused_outcome newest bytes r (Err e) said made = tt
refused_outcome newest bytes r (Ok o) said made = subst (IsOutcome newest bytes) (sym made.0) (said made.1)
