use Rattle.std.proofs.Common.{◌≡◌, ℕ, ◌-◌, ◌∷◌, List, [], sym, ap, subst, ◌∙◌, arith}
use Rattle.std.specs.Prelude.{slice_index, slice_index_or, Result}
use Rattle.std.proofs.lemmas.Result.{err_from_is_err_and}
use Rattle.ov_wire.specs.declared.fault.WireFault.{WireFault}
use Rattle.ov_wire.specs.Fields.{Value, One}
use Rattle.ov_wire.specs.Messages.{kinds, fields_of}
use Rattle.ov_wire.specs.Code.Reading.{values_at, FailsReading}
use Rattle.ov_wire.proofs.Steps.{Fails-then, read_on}
use Rattle.ov_wire.proofs.reading.message_of.Goals as goal

second : (bytes r1 r2 : List ℕ) (v kind : ℕ) → bytes ≡ v ∷ r1 → r1 ≡ kind ∷ r2 → slice_index bytes 1 ≡ kind
second bytes r1 r2 v kind e f = ap (λ b. slice_index b 1) (e ∙ ap (λ (r : List ℕ). v ∷ r) f)

pub returns-in_err-body-clause-read : goal.returns-in_err-body-clause-read
returns-in_err-body-clause-read c =
    let bytes = c.args.bytes.now in
    let v = c.in_ok-rest.field-0-0 in
    let kind = c.in_ok-kind.kind in
    let left = c.in_ok-from.rest.now in
    let is = second bytes c.in_ok-rest.rest.now c.in_ok-kind.rest.now v kind c.in_ok-rest.ensures.front
    c.in_ok-kind.ensures.front in
    let on = read_on bytes c.in_ok-rest.rest.now c.in_ok-kind.rest.now left v kind c.in_ok-from.from
    c.in_ok-rest.ensures.value c.in_ok-kind.ensures.value c.in_ok-from.ensures in
    let whole = ap (λ (k : ℕ). values_at (fields_of k) bytes) is ∙ on in
    let exit = c.from_residual-in_err-body in
    let p = err_from_is_err_and exit.result exit.ensures.1 in
    let body = Fails-then c.in_err-body.field-0.0 (values_at (slice_index_or kinds (kind - 1) []) left)
    (λ vs. One v ∷ One kind ∷ One c.in_ok-from.from ∷ vs) c.in_err-body.ensures.read in
    rw (p.1, p.2)
    (subst (λ (r : Result (List Value) WireFault). FailsReading c.in_err-body.field-0.0 r) (sym whole) body)

pub returns-clause-read : goal.returns-clause-read
returns-clause-read c =
    let bytes = c.args.bytes.now in
    let v = c.in_ok-rest.field-0-0 in
    let kind = c.in_ok-kind.kind in
    let left = c.in_ok-from.rest.now in
    let is = second bytes c.in_ok-rest.rest.now c.in_ok-kind.rest.now v kind c.in_ok-rest.ensures.front
    c.in_ok-kind.ensures.front in
    let on = read_on bytes c.in_ok-rest.rest.now c.in_ok-kind.rest.now left v kind c.in_ok-from.from
    c.in_ok-rest.ensures.value c.in_ok-kind.ensures.value c.in_ok-from.ensures in
    let one : v ≡ 1 = omega (arith, c.in_ok-rest.ensures.range) in
    let whole = ap (λ (k : ℕ). values_at (fields_of k) bytes) is ∙ on in
    let kind-is = c.in_ok-body.ensures.kind in
    whole ∙ rw c.in_ok-body.ensures.read (cc (one, kind-is, c.new.ensures))

pub returns-clause-kind : goal.returns-clause-kind
returns-clause-kind c =
    let is = second c.args.bytes.now c.in_ok-rest.rest.now c.in_ok-kind.rest.now c.in_ok-rest.field-0-0
    c.in_ok-kind.kind c.in_ok-rest.ensures.front c.in_ok-kind.ensures.front in
    c.in_ok-body.ensures.kind ∙ sym is
