-- The results of the parts, put together.
use Rattle.std.proofs.lemmas.Result.{err_from_is_err_and}
use Rattle.serde_json.specs.View.{view}
use Rattle.ov_certfile.proofs.Told.{count_told, listed_told, group_told, cert_told, graph_told, same_graph, says}
use Rattle.ov_certfile.proofs.reading.values.Goals as goal

pub returns-in_err-k : goal.returns-in_err-k
returns-in_err-k c =
    let p = err_from_is_err_and c.from_residual.result c.from_residual.ensures.1 in
    rw (p.1, p.2) (λ h. count_told c.args.newest c.args.version c.args.verdict (view c.args.value.now) h
    c.in_err-k.field-0.0
    c.in_err-k.ensures)

pub returns-in_err-listed : goal.returns-in_err-listed
returns-in_err-listed c =
    let exit = c.from_residual-in_err-listed in
    let p = err_from_is_err_and exit.result exit.ensures.1 in
    rw (p.1, p.2)
    (λ h. listed_told c.args.newest c.args.version c.args.verdict (view c.args.value.now) h c.in_ok-k.k
    c.in_err-listed.field-0.0
    c.in_ok-k.ensures (c.in_err-listed.ensures h.version_said))

pub returns-in_err-group : goal.returns-in_err-group
returns-in_err-group c =
    let exit = c.from_residual-in_err-group in
    let p = err_from_is_err_and exit.result exit.ensures.1 in
    rw (p.1, p.2)
    (λ h. group_told c.args.newest c.args.version c.args.verdict (view c.args.value.now) h c.in_ok-k.k
    c.in_ok-listed.listed
    c.in_err-group.field-0.0 c.in_ok-k.ensures (c.in_ok-listed.ensures h.version_said) c.in_err-group.ensures)

pub returns-in_err-cert : goal.returns-in_err-cert
returns-in_err-cert c =
    let exit = c.from_residual-in_err-cert in
    let p = err_from_is_err_and exit.result exit.ensures.1 in
    rw (p.1, p.2)
    (λ h. cert_told c.args.newest c.args.version c.args.verdict (view c.args.value.now) h c.in_ok-k.k
    c.in_ok-listed.listed
    c.in_ok-group.group c.in_err-cert.field-0.0 c.in_ok-k.ensures (c.in_ok-listed.ensures h.version_said)
    c.in_ok-group.ensures
    c.in_err-cert.ensures)

pub returns-in_err-graph : goal.returns-in_err-graph
returns-in_err-graph c =
    let exit = c.from_residual-in_err-graph in
    let p = err_from_is_err_and exit.result exit.ensures.1 in
    rw (p.1, p.2)
    (λ h. graph_told c.args.newest c.args.version c.args.verdict (view c.args.value.now) h c.in_ok-k.k
    c.in_ok-listed.listed
    c.in_ok-group.group c.in_ok-cert.cert _ c.in_err-graph.field-0.0 c.in_ok-k.ensures
    (c.in_ok-listed.ensures h.version_said)
    c.in_ok-group.ensures c.in_ok-cert.ensures
    (same_graph c.in_ok-listed.listed _ _ c.as_slice.ensures c.as_slice-2.ensures)
    c.in_err-graph.ensures.judged)

pub returns : goal.returns
returns c = λ h n.
    says c.args.newest c.args.version c.args.verdict (view c.args.value.now) h c.in_ok-k.k c.in_ok-listed.listed
    c.in_ok-group.group
    c.in_ok-cert.cert c.in_ok-graph.graph _ c.unwrap_or.result c.in_ok-k.ensures (c.in_ok-listed.ensures h.version_said)
    c.in_ok-group.ensures c.in_ok-cert.ensures
    c.in_ok-graph.ensures.graph (same_graph c.in_ok-listed.listed _ _ c.as_slice.ensures c.as_slice-2.ensures)
    c.in_ok-graph.ensures.judged c.unwrap_or.ensures
