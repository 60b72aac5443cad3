-- Before the first path, the source is used.
use Rattle.std.proofs.Common.{ap, ap₂, List, ℕ, length, arith}
use Rattle.ov_cert.specs.Code.Kept.{NodeSetState}
use Rattle.ov_cert.specs.Code.Flaws.{fan_paths_flaw}
use Rattle.ov_cert.proofs.PathRules.NodeSets.{one_entered, node_tested}
use Rattle.ov_cert.proofs.path_judging.flaw_of_fan_by.Goals as goal

pub loop-at-init : goal.loop-at-init
loop-at-init g c =
    let graph = c.args.graph.now in
    let e = one_entered graph c.args.j c.args.used.now c.enter.new.self c.enter.result
    (node_tested graph c.args.j c.requires.j) c.requires.used c.enter.ensures.fresh c.enter.ensures.entered in
    record {
      graph = ap (λ (v : NodeSetState). v.graph) e;
      few = omega (arith, c.iter-path-items.ensures.few, ap length c.iter-path-items.ensures.paths);
      left = ap₂ (λ (v : NodeSetState) (ps : List (List ℕ)). fan_paths_flaw graph c.args.group.now v.members c.args.j
          0 ps)
          e c.iter-path-items.ensures.paths;
    }
