-- Path by path, and then read again.
use Rattle.std.proofs.Common.{rules, ℕ, List, take, take_all, get_or, length, sym, subst, arith}
use Rattle.std.proofs.lemmas.List.{take_more}
use Rattle.ov_ids.specs.Members.{Has}
use Rattle.ov_ids.proofs.Members.{has_place, has_from_take}
use Rattle.ov_split.specs.Places.{net_by_place}
use Rattle.ov_flow.specs.Code.Walked.{table_of, IsTable}
use Rattle.ov_flow.proofs.Beginning.{ends_below, flow_table}
use Rattle.ov_flow.proofs.Walking.{not_before}
use Rattle.ov_flow.proofs.Writing.{AreWriting, none_written, one_written, all_written}
use Rattle.ov_flow.proofs.flat_paths.write_paths.Goals as goal

pub loop-end-init : goal.loop-end-init
loop-end-init g c =
    none_written (net_by_place c.args.net.now) (table_of c.args.from.now) c.in_ok-flat.flat.items
    c.in_ok-flat.ensures.items

pub used-requires : goal.used-requires
used-requires g c =
    let n = net_by_place c.args.net.now in
    let wide = length c.args.net.now.graph.nodes in
    let placed = c.requires.ready.placed in
    let few = placed.few in
    let long = c.requires.from in
    let ends = c.args.ends.now in
    let from = c.args.from.now in
    let flow = c.requires.flow in
    let below = ends_below n wide (table_of from) ends placed flow in
    record {
      table = subst (λ (l : ℕ). IsTable l from) (sym long) (flow_table n wide from ends placed long flow);
      few = omega (arith, few, long);
      ends = λ e h.
          let l = (placed.nodes e).0 (placed.net.targets.nodes e (flow.targets e h)) in omega (arith, l, long);
      few_ends = omega (arith, below, long);
    }

pub write_path-requires : goal.write_path-requires
write_path-requires g c = (
  omega arith,
  (
    c.requires.ready,
    (
      search rules,
      (
        search rules,
        (
          (has_place c.args.ends.now c.loop-end.end-index 0 c.loop-end-test.true),
          (λ e. let n = net_by_place c.args.net.now in
              let h = has_place c.args.ends.now c.loop-end.end-index 0 c.loop-end-test.true in
              c.requires.ready.placed.net.no_target (subst (Has n.targets) e (c.requires.flow.targets _ h))),
        ),
      ),
    ),
  ),
)

pub loop-end-preserved : goal.loop-end-preserved
loop-end-preserved g c =
    let n = net_by_place c.args.net.now in
    let i = c.loop-end.end-index in
    let ends = c.args.ends.now in
    let l = c.loop-end-test.true in
    rw (take_more ends i 0 l)
    (one_written n (table_of c.args.from.now) ends c.requires.flow.held c.loop-end.flat.items
    c.write_path.new.flat.items
    (take i ends) i (get_or ends i 0) c.loop-end.invariant (has_from_take ends i) (has_place ends i 0 l)
    (not_before ends i c.requires.flow.held.distinct l) c.in_ok-write_path.ensures)

pub returns : goal.returns
returns g c =
    let n = net_by_place c.args.net.now in
    let i = c.loop-end.end-index in
    let ends = c.args.ends.now in
    let le = c.loop-end-test.false in
    let auto = c.loop-end.auto.end-index-end in
    let out = c.loop-end.flat.items in
    let w = subst (λ (l : List ℕ). AreWriting n (table_of c.args.from.now) out l i) (take_all i ends le)
    c.loop-end.invariant in
    all_written n c.requires.ready.placed.net (table_of c.args.from.now) ends out i c.requires.flow w (omega (
      arith,
      le,
      auto,
    ))
