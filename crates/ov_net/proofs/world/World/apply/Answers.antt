use Rattle.std.proofs.Common.{◌++◌, ◌∷◌, [], ◌+◌, ℕ, length, List, refl, sym, ap, subst, ◌∙◌}
use Rattle.ov_net.specs.Code.Codes.{world_of}
use Rattle.ov_net.specs.Code.Effects.{taking}
use Rattle.ov_net.specs.Code.LinkChanges.{AreChanged, Fit}
use Rattle.ov_net.specs.Code.WorldGraph.{AreBothKept}
use Rattle.ov_net.specs.Net.{Net}
use Rattle.ov_net.specs.declared.journal_entry_and_changes.Change.{Change}
use Rattle.ov_net.specs.declared.journal_entry_and_changes.Entry.{Entry}
use Rattle.ov_net.proofs.Journal.Resting.{same_after}
use Rattle.ov_net.proofs.Keeping.{changes_fit, kept_is_graph, kept_live, kept_may_gain, kept_next, kept_small}
use Rattle.ov_net.proofs.Standing.{stands_next}
use Rattle.ov_net.proofs.world.World.apply.Goals as goal

pub reserve_and_change-requires-clause-graph : goal.reserve_and_change-requires-clause-graph
reserve_and_change-requires-clause-graph c =
    let before = c.self.inside in
    kept_is_graph before.params before.journal.items before.graph c.self.invariant.1

pub reserve_and_change-requires-clause-newborn : goal.reserve_and_change-requires-clause-newborn
reserve_and_change-requires-clause-newborn c =
    let before = c.self.inside in
    kept_may_gain (world_of before.params before.nodes before.packets.items before.journal.items) c.args.self.now
    c.args.event before.graph c.self.view_is c.self.invariant.0 c.self.invariant.1 c.requires.judged

pub change-requires-clause-graph : goal.change-requires-clause-graph
change-requires-clause-graph c = c.in_ok-reserve_and_change.ensures.graph

pub change-requires-clause-small : goal.change-requires-clause-small
change-requires-clause-small c =
    let before = c.self.inside in
    kept_small _ before.graph c.reserve_and_change.new.graph
    (kept_may_gain (world_of before.params before.nodes before.packets.items before.journal.items) c.args.self.now
    c.args.event before.graph c.self.view_is c.self.invariant.0 c.self.invariant.1 c.requires.judged)
    c.in_ok-reserve_and_change.ensures.gains

pub change-requires-clause-live : goal.change-requires-clause-live
change-requires-clause-live c =
    let before = c.self.inside in
    kept_live (world_of before.params before.nodes before.packets.items before.journal.items) c.args.self.now
    c.args.event c.args.words.now c.args.effects c.reserve_and_change.new.nodes before.graph
    c.reserve_and_change.new.graph c.self.view_is c.self.invariant.0 c.self.invariant.1 c.requires.effects
    c.in_ok-reserve_and_change.ensures.ok c.in_ok-reserve_and_change.ensures.gains
    c.in_ok-reserve_and_change.ensures.graph

pub change-requires-clause-fit : goal.change-requires-clause-fit
change-requires-clause-fit c =
    let before = c.self.inside in
    let later = c.reserve_and_change.new.nodes in
    subst (Fit later) (sym c.as_slice.ensures)
    (changes_fit (world_of before.params before.nodes before.packets.items before.journal.items) c.args.self.now
    c.args.event c.args.words.now c.args.effects later c.self.view_is c.requires.effects
    c.in_ok-reserve_and_change.ensures.ok)

pub invariant_of-self-2 : goal.invariant_of-self-2
invariant_of-self-2 c =
    let before = c.self.inside in
    let effects = c.args.effects in
    let seen = world_of before.params before.nodes before.packets.items before.journal.items in
    let entry : Entry = record {
      number = c.next_number-number.result;
      event = c.args.event;
      words = c.args.words.now;
      changes = effects.changes;
      delivery = effects.delivery;
    } in
    let nodes = c.reserve_and_change.new.nodes in
    let g = c.reserve_and_change.new.graph in
    let later : Net = record {
      params = before.params;
      nodes = nodes;
      packets = c.update_packets.new.packets.items;
    } in
    let pushed : Entry = record entry { words = c.in_ok-kept.kept } in
    let journal = c.push_reserved.ensures.items
    ∙ ap (λ v. v ++ pushed ∷ []) c.in_ok-reserve_and_change.ensures.journal
    ∙ ap (λ (words : List ℕ). before.journal.items ++ record entry { words = words } ∷ []) c.in_ok-kept.ensures in
    let numbered = c.next_number-number.ensures ∙ ap (λ v. length v + 1) c.deref.ensures.value in
    let stands = stands_next seen c.args.self.now c.args.event c.args.words.now effects entry later
    c.push_reserved.new.self.items c.self.view_is c.self.invariant.0 c.requires.judged c.requires.effects
    c.requires.few
    (refl, refl, refl, refl, numbered)
    (record {
      params = refl;
      nodes = c.in_ok-reserve_and_change.ensures.ok;
      packets = c.update_packets.ensures
          ∙ ap (λ v. taking effects.taken v ++ effects.packets.items) c.in_ok-reserve_and_change.ensures.packets;
    })
    journal in (
      stands,
      kept_next seen c.args.self.now c.args.event c.args.words.now effects nodes before.graph g c.change.new.self
          c.self.view_is c.self.invariant.0 c.self.invariant.1 c.requires.effects
          c.in_ok-reserve_and_change.ensures.ok c.in_ok-reserve_and_change.ensures.gains
          c.in_ok-reserve_and_change.ensures.graph
          (subst (λ (changes : List Change). AreBothKept (AreChanged nodes changes) g c.change.new.self)
          c.as_slice.ensures c.change.ensures) c.update_packets.new.packets.items c.push_reserved.new.self.items stands,
      same_after before.journal.items c.push_reserved.new.self.items entry before.since
          c.since_after-self-inside.result c.next_number-number.result journal numbered
          c.since_after-self-inside.ensures c.self.invariant.2,
    )
