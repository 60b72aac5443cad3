-- The pair goes into one list or into the other.
use Rattle.std.proofs.Common.{◌≡◌, ◌++◌, ◌∷◌, ◌<◌, ◌≤◌, [], inl, inr, refl, rules, sym, eq-or-lt_of_le}
use Rattle.ov_dump.proofs.Linking.{follows_down, follows_up, gains_pair}
use Rattle.ov_dump.proofs.listing_pairs.add_following.Goals as goal

pub returns-in_ok-push-clause-up : goal.returns-in_ok-push-clause-up
returns-in_ok-push-clause-up c =
    let from = c.args.from in
    let to = c.args.to in
    let low : from < to = search rules in
    let pushed : c.push.new.self.items ≡ c.args.up.now.items ++ (from, to) ∷ [] = search rules in
    gains_pair from to from to c.args.up.now.items c.push.new.self.items pushed (low, inl (refl, refl))

pub returns-in_ok-push-clause-follows : goal.returns-in_ok-push-clause-follows
returns-in_ok-push-clause-follows c =
    let from = c.args.from in
    let to = c.args.to in
    let low : from < to = search rules in
    let pushed : c.push.new.self.items ≡ c.args.up.now.items ++ (from, to) ∷ [] = search rules in
    follows_up c.args.up.now.items c.args.down.now.items c.push.new.self.items from to low pushed

pub returns-in_ok-push-2-clause-down : goal.returns-in_ok-push-2-clause-down
returns-in_ok-push-2-clause-down c =
    let from = c.args.from in
    let to = c.args.to in
    let le : to ≤ from = search rules in
    let low : to < from = elim (eq-or-lt_of_le le) [ inl e ↦ absurd (c.requires.differ (sym e)) | inr l ↦ l ] in
    let down = c.args.down.now.items in
    let pushed : c.push-else-lt.new.self.items ≡ down ++ (to, from) ∷ [] = search rules in
    gains_pair from to to from down c.push-else-lt.new.self.items pushed (low, inr (refl, refl))

pub returns-in_ok-push-2-clause-follows : goal.returns-in_ok-push-2-clause-follows
returns-in_ok-push-2-clause-follows c =
    let from = c.args.from in
    let to = c.args.to in
    let le : to ≤ from = search rules in
    let low : to < from = elim (eq-or-lt_of_le le) [ inl e ↦ absurd (c.requires.differ (sym e)) | inr l ↦ l ] in
    let down = c.args.down.now.items in
    let pushed : c.push-else-lt.new.self.items ≡ down ++ (to, from) ∷ [] = search rules in
    follows_down c.args.up.now.items down c.push-else-lt.new.self.items from to low pushed
