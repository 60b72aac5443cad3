-- The rows of a node's behaviour when it starts a shuffle, and at SHUFFLE and SHUFFLEREPLY. v are the views before the
-- step and w those after. Shuffles are HyParView's (Leitão, Pereira, Rodrigues, DSN 2007, Section 4.4). That a node's
-- own shuffle does nothing if it ends at that node, nor does a message from the node itself, is chosen here.
use Rattle.std.specs.Prelude.{◌≡◌, ℕ, ◌-◌, Bool, not, ◌&&◌, ◌==◌, nat_lt, List, [], ◌∷◌, ◌++◌, length, MatchBool}
use Rattle.ov_ids.specs.Sets.{without}
use Rattle.ov_wire.specs.declared.Message.{Message}
use Rattle.ov_wire.specs.declared.Body.TheVariants.{Shuffle, ShuffleReply}
use Rattle.ov_words.specs.Pick.{Choice}
use Rattle.ov_views.specs.ViewsState.{ViewsState}
use Rattle.ov_views.specs.Changes.{Chosen}
use Rattle.ov_views.specs.Sampling.{Samples, Integrates}
use Rattle.ov_views.specs.Sending.{say, Idles}
use Rattle.ov_views.specs.declared.change.ViewChange.{ViewChange}

-- A shuffle starts by these choices. First its receiver is chosen, a random active member, then a sample of the active
-- members, and then one of the passive members. The node itself and these samples are the list that is sent
pub record Starts (v : ViewsState) (choices : List Choice) (list : List ℕ) (sends : List (ℕ × Message)) : Type 0 where
  pub receiver : ℕ
  pub active_sample : List ℕ
  pub passive_sample : List ℕ
  pub active_choices : List Choice
  pub passive_choices : List Choice
  pub receiver_chosen : Chosen v.active receiver choices (active_choices ++ passive_choices)
  pub active_sampled : Samples v.active v.params.ka active_choices active_sample
  pub passive_sampled : Samples v.passive v.params.kp passive_choices passive_sample
  pub listed : list ≡ v.me ∷ (active_sample ++ passive_sample)
  pub sent : sends ≡ (receiver, say v.me (Shuffle v.me v.params.shuffle_ttl list)) ∷ []

-- A shuffle starts, and its list is kept as the list of the last shuffle. If nobody is active, nothing happens, and
-- `sent`, the list of the shuffle before, stays
abbrev pub AllowedStart : ViewsState → List ℕ → List Choice → List ℕ → List (ℕ × Message) → Type 0
AllowedStart v sent choices kept sends =
    MatchBool (length v.active == 0) ((choices ≡ []) × (kept ≡ sent) × (sends ≡ [])) (Starts v choices kept sends)

-- the walk of a shuffle goes on: a step is left after this one, and more than one member is active. A walk with 0
-- steps ends
abbrev pub walks_on : ViewsState → ℕ → Bool
walks_on v ttl = nat_lt 0 (ttl - 1) && nat_lt 1 (length v.active)

-- SHUFFLE from s is handed on: it comes from another node, and its walk goes on
abbrev pub is_handed_on : ViewsState → ℕ → ℕ → Bool
is_handed_on v s ttl = not (s == v.me) && walks_on v ttl

-- SHUFFLE of o, from s. It walks on with one step less to a random active member other than s, or it ends here. If it
-- ends and o is another node, o is sent a sample of passive members, as many as the list has ids, and then the list is
-- integrated
abbrev pub AllowedShuffle :
    ViewsState → ℕ → ℕ → ℕ → List ℕ → List Choice → ViewsState → List ViewChange → List (ℕ × Message) → Type 0
AllowedShuffle v s o ttl ids choices w changes sends =
    MatchBool (s == v.me) (Idles v choices w changes sends)
    (MatchBool (walks_on v ttl)
    ((target : ℕ) × Chosen (without s v.active) target choices [] × (w ≡ v) × (changes ≡ [])
    × (sends ≡ (target, say v.me (Shuffle o (ttl - 1) ids)) ∷ []))
    (MatchBool (o == v.me) (Idles v choices w changes sends)
    ((first : List Choice) × (last : List Choice) × (those : List ℕ) × (choices ≡ first ++ last)
    × Samples v.passive (length ids) first those × Integrates v ids those last w
    × (changes ≡ []) × (sends ≡ (o, say v.me (ShuffleReply those)) ∷ []))))

-- SHUFFLEREPLY from s: the list is integrated, and the members that the node itself sent are given up first
abbrev pub AllowedShuffleReply :
    ViewsState → List ℕ → ℕ → List ℕ → List Choice → ViewsState → List ViewChange → List (ℕ × Message) → Type 0
AllowedShuffleReply v sent s ids choices w changes sends =
    MatchBool (s == v.me) (Idles v choices w changes sends)
    (Integrates v ids sent choices w × (changes ≡ []) × (sends ≡ []))
