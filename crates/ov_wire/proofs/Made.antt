-- Values that fit are those of a message. So bytes without a fault spell one.
use Rattle.std.proofs.Common.{◌≡◌, ℕ, zero, suc, ◌-◌, ◌%◌, ◌≤◌, inl, inr, List, [], ◌∷◌, Result, Ok, Err, refl, sym, ap}
use Rattle.std.proofs.Common.{subst, arith}
use Rattle.std.specs.Prelude.{slice_index, slice_index_or}
use Rattle.std.specs.Int.{w8, w16, w32}
use Rattle.ov_wire.specs.declared.fault.WireFault.{WireFault}
use Rattle.ov_wire.specs.declared.message.Message.{Message}
use Rattle.ov_wire.specs.Fields.{Ids, Payload, up_to, any, Value, One, Many, AllFit, Spells}
use Rattle.ov_wire.specs.Limits.{most_ttl}
use Rattle.ov_wire.specs.Messages.{kinds, fields_of, kind_of, own_values, most_kind, Spelling}
use Rattle.ov_wire.specs.Theorems.{SpelledOrAtFault}
use Rattle.ov_wire.specs.Code.Reading.{values_at}
use Rattle.ov_wire.proofs.Numbers.{IsBytes}
use Rattle.ov_wire.proofs.Faults.{values_read}
use Rattle.ov_wire.specs.Code.Meaning.{number_in, list_in, id_in, body_in}
use Rattle.ov_wire.proofs.Messages.{sound, is_first}

-- ---- the values of a body that is made of values

no_values : (vs : List Value) → AllFit [] vs → [] ≡ vs
no_values [] fit = refl
no_values (v ∷ vs) fit = absurd fit

forward_join_says : (vs : List Value) → AllFit (any w32 ∷ up_to w8 most_ttl ∷ []) vs → own_values (body_in 2 vs) ≡ vs
unfolding body_in number_in
forward_join_says (One a ∷ One b ∷ []) fit = refl
forward_join_says (One a ∷ One b ∷ v ∷ vs) fit = absurd fit.1.1
forward_join_says (One a ∷ Many b ∷ vs) fit = absurd fit.1.0
forward_join_says (One a ∷ []) fit = absurd fit.1
forward_join_says (Many a ∷ vs) fit = absurd fit.0
forward_join_says [] fit = absurd fit

neighbor_says : (vs : List Value) → AllFit (up_to w8 1 ∷ []) vs → own_values (body_in 4 vs) ≡ vs
unfolding body_in number_in
neighbor_says (One zero ∷ []) fit = refl
neighbor_says (One (suc zero) ∷ []) fit = refl
neighbor_says (One (suc (suc a)) ∷ []) fit = absurd (omega (arith, fit.0))
neighbor_says (One a ∷ v ∷ vs) fit = absurd fit.1
neighbor_says (Many a ∷ vs) fit = absurd fit.0
neighbor_says [] fit = absurd fit

reply_says : (vs : List Value) → AllFit (up_to w8 1 ∷ []) vs → own_values (body_in 5 vs) ≡ vs
unfolding body_in number_in
reply_says (One zero ∷ []) fit = refl
reply_says (One (suc zero) ∷ []) fit = refl
reply_says (One (suc (suc a)) ∷ []) fit = absurd (omega (arith, fit.0))
reply_says (One a ∷ v ∷ vs) fit = absurd fit.1
reply_says (Many a ∷ vs) fit = absurd fit.0
reply_says [] fit = absurd fit

shuffle_says : (vs : List Value) → AllFit (any w32 ∷ up_to w8 most_ttl ∷ Ids ∷ []) vs → own_values (body_in 7 vs) ≡ vs
unfolding body_in number_in list_in
shuffle_says (One a ∷ One b ∷ Many c ∷ []) fit = refl
shuffle_says (One a ∷ One b ∷ Many c ∷ v ∷ vs) fit = absurd fit.1.1.1
shuffle_says (One a ∷ One b ∷ One c ∷ vs) fit = absurd fit.1.1.0
shuffle_says (One a ∷ One b ∷ []) fit = absurd fit.1.1
shuffle_says (One a ∷ Many b ∷ vs) fit = absurd fit.1.0
shuffle_says (One a ∷ []) fit = absurd fit.1
shuffle_says (Many a ∷ vs) fit = absurd fit.0
shuffle_says [] fit = absurd fit

shuffle_reply_says : (vs : List Value) → AllFit (Ids ∷ []) vs → own_values (body_in 8 vs) ≡ vs
unfolding body_in number_in list_in
shuffle_reply_says (Many a ∷ []) fit = refl
shuffle_reply_says (Many a ∷ v ∷ vs) fit = absurd fit.1
shuffle_reply_says (One a ∷ vs) fit = absurd fit.0
shuffle_reply_says [] fit = absurd fit

gossip_says : (vs : List Value) → AllFit (any w32 ∷ any w32 ∷ any w16 ∷ Payload ∷ []) vs
    → own_values (body_in 9 vs) ≡ vs
unfolding body_in number_in list_in
gossip_says (One a ∷ One b ∷ One c ∷ Many d ∷ []) fit = refl
gossip_says (One a ∷ One b ∷ One c ∷ Many d ∷ v ∷ vs) fit = absurd fit.1.1.1.1
gossip_says (One a ∷ One b ∷ One c ∷ One d ∷ vs) fit = absurd fit.1.1.1.0
gossip_says (One a ∷ One b ∷ One c ∷ []) fit = absurd fit.1.1.1
gossip_says (One a ∷ One b ∷ Many c ∷ vs) fit = absurd fit.1.1.0
gossip_says (One a ∷ One b ∷ []) fit = absurd fit.1.1
gossip_says (One a ∷ Many b ∷ vs) fit = absurd fit.1.0
gossip_says (One a ∷ []) fit = absurd fit.1
gossip_says (Many a ∷ vs) fit = absurd fit.0
gossip_says [] fit = absurd fit

id_says : (vs : List Value) → AllFit (any w32 ∷ any w32 ∷ []) vs → One (id_in vs).origin ∷ One (id_in vs).seq ∷ [] ≡ vs
unfolding number_in
id_says (One a ∷ One b ∷ []) fit = refl
id_says (One a ∷ One b ∷ v ∷ vs) fit = absurd fit.1.1
id_says (One a ∷ Many b ∷ vs) fit = absurd fit.1.0
id_says (One a ∷ []) fit = absurd fit.1
id_says (Many a ∷ vs) fit = absurd fit.0
id_says [] fit = absurd fit

-- the body has this kind and these values
record Says (kind : ℕ) (vs : List Value) : Type 0 where
  same_kind : kind_of (body_in kind vs) ≡ kind
  same_values : own_values (body_in kind vs) ≡ vs

body_says : (kind : ℕ) → 1 ≤ kind → kind ≤ most_kind → (vs : List Value)
    → AllFit (slice_index_or kinds (kind - 1) []) vs → Says kind vs
unfolding body_in
body_says zero low high vs fit = absurd (omega arith)
body_says (suc zero) low high vs fit = record { same_kind = refl; same_values = no_values vs fit }
body_says (suc (suc zero)) low high vs fit = record { same_kind = refl; same_values = forward_join_says vs fit }
body_says (suc (suc (suc zero))) low high vs fit = record { same_kind = refl; same_values = no_values vs fit }
body_says (suc (suc (suc (suc zero)))) low high vs fit = record { same_kind = refl; same_values = neighbor_says vs fit }
body_says (suc (suc (suc (suc (suc zero))))) low high vs fit =
    record { same_kind = refl; same_values = reply_says vs fit }
body_says (suc (suc (suc (suc (suc (suc zero)))))) low high vs fit =
    record { same_kind = refl; same_values = no_values vs fit }
body_says (suc (suc (suc (suc (suc (suc (suc zero))))))) low high vs fit =
    record { same_kind = refl; same_values = shuffle_says vs fit }
body_says (suc (suc (suc (suc (suc (suc (suc (suc zero)))))))) low high vs fit =
    record { same_kind = refl; same_values = shuffle_reply_says vs fit }
body_says (suc (suc (suc (suc (suc (suc (suc (suc (suc zero))))))))) low high vs fit =
    record { same_kind = refl; same_values = gossip_says vs fit }
body_says (suc (suc (suc (suc (suc (suc (suc (suc (suc (suc zero)))))))))) low high vs fit =
    record { same_kind = refl; same_values = id_says vs fit }
body_says (suc (suc (suc (suc (suc (suc (suc (suc (suc (suc (suc zero))))))))))) low high vs fit =
    record { same_kind = refl; same_values = id_says vs fit }
body_says (suc (suc (suc (suc (suc (suc (suc (suc (suc (suc (suc (suc zero)))))))))))) low high vs fit =
    record { same_kind = refl; same_values = no_values vs fit }
body_says (suc (suc (suc (suc (suc (suc (suc (suc (suc (suc (suc (suc (suc k))))))))))))) low high vs fit =
    absurd (omega arith)

-- ---- a message is spelled where all fields are read

made_of : (kind : ℕ) (bytes : List ℕ) (vs : List Value)
    → slice_index bytes 1 ≡ kind → Spells (fields_of kind) vs bytes → (m : Message) × Spelling m bytes
made_of kind bytes [] is s = absurd s.fit
made_of kind bytes (Many a ∷ vs) is s = absurd s.fit.0
made_of kind bytes (One a ∷ []) is s = absurd s.fit.1
made_of kind bytes (One a ∷ Many b ∷ vs) is s = absurd s.fit.1.0
made_of kind bytes (One a ∷ One b ∷ []) is s = absurd s.fit.1.1
made_of kind bytes (One a ∷ One b ∷ Many c ∷ vs) is s = absurd s.fit.1.1.0
made_of kind bytes (One a ∷ One b ∷ One c ∷ vs) is s =
    let second : slice_index bytes 1 ≡ b % 256 = ap (λ (x : List ℕ). slice_index x 1) s.bytes_are in
    let one : a ≡ 1 = omega (arith, s.fit.0) in
    let same : b ≡ kind = omega (arith, s.fit.1.0) in
    let says = body_says kind (omega (arith, s.fit.1.0)) (omega (arith, s.fit.1.0)) vs s.fit.1.1.1 in
    let m : Message = record { from = c; body = body_in kind vs } in
    let whole : Spells (fields_of kind) (One 1 ∷ One kind ∷ One c ∷ vs) bytes =
    subst (λ (x : List Value). Spells (fields_of kind) x bytes) (cc (one, same)) s in
    let values : Spells (fields_of kind) (One 1 ∷ One kind ∷ One c ∷ own_values m.body) bytes =
    subst (λ (x : List Value). Spells (fields_of kind) (One 1 ∷ One kind ∷ One c ∷ x) bytes)
    (sym says.same_values) whole in (
      m,
      subst (λ (k : ℕ). Spells (fields_of k) (One 1 ∷ One k ∷ One c ∷ own_values m.body) bytes) (sym says.same_kind)
          values,
    )

pub some_message : (bytes : List ℕ) (vs : List Value)
    → IsBytes bytes → values_at (fields_of (slice_index bytes 1)) bytes ≡ Ok vs → (m : Message) × Spelling m bytes
some_message bytes vs fits e =
    let kind = slice_index bytes 1 in
    made_of kind bytes vs refl (values_read (fields_of kind) (sound kind) bytes vs fits e)

by_result : (bytes : List ℕ) → IsBytes bytes → (r : Result (List Value) WireFault)
    → values_at (fields_of (slice_index bytes 1)) bytes ≡ r → SpelledOrAtFault bytes
by_result bytes fits (Ok vs) e = inl (some_message bytes vs fits e)
by_result bytes fits (Err f) e = inr (f, is_first bytes f fits e)

pub spelled_or_first : (bytes : List ℕ) → IsBytes bytes → SpelledOrAtFault bytes
spelled_or_first bytes fits = by_result bytes fits (values_at (fields_of (slice_index bytes 1)) bytes) refl
